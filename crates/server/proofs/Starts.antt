-- What start gives.
use Prim.Native.Nat.{ℕ, ◌≤◌}
use native.Mathlib.Omega.{arith}
use mathlib.Core.Bool.{Bool, true, false}
use mathlib.Core.List.{List}
use mathlib.Core.Path.{◌≡◌, sym, ap, ◌∙◌}
use lib.ListN.{length, take}
use lib.Seq.{sets}
use Rattle.wire.specs.Name.{is_name, max_name}
use Rattle.wire.proofs.Names.{is_name-length, name_length-max}
use Rattle.wire.proofs.Writes.{take-written}
use Rattle.table.specs.Blocks.{blocks}
use Rattle.zone.specs.Table.{records_of}
use Rattle.service.specs.State.{fresh}
use Rattle.service.specs.Call as Call
use Rattle.service.specs.declared.refusal.Refusal.TheVariants.{NotAName}
use Rattle.server.specs.declared.state.Server.{Server}
use Rattle.std.specs.Prelude.{Ok, Err}
use Rattle.server.specs.Memory.{Memory, with_zone, slot_of, state_of}
use Rattle.server.specs.Numbers.{session_at, fresh_of}
use Rattle.server.specs.Starting.{Starts}

fresh-state : (zone octets : List ℕ) (m : Memory) → take (length zone) octets ≡ zone
    → state_of (fresh_of (length zone)) (with_zone octets m) ≡ fresh zone
unfolding state_of session_at fresh_of fresh slot_of records_of blocks
fresh-state zone octets m e = rw e

module _ (zone before : List ℕ) (b : Bool) (n : b ≡ is_name zone) where
  pub start_named : b ≡ true → length before ≡ max_name → (after : List ℕ) → after ≡ sets before 0 zone
      → (s : Server) → s ≡ fresh_of (length zone) → Starts zone before after (Ok s)
  unfolding Call.start
  start_named h l after e s f =
      let named : is_name zone ≡ true = sym n ∙ h in
      let short : length zone ≤ max_name = name_length-max zone (length zone) (is_name-length zone named) in
      let kept : take (length zone) after ≡ zone = ap (take (length zone)) e ∙ take-written before zone (omega arith) in
      record {
        state = λ m. rw (named, f, fresh-state zone after m kept);
        octets = rw named e;
      }

  pub start_unnamed : b ≡ false → Starts zone before before (Err NotAName)
  unfolding Call.start
  start_unnamed h =
      let unnamed : is_name zone ≡ false = sym n ∙ h in
      record { state = λ m. rw unnamed; octets = rw unnamed }
