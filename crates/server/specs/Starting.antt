-- What start has to give: the zone's name stands at the front of the lent octets, and the rest of the memory is not looked at.
use Rattle.std.specs.Prelude.{ℕ, cond, List, ◌≡◌, Result, Ok, Err}
use Rattle.std.proofs.lemmas.List.Edits.{sets}
use Rattle.wire.specs.Name.{is_name}
use Rattle.service.specs.Call as Call
use Rattle.server.specs.Memory.{Memory, with_zone, state_of}
use Rattle.service.specs.declared.refusal.Refusal.{Refusal}
use Rattle.server.specs.declared.state.Server.{Server}

abbrev pub started_of : Result Server Refusal → Memory → Call.Started
started_of (Ok s) m = Call.running (state_of s m)
started_of (Err r) m = Call.unnamed r

-- The octets `before` that were lent are `after` when start returns.
pub record Starts (zone before after : List ℕ) (r : Result Server Refusal) : Type 0 where
  pub state : (m : Memory) → started_of r (with_zone after m) ≡ Call.start zone
  pub octets : after ≡ cond (is_name zone) (sets before 0 zone) before
