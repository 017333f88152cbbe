-- A call that states no bytes tells the clients nothing, and a refused call changes nothing.
use Prim.Native.Nat.{ℕ, suc, ◌≤◌, ◌<◌}
use native.Mathlib.Omega.{arith}
use mathlib.Core.Bool.{false, and-false}
use mathlib.Core.List.{List, [], ◌∷◌}
use mathlib.Core.Option.{Option, none, some, map}
use mathlib.Core.Path.{◌≡◌, refl, ap, ap₂, ◌∙◌}
use lib.Dec.{eqb}
use borrow.Author.Tests.{ne_eqb}
use Rattle.zone.specs.declared.BatchFault.TheVariants.{TooManyEdits, Unreadable, BadValue, StoreFull}
use Rattle.push.proofs.Framing.{frames_in-nil}
use Rattle.dso.specs.Judge.{subscribe_type}
use Rattle.dso.specs.Parts.{first_type}
use Rattle.service.specs.Answer.{Answer, refused, fault_number, refusal_number, answer_number}
use Rattle.service.specs.Call.{Call, opens, closes, receives, edits, ticks}
use Rattle.service.specs.declared.refusal.Refusal.{Refusal}
use Rattle.service.specs.declared.refusal.Refusal.TheVariants.{
  NoSession,
  TimeBackwards,
  OutputTooShort,
  AllOpen,
  Batch,
  MessageTooLong,
  NotAName,
}
use Rattle.service.specs.Reader.{bytes_for, messages_in, or_none}
use Rattle.service.specs.Observer.{Client, Observer, with_clients, hearing, heard, noted, observe, is_accepted, after_message}

pub messages_in-nil : messages_in [] ≡ []
unfolding messages_in
messages_in-nil = ap or_none frames_in-nil

pub hearing-nothing : (bytes : List ℕ) (c : Option Client) → bytes ≡ [] → map (hearing bytes) c ≡ c
hearing-nothing bytes none e = refl
hearing-nothing bytes (some c) e = rw (e, messages_in-nil)

pub heard-nothing : (s : ℕ) (a : Answer) (output : List ℕ) (cl : List (Option Client)) → ((i : ℕ) → bytes_for a output i ≡ [])
    → heard s a output cl ≡ cl
heard-nothing s a output [] h = refl
heard-nothing s a output (c ∷ cl) h =
    ap₂ (λ (x : Option Client) (xs : List (Option Client)). x ∷ xs) (hearing-nothing (bytes_for a output s) c (h s))
    (heard-nothing (suc s) a output cl h)

-- Where no bytes are stated, the observer is as the call and its answer say.
pub observe-nothing : (c : Call) (a : Answer) (output : List ℕ) (o : Observer) → ((i : ℕ) → bytes_for a output i ≡ [])
    → observe c a output o ≡ noted c a output o
unfolding observe
observe-nothing c a output o h =
    ap (λ (cl : List (Option Client)). with_clients cl (noted c a output o))
    (heard-nothing 0 a output (noted c a output o).clients h)

-- A refusal's number is above those of the answers that mean something to the observer.
pub refusal-above : (r : Refusal) → 5 < refusal_number r
unfolding refusal_number fault_number
refusal-above NoSession = omega arith
refusal-above TimeBackwards = omega arith
refusal-above OutputTooShort = omega arith
refusal-above AllOpen = omega arith
refusal-above (Batch TooManyEdits) = omega arith
refusal-above (Batch Unreadable) = omega arith
refusal-above (Batch BadValue) = omega arith
refusal-above (Batch StoreFull) = omega arith
refusal-above MessageTooLong = omega arith
refusal-above NotAName = omega arith

pub refusal-not : (r : Refusal) (n : ℕ) → n ≤ 5 → eqb (answer_number (refused r)) n ≡ false
unfolding answer_number
refusal-not r n h = ne_eqb (refusal_number r) n (λ (e : refusal_number r ≡ n). omega (arith, refusal-above r))

pub refused-bytes : (r : Refusal) (output : List ℕ) (i : ℕ) → bytes_for (refused r) output i ≡ []
unfolding bytes_for
refused-bytes r output i = refl

-- Bytes that hold no message accept no subscription.
pub nothing-accepted : (m bytes : List ℕ) → bytes ≡ [] → is_accepted m bytes ≡ false
unfolding is_accepted
nothing-accepted m bytes e = rw (e, messages_in-nil) (and-false (eqb (first_type m) subscribe_type))

refused-noted : (c : Call) (r : Refusal) (output : List ℕ) (o : Observer) → noted c (refused r) output o ≡ o
unfolding noted after_message
refused-noted (opens t) r output o = refl
refused-noted (closes t s) r output o = rw (refusal-not r 1 (omega arith))
refused-noted (receives t s m lent) r output o =
    rw (refusal-not r 4 (omega arith), refusal-not r 1 (omega arith), nothing-accepted m.list (bytes_for (refused r) output s) (refused-bytes r output s))
refused-noted (edits t b lent) r output o = rw (refusal-not r 1 (omega arith), refusal-not r 2 (omega arith))
refused-noted (ticks t) r output o = refl

pub refused-observed : (c : Call) (r : Refusal) (output : List ℕ) (o : Observer) → observe c (refused r) output o ≡ o
refused-observed c r output o =
    observe-nothing c (refused r) output o (refused-bytes r output) ∙ refused-noted c r output o
