-- A run and what it goes on with: each next event is what the definitions give, and no time goes back.
use Prim.Native.Nat.{ℕ, ◌≤◌}
use native.Mathlib.Omega.{arith}
use mathlib.Core.Bool.{true}
use mathlib.Core.List.{List, ◌∷◌}
use mathlib.Core.Path.{◌≡◌, ap₂}
use lib.Dec.{leb}
use borrow.Author.Tests.{leb-true}
use Rattle.zone.proofs.Lists.{and_left, and_right}
use Rattle.service.specs.State.{State}
use Rattle.service.specs.Answer.{Answer}
use Rattle.service.specs.Call.{brought, outcome}
use Rattle.service.specs.Demand.{Run, stepped}
use Rattle.service.specs.Isolation.{Event, event_of, Trace, calls, Step, onward}
use Rattle.service.proofs.Numbers.{numbered}
use Rattle.service.proofs.Related.{Related}
use Rattle.service.proofs.Theorem.{step_kept}

-- What a run in which state and observer are related goes on with.
pub record Coming (r : Run) (xs : List Event) : Type 0 where
  pub related : Related r
  pub trace : Trace Step r.state xs
  pub since : ℕ
  pub timely : r.state.latest ≤ since
  pub times : onward since xs ≡ true

next-event : (st : State) (x : Event) (xs : List Event) → Trace Step st (x ∷ xs)
    → (x ≡ event_of x.call (outcome st x.call)) × Trace Step (outcome st x.call).next xs
next-event st x xs (calls p k) = (
  ap₂ (λ (a : Answer) (o : List ℕ). record { call = x.call; answer = a; output = o }) p.answer p.output,
  rw p.next at k,
)

module _ (r : Run) (x : Event) (xs : List Event) (h : Coming r (x ∷ xs)) where
  pub early : r.state.latest ≤ (brought x.call).time
  unfolding onward
  early =
      omega (arith, h.timely, leb-true h.since (brought x.call).time (and_left (leb h.since (brought x.call).time) _ h.times))

  pub event-is : x ≡ event_of x.call (outcome r.state x.call)
  event-is = (next-event r.state x xs h.trace).0

  pub goes_on : Coming (stepped r x.call) xs
  unfolding stepped onward
  goes_on =
      record {
        related = step_kept r h.related x.call;
        trace = (next-event r.state x xs h.trace).1;
        since = (brought x.call).time;
        timely = (numbered r.state x.call).behind early;
        times = and_right (leb h.since (brought x.call).time) _ h.times;
      }
