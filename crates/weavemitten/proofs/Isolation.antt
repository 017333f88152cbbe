-- One session cannot disturb another, in every two runs of the C service.
-- Assumes nothing.
use Prim.Native.Nat.{ℕ}
use mathlib.Core.List.{List}
use mathlib.Core.Path.{◌≡◌, ◌∙◌}
use Rattle.service.specs.State.{State}
use Rattle.service.specs.Call.{start, running}
use Rattle.service.specs.Isolation as Service
use Rattle.service.specs.Isolation.{Event, Isolated, IsolatedAfter}
use Rattle.service.proofs.Isolation.{isolation-of, isolation-after}
use Rattle.weavemitten.specs.Calls.{held_by}
use Rattle.weavemitten.specs.Runs.{Lent}
use Rattle.weavemitten.specs.Isolation.{Begun, EventStep}
use Rattle.weavemitten.proofs.Runs.{begun-state, answer-told}

abbrev state_in : Lent → State
state_in l = held_by l.words l.memory

same_step : (l : Lent) (x : Event) (k : Lent) → EventStep l x k → Service.Step (state_in l) x (state_in k)
same_step l x k p =
    record {
      answer = p.answer ∙ answer-told l x.call p.returned p.values k.words k.memory x.output p.step;
      output = p.step.returns.output;
      next = p.step.returns.next;
    }

begun-in : (zone : List ℕ) (l : Lent) → Begun zone l → start zone ≡ running (state_in l)
begun-in zone l b = begun-state zone b.words l.words b.before l.memory b.begins

-- The two runs may have been lent different words, memory and slices.
module _ (zone : List ℕ) (l l' : Lent) (b : Begun zone l) (b' : Begun zone l') where
  pub isolation : Isolated EventStep l l'
  isolation = isolation-of EventStep state_in same_step zone l l' (begun-in zone l b) (begun-in zone l' b')

  pub isolated-after : IsolatedAfter EventStep l l'
  isolated-after = isolation-after EventStep l l' isolation
