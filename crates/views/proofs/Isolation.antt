-- One session cannot disturb another, in every two runs of the code's own promises, from the theorem on the definitions.
use Prim.Native.Nat.{ℕ}
use mathlib.Core.List.{List}
use mathlib.Core.Path.{◌≡◌, sym}
use Rattle.service.specs.State.{State}
use Rattle.service.specs.Call.{start, running}
use Rattle.service.specs.Isolation.{Event, Step, Isolated, IsolatedAfter}
use Rattle.service.proofs.Isolation.{isolation-of, isolation-after}
use Rattle.server.specs.Memory.{state_of}
use Rattle.views.specs.Runs.{Held}
use Rattle.views.specs.Isolation.{Begun, EventStep}

abbrev state_in : Held → State
state_in h = state_of h.server h.memory

same_step : (h : Held) (x : Event) (k : Held) → EventStep h x k → Step (state_in h) x (state_in k)
same_step h x k p =
    record {
      answer = rw (p.answer, p.step.answer);
      output = p.step.output;
      next = rw (p.server, p.step.next);
    }

begun-state : (zone : List ℕ) (h : Held) → Begun zone h → start zone ≡ running (state_in h)
begun-state zone h b = sym (b.starts.state h.memory)

-- The two runs may have been lent different memory, and different slices.
module _ (zone : List ℕ) (h h' : Held) (b : Begun zone h) (b' : Begun zone h') where
  pub isolation : Isolated EventStep h h'
  isolation = isolation-of EventStep state_in same_step zone h h' (begun-state zone h b) (begun-state zone h' b')

  pub isolated-after : IsolatedAfter EventStep h h'
  isolated-after = isolation-after EventStep h h' isolation
