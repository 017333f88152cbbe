-- Demand 3 over every run of the code's own promises, from the theorem on the definitions.
use Prim.Native.Nat.{ℕ}
use mathlib.Core.List.{List}
use mathlib.Core.Path.{◌≡◌, sym}
use Rattle.service.specs.Call.{Call}
use Rattle.service.specs.Observer.{Observer, observe}
use Rattle.service.specs.Demand.{Run, stepped}
use Rattle.service.proofs.Related.{Related}
use Rattle.service.proofs.Theorem.{begun-related, step_kept, holds_of}
use Rattle.server.specs.Memory.{Memory, state_of}
use Rattle.server.specs.Answers.{answer_of}
use Rattle.server.specs.declared.answer.Outcome.{Outcome}
use Rattle.views.specs.Runs.{Held, Step, Runs, begun, next, Holds}

-- The state that the numbers and octets hold, and the observer.
abbrev run_of : Held → Observer → Run
run_of h o = record { state = state_of h.server h.memory; observer = o }

-- A step of the code is a step of the definitions.
module _ (h : Held) (o : Observer) (c : Call) (r : Outcome) (after : Memory) (output : List ℕ) (s : Step h c r after output) where
  pub same_step : run_of (record { server = r.server; memory = after }) (observe c (answer_of r.answer) output o) ≡ stepped (run_of h o) c
  unfolding stepped
  same_step = rw (s.next, s.answer, s.output)

pub runs-related : {zone : List ℕ} {h : Held} {o : Observer} → Runs zone h o → Related (run_of h o)
runs-related {zone} (begun s m before e) = begun-related zone (state_of s m) (sym (e.state m))
runs-related (next {h = h} {o = o} past c r after output s) =
    rw (same_step h o c r after output s) (step_kept (run_of h o) (runs-related past) c)

-- Demand 3: in every run from a start answered 1, for every next call whatever its arguments, with what the call gave.
pub demand-three : {zone : List ℕ} {h : Held} {o : Observer} → Runs zone h o → (c : Call) (r : Outcome) (after : Memory) (output : List ℕ)
    → Step h c r after output → Holds o c r after output
demand-three {h = h} {o = o} past c r after output s =
    rw (s.next, s.answer, s.output) (holds_of (run_of h o) (runs-related past) c)
