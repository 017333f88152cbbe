-- Of every run of the C service: no answer is 0, and demand 3.
-- Assumes nothing.
use Prim.Native.Nat.{ℕ, ◌<◌}
use native.Mathlib.Omega.{arith}
use mathlib.Core.Bool.{Bool, true, false, cond}
use mathlib.Core.List.{List}
use mathlib.Core.Path.{◌≡◌, refl}
use lib.ListN.{length}
use borrow.Author.Tests.{eqb-false}
use Rattle.wire.specs.Name.{is_name}
use Rattle.service.specs.State.{State, max_sessions}
use Rattle.service.specs.Call as Call
use Rattle.service.specs.Call.{Call, outcome}
use Rattle.service.specs.Observer.{Observer, observe}
use Rattle.service.specs.Demand.{stepped, Holds}
use Rattle.service.proofs.Related.{Related}
use Rattle.service.proofs.Theorem.{begun-related, step_kept, holds_of}
use Rattle.service.proofs.Numbers.{positive}
use Rattle.server.specs.Memory.{Memory, state_of}
use Rattle.weavemitten.specs.Calls.{held_by, Returns, Begins}
use Rattle.weavemitten.specs.Told.{answer_from}
use Rattle.weavemitten.specs.Runs.{Lent, lent_of, run_of, Step, Runs, begun, next}
use Rattle.weavemitten.proofs.Told.{answer-read}

-- ---- no answer is 0

pub returns-positive : (w w' : List ℕ) (m : Memory) (o : List ℕ) (r : ℕ) (st : State) (c : Call) → Returns w w' m o r (outcome st c) → 0 < r
returns-positive w w' m o r st c h = omega (arith, h.answer, positive st c)

pub begins-positive : (zone w w' before after : List ℕ) (r : ℕ) → Begins zone w w' before after r → 0 < r
begins-positive zone w w' before after r h = go (is_name zone) h.answer
  where
    go : (b : Bool) → r ≡ cond b 1 20 → 0 < r
    go true e = omega arith
    go false e = omega arith

-- ---- demand 3

-- A start answered 1 is the definitions' start.
pub begun-state : (zone w w' before : List ℕ) (m : Memory) → Begins zone w w' before m.zone 1 → Call.start zone ≡ Call.running (held_by w' m)
unfolding Call.start
begun-state zone w w' before m h = go (is_name zone) refl
  where
    go : (b : Bool) → is_name zone ≡ b → Call.start zone ≡ Call.running (held_by w' m)
    go true n = rw (n, Call.start, h.begun n m)
    go false n = absurd (eqb-false 1 20 refl (rw n at h.answer))

-- Lent words and memory hold four sessions.
held-four : (w : List ℕ) (m : Memory) → length (held_by w m).slots ≡ max_sessions
unfolding state_of
held-four w m = refl

-- A step of the code is a step of the definitions.
module _ (l : Lent) (c : Call) (r : ℕ) (v w' : List ℕ) (after : Memory) (output : List ℕ) (s : Step l c r v w' after output) where
  pub answer-told : answer_from c r v ≡ (outcome (held_by l.words l.memory) c).answer
  answer-told =
      rw s.returns.answer (answer-read (held_by l.words l.memory) (held-four l.words l.memory) c v s.values)

  pub same_step : (o : Observer) → run_of (lent_of w' after) (observe c (answer_from c r v) output o) ≡ stepped (run_of l o) c
  unfolding stepped
  same_step o = rw (s.returns.next, s.returns.output, answer-told)

pub runs-related : {zone : List ℕ} {l : Lent} {o : Observer} → Runs zone l o → Related (run_of l o)
runs-related {zone} (begun w w' before m h) = begun-related zone (held_by w' m) (begun-state zone w w' before m h)
runs-related (next {l = l} {o = o} past c r v w' after output s) =
    rw (same_step l c r v w' after output s o) (step_kept (run_of l o) (runs-related past) c)

-- Demand 3: in every run from a start answered 1, for every next call whatever its arguments, with the number, the values and
-- the output that the call gave, and what the lent words and memory hold then.
pub demand-three : {zone : List ℕ} {l : Lent} {o : Observer} → Runs zone l o
    → (c : Call) (r : ℕ) (v w' : List ℕ) (after : Memory) (output : List ℕ) → Step l c r v w' after output
    → Holds o c (answer_from c r v) output (held_by w' after)
demand-three {l = l} {o = o} past c r v w' after output s =
    rw (s.returns.next, s.returns.output, answer-told l c r v w' after output s)
    (holds_of (run_of l o) (runs-related past) c)
