-- Runs of the C service: what its calls promise, one after the other, from a start answered 1.
use Rattle.std.specs.Prelude.{ℕ, true, List, ◌≡◌}
use Rattle.service.specs.Call.{Call, outcome}
use Rattle.service.specs.Observer.{Observer, watching, observe}
use Rattle.service.specs.Demand.{Run}
use Rattle.server.specs.Memory.{Memory}
use Rattle.words.specs.Values.{values_of}
use Rattle.weavemitten.specs.Calls.{held_by, Begins, Returns}
use Rattle.weavemitten.specs.Told.{answer_from, has_values}

-- What the host lends and nobody else writes between two calls.
pub record Lent : Type 0 where
  pub words : List ℕ
  pub memory : Memory

abbrev pub lent_of : List ℕ → Memory → Lent
lent_of w m = record { words = w; memory = m }

-- The state that it holds, and the observer.
abbrev pub run_of : Lent → Observer → Run
run_of l o = record { state = held_by l.words l.memory; observer = o }

-- A step: the number r, the values v, the words w', the memory `after` and the output that a call left are what it promises.
-- Close is lent no values.
pub record Step (l : Lent) (c : Call) (r : ℕ) (v w' : List ℕ) (after : Memory) (output : List ℕ) : Type 0 where
  pub returns : Returns l.words w' after output r (outcome (held_by l.words l.memory) c)
  pub values : has_values c ≡ true → v ≡ values_of (outcome (held_by l.words l.memory) c).answer

-- What a run has come to, and the observer beside it: each call gets what the last left. The observer sees the call, the
-- number that it returned, the values and the output as the call left them, and nothing else.
pub data Runs (zone : List ℕ) : Lent → Observer → Type 0 where
  begun : (w w' before : List ℕ) (m : Memory) → Begins zone w w' before m.zone 1 → Runs zone (lent_of w' m) (watching zone)
  next : {l : Lent} {o : Observer} → Runs zone l o → (c : Call) (r : ℕ) (v w' : List ℕ) (after : Memory) (output : List ℕ)
      → Step l c r v w' after output
      → Runs zone (lent_of w' after) (observe c (answer_from c r v) output o)
