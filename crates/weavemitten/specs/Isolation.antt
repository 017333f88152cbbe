-- Runs of the C service as its host sees them, for order 13 (02): one session cannot disturb another.
use Rattle.std.specs.Prelude.{ℕ, List, ◌≡◌}
use Rattle.service.specs.Isolation.{Event}
use Rattle.weavemitten.specs.Calls.{Begins}
use Rattle.weavemitten.specs.Told.{answer_from}
use Rattle.weavemitten.specs.Runs.{Lent, Step}

-- What a start answered 1 left.
pub record Begun (zone : List ℕ) (l : Lent) : Type 0 where
  pub words : List ℕ
  pub before : List ℕ
  pub begins : Begins zone words l.words before l.memory.zone 1

-- A call on what l lends, with what it promises: it returned a number and left values, from which the host reads the answer
-- of x, and k is lent next.
pub record EventStep (l : Lent) (x : Event) (k : Lent) : Type 0 where
  pub returned : ℕ
  pub values : List ℕ
  pub step : Step l x.call returned values k.words k.memory x.output
  pub answer : x.answer ≡ answer_from x.call returned values
