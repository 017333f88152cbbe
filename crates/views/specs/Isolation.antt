-- Runs of the code as their callers see them, for order 13 (02): one session cannot disturb another.
use Rattle.std.specs.Prelude.{ℕ, List, ◌≡◌, Ok}
use Rattle.service.specs.Isolation.{Event}
use Rattle.server.specs.Answers.{answer_of}
use Rattle.server.specs.Starting.{Starts}
use Rattle.server.specs.declared.answer.Outcome.{Outcome}
use Rattle.views.specs.Runs.{Held, Step}

-- What a start answered 1 left.
pub record Begun (zone : List ℕ) (h : Held) : Type 0 where
  pub before : List ℕ
  pub starts : Starts zone before h.memory.zone (Ok h.server)

-- A call on what h holds, with what it promises: its caller sees x, and k is held then.
pub record EventStep (h : Held) (x : Event) (k : Held) : Type 0 where
  pub result : Outcome
  pub step : Step h x.call result k.memory x.output
  pub answer : x.answer ≡ answer_of result.answer
  pub server : k.server ≡ result.server
