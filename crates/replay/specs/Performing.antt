-- The call that a line makes, as the code has it.
use Rattle.std.specs.Prelude.{ℕ, ◌<◌, List, ◌≡◌, Some}
use Rattle.server.specs.Memory.{Memory, state_of}
use Rattle.server.specs.Answers.{answer_of, last_accepted}
use Rattle.server.specs.declared.answer.Outcome.{Outcome}
use Rattle.server.specs.declared.state.Server.{Server}
use Rattle.transcript.specs.Responses.{Step, number_told}

-- On the numbers s it left the numbers and the answer of r, the memory m and the output o: all as a step says. An answer over 5
-- hands back the very numbers that came in.
pub record Performs (s : Server) (r : Outcome) (m : Memory) (o : List ℕ) (w : Step) : Type 0 where
  pub next : state_of r.server m ≡ w.next
  pub answer : Some (answer_of r.answer) ≡ w.answer
  pub output : o ≡ w.output
  pub unchanged : last_accepted < number_told w.answer → r.server ≡ s
