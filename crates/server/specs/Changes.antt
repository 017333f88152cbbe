-- What open, close and tick decide: a change of the sessions or a refusal; the answer to it, and what it makes of the numbers.
use Rattle.std.specs.Prelude.{ℕ, Result, Ok, Err}
use Rattle.service.specs.declared.refusal.Refusal.{Refusal}
use Rattle.server.specs.Numbers.{vacancy, newcomer, put_session, at_time, swept_by}
use Rattle.server.specs.declared.answer.Answer.{Answer}
use Rattle.server.specs.declared.answer.Answer.TheVariants.{Done, Opened, Ended, Refused}
use Rattle.server.specs.declared.answer.Outcome.{Outcome}
use Rattle.server.specs.declared.change.Change.{Change}
use Rattle.server.specs.declared.change.Change.TheVariants.{Opens, Closes, Ends}
use Rattle.server.specs.declared.state.Server.{Server}

-- 01, answer 1: the session that is open now, or for each session whether it was aborted, or nothing more.
unfoldable pub change_answer : Change → Answer
change_answer (Opens i) = Opened (record { 0 = i })
change_answer (Closes i) = Done
change_answer (Ends f) = Ended f

-- 01: 1 takes the given time as latest.
unfoldable pub change_numbers : ℕ → Change → Server → Server
change_numbers t (Opens i) s = at_time t (put_session i (newcomer t) s)
change_numbers t (Closes i) s = at_time t (put_session i vacancy s)
change_numbers t (Ends f) s = at_time t (swept_by f s)

-- The same of a decision: a refusal is its own answer.
unfoldable pub answer_by : Result Change Refusal → Answer
answer_by (Ok k) = change_answer k
answer_by (Err x) = Refused x

-- 01: "Answers 10 to 20 change nothing".
unfoldable pub numbers_by : ℕ → Result Change Refusal → Server → Server
numbers_by t (Ok k) s = change_numbers t k s
numbers_by t (Err x) s = s

-- What a decision at a time makes of the numbers s.
abbrev pub decided_by : Server → ℕ → Result Change Refusal → Outcome
decided_by s t d = record { server = numbers_by t d s; answer = answer_by d }
