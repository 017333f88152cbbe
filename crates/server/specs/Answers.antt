-- The server's answers as the service's, which have 01's numbers; and what a call has to give.
use Rattle.std.specs.Prelude.{ℕ, cond, List, ◌≡◌, ltb}
use Rattle.service.specs.Answer.{done, opened, ended, sent, not_ours, aborted, reconfirm, refused, answer_number}
use Rattle.service.specs.Answer as Service
use Rattle.service.specs.Call as Call
use Rattle.service.specs.declared.refusal.Refusal.{Refusal}
use Rattle.server.specs.Memory.{Memory, state_of}
use Rattle.server.specs.Numbers.{put_session, at_time}
use Rattle.server.specs.declared.answer.Answer.{Answer}
use Rattle.server.specs.declared.answer.Answer.TheVariants.{
  Done,
  Opened,
  Ended,
  Sent,
  NotOurs,
  Aborted,
  Reconfirm,
  Refused,
}
use Rattle.server.specs.declared.answer.Outcome.{Outcome}
use Rattle.server.specs.declared.answer.Heard.{Heard}
use Rattle.server.specs.declared.state.Server.{Server}

unfoldable pub answer_of : Answer → Service.Answer
answer_of Done = done
answer_of (Opened s) = opened s.0
answer_of (Ended f) = ended f
answer_of (Sent n) = sent n
answer_of NotOurs = not_ours
answer_of Aborted = aborted
answer_of (Reconfirm places) = reconfirm places
answer_of (Refused r) = refused r

-- A refusal.
abbrev pub refusing : Server → Refusal → Outcome
refusing s x = record { server = s; answer = Refused x }

-- 01: "Answers 10 to 20 change nothing", and "1 to 5 take the given time as latest".
abbrev pub last_accepted : ℕ
last_accepted = 5

-- The numbers after an answer.
unfoldable pub kept_by : Answer → Server → Server → Server
kept_by a old new = cond (ltb last_accepted (answer_number (answer_of a))) old new

-- What a message on session i at a time, heard so, makes of the numbers s.
abbrev pub heard_in : Server → ℕ → ℕ → Heard → Outcome
heard_in s t i h =
    record { server = kept_by h.answer s (at_time t (put_session i h.session s)); answer = h.answer }

-- A call on the numbers s left the numbers and the answer of r, the memory m and the output o: they are the next state, the
-- answer and the output of an outcome w. A refusal hands back the very numbers that came in.
pub record Gives (s : Server) (r : Outcome) (m : Memory) (o : List ℕ) (w : Call.Outcome) : Type 0 where
  pub next : state_of r.server m ≡ w.next
  pub answer : answer_of r.answer ≡ w.answer
  pub output : o ≡ w.output
  pub unchanged : (x : Refusal) → r.answer ≡ Refused x → r.server ≡ s

-- What each call promises: c was called on the numbers s and the memory m, with any arguments, and left the numbers and the
-- answer of r, the memory `after` and the output.
abbrev pub Serves : Server → Memory → Call.Call → Outcome → Memory → List ℕ → Type 0
Serves s m c r after output = Gives s r after output (Call.outcome (state_of s m) c)
