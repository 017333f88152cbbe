-- What a received message makes of the server's numbers, memory and output.
use Rattle.std.specs.Prelude.{ℕ, ◌<◌, true, List, ◌≡◌, length, take, set, replicate}
use Rattle.std.proofs.lemmas.List.Edits.{sets}
use Rattle.std.proofs.Math.Pow.{are_bytes}
use Rattle.zone.specs.Table.{records_of}
use Rattle.service.specs.State.{max_sessions}
use Rattle.service.specs.Call.{receives, message_outcome}
use Rattle.service.specs.declared.refusal.Refusal.{Refusal}
use Rattle.service.specs.Message as Service
use Rattle.receive.specs.Effect.{effect_is, bytes_of, bytes_in}
use Rattle.receive.specs.declared.effect.Received.{Received}
use Rattle.receive.specs.declared.effect.Effect.{Effect}
use Rattle.receive.specs.declared.effect.Effect.TheVariants.{Abort, Nothing, Reply, Others, Places}
use Rattle.server.specs.declared.answer.Answer.{Answer}
use Rattle.server.specs.declared.answer.Answer.TheVariants.{Done, Sent, NotOurs, Aborted, Reconfirm, Refused}
use Rattle.server.specs.declared.answer.Heard.{Heard}
use Rattle.server.specs.declared.state.Session.{Session}
use Rattle.server.specs.declared.state.Server.{Server}
use Rattle.server.specs.declared.state.Context.{Context}
use Rattle.server.specs.Memory.{Memory, area_at, put_area, holding, session_of, state_of}
use Rattle.server.specs.Numbers.{vacancy, session_at, context_with, context_of}
use Rattle.server.specs.Answers.{Gives, Serves, heard_in}

-- n bytes for session i, none for the others.
unfoldable pub count_at : ℕ → ℕ → List ℕ
count_at i n = set (replicate max_sessions 0) i n

unfoldable pub answer_to : ℕ → Effect → Answer
answer_to i Abort = Aborted
answer_to i Nothing = Done
answer_to i (Reply n) = Sent (count_at i n)
answer_to i Others = NotOurs
answer_to i (Places p) = Reconfirm p

-- The session after it: gone where it is aborted.
unfoldable pub gone_or : Effect → Session → Session
gone_or Abort x = vacancy
gone_or Nothing x = x
gone_or (Reply n) x = x
gone_or Others x = x
gone_or (Places p) x = x

abbrev pub session_after : Received → Session
session_after r = gone_or r.effect (record { live = true; clocks = r.clocks; count = r.count })

abbrev pub concluded_of : ℕ → Received → Heard
concluded_of i r = record { session = session_after r; answer = answer_to i r.effect }

-- A message that is refused leaves its session as it was.
abbrev pub declined_of : Session → Refusal → Heard
declined_of x why = record { session = x; answer = Refused why }

-- Code does what an effect says, with the output from a place on (see receive's `Does`).
pub record DoesAt (at : ℕ) (e : Service.Effect) (r : Received) (area before after : List ℕ) : Type 0 where
  pub means : e ≡ effect_is r area (bytes_of e)
  pub written : after ≡ sets before at (bytes_of e)
  pub counted : bytes_in r.effect ≡ length (bytes_of e)

-- The effect of a message m on a session that is open, from what it needs of the numbers and of the memory.
abbrev pub effect_in : Context → ℕ → List ℕ → List ℕ → List ℕ → List ℕ → Service.Effect
effect_in c t zone store m area =
    Service.message_effect (take c.zone zone) (records_of c.records store) t m (session_of c.session area)

-- A message m on session i, whose area was `area` and is area' then; the output was o and is o' then. This holds of every
-- server that has the context c.
pub record Turns (c : Context) (t i : ℕ) (zone store area area' m o o' : List ℕ) (h : Heard) : Type 0 where
  pub gives : (s : Server) (mem : Memory) → context_of i s ≡ c → mem.zone ≡ zone → holding s mem ≡ store
      → area_at i mem ≡ area
      → Gives s (heard_in s t i h) (put_area i area' mem) o' (message_outcome (state_of s mem) t i m o)
  pub accepted : (x : Refusal) → h.answer ≡ Refused x → ⊥

-- The same of the whole memory, as it was and as it is then.
pub record Delivers (c : Context) (before after : Memory) (t i : ℕ) (m o o' : List ℕ) (h : Heard) : Type 0 where
  pub gives : (s : Server) → context_of i s ≡ c → Gives s (heard_in s t i h) after o' (message_outcome (state_of s before) t i m o)
  pub accepted : (x : Refusal) → h.answer ≡ Refused x → ⊥

-- The numbers s have the context c of session i. Past the last session there is none to have.
pub record Has (c : Context) (i : ℕ) (s : Server) : Type 0 where
  pub numbers : context_with c.session s ≡ c
  pub session : i < max_sessions → session_at i s ≡ c.session

-- What hearing a message promises: it serves the call on every server that has the context c. A refusal leaves the session.
pub record Hears (c : Context) (before after : Memory) (t i : ℕ) (m o o' : List ℕ) (h : Heard) : Type 0 where
  pub small : are_bytes m ≡ true
  pub serves : (given : are_bytes m ≡ true) (s : Server) → Has c i s
      → Serves s before (receives t i (record { list = m; small = given }) o) (heard_in s t i h) after o'
  pub unchanged : (x : Refusal) → h.answer ≡ Refused x → h.session ≡ c.session
