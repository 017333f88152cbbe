-- Runs of the code: what its calls promise, one after the other, and demand 3 of them (01, "Demand 3 over whole lists").
use Rattle.std.specs.Prelude.{ℕ, List, Ok}
use Rattle.service.specs.Call.{Call}
use Rattle.service.specs.Observer.{Observer, watching, observe}
use Rattle.service.specs.Demand as Demand
use Rattle.server.specs.Memory.{Memory, state_of}
use Rattle.server.specs.Answers.{answer_of, Serves}
use Rattle.server.specs.Starting.{Starts}
use Rattle.server.specs.declared.state.Server.{Server}
use Rattle.server.specs.declared.answer.Outcome.{Outcome}

-- The server between two calls: its numbers, and the octets that are lent with each call and that nobody else writes.
pub record Held : Type 0 where
  pub server : Server
  pub memory : Memory

-- A step: the numbers and the answer r, the octets and the output slice that a call left. It is what each call's `ensures`
-- cites.
abbrev pub Step : Held → Call → Outcome → Memory → List ℕ → Type 0
Step h c r after output = Serves h.server h.memory c r after output

-- What a run from a start answered 1 has come to, and the observer beside it: each call gets what the last left.
pub data Runs (zone : List ℕ) : Held → Observer → Type 0 where
  begun : (s : Server) (m : Memory) (before : List ℕ) → Starts zone before m.zone (Ok s)
      → Runs zone (record { server = s; memory = m }) (watching zone)
  next : {h : Held} {o : Observer} → Runs zone h o → (c : Call) (r : Outcome) (after : Memory) (output : List ℕ)
      → Step h c r after output
      → Runs zone (record { server = r.server; memory = after }) (observe c (answer_of r.answer) output o)

-- Demand 3, of a call in a run: with the answer and the output that the call gave, and the state that it left.
abbrev pub Holds : Observer → Call → Outcome → Memory → List ℕ → Type 0
Holds o c r after output = Demand.Holds o c (answer_of r.answer) output (state_of r.server after)
