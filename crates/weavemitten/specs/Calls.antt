-- What each call of the C service has to give: the server's promises, said of the lent words.
use Rattle.std.specs.Prelude.{ℕ, ◌≤◌, ◌<◌, true, cond, List, ◌≡◌}
use Rattle.std.proofs.Math.Pow.{are_bytes}
use Rattle.std.proofs.lemmas.List.Edits.{sets}
use Rattle.wire.specs.Name.{is_name}
use Rattle.service.specs.State.{State, fresh}
use Rattle.service.specs.Answer.{answer_number}
use Rattle.service.specs.Call as Call
use Rattle.server.specs.Memory.{Memory, with_zone, state_of}
use Rattle.server.specs.Answers.{answer_of, last_accepted}
use Rattle.server.specs.declared.answer.Outcome.{Outcome}
use Rattle.words.specs.Words.{server_of}
use Rattle.words.specs.Values.{values_of}

-- The state that lent words and memory hold.
abbrev pub held_by : List ℕ → Memory → State
held_by w m = state_of (server_of w) m

-- A call on the words w left the words w', the memory m and the output o, and returned r: all as an outcome says. A refusal
-- leaves the very words.
pub record Returns (w w' : List ℕ) (m : Memory) (o : List ℕ) (r : ℕ) (x : Call.Outcome) : Type 0 where
  pub next : held_by w' m ≡ x.next
  pub answer : r ≡ answer_number x.answer
  pub output : o ≡ x.output
  pub unchanged : last_accepted < r → w' ≡ w

-- The same of a call that is lent values too, which are v then.
pub record ReturnsWith (v w w' : List ℕ) (m : Memory) (o : List ℕ) (r : ℕ) (x : Call.Outcome) : Type 0 where
  pub returns : Returns w w' m o r x
  pub values : v ≡ values_of x.answer

-- The same of a call that is lent bytes too. They are below 256, as those of every slice.
pub record ReturnsOn (bytes v w w' : List ℕ) (m : Memory) (o : List ℕ) (r : ℕ) (x : Call.Bytes → Call.Outcome) : Type 0 where
  pub small : are_bytes bytes ≡ true
  pub returns : ReturnsWith v w w' m o r (x (record { list = bytes; small = small }))

-- Start: the zone's name stands at the front of the lent octets, and the server is fresh, whatever the rest of the memory
-- holds; or the words and octets are as they were.
pub record Begins (zone w w' before after : List ℕ) (r : ℕ) : Type 0 where
  pub answer : r ≡ cond (is_name zone) 1 20
  pub begun : is_name zone ≡ true → (m : Memory) → held_by w' (with_zone after m) ≡ fresh zone
  pub octets : after ≡ cond (is_name zone) (sets before 0 zone) before
  pub unchanged : last_accepted < r → w' ≡ w

-- What is kept of the server's outcome u: its numbers, unless it is a refusal, and its answer's number.
pub record Keeps (w w' : List ℕ) (u : Outcome) (r : ℕ) : Type 0 where
  pub answer : r ≡ answer_number (answer_of u.answer)
  pub held : r ≤ last_accepted → server_of w' ≡ u.server
  pub unchanged : last_accepted < r → w' ≡ w
