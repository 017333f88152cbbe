-- Calls in code, one after the other: an open, a message to session 0 and a batch, after any run and from a start; and what
-- demand 3 says of them.
use Rattle.std.specs.Prelude.{ℕ, true, List, [], ◌≡◌, Result, Ok, Err}
use Rattle.std.proofs.Math.Pow.{are_bytes}
use Rattle.service.specs.Call.{Bytes, opens, receives, edits, start, running, unnamed}
use Rattle.service.specs.Observer.{Observer, watching, observe}
use Rattle.server.specs.Memory.{Memory, state_of}
use Rattle.server.specs.Answers.{answer_of, Serves}
use Rattle.server.specs.declared.state.Server.{Server}
use Rattle.views.specs.Runs.{Runs, Holds}
use Rattle.views.specs.declared.Ran.{Ran}
use Rattle.service.specs.declared.refusal.Refusal.{Refusal}

-- The observer after the open and the message, for which `lent` was lent as output and is `output` then.
abbrev pub watched : ℕ → Bytes → List ℕ → List ℕ → Ran → Observer → Observer
watched t m lent output r o =
    observe (receives t 0 m lent) (answer_of r.heard.answer) output (observe (opens t) (answer_of r.opened.answer) [] o)

-- On the numbers s and the memory `before`: each call gives what it promises, where the message left the memory `between`; and
-- whatever run led there, the calls go on with it, and demand 3 holds of the batch.
pub record Continues (s : Server) (before : Memory) (t : ℕ) (m b lent output lent' output' : List ℕ) (r : Ran) (after : Memory) : Type 0 where
  pub message : are_bytes m ≡ true
  pub batch : are_bytes b ≡ true
  pub between : Memory
  pub opening : (k : Memory) → Serves s k (opens t) r.opened k []
  pub hearing : Serves r.opened.server before (receives t 0 (record { list = m; small = message }) lent) r.heard between output
  pub telling : Serves r.heard.server between (edits t (record { list = b; small = batch }) lent') r.told after output'
  pub runs : {zone : List ℕ} {o : Observer} → Runs zone (record { server = s; memory = before }) o
      → Runs zone (record { server = r.told.server; memory = after })
      (observe (edits t (record { list = b; small = batch }) lent') (answer_of r.told.answer) output'
      (watched t (record { list = m; small = message }) lent output r o))
  pub holds : {zone : List ℕ} {o : Observer} → Runs zone (record { server = s; memory = before }) o
      → Holds (watched t (record { list = m; small = message }) lent output r o) (edits t (record { list = b; small = batch }) lent')
      r.told after output'

-- From a start, which gave the numbers `server` with the memory `before`: the observer knows the zone's name and nothing else
-- at first.
pub record Begins (zone : List ℕ) (t : ℕ) (m b lent output lent' output' : List ℕ) (r : Ran) (after : Memory) : Type 0 where
  pub server : Server
  pub before : Memory
  pub starts : start zone ≡ running (state_of server before)
  pub continues : Continues server before t m b lent output lent' output' r after
  pub runs : Runs zone (record { server = r.told.server; memory = after })
      (observe (edits t (record { list = b; small = continues.batch }) lent') (answer_of r.told.answer) output'
      (watched t (record { list = m; small = continues.message }) lent output r (watching zone)))
  pub holds : Holds (watched t (record { list = m; small = continues.message }) lent output r (watching zone))
      (edits t (record { list = b; small = continues.batch }) lent') r.told after output'

-- Where the name is no name, nothing is called but start, and nothing is written.
abbrev pub Plays : List ℕ → ℕ → List ℕ → List ℕ → List ℕ → List ℕ → List ℕ → List ℕ → Result Ran Refusal → Memory → Type 0
Plays zone t m b lent output lent' output' (Err x) after =
    (start zone ≡ unnamed x) × (output ≡ lent) × (output' ≡ lent')
Plays zone t m b lent output lent' output' (Ok r) after = Begins zone t m b lent output lent' output' r after
