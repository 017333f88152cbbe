-- What one line of input gives, and a whole script (01, "The replay program").
use Rattle.std.specs.Prelude.{ℕ, ◌<◌, true, List, [], ◌∷◌, ◌++◌, ◌≡◌, Option, Some, None}
use Rattle.std.proofs.Math.Pow.{are_bytes}
use Rattle.service.specs.Answer.{Answer, answer_number}
use Rattle.service.specs.State.{State}
use Rattle.service.specs.Call.{Outcome, outcome, opens, closes, receives, edits, ticks}
use Rattle.server.specs.Memory.{Memory, state_of}
use Rattle.server.specs.Answers.{last_accepted}
use Rattle.server.specs.declared.state.Server.{Server}
use Rattle.script.specs.Line.{Line, line_of, octets_in}
use Rattle.script.specs.Output.{line_octets}
use Rattle.script.specs.declared.verb.Verb.{Verb}
use Rattle.script.specs.declared.verb.Verb.TheVariants.{Open, Close, Message, Batch, Tick}
use Rattle.script.proofs.Carrying.{line_small}
use Rattle.transcript.specs.Lines.{lines_of, Printed}

-- "Output: verb, .."; the line's own.
abbrev pub verb_in : Line → Option Verb
verb_in (Line.opening t) = Some Open
verb_in (Line.closing t s) = Some Close
verb_in (Line.message t s l) = Some Message
verb_in (Line.batch t l) = Some Batch
verb_in (Line.ticking t) = Some Tick
verb_in Line.unreadable = None

-- "the session is the line's own".
abbrev pub own_in : Line → Option ℕ
own_in (Line.opening t) = None
own_in (Line.closing t s) = Some s
own_in (Line.message t s l) = Some s
own_in (Line.batch t l) = None
own_in (Line.ticking t) = None
own_in Line.unreadable = None

-- What a line does: the answer of its call, and none where it is unreadable; the next state; the output slice as it is then.
pub record Step : Type 0 where
  pub answer : Option Answer
  pub next : State
  pub output : List ℕ

-- Of a call that left the output so.
abbrev pub leaving : List ℕ → Outcome → Step
leaving out w = record { answer = Some w.answer; next = w.next; output = out }

-- "open time; close time s; msg time s hex; batch time hex; tick time". Open, close and tick are lent no output: it stays as it
-- was. An unreadable line calls nothing: "Answers 10 to 20 change nothing".
unfoldable pub step_of : State → List ℕ → (line : Line) → are_bytes (octets_in line) ≡ true → Step
step_of st out (Line.opening t) small = leaving out (outcome st (opens t))
step_of st out (Line.closing t s) small = leaving out (outcome st (closes t s))
step_of st out (Line.message t s l) small = let w = outcome st (receives t s (record { list = l; small = small }) out) in leaving w.output w
step_of st out (Line.batch t l) small = let w = outcome st (edits t (record { list = l; small = small }) out) in leaving w.output w
step_of st out (Line.ticking t) small = leaving out (outcome st (ticks t))
step_of st out Line.unreadable small = record { answer = None; next = st; output = out }

-- 01: 19, "replay line unreadable".
unfoldable pub number_told : Option Answer → ℕ
number_told None = 19
number_told (Some a) = answer_number a

-- "A line over 32,768 bytes, LF aside, or unreadable writes ?, 19, -, -".
unfoldable pub unread_line : List ℕ
unread_line = line_octets None (number_told None) None None

unfoldable pub lines_told : Line → Option Answer → List ℕ → List ℕ
lines_told line None out = unread_line
lines_told line (Some a) out = lines_of (verb_in line) (own_in line) a out

-- What a line gives: the number of its answer, the next state, the output slice as it is then, and the octets of the lines that
-- are written.
pub record Response : Type 0 where
  pub answer : ℕ
  pub next : State
  pub output : List ℕ
  pub lines : List ℕ

abbrev pub telling : Line → Step → Response
telling line x =
    record {
      answer = number_told x.answer;
      next = x.next;
      output = x.output;
      lines = lines_told line x.answer x.output;
    }

-- Of a line's octets without LF, in a state and with an output slice as they are before. (The octets that it carries are below
-- 256.)
unfoldable pub response_to : State → List ℕ → List ℕ → Response
response_to st out l = telling (line_of l) (step_of st out (line_of l) (line_small l))

-- The lines that are written for lines, one after the other.
unfoldable pub replayed : State → List ℕ → List (List ℕ) → List ℕ
replayed st out [] = []
replayed st out (l ∷ ls) = let r = response_to st out l in r.lines ++ replayed r.next r.output ls

-- Code did so with a line: on the numbers s it left the numbers s', the memory m, the output o, and n octets of lines in text
-- that was `text` and is text' then. An answer over 5 hands back the very numbers that came in.
pub record Tells (s s' : Server) (m : Memory) (o text text' : List ℕ) (n : ℕ) (r : Response) : Type 0 where
  pub next : state_of s' m ≡ r.next
  pub output : o ≡ r.output
  pub printed : Printed text r.lines text' n
  pub unchanged : last_accepted < r.answer → s' ≡ s
