-- The lines of an answer. 01, "The replay program": "Batch and tick write one line for each session with bytes (2) or ended (4),
-- upward, or one line with 1 or the refusal and no session. Elsewhere the session is the line's own or the one opened, - where
-- open is refused; hex stands only with 2."
use Rattle.std.specs.Prelude.{ℕ, suc, ◌*◌, Bool, true, false, cond, List, [], ◌∷◌, ◌++◌, map, ◌≡◌, length, get_or, eqb, Option, Some, None}
use Rattle.std.proofs.lemmas.List.Edits.{sets}
use Rattle.wire.specs.Part.{part}
use Rattle.zone.specs.Lists.{all_of}
use Rattle.service.specs.Answer.{Answer, done, opened, ended, sent, not_ours, aborted, reconfirm, refused, answer_number}
use Rattle.service.specs.Checks.{output_size}
use Rattle.script.specs.Output.{line_octets}
use Rattle.script.specs.declared.verb.Verb.{Verb}
use Rattle.script.specs.declared.verb.Verb.TheVariants.{Open, Close, Message, Batch, Tick}
use Rattle.transcript.specs.declared.note.Note.{Note}
use Rattle.transcript.specs.declared.note.Note.TheVariants.{Quiet, Bytes, Ended}

-- ---- batch and tick: what there is to say of each session

unfoldable pub count_note : ℕ → Note
count_note n = cond (eqb n 0) Quiet (Bytes n)

unfoldable pub flag_note : Bool → Note
flag_note flag = cond flag Ended Quiet

abbrev pub silent : List Note
silent = Quiet ∷ Quiet ∷ Quiet ∷ Quiet ∷ []

unfoldable pub notes_of : Answer → List Note
notes_of done = silent
notes_of (opened s) = silent
notes_of (ended flags) = map flag_note flags
notes_of (sent counts) = map count_note counts
notes_of not_ours = silent
notes_of aborted = silent
notes_of (reconfirm places) = silent
notes_of (refused r) = silent

unfoldable pub is_quiet : Note → Bool
is_quiet Quiet = true
is_quiet (Bytes n) = false
is_quiet Ended = false

unfoldable pub all_quiet : List Note → Bool
all_quiet l = all_of is_quiet l

-- "one line for each session with bytes (2) or ended (4)". A session's bytes stand at the start of its output.
unfoldable pub note_line : Option Verb → List ℕ → ℕ → Note → List ℕ
note_line v out s Quiet = []
note_line v out s (Bytes n) = line_octets v 2 (Some s) (Some (part out (s * output_size) n))
note_line v out s Ended = line_octets v 4 (Some s) None

-- "upward", from session s on.
unfoldable pub note_lines : Option Verb → List ℕ → ℕ → List Note → List ℕ
note_lines v out s [] = []
note_lines v out s (x ∷ xs) = note_line v out s x ++ note_lines v out (suc s) xs

-- "or one line with 1 or the refusal and no session".
unfoldable pub lines_for_all : Option Verb → Answer → List ℕ → List ℕ
lines_for_all v a out =
    cond (all_quiet (notes_of a)) (line_octets v (answer_number a) None None) (note_lines v out 0 (notes_of a))

-- ---- open, close and msg: one line

-- "the session is the line's own or the one opened, - where open is refused".
unfoldable pub session_named : Option ℕ → Answer → Option ℕ
session_named own done = own
session_named own (opened s) = Some s
session_named own (ended flags) = own
session_named own (sent counts) = own
session_named own not_ours = own
session_named own aborted = own
session_named own (reconfirm places) = own
session_named own (refused r) = own

-- "hex stands only with 2".
unfoldable pub counts_in : Answer → Option (List ℕ)
counts_in done = None
counts_in (opened s) = None
counts_in (ended flags) = None
counts_in (sent counts) = Some counts
counts_in not_ours = None
counts_in aborted = None
counts_in (reconfirm places) = None
counts_in (refused r) = None

-- The bytes of the line's own session, which stand at the start of its output; past the last session none.
unfoldable pub count_for : List ℕ → ℕ → ℕ
count_for counts s = get_or counts s 0

unfoldable pub sent_to : List ℕ → ℕ → List ℕ → List ℕ
sent_to counts s out = part out (s * output_size) (count_for counts s)

unfoldable pub bytes_for : Option ℕ → Option (List ℕ) → List ℕ → Option (List ℕ)
bytes_for None counts out = None
bytes_for (Some s) None out = None
bytes_for (Some s) (Some counts) out = Some (sent_to counts s out)

unfoldable pub line_for_one : Option Verb → Option ℕ → Answer → List ℕ → List ℕ
line_for_one v own a out = line_octets v (answer_number a) (session_named own a) (bytes_for own (counts_in a) out)

-- ---- either

unfoldable pub tells_all : Option Verb → Bool
tells_all None = false
tells_all (Some Open) = false
tells_all (Some Close) = false
tells_all (Some Message) = false
tells_all (Some Batch) = true
tells_all (Some Tick) = true

-- Of a line's verb, its own session if it has one, the answer, and the output as the call left it.
unfoldable pub lines_of : Option Verb → Option ℕ → Answer → List ℕ → List ℕ
lines_of v own a out = cond (tells_all v) (lines_for_all v a out) (line_for_one v own a out)

-- ---- whole

-- Room for the lines of any answer: four of them, with as many bytes each as an output of 65,536 has from its session's place on.
abbrev pub text_room : ℕ
text_room = 327880

-- Octets written whole at the front of o, and how many they are.
pub record Printed (o lines p : List ℕ) (r : ℕ) : Type 0 where
  pub whole : p ≡ sets o 0 lines
  pub count : r ≡ length lines
