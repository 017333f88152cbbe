-- The lines of any answer fit into the memory that the program lends for them.
use Prim.Native.Nat.{ℕ, ◌+◌, ◌-◌, ◌*◌, ◌≤◌}
use mathlib.Core.Path.{◌≡◌, refl}
use mathlib.Core.Bool.{Bool, true, false, cond}
use mathlib.Core.List.{List, [], ◌∷◌}
use native.Mathlib.Omega.{arith}
use lib.ListN.{length, length-append, length-take, length-drop}
use Rattle.std.specs.Prelude.{Option, Some, None}
use Rattle.wire.specs.Part.{part}
use Rattle.service.specs.Answer.{Answer, sent, ended, answer_number}
use Rattle.service.specs.Checks.{output_size, least_output}
use Rattle.script.specs.Output.{line_octets}
use Rattle.script.specs.Code.{Written}
use Rattle.script.specs.declared.verb.Verb.{Verb}
use Rattle.script.proofs.Writing.{length-line}
use Rattle.transcript.specs.declared.note.Note.{Note}
use Rattle.transcript.specs.declared.note.Note.TheVariants.{Quiet, Bytes, Ended}
use Rattle.transcript.specs.Lines.{notes_of, all_quiet, note_line, note_lines, lines_for_all, session_named, counts_in, count_for, sent_to, bytes_for, line_for_one, tells_all, lines_of, text_room, Printed}

length_part : (out : List ℕ) (a n : ℕ) → length (part out a n) ≤ length out - a
length_part out a n = simp (length-take, length-drop) (omega arith)

length-note : (v : Option Verb) (out : List ℕ) (s : ℕ) (x : Note) → length (note_line v out s x) ≤ 50 + 2 * (length out - s * output_size)
unfolding note_line
length-note v out s Quiet = omega arith
length-note v out s (Bytes n) =
    omega (arith, length-line v 2 (Some s) (Some (part out (s * output_size) n)), length_part out (s * output_size) n)
length-note v out s Ended = omega (arith, length-line v 4 (Some s) None)

module _ (v : Option Verb) (out : List ℕ) (h : length out ≤ least_output) where
  length-notes : (notes : List Note) → length notes ≡ 4 → length (note_lines v out 0 notes) ≤ text_room
  unfolding note_lines
  length-notes (a ∷ b ∷ c ∷ d ∷ []) e =
      let p = length-note v out 0 a in
      let q = length-note v out 1 b in
      let r = length-note v out 2 c in
      let t = length-note v out 3 d in
      simp length-append (omega arith)
  length-notes [] e = absurd (omega arith)
  length-notes (a ∷ []) e = absurd (omega arith)
  length-notes (a ∷ b ∷ []) e = absurd (omega arith)
  length-notes (a ∷ b ∷ c ∷ []) e = absurd (omega arith)
  length-notes (a ∷ b ∷ c ∷ d ∷ f ∷ l) e = absurd (omega arith)

  either : (t : Bool) (x y : List ℕ) → length x ≤ text_room → length y ≤ text_room → length (cond t x y) ≤ text_room
  either true x y p q = p
  either false x y p q = q

  length-bare : (n : ℕ) (s : Option ℕ) → length (line_octets v n s None) ≤ text_room
  length-bare n s = omega (arith, length-line v n s None)

  length-all : (a : Answer) → length (notes_of a) ≡ 4 → length (lines_for_all v a out) ≤ text_room
  unfolding lines_for_all
  length-all a e =
      either (all_quiet (notes_of a)) (line_octets v (answer_number a) None None) (note_lines v out 0 (notes_of a))
      (length-bare (answer_number a) None) (length-notes (notes_of a) e)

  length-with : (n : ℕ) (s own : Option ℕ) (c : Option (List ℕ)) → length (line_octets v n s (bytes_for own c out)) ≤ text_room
  unfolding bytes_for sent_to
  length-with n s None c = length-bare n s
  length-with n s (Some k) None = length-bare n s
  length-with n s (Some k) (Some counts) =
      omega (arith, length-line v n s (Some (part out (k * output_size) (count_for counts k))), length_part out (k * output_size) (count_for counts k))

  length-one : (own : Option ℕ) (a : Answer) → length (line_for_one v own a out) ≤ text_room
  unfolding line_for_one
  length-one own a = length-with (answer_number a) (session_named own a) own (counts_in a)

  -- The code's answers have a note for each of the four sessions (`note::noted`).
  pub length-lines : (own : Option ℕ) (a : Answer) → length (notes_of a) ≡ 4 → length (lines_of v own a out) ≤ text_room
  unfolding lines_of
  length-lines own a e =
      either (tells_all v) (lines_for_all v a out) (line_for_one v own a out) (length-all a e) (length-one own a)

  -- So of four counts and of four flags, which are all that an answer of the code tells of; its other answers tell of four by themselves.
  pub length-sent : (own : Option ℕ) (w x y z : ℕ) → length (lines_of v own (sent (w ∷ x ∷ y ∷ z ∷ [])) out) ≤ text_room
  unfolding notes_of
  length-sent own w x y z = length-lines own (sent (w ∷ x ∷ y ∷ z ∷ [])) refl

  pub length-ended : (own : Option ℕ) (a b c d : Bool) → length (lines_of v own (ended (a ∷ b ∷ c ∷ d ∷ [])) out) ≤ text_room
  unfolding notes_of
  length-ended own a b c d = length-lines own (ended (a ∷ b ∷ c ∷ d ∷ [])) refl

-- ---- so they are written whole

module _ (v : Option Verb) (a : Answer) (out o p : List ℕ) (r : ℕ) (h : length out ≤ least_output) (k : text_room ≤ length o) where
  pub printed-all : length (notes_of a) ≡ 4 → Written o 0 (lines_for_all v a out) p r → Printed o (lines_for_all v a out) p r
  printed-all e w = record { whole = w.whole; count = omega (arith, w.next, length-all v out h a e) }

  pub printed-one : (own : Option ℕ) → Written o 0 (line_for_one v own a out) p r → Printed o (line_for_one v own a out) p r
  printed-one own w = record { whole = w.whole; count = omega (arith, w.next, length-one v out h own a) }
