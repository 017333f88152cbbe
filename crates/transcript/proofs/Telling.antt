-- The lines of an answer as they are written, one behind another.
use Prim.Native.Nat.{ℕ, zero, suc, ◌+◌, ◌*◌, ◌≤◌, ◌<◌}
use mathlib.Core.Path.{◌≡◌, refl, sym, ap, ◌∙◌, subst}
use mathlib.Core.Bool.{Bool, true, false}
use mathlib.Core.List.{List, [], ◌∷◌, ◌++◌, append-nil, append_assoc}
use native.Mathlib.Numerals.{add-one}
use native.Mathlib.Omega.{arith}
use lib.ListN.{length, take, get_or}
use lib.Seq.{length-sets, length-take-le, take-suc, take_all}
use Rattle.std.specs.Prelude.{Option, Some, None}
use Rattle.wire.specs.Part.{part}
use Rattle.service.specs.Answer.{Answer, answer_number}
use Rattle.service.specs.Checks.{output_size}
use Rattle.script.specs.Output.{line_octets}
use Rattle.script.specs.Code.{Written}
use Rattle.script.specs.declared.verb.Verb.{Verb}
use Rattle.script.proofs.Writing.{written_then}
use Rattle.transcript.specs.declared.note.Note.{Note}
use Rattle.transcript.specs.declared.note.Note.TheVariants.{Quiet, Bytes, Ended}
use Rattle.transcript.specs.Lines.{
  notes_of,
  all_quiet,
  note_line,
  note_lines,
  lines_for_all,
  session_named,
  counts_in,
  count_for,
  sent_to,
  bytes_for,
  line_for_one,
}

-- The next free place is within the memory.
pub written-within : (o : List ℕ) (at : ℕ) (a p : List ℕ) (r : ℕ) → Written o at a p r → r ≤ length p
written-within o at a p r w = omega (arith, w.next, ap length w.whole ∙ length-sets o at a)

-- ---- one session

module _ (v : Option Verb) (out : List ℕ) (s : ℕ) (note : Note) (o : List ℕ) (at : ℕ) where
  pub note-quiet : note ≡ Quiet → at ≤ length o → Written o at (note_line v out s note) o at
  unfolding note_line
  note-quiet e h = rw e (record { whole = refl; next = omega arith })

  module _ (p : List ℕ) (r : ℕ) where
    pub note-bytes : (n : ℕ) → note ≡ Bytes n → (l : List ℕ) → l ≡ part out (s * output_size) n
        → Written o at (line_octets v 2 (Some s) (Some l)) p r → Written o at (note_line v out s note) p r
    unfolding note_line
    note-bytes n e l f w = rw (e, ← f) w

    pub note-ended : note ≡ Ended → Written o at (line_octets v 4 (Some s) None) p r → Written o at (note_line v out s note) p r
    unfolding note_line
    note-ended e w = rw e w

-- ---- several

lines-behind : (v : Option Verb) (out : List ℕ) (s : ℕ) (l m : List Note) → note_lines v out s (l ++ m) ≡ note_lines v out s l ++ note_lines v out (s + length l) m
unfolding note_lines
lines-behind v out s [] m = ap (λ (k : ℕ). note_lines v out k m) (omega arith)
lines-behind v out s (x ∷ l) m =
    ap (λ (k : List ℕ). note_line v out s x ++ k) (lines-behind v out (suc s) l m ∙ ap (λ (k : ℕ). note_lines v out (suc s) l ++ note_lines v out k m) (omega arith))
    ∙ sym (append_assoc (note_line v out s x) (note_lines v out (suc s) l) (note_lines v out (s + suc (length l)) m))

-- The lines of the first i are written.
pub lines-none : (v : Option Verb) (out : List ℕ) (notes : List Note) (o : List ℕ) → Written o 0 (note_lines v out 0 (take 0 notes)) o 0
unfolding note_lines
lines-none v out notes o = record { whole = refl; next = omega arith }

pub lines-turn : (v : Option Verb) (out : List ℕ) (notes : List Note) (o : List ℕ) (i : ℕ) (p : List ℕ) (r : ℕ) → Written o 0 (note_lines v out 0 (take i notes)) p r
    → i < length notes → (x : Note) → x ≡ get_or notes i x → (q : List ℕ) (t j : ℕ) → Written p r (note_line v out j x) q t → j ≡ i
    → Written o 0 (note_lines v out 0 (take (i + 1) notes)) q t
unfolding note_lines
lines-turn v out notes o i p r w h x e q t j y f =
    let n : 0 + length (take i notes) ≡ i = omega (arith, length-take-le i notes (omega arith)) in
    let one : note_line v out i x ≡ note_lines v out (0 + length (take i notes)) (x ∷ []) =
    sym (append-nil (note_line v out i x)) ∙ ap (λ (k : ℕ). note_line v out k x ++ []) (sym n) in
    let more : take i notes ++ (x ∷ []) ≡ take (i + 1) notes =
    ap (λ (z : Note). take i notes ++ (z ∷ [])) e ∙ sym (take-suc notes i x h) ∙ ap (λ (k : ℕ). take k notes) (sym (add-one i)) in
    let same : note_lines v out 0 (take i notes) ++ note_line v out i x ≡ note_lines v out 0 (take (i + 1) notes) =
    ap (λ (l : List ℕ). note_lines v out 0 (take i notes) ++ l) one ∙ sym (lines-behind v out 0 (take i notes) (x ∷ []))
    ∙ ap (note_lines v out 0) more in
    subst (λ (l : List ℕ). Written o 0 l q t) same (written_then o 0 (note_lines v out 0 (take i notes)) p r w (note_line v out i x) q t
    (rw (← f) y))

pub lines-whole : (v : Option Verb) (out : List ℕ) (notes : List Note) (o : List ℕ) (i : ℕ) (p : List ℕ) (r : ℕ) → Written o 0 (note_lines v out 0 (take i notes)) p r
    → length notes ≤ i → Written o 0 (note_lines v out 0 notes) p r
lines-whole v out notes o i p r w h = subst (λ (l : List Note). Written o 0 (note_lines v out 0 l) p r) (take_all i notes h) w

-- ---- batch and tick

module _ (v : Option Verb) (a : Answer) (out : List ℕ) (n : List Note) (e : n ≡ notes_of a) (b : Bool) (f : b ≡ all_quiet n) (o p : List ℕ) (r : ℕ) where
  pub all-silent : b ≡ true → (k : ℕ) → k ≡ answer_number a → Written o 0 (line_octets v k None None) p r → Written o 0 (lines_for_all v a out) p r
  unfolding lines_for_all
  all-silent h k g w = rw (← e, ← f, h, ← g) w

  pub all_noted : b ≡ false → Written o 0 (note_lines v out 0 n) p r → Written o 0 (lines_for_all v a out) p r
  unfolding lines_for_all
  all_noted h w = rw (← e, ← f, h) w

-- ---- open, close and msg

-- Past the last session there is None.
pub counts_past : (a b c d s : ℕ) → 4 ≤ s → 0 ≡ count_for (a ∷ b ∷ c ∷ d ∷ []) s
unfolding count_for
counts_past a b c d zero h = absurd (omega arith)
counts_past a b c d (suc zero) h = absurd (omega arith)
counts_past a b c d (suc (suc zero)) h = absurd (omega arith)
counts_past a b c d (suc (suc (suc zero))) h = absurd (omega arith)
counts_past a b c d (suc (suc (suc (suc s)))) h = refl

pub sent-there : (counts : List ℕ) (s : ℕ) (out l : List ℕ) (n : ℕ) → n ≡ count_for counts s → l ≡ part out (s * output_size) n → l ≡ sent_to counts s out
unfolding sent_to
sent-there counts s out l n e f = f ∙ ap (part out (s * output_size)) e

pub sent-past : (a b c d s : ℕ) (out l : List ℕ) → 4 ≤ s → l ≡ part out 0 0 → l ≡ sent_to (a ∷ b ∷ c ∷ d ∷ []) s out
unfolding sent_to
sent-past a b c d s out l h f = f ∙ ap (part out (s * output_size)) (counts_past a b c d s h)

pub one-written : (v : Option Verb) (own : Option ℕ) (a : Answer) (out : List ℕ) (k : ℕ) → k ≡ answer_number a → (q : Option ℕ) → q ≡ session_named own a
    → (c : Option (List ℕ)) → c ≡ bytes_for own (counts_in a) out → (o p : List ℕ) (r : ℕ) → Written o 0 (line_octets v k q c) p r → Written o 0 (line_for_one v own a out) p r
unfolding line_for_one
one-written v own a out k e q g c i o p r w = rw (← e, ← g, ← i) w

pub ruleset noting = (note-quiet, note-bytes, note-ended)

pub ruleset lines = (lines-none, lines-turn, lines-whole, written-within)

pub ruleset sending = (sent-there, sent-past)
