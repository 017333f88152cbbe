-- How far the input has come after a piece of it.
use Prim.Native.Nat.{ℕ, ◌+◌, ◌<◌, min}
use mathlib.Core.Path.{◌≡◌, refl, sym, ap, ◌∙◌, subst}
use mathlib.Core.Bool.{Bool, true, false}
use mathlib.Core.List.{List, [], ◌∷◌}
use native.Mathlib.Omega.{arith}
use lib.ListN.{length, take, drop, length-take, length-drop, drop_of_length-le}
use lib.Seq.{take_all, drop-drop}
use lib.Dec.{leb}
use borrow.Author.Tests.{leb-true, leb-false}
use Rattle.wire.specs.Part.{part}
use Rattle.script.specs.Stream.{Piece, piece_of, Cuts}
use Rattle.script.specs.declared.stream.Taken.{Taken}
use Rattle.script.specs.Chunks.{Feeds, used, ends}
use Rattle.input.specs.Reading.{left_of, Resumes}
use Rattle.input.specs.declared.progress.Progress.{Progress}

drop-within : (l : List ℕ) (n : ℕ) → drop (min n (length l)) l ≡ drop n l
drop-within l n = by-test (leb n (length l)) refl
  where
    by-test : (t : Bool) → leb n (length l) ≡ t → drop (min n (length l)) l ≡ drop n l
    by-test true e = let m : min n (length l) ≡ n = omega (arith, leb-true n (length l) e) in ap (λ (k : ℕ). drop k l) m
    by-test false e =
        let h : length l < n = leb-false n (length l) e in
        drop_of_length-le l {i = min n (length l)} (omega arith) ∙ sym (drop_of_length-le l {i = n} (omega arith))

module _ (p : Progress) (input line line' chunk rest : List ℕ) (e : chunk ≡ part input 0 p.end) (f : rest ≡ part chunk p.used p.end)
    (t : Taken) (c : Cuts rest line p.held line' t) (u : ℕ) (g : u ≡ min (p.used + t.used) (length chunk)) where
  left : rest ≡ left_of p input
  left =
      f ∙ ap (λ (l : List ℕ). take p.end (drop p.used l)) e
      ∙ take_all p.end (drop p.used (take p.end input)) (simp (length-drop, length-take) (omega arith))

  onward : drop t.used rest ≡ drop u (take p.end input)
  onward =
      ap (drop t.used) left ∙ drop-drop t.used p.used (take p.end input)
      ∙ sym (ap (λ (k : ℕ). drop k (take p.end input)) (g ∙ ap (λ (l : List ℕ). min (p.used + t.used) (length l)) e) ∙ drop-within (take p.end input) (p.used + t.used))

  pub resumes : Resumes p input line (record { end = p.end; used = u; held = t.held; ready = t.ended; more = p.more }) line'
  resumes =
      record {
        piece = rw (← onward) c.piece ∙ ap (piece_of (take p.held line)) left;
        end = refl;
        more = refl;
      }

-- A step of the cutting that `script/Cutting.cut-lines` and `transcript/Responding.replayed-chunks` speak of.
module _ (p : Progress) (input line : List ℕ) (q : Progress) (line' : List ℕ) (r : Resumes p input line q line') where
  ended_is : (piece_of (take p.held line) (left_of p input)).ended ≡ q.ready
  ended_is = ap (λ (x : Piece). x.ended) (sym r.piece)

  held-is : (piece_of (take p.held line) (left_of p input)).held ≡ take q.held line'
  held-is = ap (λ (x : Piece). x.held) (sym r.piece)

  pub resumed-used : q.ready ≡ false → Feeds (take p.held line) (left_of p input) [] (take q.held line')
  resumed-used e = subst (Feeds (take p.held line) (left_of p input) []) held-is (used (ended_is ∙ e))

  pub resumed-ends : q.ready ≡ true → (lines : List (List ℕ)) (last : List ℕ) → Feeds [] (left_of q input) lines last
      → Feeds (take p.held line) (left_of p input) (take q.held line' ∷ lines) last
  resumed-ends e lines last f =
      subst (λ (l : List ℕ). Feeds (take p.held line) (left_of p input) (l ∷ lines) last) held-is
      (ends (ended_is ∙ e) (subst (λ (l : List ℕ). Feeds [] l lines last) (ap (λ (x : Piece). x.rest) r.piece) f))
