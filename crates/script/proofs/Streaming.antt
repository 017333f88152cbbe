-- The input cut into lines: what is held of a line, and that cutting off what is too long makes no difference.
use Prim.Native.Nat.{ℕ, zero, suc, ◌+◌, ◌≤◌, ◌<◌, min}
use mathlib.Core.Path.{◌≡◌, sym, ap, ap₂, ◌∙◌}
use mathlib.Core.Bool.{Bool, true, false}
use mathlib.Core.List.{List, [], ◌∷◌, ◌++◌}
use native.Mathlib.Omega.{arith}
use lib.ListN.{length, take, drop, drop_of_length-le}
use lib.Seq.{sets, take_all}
use borrow.Author.Tests.{lt-ltb, le-ltb}
use Rattle.wire.proofs.Writes.{sets-cons}
use Rattle.script.specs.Fields.{until}
use Rattle.script.specs.Output.{lf}
use Rattle.script.specs.Code.{Written}
use Rattle.script.specs.Stream.{room, kept, Piece, piece_of, Cuts}

-- What stands in front of the next free place after a write: what stood there, and the text, as far as there is room.
take-written-behind : (o : List ℕ) (at : ℕ) (text : List ℕ) → take (min (at + length text) (length o)) (sets o at text) ≡ take (length o) (take at o ++ text)
take-written-behind [] at text =
    let m : min (at + length text) 0 ≡ 0 = omega arith in
    ap (λ (n : ℕ). take n (sets [] at text)) m
take-written-behind (x ∷ o) zero [] =
    let m : min (0 + 0) (suc (length o)) ≡ 0 = omega arith in
    ap (λ (n : ℕ). take n (x ∷ o)) m
take-written-behind (x ∷ o) zero (v ∷ vs) =
    let m : min (0 + suc (length vs)) (suc (length o)) ≡ suc (min (0 + length vs) (length o)) = omega arith in
    ap₂ (λ (n : ℕ) (l : List ℕ). take n l) m (sets-cons v o 0 vs) ∙ ap (λ (l : List ℕ). v ∷ l) (take-written-behind o zero vs)
take-written-behind (x ∷ o) (suc at) text =
    let m : min (suc at + length text) (suc (length o)) ≡ suc (min (at + length text) (length o)) = omega arith in
    ap₂ (λ (n : ℕ) (l : List ℕ). take n l) m (sets-cons x o at text) ∙ ap (λ (l : List ℕ). x ∷ l) (take-written-behind o at text)

pub piece-same : {h g r s : List ℕ} {d e : Bool} → h ≡ g → r ≡ s → d ≡ e
    → ◌≡◌ {A = Piece} (record { held = h; rest = r; ended = d }) (record { held = g; rest = s; ended = e })
piece-same {h} {g} {r} {s} {d} {e} p q t = rw (p, q, t)

module _ (input line : List ℕ) (held : ℕ) (long : length line ≡ room) (line' : List ℕ) (r : ℕ) where
  held-is : (text : List ℕ) → Written line held text line' r → text ≡ take (until lf input) input → take r line' ≡ kept (take held line ++ take (until lf input) input)
  unfolding kept
  held-is text w e =
      ap₂ (λ (k : ℕ) (l : List ℕ). take k l) w.next w.whole ∙ take-written-behind line held text
      ∙ ap₂ (λ (k : ℕ) (l : List ℕ). take k (take held line ++ l)) long e

  pub cut-ended : (n : ℕ) → n ≡ until lf input → n < length input → Written line held (take n input) line' r
      → Cuts input line held line' (record { held = r; used = n + 1; ended = true })
  unfolding piece_of
  cut-ended n f h w =
      let e : n + 1 ≡ suc (until lf input) = omega arith in
      record {
        piece = piece-same (held-is (take n input) w (ap (λ (k : ℕ). take k input) f)) (ap (λ (k : ℕ). drop k input) e)
            (sym (lt-ltb (until lf input) (length input) (omega arith)));
        within = omega arith;
        onward = λ k. omega arith;
      }

  pub cut-going : length input ≤ until lf input → Written line held input line' r
      → Cuts input line held line' (record { held = r; used = length input; ended = false })
  unfolding piece_of
  cut-going h w =
      record {
        piece = piece-same (held-is input w (sym (take_all (until lf input) input h)))
            (drop_of_length-le input {i = length input} (omega arith) ∙ sym (drop_of_length-le input {i = suc (until lf input)} (omega arith)))
            (sym (le-ltb (until lf input) (length input) h));
        within = omega arith;
        onward = λ k. k;
      }

pub ruleset cutting = (cut-ended, cut-going)
