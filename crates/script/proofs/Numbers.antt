-- Numbers: how the loop that reads one goes.
use Prim.Native.Nat.{ℕ, suc, ◌+◌, ◌*◌, ◌^◌, ◌≤◌, ◌<◌}
use mathlib.Core.Path.{◌≡◌, refl, ap, ◌∙◌}
use mathlib.Core.Bool.{Bool, true, false, cond}
use mathlib.Core.List.{List, [], ◌∷◌}
use native.Mathlib.Numerals.{add-one}
use native.Mathlib.Omega.{arith}
use lib.ListN.{length, drop, get_or, drop_of_length-le}
use lib.Seq.{drop-cons}
use lib.Dec.{ltb}
use borrow.Author.Tests.{lt-ltb, le-ltb, ne_eqb}
use Rattle.std.specs.Prelude.{Option, Some, None, option_and_then}
use Rattle.script.specs.Digit.{digit_value}
use Rattle.script.specs.Number.{digits, in64, value_of, plain, number}

-- More digits only make a number greater.
digits-large : (x : ℕ) (l : List ℕ) → 2 ^ 64 ≤ x → in64 (digits x l) ≡ None
unfolding digits in64
digits-large x [] h = rw (le-ltb x (2 ^ 64) h)
digits-large x (b ∷ l) h = by-digit (λ y k. digits-large y l k) (digit_value b)
  where
    by-test : (t : Bool) (y : ℕ) → in64 (digits y l) ≡ None → in64 (cond t (digits y l) None) ≡ None
    by-test true y k = k
    by-test false y k = refl

    by-digit : ((y : ℕ) → 2 ^ 64 ≤ y → in64 (digits y l) ≡ None) → (o : Option ℕ) → in64 (option_and_then (λ d. cond (ltb d 10) (digits (x * 10 + d) l) None) o) ≡ None
    by-digit more None = refl
    by-digit more (Some d) = by-test (ltb d 10) (x * 10 + d) (more (x * 10 + d) (omega arith))

-- i digits are passed, which stand for x.
pub record Summed (s : List ℕ) (x i : ℕ) : Type 0 where
  pub rest : digits 0 s ≡ digits x (drop i s)
  pub fits : x < 2 ^ 64

pub summed-none : (s : List ℕ) → Summed s 0 0
summed-none s = record { rest = refl; fits = omega arith }

module _ (s : List ℕ) (x i : ℕ) (r : Summed s x i) where
  pub summed-end : length s ≤ i → Some x ≡ value_of s
  unfolding value_of digits in64
  summed-end h = rw (r.rest, drop_of_length-le s h, lt-ltb x (2 ^ 64) r.fits)

  module _ (h : i < length s) (o : Option ℕ) (e : o ≡ digit_value (get_or s i 0)) where
    next : digits 0 s ≡ option_and_then (λ d. cond (ltb d 10) (digits (x * 10 + d) (drop (suc i) s)) None) o
    unfolding digits
    next = r.rest ∙ ap (digits x) (drop-cons s i 0 h) ∙ rw e

    pub summed-stop : o ≡ None → None ≡ value_of s
    unfolding value_of in64
    summed-stop f = rw (next, f)

    module _ (d : ℕ) (f : o ≡ Some d) where
      step : d ≤ 9 → digits 0 s ≡ digits (x * 10 + d) (drop (suc i) s)
      step k = next ∙ rw (f, lt-ltb d 10 (omega arith))

      pub summed-other : 9 < d → None ≡ value_of s
      unfolding value_of in64
      summed-other k = rw (next, f, le-ltb d 10 (omega arith))

      pub summed-large : d ≤ 9 → 2 ^ 64 ≤ x * 10 + d → None ≡ value_of s
      unfolding value_of
      summed-large k g = rw (step k, digits-large (x * 10 + d) (drop (suc i) s) g)

      pub summed-turn : d ≤ 9 → x * 10 + d < 2 ^ 64 → Summed s (x * 10 + d) (i + 1)
      summed-turn k g = record { rest = rw (add-one i) (step k); fits = g }

-- ---- the first digit

pub number-empty : (s : List ℕ) → length s ≤ 0 → None ≡ number s
unfolding number plain
number-empty [] h = refl
number-empty (b ∷ s) h = absurd (omega arith)

pub number-zero : (s : List ℕ) → get_or s 0 0 ≡ 48 → 2 ≤ length s → None ≡ number s
unfolding number plain
number-zero [] e h = absurd (omega arith)
number-zero (b ∷ []) e h = absurd (omega arith)
number-zero (b ∷ c ∷ s) e h = rw (e)

pub number-single : (s : List ℕ) (r : Option ℕ) → 1 ≤ length s → length s < 2 → r ≡ value_of s → r ≡ number s
unfolding number plain
number-single [] r n h e = absurd (omega arith)
number-single (b ∷ []) r n h e = e
number-single (b ∷ c ∷ s) r n h e = absurd (omega arith)

pub number-other : (s : List ℕ) (r : Option ℕ) → 1 ≤ length s → (get_or s 0 0 ≡ 48 → ⊥) → r ≡ value_of s → r ≡ number s
unfolding number plain
number-other [] r n h e = absurd (omega arith)
number-other (b ∷ []) r n h e = e
number-other (b ∷ c ∷ s) r n h e = rw (ne_eqb b 48 h) e

pub ruleset summed = (summed-none, summed-end, summed-stop, summed-other, summed-large, summed-turn)

pub ruleset numbers = (number-empty, number-zero, number-single, number-other)
