-- One digit: what an octet stands for is below 16, and that a digit written is read back.
use Prim.Native.Nat.{ℕ, ◌+◌, ◌<◌, ◌≤◌}
use mathlib.Core.Path.{◌≡◌, refl, ap}
use mathlib.Core.Bool.{Bool, true, false}
use native.Mathlib.Omega.{arith}
use lib.Dec.{ltb}
use borrow.Author.Tests.{lt-leb, lt-ltb, le-leb, le-ltb, ltb-true, ltb-false, leb-true}
use Rattle.std.specs.Prelude.{Some, None}
use Rattle.std.proofs.lemmas.Bool.Decides.{nat_tests}
use Rattle.script.specs.Digit.{digit_value, digit_octet}

-- A tab, and all else before the digits, is no digit.
pub digit-below : (b : ℕ) → b < 48 → digit_value b ≡ None
unfolding digit_value
digit-below b h = rw (lt-leb 48 b h, lt-leb 97 b (omega arith))

pub digit-small : (b d : ℕ) → digit_value b ≡ Some d → d < 16
unfolding digit_value
digit-small b d e = grind (arith, nat_tests, leb-true)

-- A digit that was written is read back.
pub digit-read : (d : ℕ) → d < 16 → digit_value (digit_octet d) ≡ Some d
unfolding digit_value digit_octet
digit-read d h = by-test (ltb d 10) refl
  where
    by-test : (t : Bool) → ltb d 10 ≡ t → digit_value (digit_octet d) ≡ Some d
    by-test true e =
        let k : d < 10 = ltb-true d 10 e in
        rw (lt-ltb d 10 k, le-leb 48 (48 + d) (omega arith), le-leb (48 + d) 57 (omega arith)) (ap (λ (x : ℕ). Some x) (omega arith))
    by-test false e =
        let k : 10 ≤ d = ltb-false d 10 e in
        rw (le-ltb d 10 k, le-leb 48 (87 + d) (omega arith), lt-leb (87 + d) 57 (omega arith), le-leb 97 (87 + d) (omega arith), le-leb (87 + d) 102 (omega arith))
        (ap (λ (x : ℕ). Some x) (omega arith))
