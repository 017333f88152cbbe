-- Numbers. 01, "The replay program": "Numbers are decimal, up to 64 bits, without leading zeros".
use Rattle.std.specs.Prelude.{ℕ, zero, suc, ◌+◌, ◌*◌, ◌/◌, ◌%◌, ◌^◌, Bool, true, false, cond, not, List, [], ◌∷◌, ◌++◌, ltb, eqb, Option, Some, None, option_and_then}
use Rattle.script.specs.Digit.{digit_value, digit_octet}

-- What decimal digits stand for behind those that stood for x; none where one of the octets is no decimal digit.
unfoldable pub digits : ℕ → List ℕ → Option ℕ
digits x [] = Some x
digits x (b ∷ l) = option_and_then (λ d. cond (ltb d 10) (digits (x * 10 + d) l) None) (digit_value b)

-- "up to 64 bits".
unfoldable pub in64 : Option ℕ → Option ℕ
in64 None = None
in64 (Some x) = cond (ltb x (2 ^ 64)) (Some x) None

unfoldable pub value_of : List ℕ → Option ℕ
value_of l = in64 (digits 0 l)

-- At least one digit, and "without leading zeros": a zero comes first only where it is the only digit.
unfoldable pub plain : List ℕ → Bool
plain [] = false
plain (b ∷ []) = true
plain (b ∷ c ∷ l) = not (eqb b 48)

-- The number that a field is, if it is one.
unfoldable pub number : List ℕ → Option ℕ
number l = cond (plain l) (value_of l) None

-- The decimal digits of a number that has at most n of them, without leading zeros.
unfoldable pub decimal_in : ℕ → ℕ → List ℕ
decimal_in zero x = []
decimal_in (suc n) x = cond (ltb x 10) (digit_octet x ∷ []) (decimal_in n (x / 10) ++ (digit_octet (x % 10) ∷ []))

-- A number of 64 bits has at most 20 digits.
abbrev pub max_digits : ℕ
max_digits = 20

unfoldable pub decimal : ℕ → List ℕ
decimal x = decimal_in max_digits x
