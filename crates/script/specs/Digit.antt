-- One digit, decimal or hexadecimal. 01, "The replay program": "Numbers are decimal", "hex is lowercase".
use Rattle.std.specs.Prelude.{ℕ, ◌+◌, ◌-◌, cond, ◌&&◌, leb, ltb, Option, Some, None}

-- What an octet stands for as a digit, 0 to 9 and a to f, if it is one. A decimal digit is one that stands for less than 10.
unfoldable pub digit_value : ℕ → Option ℕ
digit_value b = cond (leb 48 b && leb b 57) (Some (b - 48)) (cond (leb 97 b && leb b 102) (Some (b - 87)) None)

-- The digit that stands for a number below 16.
unfoldable pub digit_octet : ℕ → ℕ
digit_octet d = cond (ltb d 10) (48 + d) (87 + d)
