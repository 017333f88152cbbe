-- Octets as hexadecimal digits. 01, "The replay program": "hex is lowercase, whole bytes, perhaps none".
use Rattle.std.specs.Prelude.{ℕ, ◌+◌, ◌*◌, ◌/◌, ◌%◌, cond, List, [], ◌∷◌, length, leb, Option, Some, None, option_map, option_and_then}
use Rattle.script.specs.Digit.{digit_value, digit_octet}

-- The octets that a field is, two digits each, the higher one first; none where the digits are no whole octets.
unfoldable pub hex_bytes : List ℕ → Option (List ℕ)
hex_bytes [] = Some []
hex_bytes (a ∷ []) = None
hex_bytes (a ∷ b ∷ l) =
    option_and_then (λ high. option_and_then (λ low. option_map (λ r. (high * 16 + low) ∷ r) (hex_bytes l)) (digit_value b)) (digit_value a)

-- The same where there is room for so many octets; none where the digits are more.
unfoldable pub hex_bytes_in : ℕ → List ℕ → Option (List ℕ)
hex_bytes_in room s = cond (leb (length s) (2 * room)) (hex_bytes s) None

-- The digits of octets.
unfoldable pub hex_octets : List ℕ → List ℕ
hex_octets [] = []
hex_octets (b ∷ l) = digit_octet (b / 16) ∷ digit_octet (b % 16) ∷ hex_octets l
