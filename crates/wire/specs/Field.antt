-- Numbers of a whole count of octets, the most significant first (RFC 1035, 2.3.2), once over the width.
use Rattle.std.specs.Prelude.{ℕ, zero, suc, ◌+◌, ◌*◌, ◌/◌, ◌%◌, ◌^◌, List, [], ◌∷◌}

-- The number that the first n octets of a list are. Octets that the list lacks count as 0: who reads a field tests the
-- length first.
unfoldable pub field : ℕ → List ℕ → ℕ
field zero l = 0
field (suc n) [] = 0
field (suc n) (b ∷ l) = b * 256 ^ n + field n l

-- The n octets of a number; its digits above those are lost.
unfoldable pub octets : ℕ → ℕ → List ℕ
octets zero x = []
octets (suc n) x = (x / 256 ^ n % 256) ∷ octets n x
