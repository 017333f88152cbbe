-- Names: reading one, two being the same name, one being at or below another.
-- 01, "What the dock can hold": uncompressed labels of 1 to 63 octets, a zero octet at the end, at most 255 octets in
-- all; US-ASCII letters compare without case (RFC 1035, 2.3.3 and 3.1).
use Rattle.std.specs.Prelude.{ℕ, zero, suc, ◌+◌, Bool, true, false, cond, ◌&&◌, ◌||◌, Option, None, Some, List, [], ◌∷◌, map, length, take, leb, eqb}

-- The most octets in a label and in a name.
abbrev pub max_label : ℕ
max_label = 63

abbrev pub max_name : ℕ
max_name = 255

-- k octets more.
abbrev pub after : ℕ → Option ℕ → Option ℕ
after k None = None
after k (Some n) = Some (k + n)

-- How many octets there are up to and with the zero octet that ends a name; k octets of the label that is being read are
-- still to come. None where the octets run out first, or where a length octet is over 63 (a pointer too).
unfoldable pub labels : ℕ → List ℕ → Option ℕ
labels k [] = None
labels (suc k) (b ∷ l) = after 1 (labels k l)
labels zero (b ∷ l) = cond (eqb b 0) (Some 1) (cond (leb b max_label) (after 1 (labels b l)) None)

-- The length of the name that stands at the front of a list, if one does.
unfoldable pub name_length : List ℕ → Option ℕ
name_length l = labels 0 (take max_name l)

abbrev pub holds : Option ℕ → ℕ → Bool
holds None n = false
holds (Some m) n = eqb m n

-- Whether the whole list is a name: one stands at its front, and nothing follows it.
unfoldable pub is_name : List ℕ → Bool
is_name l = holds (name_length l) (length l)

-- A US-ASCII letter in lower case; every other octet as it is. A length octet is at most 63 and below the letters, so a
-- name may be lowered whole.
unfoldable pub lower : ℕ → ℕ
lower b = cond (leb 65 b && leb b 90) (b + 32) b

abbrev pub lowered : List ℕ → List ℕ
lowered l = map lower l

-- Whether two lists of octets are equal.
unfoldable pub same_octets : List ℕ → List ℕ → Bool
same_octets [] [] = true
same_octets [] (b ∷ m) = false
same_octets (a ∷ l) [] = false
same_octets (a ∷ l) (b ∷ m) = eqb a b && same_octets l m

-- Whether two names are the same name: equal but for the case of letters.
unfoldable pub same_name : List ℕ → List ℕ → Bool
same_name a b = same_octets (lowered a) (lowered b)

-- Whether the name `zone` is what is left of a name at one of its label boundaries; k octets of a label are still to be
-- passed.
unfoldable pub ends_in : List ℕ → ℕ → List ℕ → Bool
ends_in zone k [] = false
ends_in zone (suc k) (b ∷ l) = ends_in zone k l
ends_in zone zero (b ∷ l) = same_name zone (b ∷ l) || ends_in zone b l

-- Whether a name is at or below a zone's name (01, SUBSCRIBE; RFC 1034, 3.1).
unfoldable pub within : List ℕ → List ℕ → Bool
within zone name = ends_in zone 0 name
