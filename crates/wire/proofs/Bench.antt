-- Worked examples of names, settled by computation: 01, "Bench examples" 2 and 3, on the definition of a name, and what is
-- at or below a zone.
use Prim.Native.Nat.{ℕ}
use mathlib.Core.Path.{◌≡◌, refl}
use mathlib.Core.Bool.{true, false}
use mathlib.Core.List.{List, [], ◌∷◌, ◌++◌}
use Rattle.std.specs.Prelude.{None, Some}
use lib.ListN.{replicate}
use Rattle.wire.specs.Name.{labels, name_length, is_name, lower, same_octets, same_name, ends_in, within}

-- A label of n letters, and a name of labels of these lengths.
abbrev pub label : ℕ → List ℕ
label n = n ∷ replicate n 97

abbrev pub name_of : List ℕ → List ℕ
name_of [] = 0 ∷ []
name_of (n ∷ ns) = label n ++ name_of ns

-- 2: a label of 63 octets is read, one of 64 is not.
pub label-63 : name_length (name_of (63 ∷ [])) ≡ Some 65
unfolding name_length labels
label-63 = refl

pub label-64 : name_length (name_of (64 ∷ [])) ≡ None
unfolding name_length labels
label-64 = refl

-- 3: a name of 255 octets is read, one of 256 is not.
pub name-255 : name_length (name_of (63 ∷ 63 ∷ 63 ∷ 61 ∷ [])) ≡ Some 255
unfolding name_length labels
name-255 = refl

pub name-256 : name_length (name_of (63 ∷ 63 ∷ 63 ∷ 62 ∷ [])) ≡ None
unfolding name_length labels
name-256 = refl

-- The root alone is a name. A name that breaks off is None, and neither is a compression pointer.
pub root : name_length (0 ∷ []) ≡ Some 1
unfolding name_length labels
root = refl

pub broken-off : name_length (3 ∷ 97 ∷ 98 ∷ []) ≡ None
unfolding name_length labels
broken-off = refl

pub pointer : name_length (192 ∷ 12 ∷ 0 ∷ []) ≡ None
unfolding name_length labels
pointer = refl

-- What follows a name is no part of it.
pub followed : name_length (1 ∷ 97 ∷ 0 ∷ 0 ∷ 1 ∷ []) ≡ Some 3
unfolding name_length labels
followed = refl

-- ---- at or below a zone

abbrev pub shop : List ℕ
shop = 4 ∷ 115 ∷ 104 ∷ 111 ∷ 112 ∷ []

abbrev pub example : List ℕ
example = 7 ∷ 101 ∷ 120 ∷ 97 ∷ 109 ∷ 112 ∷ 108 ∷ 101 ∷ []

abbrev pub capitals : List ℕ
capitals = 4 ∷ 83 ∷ 104 ∷ 79 ∷ 80 ∷ []

abbrev pub xshop : List ℕ
xshop = 5 ∷ 120 ∷ 115 ∷ 104 ∷ 111 ∷ 112 ∷ []

-- shop.example.
abbrev pub zone : List ℕ
zone = shop ++ (example ++ (0 ∷ []))

pub zone-itself : within zone zone ≡ true
unfolding within ends_in same_name same_octets lower
zone-itself = refl

-- a.shop.example.
pub below : within zone (1 ∷ 97 ∷ zone) ≡ true
unfolding within ends_in same_name same_octets lower
below = refl

-- a.ShOP.example.: case does not count.
pub other-case : within zone (1 ∷ 97 ∷ capitals ++ (example ++ (0 ∷ []))) ≡ true
unfolding within ends_in same_name same_octets lower
other-case = refl

-- a.xshop.example.: the zone's octets but for the length end the name, and no label begins there.
pub longer-label : within zone (1 ∷ 97 ∷ xshop ++ (example ++ (0 ∷ []))) ≡ false
unfolding within ends_in same_name same_octets lower
longer-label = refl

-- A label of 13 octets that are the zone's own: the name's last octets are the zone's, and no label begins there.
pub inside-label : within zone (13 ∷ zone) ≡ false
unfolding within ends_in same_name same_octets lower
inside-label = refl

pub inside-label-name : is_name (13 ∷ zone) ≡ true
unfolding is_name name_length labels
inside-label-name = refl

-- example.: above the zone.
pub above : within zone (example ++ (0 ∷ [])) ≡ false
unfolding within ends_in same_name same_octets lower
above = refl

-- ---- the case of letters: the octets beside the letters stay apart from those 32 above them

pub letters : same_name (1 ∷ 65 ∷ 1 ∷ 90 ∷ 0 ∷ []) (1 ∷ 97 ∷ 1 ∷ 122 ∷ 0 ∷ []) ≡ true
unfolding same_name same_octets lower
letters = refl

pub at_sign : same_name (1 ∷ 64 ∷ 0 ∷ []) (1 ∷ 96 ∷ 0 ∷ []) ≡ false
unfolding same_name same_octets lower
at_sign = refl

pub bracket : same_name (1 ∷ 91 ∷ 0 ∷ []) (1 ∷ 123 ∷ 0 ∷ []) ≡ false
unfolding same_name same_octets lower
bracket = refl
