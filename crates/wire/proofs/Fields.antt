-- Laws of fields, once over the width: both round trips, lengths, bounds, splits, and that what follows a field doesn't
-- change it.
use Prim.Native.Nat.{ℕ, zero, suc, ◌+◌, ◌*◌, ◌/◌, ◌%◌, ◌^◌, ◌≤◌, ◌<◌}
use mathlib.Core.Path.{◌≡◌, refl, sym, ap, ap₂, ◌∙◌}
use mathlib.Core.Bool.{Bool, true, false, ◌&&◌}
use mathlib.Core.List.{List, [], ◌∷◌, ◌++◌}
use native.Mathlib.Nat.{mod-one, pow-succ', one-le-pow, mod-eq_of_lt, mul-add-div_right, mul-add-mod_self_right, mod-lt, mul_assoc, div-add-mod', div-one, div-lt_iff_lt-mul, div-div-eq-div-mul, suc-add, zero-add, add_comm, le_of_suc-le-suc, not-suc-le-zero}
use native.Mathlib.Omega.{arith}
use lib.ListN.{length, take, drop, get_or, drop_of_length-le}
use Rattle.std.specs.Int.{w16, w32, to_be_bytes, from_be_bytes, bytes_high_first}
use lib.Arith.{mod-mul, digits_lt, digits_div}
use lib.Pow.{pow-add, are_bytes}
use lib.Dec.{lit<, ltb}
use borrow.Author.Tests.{ltb-true, lt-ltb}
use Rattle.wire.specs.Field.{field, octets}

pos : (n : ℕ) → 0 < 256 ^ n
pos n = one-le-pow n 256 (lit< tt)

-- ---- octets

and-true : (a b : Bool) → a ≡ true → b ≡ true → a && b ≡ true
and-true a b p q = cc

left : (a b : Bool) → a && b ≡ true → a ≡ true
left true b p = refl
left false b p = p

right : (a b : Bool) → a && b ≡ true → b ≡ true
right true b p = p
right false b p = let z : ◌≡◌ {A = ℕ} 0 1 = cc in absurd (omega arith)

-- A list of octets by its test and by its elements.
pub octet-at : (l : List ℕ) (i : ℕ) → are_bytes l ≡ true → get_or l i 0 < 256
octet-at [] i h = lit< tt
octet-at (b ∷ l) zero h = ltb-true b 256 (left (ltb b 256) (are_bytes l) h)
octet-at (b ∷ l) (suc i) h = octet-at l i (right (ltb b 256) (are_bytes l) h)

pub octets-of : (l : List ℕ) → ((i : ℕ) → get_or l i 0 < 256) → are_bytes l ≡ true
octets-of [] h = refl
octets-of (b ∷ l) h = and-true (ltb b 256) (are_bytes l) (lt-ltb b 256 (h 0)) (octets-of l (λ i. h (suc i)))

pub are_bytes-append : (a b : List ℕ) → are_bytes a ≡ true → are_bytes b ≡ true → are_bytes (a ++ b) ≡ true
are_bytes-append [] b p q = q
are_bytes-append (x ∷ a) b p q = and-true (ltb x 256) (are_bytes (a ++ b)) (left (ltb x 256) (are_bytes a) p)
    (are_bytes-append a b (right (ltb x 256) (are_bytes a) p) q)

pub are_bytes-drop : (n : ℕ) (l : List ℕ) → are_bytes l ≡ true → are_bytes (drop n l) ≡ true
are_bytes-drop zero l p = p
are_bytes-drop (suc n) [] p = refl
are_bytes-drop (suc n) (x ∷ l) p = are_bytes-drop n l (right (ltb x 256) (are_bytes l) p)

pub are_bytes-take : (n : ℕ) (l : List ℕ) → are_bytes l ≡ true → are_bytes (take n l) ≡ true
are_bytes-take zero l p = refl
are_bytes-take (suc n) [] p = refl
are_bytes-take (suc n) (x ∷ l) p = and-true (ltb x 256) (are_bytes (take n l)) (left (ltb x 256) (are_bytes l) p)
    (are_bytes-take n l (right (ltb x 256) (are_bytes l) p))

-- ---- the octets of a number

pub length-octets : (n x : ℕ) → length (octets n x) ≡ n
unfolding octets
length-octets zero x = refl
length-octets (suc n) x = ap suc (length-octets n x)

pub octets-are_bytes : (n x : ℕ) → are_bytes (octets n x) ≡ true
unfolding octets
octets-are_bytes zero x = refl
octets-are_bytes (suc n) x =
    and-true (ltb (x / 256 ^ n % 256) 256) (are_bytes (octets n x)) (lt-ltb (x / 256 ^ n % 256) 256 (mod-lt (x / 256 ^ n) (lit< tt)))
    (octets-are_bytes n x)

-- Digits above the n octets are lost.
pub octets-high : (n q x : ℕ) → octets n (q * 256 ^ n + x) ≡ octets n x
unfolding octets
octets-high zero q x = refl
octets-high (suc n) q x =
    let e : q * 256 ^ suc n ≡ q * 256 * 256 ^ n = ap (λ (k : ℕ). q * k) (pow-succ' 256 n) ∙ sym (mul_assoc q 256 (256 ^ n)) in
    let d : (q * 256 ^ suc n + x) / 256 ^ n % 256 ≡ x / 256 ^ n % 256 =
    ap (λ (k : ℕ). (k + x) / 256 ^ n % 256) e ∙ ap (λ (k : ℕ). k % 256) (mul-add-div_right (pos n) (q * 256) x)
    ∙ mul-add-mod_self_right q 256 (x / 256 ^ n) in
    let t : octets n (q * 256 ^ suc n + x) ≡ octets n x = ap (λ (k : ℕ). octets n (k + x)) e ∙ octets-high n (q * 256) x in
    cc

pub octets-mod : (n x : ℕ) → octets n (x % 256 ^ n) ≡ octets n x
octets-mod n x = sym (octets-high n (x / 256 ^ n) (x % 256 ^ n)) ∙ ap (octets n) (div-add-mod' x (256 ^ n))

-- Two octets, of a number that has no more.
pub octets-two : (x : ℕ) → x < 256 ^ 2 → x / 256 ∷ (x % 256 ∷ []) ≡ octets 2 x
unfolding octets
octets-two x h =
    let q : x / 256 < 256 = (div-lt_iff_lt-mul {x = x} {y = 256} (lit< tt)).1 h in
    ap₂ (λ (a b : ℕ). a ∷ (b % 256 ∷ [])) (sym (mod-eq_of_lt q)) (sym (div-one x))

pub octets-split : (n m x : ℕ) → octets (n + m) x ≡ octets n (x / 256 ^ m) ++ octets m x
unfolding octets
octets-split zero m x = ap (λ (k : ℕ). octets k x) (zero-add m)
octets-split (suc n) m x =
    let d : x / 256 ^ (n + m) % 256 ≡ x / 256 ^ m / 256 ^ n % 256 =
    ap (λ (k : ℕ). x / 256 ^ k % 256) (add_comm n m) ∙ ap (λ (k : ℕ). x / k % 256) (pow-add 256 m n)
    ∙ ap (λ (k : ℕ). k % 256) (sym (div-div-eq-div-mul x (256 ^ m) (256 ^ n))) in
    let t : octets (n + m) x ≡ octets n (x / 256 ^ m) ++ octets m x = octets-split n m x in
    ap (λ (k : ℕ). octets k x) (suc-add n m) ∙ cc

-- ---- the number of octets

pub field-nil : (n : ℕ) → field n [] ≡ 0
unfolding field
field-nil zero = refl
field-nil (suc n) = refl

pub field_lt : (n : ℕ) (l : List ℕ) → are_bytes l ≡ true → field n l < 256 ^ n
unfolding field
field_lt zero l h = lit< tt
field_lt (suc n) [] h = pos (suc n)
field_lt (suc n) (b ∷ l) h =
    rw (pow-succ' 256 n) (digits_lt {q = b} {m = 256} (octet-at (b ∷ l) 0 h) (field_lt n l (right (ltb b 256) (are_bytes l) h)))

pub field-split : (n m : ℕ) (l : List ℕ) → field (n + m) l ≡ field n l * 256 ^ m + field m (drop n l)
unfolding field
field-split zero m l = ap (λ (k : ℕ). field k l) (zero-add m) ∙ omega arith
field-split (suc n) m [] = ap (λ (k : ℕ). field k []) (suc-add n m) ∙ omega (arith, field-nil m)
field-split (suc n) m (b ∷ l) =
    let p : 256 ^ (n + m) ≡ 256 ^ n * 256 ^ m = pow-add 256 n m in
    let q : b * 256 ^ (n + m) ≡ b * (256 ^ n * 256 ^ m) = ap (λ (k : ℕ). b * k) p in
    ap (λ (k : ℕ). field k (b ∷ l)) (suc-add n m) ∙ omega (arith, q, field-split n m l)

-- Octets that follow the n do not change the field.
pub field-take-le : (n m : ℕ) (l : List ℕ) → n ≤ m → field n (take m l) ≡ field n l
unfolding field
field-take-le zero m l h = refl
field-take-le (suc n) zero l h = absurd (not-suc-le-zero h)
field-take-le (suc n) (suc m) [] h = refl
field-take-le (suc n) (suc m) (b ∷ l) h = ap (λ (k : ℕ). b * 256 ^ n + k) (field-take-le n m l (le_of_suc-le-suc h))

pub field-append : (n : ℕ) (l r : List ℕ) → n ≤ length l → field n (l ++ r) ≡ field n l
unfolding field
field-append zero l r h = refl
field-append (suc n) [] r h = absurd (not-suc-le-zero h)
field-append (suc n) (b ∷ l) r h = ap (λ (k : ℕ). b * 256 ^ n + k) (field-append n l r (le_of_suc-le-suc h))

-- ---- a field at a place of a list

pub field_past : (n : ℕ) (l : List ℕ) (at : ℕ) → length l ≤ at → 0 ≡ field n (drop at l)
field_past n l at h = sym (ap (field n) (drop_of_length-le l h) ∙ field-nil n)

pub field-one : (l : List ℕ) (at : ℕ) → field 1 (drop at l) ≡ get_or l at 0
unfolding field
field-one [] zero = refl
field-one [] (suc at) = refl
field-one (b ∷ l) zero = omega arith
field-one (b ∷ l) (suc at) = field-one l at

-- ---- both round trips

pub field-octets-mod : (n x : ℕ) (rest : List ℕ) → field n (octets n x ++ rest) ≡ x % 256 ^ n
unfolding field octets
field-octets-mod zero x rest = sym (mod-one x)
field-octets-mod (suc n) x rest =
    ap (λ (k : ℕ). (x / 256 ^ n % 256) * 256 ^ n + k) (field-octets-mod n x rest)
    ∙ sym (mod-mul x {m = 256} (lit< tt) (pos n)) ∙ ap (λ (k : ℕ). x % k) (sym (pow-succ' 256 n))

pub field-octets : (n x : ℕ) (rest : List ℕ) → x < 256 ^ n → field n (octets n x ++ rest) ≡ x
field-octets n x rest h = field-octets-mod n x rest ∙ mod-eq_of_lt h

pub octets-field : (n : ℕ) (l : List ℕ) → are_bytes l ≡ true → n ≤ length l → octets n (field n l) ≡ take n l
unfolding field octets
octets-field zero l h k = refl
octets-field (suc n) [] h k = absurd (not-suc-le-zero k)
octets-field (suc n) (b ∷ l) h k =
    let hl : are_bytes l ≡ true = right (ltb b 256) (are_bytes l) h in
    let d : (b * 256 ^ n + field n l) / 256 ^ n % 256 ≡ b =
    ap (λ (y : ℕ). y % 256) (digits_div b (field_lt n l hl)) ∙ mod-eq_of_lt (octet-at (b ∷ l) 0 h) in
    let t : octets n (b * 256 ^ n + field n l) ≡ take n l = octets-high n b (field n l) ∙ octets-field n l hl (le_of_suc-le-suc k) in
    cc

-- ---- std's octets of a number, the most significant first

pub be_octets : (n x : ℕ) → bytes_high_first n x ≡ octets n x
unfolding octets
be_octets zero x = refl
be_octets (suc zero) x = ap (λ (k : ℕ). k % 256 ∷ []) (sym (div-one x))
be_octets (suc (suc n)) x = ap (λ (l : List ℕ). x / 256 ^ suc n % 256 ∷ l) (be_octets (suc n) x)

pub be_two : (l : List ℕ) (a b : ℕ) → a ≡ get_or l 0 0 → b ≡ get_or l 1 0 → from_be_bytes w16 (a ∷ b ∷ []) ≡ field 2 l
unfolding field
be_two [] a b p q = omega arith
be_two (x ∷ []) a b p q = omega arith
be_two (x ∷ y ∷ l) a b p q = omega arith

pub be_four : (l : List ℕ) (a b c d : ℕ) → a ≡ get_or l 0 0 → b ≡ get_or l 1 0 → c ≡ get_or l 2 0 → d ≡ get_or l 3 0
    → from_be_bytes w32 (a ∷ b ∷ c ∷ d ∷ []) ≡ field 4 l
unfolding field
be_four [] a b c d p q r s = omega arith
be_four (x ∷ []) a b c d p q r s = omega arith
be_four (x ∷ y ∷ []) a b c d p q r s = omega arith
be_four (x ∷ y ∷ z ∷ []) a b c d p q r s = omega arith
be_four (x ∷ y ∷ z ∷ w ∷ l) a b c d p q r s = omega arith

pub two_be : (x : ℕ) → octets 2 x ≡ to_be_bytes w16 x
two_be x = sym (be_octets 2 x)

pub four_be : (x : ℕ) → octets 4 x ≡ to_be_bytes w32 x
four_be x = sym (be_octets 4 x)
