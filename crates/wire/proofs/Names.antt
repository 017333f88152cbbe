-- Laws of names: reading one, the case of letters, two being the same name, one being at or below another.
use Prim.Native.Nat.{ℕ, zero, suc, ◌+◌, ◌-◌, ◌≤◌, ◌<◌}
use mathlib.Core.Path.{◌≡◌, refl, sym, ap, ap₂, ◌∙◌, subst}
use mathlib.Core.Bool.{Bool, true, false, cond, ◌&&◌, ◌||◌}
use mathlib.Core.List.{List, [], ◌∷◌, ◌++◌, append-nil, head-eq_of_cons-eq, tail-eq_of_cons-eq}
use Rattle.std.specs.Prelude.{Option, None, Some}
use native.Mathlib.Nat.{zero-add, add_assoc, suc_inj}
use native.Mathlib.Numerals.{one-add}
use native.Mathlib.Omega.{arith}
use lib.ListN.{length, take, drop, get_or, length-take, length-drop, length-map}
use lib.Seq.{take-take, take-length, take_all, take-append-add, drop-append_seam, length-take-le}
use lib.Dec.{leb, eqb}
use borrow.Author.Tests.{leb-true, leb-false, eqb-true, eqb-false, le-leb, lt-leb, eq-eqb, ne_eqb}
use Rattle.wire.specs.Name.{max_label, max_name, after, labels, name_length, holds, is_name, lower, lowered, same_octets, same_name, ends_in, within}
use Rattle.wire.specs.Reading.{name_at}

-- ---- octets passed one by one, and by labels

pub after-zero : (o : Option ℕ) → after 0 o ≡ o
after-zero None = refl
after-zero (Some n) = ap Some (zero-add n)

pub after-after : (j k : ℕ) (o : Option ℕ) → after j (after k o) ≡ after (j + k) o
after-after j k None = refl
after-after j k (Some n) = ap Some (sym (add_assoc j k n))

pub labels-drop : (k : ℕ) (l : List ℕ) → labels k l ≡ after k (labels 0 (drop k l))
unfolding labels
labels-drop zero l = sym (after-zero (labels 0 l))
labels-drop (suc k) [] = refl
labels-drop (suc k) (b ∷ l) = ap (after 1) (labels-drop k l) ∙ after-after 1 k (labels 0 (drop k l))
    ∙ ap (λ (n : ℕ). after n (labels 0 (drop k l))) (one-add k)

-- What a reading that finds a name has passed: the rest of a label, whole labels, the zero octet.
pub data Reads : ℕ → List ℕ → ℕ → Type 0 where
  ends : {l : List ℕ} → Reads 0 (0 ∷ l) 1
  passes : {k b n : ℕ} {l : List ℕ} → Reads k l n → Reads (suc k) (b ∷ l) (suc n)
  begins : {b n : ℕ} {l : List ℕ} → 0 < b → b ≤ max_label → Reads b l n → Reads 0 (b ∷ l) (suc n)

one_more : (k n : ℕ) → Some (1 + k) ≡ Some n → suc k ≡ n
one_more k n e = sym (one-add k) ∙ cc

module _ (b : ℕ) (l : List ℕ) (n : ℕ) where
  passed : (k j : ℕ) → ((m : ℕ) → Reads k l m → Reads j (b ∷ l) (suc m)) → (o : Option ℕ) → ((m : ℕ) → o ≡ Some m → Reads k l m)
      → after 1 o ≡ Some n → Reads j (b ∷ l) n
  passed k j step None ih h = let z : ◌≡◌ {A = ℕ} 0 1 = cc in absurd (omega arith)
  passed k j step (Some m) ih h = subst (λ (i : ℕ). Reads j (b ∷ l) i) (one_more m n h) (step m (ih m refl))

  short : (o : Option ℕ) → ((m : ℕ) → o ≡ Some m → Reads b l m) → 0 < b → (t : Bool) → leb b max_label ≡ t
      → cond t (after 1 o) None ≡ Some n → Reads 0 (b ∷ l) n
  short o ih p true q h = passed b 0 (λ m r. begins p (leb-true b max_label q) r) o ih h
  short o ih p false q h = let z : ◌≡◌ {A = ℕ} 0 1 = cc in absurd (omega arith)

  begun : (o : Option ℕ) → ((m : ℕ) → o ≡ Some m → Reads b l m) → (t : Bool) → eqb b 0 ≡ t
      → cond t (Some 1) (cond (leb b max_label) (after 1 o) None) ≡ Some n → Reads 0 (b ∷ l) n
  begun o ih true q h =
      let e : 1 ≡ n = cc in
      subst (λ (j : ℕ). Reads 0 (b ∷ l) j) e (subst (λ (c : ℕ). Reads 0 (c ∷ l) 1) (sym (eqb-true b 0 q)) ends)
  begun o ih false q h = short o ih (omega (arith, eqb-false b 0 q)) (leb b max_label) refl h

pub reads : (k : ℕ) (l : List ℕ) (n : ℕ) → labels k l ≡ Some n → Reads k l n
unfolding labels
reads k [] n h = let z : ◌≡◌ {A = ℕ} 0 1 = cc in absurd (omega arith)
reads (suc k) (b ∷ l) n h = passed b l n k (suc k) (λ m r. passes r) (labels k l) (λ m e. reads k l m e) h
reads zero (b ∷ l) n h = begun b l n (labels b l) (λ m e. reads b l m e) (eqb b 0) refl h

pub labels-of : {k n : ℕ} {l : List ℕ} → Reads k l n → labels k l ≡ Some n
unfolding labels
labels-of ends = refl
labels-of (passes {n = n} r) = ap (after 1) (labels-of r) ∙ ap Some (one-add n)
labels-of (begins {b} {n} {l} p q r) =
    ap (λ (t : Bool). cond t (Some 1) (cond (leb b max_label) (after 1 (labels b l)) None)) (ne_eqb b 0 (λ e. omega arith))
    ∙ ap (λ (t : Bool). cond t (after 1 (labels b l)) None) (le-leb b max_label q)
    ∙ ap (after 1) (labels-of r) ∙ ap Some (one-add n)

pub reads-bounds : {k n : ℕ} {l : List ℕ} → Reads k l n → (k < n) × (n ≤ length l)
reads-bounds ends = (omega arith, omega arith)
reads-bounds (passes r) = let h = reads-bounds r in (omega arith, omega arith)
reads-bounds (begins p q r) = let h = reads-bounds r in (omega arith, omega arith)

-- What follows the octets that were read does not change the reading.
pub reads-front : {k n : ℕ} {l : List ℕ} → Reads k l n → (r : List ℕ) → Reads k (take n l ++ r) n
reads-front ends r = ends
reads-front (passes h) r = passes (reads-front h r)
reads-front (begins p q h) r = begins p q (reads-front h r)

-- ---- the name at the front of a list

pub name_length-reads : (l : List ℕ) (n : ℕ) → name_length l ≡ Some n → Reads 0 (take max_name l) n
unfolding name_length
name_length-reads l n h = reads 0 (take max_name l) n h

pub name_length-pos : (l : List ℕ) (n : ℕ) → name_length l ≡ Some n → 1 ≤ n
name_length-pos l n h = (reads-bounds (name_length-reads l n h)).0

pub name_length-max : (l : List ℕ) (n : ℕ) → name_length l ≡ Some n → n ≤ max_name
name_length-max l n h = omega (arith, (reads-bounds (name_length-reads l n h)).1, length-take max_name l)

pub name_length-le : (l : List ℕ) (n : ℕ) → name_length l ≡ Some n → n ≤ length l
name_length-le l n h = omega (arith, (reads-bounds (name_length-reads l n h)).1, length-take max_name l)

-- What follows a name does not change its reading.
pub name_length-front : (l : List ℕ) (n : ℕ) (r : List ℕ) → name_length l ≡ Some n → name_length (take n l ++ r) ≡ Some n
unfolding name_length
name_length-front l n r h =
    let m : n ≤ max_name = name_length-max l n h in
    let e : length (take n l) ≡ n = length-take-le n l (name_length-le l n h) in
    let s : length (take n l) + (max_name - n) ≡ max_name = omega arith in
    ap (labels 0) (ap (λ (k : ℕ). take k (take n l ++ r)) (sym s) ∙ take-append-add (take n l) r (max_name - n)
    ∙ ap (λ (k : List ℕ). k ++ take (max_name - n) r) (sym (take-take n max_name l m)))
    ∙ labels-of (reads-front (name_length-reads l n h) (take (max_name - n) r))

pub name_length-take : (l : List ℕ) (n : ℕ) → name_length l ≡ Some n → name_length (take n l) ≡ Some n
name_length-take l n h = ap name_length (sym (append-nil (take n l))) ∙ name_length-front l n [] h

-- ---- a whole name

holds-some : (o : Option ℕ) (n : ℕ) → holds o n ≡ true → o ≡ Some n
holds-some None n h = let z : ◌≡◌ {A = ℕ} 0 1 = cc in absurd (omega arith)
holds-some (Some m) n h = ap Some (eqb-true m n h)

pub is_name-length : (a : List ℕ) → is_name a ≡ true → name_length a ≡ Some (length a)
unfolding is_name
is_name-length a h = holds-some (name_length a) (length a) h

pub is_name-of : (a : List ℕ) → name_length a ≡ Some (length a) → is_name a ≡ true
unfolding is_name
is_name-of a h = ap (λ (o : Option ℕ). holds o (length a)) h ∙ eq-eqb (length a) (length a) refl

pub is_name-take : (l : List ℕ) (n : ℕ) → name_length l ≡ Some n → is_name (take n l) ≡ true
is_name-take l n h =
    is_name-of (take n l) (name_length-take l n h ∙ ap Some (sym (length-take-le n l (name_length-le l n h))))

pub name_length-append : (a r : List ℕ) → is_name a ≡ true → name_length (a ++ r) ≡ Some (length a)
name_length-append a r h =
    ap (λ (k : List ℕ). name_length (k ++ r)) (sym (take-length a)) ∙ name_length-front a (length a) r (is_name-length a h)

pub is_name-pos : (a : List ℕ) → is_name a ≡ true → 1 ≤ length a
is_name-pos a h = name_length-pos a (length a) (is_name-length a h)

pub is_name-max : (a : List ℕ) → is_name a ≡ true → length a ≤ max_name
is_name-max a h = name_length-max a (length a) (is_name-length a h)

-- ---- what reading answers, wherever the octets stand

pub name_at-name : (r : Option ℕ) (s : List ℕ) (at n : ℕ) → r ≡ name_at s at → r ≡ Some n → name_length (drop at s) ≡ Some n
name_at-name r s at n h e = sym h ∙ e

pub name_at-none : (r : Option ℕ) (s : List ℕ) (at : ℕ) → r ≡ name_at s at → r ≡ None → name_length (drop at s) ≡ None
name_at-none r s at h e = sym h ∙ e

-- What was read lies within the list, and is a name by itself.
pub name_at-fits : (s : List ℕ) (at n : ℕ) → name_length (drop at s) ≡ Some n → at + n ≤ length s
name_at-fits s at n h =
    omega (arith, name_length-pos (drop at s) n h, name_length-le (drop at s) n h, length-drop at s)

pub name_at-some : (s : List ℕ) (at n : ℕ) → name_length (drop at s) ≡ Some n → name_at s at ≡ Some n
name_at-some s at n h = h

pub name_at-append : (x s : List ℕ) → name_at (x ++ s) (length x) ≡ name_at s 0
name_at-append x s = ap name_length (drop-append_seam x s)

pub name_length-drop-append : (x s : List ℕ) → name_length (drop (length x) (x ++ s)) ≡ name_length s
name_length-drop-append x s = ap name_length (drop-append_seam x s)

-- ---- the case of letters

pub lower-letter : (b : ℕ) → 65 ≤ b → b ≤ 90 → lower b ≡ b + 32
unfolding lower
lower-letter b p q = ap₂ (λ (s t : Bool). cond (s && t) (b + 32) b) (le-leb 65 b p) (le-leb b 90 q)

pub lower-below : (b : ℕ) → b < 65 → lower b ≡ b
unfolding lower
lower-below b p = ap (λ (s : Bool). cond (s && leb b 90) (b + 32) b) (lt-leb 65 b p)

pub lower-above : (b : ℕ) → 90 < b → lower b ≡ b
unfolding lower
lower-above b p = other (leb 65 b) (leb b 90) (lt-leb b 90 p)
  where
    other : (s t : Bool) → t ≡ false → cond (s && t) (b + 32) b ≡ b
    other true t e = ap (λ (u : Bool). cond u (b + 32) b) e
    other false t e = refl

-- A fact of every lowered octet, from the three ranges.
pub lower-cases : (P : ℕ → Type 0) (b : ℕ) → (b < 65 → P b) → (65 ≤ b → b ≤ 90 → P (b + 32)) → (90 < b → P b) → P (lower b)
lower-cases P b p q r = go (leb 65 b) refl (leb b 90) refl
  where
    go : (s : Bool) → leb 65 b ≡ s → (t : Bool) → leb b 90 ≡ t → P (lower b)
    go false e t f = let h : b < 65 = leb-false 65 b e in subst P (sym (lower-below b h)) (p h)
    go true e true f =
        let h : 65 ≤ b = leb-true 65 b e in let k : b ≤ 90 = leb-true b 90 f in subst P (sym (lower-letter b h k)) (q h k)
    go true e false f = let h : 90 < b = leb-false b 90 f in subst P (sym (lower-above b h)) (r h)

pub lower-lower : (b : ℕ) → lower (lower b) ≡ lower b
lower-lower b =
    lower-cases (λ (c : ℕ). lower c ≡ c) b (λ h. lower-below b h) (λ h k. lower-above (b + 32) (omega arith)) (λ h. lower-above b h)

pub lower-octet : (b : ℕ) → b < 256 → lower b < 256
lower-octet b h = lower-cases (λ (c : ℕ). c < 256) b (λ p. omega arith) (λ p q. omega arith) (λ p. omega arith)

-- Below the letters nothing is folded together, and nothing is moved there.
pub lower-low : (b c : ℕ) → b < 65 → lower c ≡ b → c ≡ b
lower-low b c h =
    lower-cases (λ (d : ℕ). d ≡ b → c ≡ b) c (λ p e. e) (λ p q e. omega arith) (λ p e. e)

pub lowered-lowered : (a : List ℕ) → lowered (lowered a) ≡ lowered a
lowered-lowered [] = refl
lowered-lowered (b ∷ a) = ap₂ (λ (c : ℕ) (l : List ℕ). c ∷ l) (lower-lower b) (lowered-lowered a)

pub lowered-at : (a : List ℕ) (i : ℕ) → get_or (lowered a) i 0 ≡ lower (get_or a i 0)
unfolding lower
lowered-at [] i = refl
lowered-at (b ∷ a) zero = refl
lowered-at (b ∷ a) (suc i) = lowered-at a i

pub lowered-append : (a b : List ℕ) → lowered (a ++ b) ≡ lowered a ++ lowered b
lowered-append [] b = refl
lowered-append (x ∷ a) b = ap (λ (l : List ℕ). lower x ∷ l) (lowered-append a b)

pub lowered-take : (n : ℕ) (l : List ℕ) → lowered (take n l) ≡ take n (lowered l)
lowered-take zero l = refl
lowered-take (suc n) [] = refl
lowered-take (suc n) (x ∷ l) = ap (λ (k : List ℕ). lower x ∷ k) (lowered-take n l)

pub lowered-drop : (n : ℕ) (l : List ℕ) → lowered (drop n l) ≡ drop n (lowered l)
lowered-drop zero l = refl
lowered-drop (suc n) [] = refl
lowered-drop (suc n) (x ∷ l) = lowered-drop n l

-- A length octet is below the letters, so case does not change a reading.
pub labels-lowered : (k : ℕ) (l : List ℕ) → labels k (lowered l) ≡ labels k l
unfolding labels
labels-lowered k [] = refl
labels-lowered (suc k) (b ∷ l) = ap (after 1) (labels-lowered k l)
labels-lowered zero (b ∷ l) =
    lower-cases (λ (c : ℕ). labels 0 (c ∷ lowered l) ≡ labels 0 (b ∷ l)) b (λ h. same b (labels-lowered b l))
    (λ h k. over (b + 32) (lowered l) (omega arith) ∙ sym (over b l (omega arith))) (λ h. same b (labels-lowered b l))
  where
    same : (c : ℕ) → labels c (lowered l) ≡ labels c l → labels 0 (c ∷ lowered l) ≡ labels 0 (c ∷ l)
    same c e = ap (λ (o : Option ℕ). cond (eqb c 0) (Some 1) (cond (leb c max_label) (after 1 o) None)) e

    over : (c : ℕ) (r : List ℕ) → max_label < c → labels 0 (c ∷ r) ≡ None
    over c r h =
        ap₂ (λ (s t : Bool). cond s (Some 1) (cond t (after 1 (labels c r)) None)) (ne_eqb c 0 (λ e. omega arith)) (lt-leb c max_label h)

pub name_length-lowered : (a : List ℕ) → name_length (lowered a) ≡ name_length a
unfolding name_length
name_length-lowered a = ap (labels 0) (sym (lowered-take max_name a)) ∙ labels-lowered 0 (take max_name a)

pub name_length-case : (a b : List ℕ) → lowered a ≡ lowered b → name_length a ≡ name_length b
name_length-case a b e = sym (name_length-lowered a) ∙ ap name_length e ∙ name_length-lowered b

pub length-case : (a b : List ℕ) → lowered a ≡ lowered b → length a ≡ length b
length-case a b e = sym (length-map a lower) ∙ ap length e ∙ length-map b lower

pub is_name-case : (a b : List ℕ) → lowered a ≡ lowered b → is_name a ≡ is_name b
unfolding is_name
is_name-case a b e = ap₂ holds (name_length-case a b e) (length-case a b e)

pub is_name-lowered : (a : List ℕ) → is_name (lowered a) ≡ is_name a
is_name-lowered a = is_name-case (lowered a) a (lowered-lowered a)

-- ---- equal octets, the same name

pub same_octets-true : (a b : List ℕ) → same_octets a b ≡ true → a ≡ b
unfolding same_octets
same_octets-true [] [] h = refl
same_octets-true [] (y ∷ b) h = let z : ◌≡◌ {A = ℕ} 0 1 = cc in absurd (omega arith)
same_octets-true (x ∷ a) [] h = let z : ◌≡◌ {A = ℕ} 0 1 = cc in absurd (omega arith)
same_octets-true (x ∷ a) (y ∷ b) h = both (eqb x y) refl (λ k. same_octets-true a b k) h
  where
    both : (t : Bool) → eqb x y ≡ t → (same_octets a b ≡ true → a ≡ b) → t && same_octets a b ≡ true → x ∷ a ≡ y ∷ b
    both true e ih h = ap₂ (λ (c : ℕ) (l : List ℕ). c ∷ l) (eqb-true x y e) (ih h)
    both false e ih h = let z : ◌≡◌ {A = ℕ} 0 1 = cc in absurd (omega arith)

pub same_octets-refl : (a : List ℕ) → same_octets a a ≡ true
unfolding same_octets
same_octets-refl [] = refl
same_octets-refl (x ∷ a) = ap (λ (t : Bool). t && same_octets a a) (eq-eqb x x refl) ∙ same_octets-refl a

pub same_octets-of : (a b : List ℕ) → a ≡ b → same_octets a b ≡ true
same_octets-of a b e = ap (same_octets a) (sym e) ∙ same_octets-refl a

pub same_name-true : (a b : List ℕ) → same_name a b ≡ true → lowered a ≡ lowered b
unfolding same_name
same_name-true a b h = same_octets-true (lowered a) (lowered b) h

pub same_name-of : (a b : List ℕ) → lowered a ≡ lowered b → same_name a b ≡ true
unfolding same_name
same_name-of a b e = same_octets-of (lowered a) (lowered b) e

pub same_name-refl : (a : List ℕ) → same_name a a ≡ true
same_name-refl a = same_name-of a a refl

pub same_name-sym : (a b : List ℕ) → same_name a b ≡ true → same_name b a ≡ true
same_name-sym a b h = same_name-of b a (sym (same_name-true a b h))

pub same_name-trans : (a b c : List ℕ) → same_name a b ≡ true → same_name b c ≡ true → same_name a c ≡ true
same_name-trans a b c h k = same_name-of a c (same_name-true a b h ∙ same_name-true b c k)

pub same_name-length : (a b : List ℕ) → same_name a b ≡ true → length a ≡ length b
same_name-length a b h = length-case a b (same_name-true a b h)

pub same_name-lowered : (a : List ℕ) → same_name a (lowered a) ≡ true
same_name-lowered a = same_name-of a (lowered a) (sym (lowered-lowered a))

pub same_name-is_name : (a b : List ℕ) → same_name a b ≡ true → is_name a ≡ is_name b
same_name-is_name a b h = is_name-case a b (same_name-true a b h)

-- The test depends on the lowered names alone.
pub same_name-case : (a b c d : List ℕ) → lowered a ≡ lowered b → lowered c ≡ lowered d → same_name a c ≡ same_name b d
unfolding same_name
same_name-case a b c d e f = ap₂ same_octets e f

pub same_name-comm : (a b : List ℕ) → same_name a b ≡ same_name b a
same_name-comm a b = both (same_name a b) refl (same_name b a) refl
  where
    both : (s : Bool) → same_name a b ≡ s → (t : Bool) → same_name b a ≡ t → same_name a b ≡ same_name b a
    both true p true q = cc
    both false p false q = cc
    both true p false q = let z : true ≡ false = sym (same_name-sym a b p) ∙ q in cc
    both false p true q = let z : true ≡ false = sym (same_name-sym b a q) ∙ p in cc

-- ---- at or below a zone

pub ends_in-drop : (z : List ℕ) (k : ℕ) (l : List ℕ) → ends_in z k l ≡ ends_in z 0 (drop k l)
unfolding ends_in
ends_in-drop z zero l = refl
ends_in-drop z (suc k) [] = refl
ends_in-drop z (suc k) (b ∷ l) = ends_in-drop z k l

pub ends_in-zone : (y z : List ℕ) (k : ℕ) (l : List ℕ) → lowered y ≡ lowered z → ends_in y k l ≡ ends_in z k l
unfolding ends_in
ends_in-zone y z k [] e = refl
ends_in-zone y z (suc k) (b ∷ l) e = ends_in-zone y z k l e
ends_in-zone y z zero (b ∷ l) e = ap₂ ◌||◌ (same_name-case y z (b ∷ l) (b ∷ l) e refl) (ends_in-zone y z b l e)

pub within-zone : (y z a : List ℕ) → same_name y z ≡ true → within y a ≡ within z a
unfolding within
within-zone y z a h = ends_in-zone y z 0 a (same_name-true y z h)

-- A reading that takes all octets passes the same places in every spelling.
ends_in-reads : (z : List ℕ) {k n : ℕ} {a : List ℕ} → Reads k a n → n ≡ length a → (b : List ℕ) → lowered a ≡ lowered b
    → ends_in z k a ≡ ends_in z k b
unfolding ends_in
ends_in-reads z (ends {l = []}) h (y ∷ []) e =
    ap (λ (t : Bool). t || false) (same_name-case z z (0 ∷ []) (y ∷ []) refl e)
ends_in-reads z (ends {l = x ∷ l}) h b e = absurd (omega arith)
ends_in-reads z (ends {l = []}) h [] e = let w : ◌≡◌ {A = ℕ} 0 1 = cc in absurd (omega arith)
ends_in-reads z (ends {l = []}) h (y ∷ w ∷ b) e = let w : ◌≡◌ {A = ℕ} 0 1 = cc in absurd (omega arith)
ends_in-reads z (passes r) h [] e = let w : ◌≡◌ {A = ℕ} 0 1 = cc in absurd (omega arith)
ends_in-reads z (passes r) h (y ∷ b) e = ends_in-reads z r (suc_inj h) b (tail-eq_of_cons-eq e)
ends_in-reads z (begins p q r) h [] e = let w : ◌≡◌ {A = ℕ} 0 1 = cc in absurd (omega arith)
ends_in-reads z (begins {b = c} {l = l} p q r) h (y ∷ b) e =
    let f : lower c ≡ c = lower-below c (omega arith) in
    let g : y ≡ c = lower-low c y (omega arith) (sym (head-eq_of_cons-eq e) ∙ f) in
    ap₂ ◌||◌ (same_name-case z z (c ∷ l) (y ∷ b) refl e)
    (ends_in-reads z r (suc_inj h) b (tail-eq_of_cons-eq e) ∙ ap (λ (j : ℕ). ends_in z j b) (sym g))

pub within-name : (z a b : List ℕ) → is_name a ≡ true → same_name a b ≡ true → within z a ≡ within z b
unfolding within
within-name z a b h k =
    let m : length a ≤ max_name = is_name-max a h in
    let r : Reads 0 (take max_name a) (length a) = name_length-reads a (length a) (is_name-length a h) in
    ends_in-reads z (subst (λ (l : List ℕ). Reads 0 l (length a)) (take_all max_name a m) r) refl b (same_name-true a b k)

pub within-lowered : (z a : List ℕ) → is_name a ≡ true → within z (lowered a) ≡ within z a
within-lowered z a h = sym (within-name z a (lowered a) h (same_name-lowered a))

pub within-self : (z : List ℕ) → is_name z ≡ true → within z z ≡ true
unfolding within ends_in
within-self [] h = let w : 1 ≤ 0 = is_name-pos [] h in absurd (omega arith)
within-self (b ∷ z) h = ap (λ (t : Bool). t || ends_in (b ∷ z) b z) (same_name-refl (b ∷ z))
