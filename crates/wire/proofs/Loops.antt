-- How the loops over names go: what a turn and an end say of the whole, from what is left to be looked at.
use Prim.Native.Nat.{ℕ, zero, suc, ◌+◌, ◌-◌, ◌%◌, ◌≤◌, ◌<◌}
use mathlib.Core.Path.{◌≡◌, refl, sym, ap, ap₂, ◌∙◌}
use mathlib.Core.Bool.{Bool, true, false, cond, ◌&&◌, ◌||◌}
use mathlib.Core.List.{List, [], ◌∷◌, map}
use Rattle.std.specs.Prelude.{Option, None, Some}
use native.Mathlib.Omega.{arith}
use lib.ListN.{length, take, drop, get_or, length-map, drop_of_length-le}
use lib.Seq.{drop-cons, drop-drop}
use Rattle.std.proofs.lemmas.List.{drop-map, get_or-map, map-id, take-map, take_min}
use Rattle.std.proofs.Common.{min}
use lib.Dec.{eqb}
use borrow.Author.Tests.{le-leb, lt-leb, ne_eqb}
use Rattle.wire.specs.Name.{max_label, max_name, after, labels, name_length, lower, lowered, same_octets, same_name, ends_in, within}
use Rattle.wire.specs.Case.{caseless}
use Rattle.wire.specs.Reading.{name_at}
use Rattle.wire.proofs.Names.{after-zero, after-after, labels-drop, lower-cases, same_octets-true, same_octets-of, same_name-length, ends_in-drop}
use Rattle.wire.proofs.Writes.{drop-slice}

true-false : (t : Bool) → (t ≡ true → ⊥) → false ≡ t
true-false true h = absurd (h refl)
true-false false h = refl

-- ---- reading a name

-- i octets are passed, whole labels all of them.
pub record Read (front : List ℕ) (i : ℕ) : Type 0 where
  pub rest : labels 0 front ≡ after i (labels 0 (drop i front))

pub read_none : (front : List ℕ) → Read front 0
read_none front = record { rest = sym (after-zero (labels 0 front)) }

-- At most so many octets are looked at.
pub name_length-of : (s : List ℕ) (m : ℕ) (r : Option ℕ) → m ≡ min (length s) 255 → r ≡ labels 0 (take m s) → r ≡ name_length s
unfolding name_length
name_length-of s m r h e =
    let n : m ≡ min max_name (length s) = omega arith in
    e ∙ ap (labels 0) (ap (λ (k : ℕ). take k s) n ∙ take_min max_name s)

pub read_end : (front : List ℕ) (i : ℕ) → Read front i → length front ≤ i → None ≡ labels 0 front
unfolding labels
read_end front i r h = sym (r.rest ∙ ap (λ (l : List ℕ). after i (labels 0 l)) (drop_of_length-le front h))

module _ (front : List ℕ) (i : ℕ) (r : Read front i) (b : ℕ) (h : i < length front) (q : b ≡ get_or front i b) where
  -- The octet that is next, and what lies behind it.
  next : drop i front ≡ b ∷ drop (suc i) front
  next = drop-cons front i b h ∙ ap (λ (c : ℕ). c ∷ drop (suc i) front) (sym q)

  pub read-zero : b ≡ 0 → Some (i + 1) ≡ labels 0 front
  unfolding labels
  read-zero e = sym (r.rest ∙ ap (λ (l : List ℕ). after i (labels 0 l)) (next ∙ ap (λ (c : ℕ). c ∷ drop (suc i) front) e))

  pub read-over : max_label < b → None ≡ labels 0 front
  unfolding labels
  read-over e =
      let t : List ℕ = drop (suc i) front in
      sym (r.rest ∙ ap (λ (l : List ℕ). after i (labels 0 l)) next
      ∙ ap₂ (λ (x y : Bool). after i (cond x (Some 1) (cond y (after 1 (labels b t)) None))) (ne_eqb b 0 (λ z. omega arith)) (lt-leb b max_label e))

  pub read-label : (b ≡ 0 → ⊥) → b ≤ max_label → Read front (i + (b + 1))
  unfolding labels
  read-label e f =
      let n : i + (1 + b) ≡ i + (b + 1) = omega arith in
      let m : suc i + b ≡ i + (b + 1) = omega arith in
      record {
        rest = r.rest ∙ ap (λ (l : List ℕ). after i (labels 0 l)) next
            ∙ ap₂ (λ (x y : Bool). after i (cond x (Some 1) (cond y (after 1 (labels b (drop (suc i) front))) None))) (ne_eqb b 0 e) (le-leb b max_label f)
            ∙ ap (λ (o : Option ℕ). after i (after 1 o)) (labels-drop b (drop (suc i) front) ∙ ap (λ (l : List ℕ). after b (labels 0 l)) (drop-drop b (suc i) front ∙ ap (λ (j : ℕ). drop j front) m))
            ∙ ap (after i) (after-after 1 b (labels 0 (drop (i + (b + 1)) front))) ∙ after-after i (1 + b) (labels 0 (drop (i + (b + 1)) front))
            ∙ ap (λ (j : ℕ). after j (labels 0 (drop (i + (b + 1)) front))) n;
      }

pub name_at_past : (s : List ℕ) (at : ℕ) → length s ≤ at → None ≡ name_at s at
unfolding name_length labels
name_at_past s at h = sym (ap (λ (l : List ℕ). labels 0 (take max_name l)) (drop_of_length-le s h))

-- ---- octets side by side

and-and : (x y z : Bool) → x && (y && z) ≡ x && y && z
and-and true y z = refl
and-and false y z = refl

and-true : (x : Bool) → x && true ≡ x
and-true true = refl
and-true false = refl

-- Two lists are equal where their fronts are and what lies behind is.
same_octets-parts : (n : ℕ) (x y : List ℕ) → same_octets x y ≡ same_octets (take n x) (take n y) && same_octets (drop n x) (drop n y)
unfolding same_octets
same_octets-parts zero x y = refl
same_octets-parts (suc n) [] [] = refl
same_octets-parts (suc n) [] (b ∷ y) = refl
same_octets-parts (suc n) (a ∷ x) [] = refl
same_octets-parts (suc n) (a ∷ x) (b ∷ y) =
    ap (λ (t : Bool). eqb a b && t) (same_octets-parts n x y)
    ∙ and-and (eqb a b) (same_octets (take n x) (take n y)) (same_octets (drop n x) (drop n y))

-- i octets are passed, and `same` says whether they were equal.
pub record Compared (x y : List ℕ) (same : Bool) (i : ℕ) : Type 0 where
  pub long : length x ≡ length y
  pub whole : same_octets x y ≡ same && same_octets (drop i x) (drop i y)

pub compared-none : (x y : List ℕ) → length x ≡ length y → Compared x y true 0
compared-none x y h = record { long = h; whole = refl }

module _ (x y : List ℕ) (same : Bool) (i : ℕ) (r : Compared x y same i) where
  passed-part : (w : ℕ) (t : Bool) → t ≡ same_octets (take w (drop i x)) (take w (drop i y)) → Compared x y (same && t) (i + w)
  passed-part w t e = record {
    long = r.long;
    whole = r.whole ∙ ap (λ (u : Bool). same && u) (same_octets-parts w (drop i x) (drop i y))
        ∙ ap (λ (u : Bool). same && (u && same_octets (drop w (drop i x)) (drop w (drop i y)))) (sym e)
        ∙ ap₂ (λ (v u : List ℕ). same && (t && same_octets v u)) (drop-drop w i x) (drop-drop w i y)
        ∙ and-and same t (same_octets (drop (i + w) x) (drop (i + w) y));
  }

  -- A part of one octet.
  pub compared-octet : (u v : ℕ) → u ≡ get_or x i 0 → v ≡ get_or y i 0 → i < length x → Compared x y (same && eqb u v) (i + 1)
  unfolding same_octets
  compared-octet u v eu ev h =
      let k : i < length y = omega (arith, r.long) in
      passed-part 1 (eqb u v)
      (sym (ap₂ (λ (l m : List ℕ). same_octets (take 1 l) (take 1 m)) (drop-cons x i 0 h) (drop-cons y i 0 k)
      ∙ and-true (eqb (get_or x i 0) (get_or y i 0)) ∙ ap₂ eqb (sym eu) (sym ev)))

  pub compared-end : length x ≤ i → same ≡ same_octets x y
  unfolding same_octets
  compared-end h =
      let k : length y ≤ i = omega (arith, r.long) in
      sym (r.whole ∙ ap₂ (λ (l m : List ℕ). same && same_octets l m) (drop_of_length-le x h) (drop_of_length-le y k) ∙ and-true same)

each-other : (s t a b : Bool) → s ≡ a && t → t ≡ b && s → t ≡ s
each-other true true a b p q = refl
each-other false false a b p q = refl
each-other true false true b p q = sym p
each-other true false false b p q = sym p
each-other false true a true p q = q
each-other false true a false p q = q

-- A part of w octets, as the code lends it.
module _ (x y : List ℕ) (i : ℕ) (r : Compared x y true i) where
  lent-part : (w : ℕ) (t : Bool) → t ≡ same_octets (take (i + w - i) (drop i x)) (take (i + w - i) (drop i y)) → Compared x y t (i + w)
  lent-part w t e =
      let n : i + w - i ≡ w = omega arith in
      passed-part x y true i r w t (e ∙ ap (λ (k : ℕ). same_octets (take k (drop i x)) (take k (drop i y))) n)

  pub same-lent : (w : ℕ) → true ≡ same_octets (take (i + w - i) (drop i x)) (take (i + w - i) (drop i y)) → Compared x y true (i + w)
  same-lent w e = lent-part w true e

  pub unlike-lent : (w : ℕ) → false ≡ same_octets (take (i + w - i) (drop i x)) (take (i + w - i) (drop i y)) → false ≡ same_octets x y
  unlike-lent w e = sym (lent-part w false e).whole

  -- The last part begins among the octets that are passed, or right behind them.
  pub last-part : (at : ℕ) (t : Bool) → t ≡ same_octets (drop at x) (drop at y) → at ≤ i → t ≡ same_octets x y
  last-part at t e h =
      let k : at + (i - at) ≡ i = omega arith in
      let d : (l : List ℕ) → drop (i - at) (drop at l) ≡ drop i l = λ l. drop-drop (i - at) at l ∙ ap (λ (n : ℕ). drop n l) k in
      let f : Bool = same_octets (take at x) (take at y) in
      let g : Bool = same_octets (take (i - at) (drop at x)) (take (i - at) (drop at y)) in
      each-other (same_octets x y) t f g
      (same_octets-parts at x y ∙ ap (λ (u : Bool). f && u) (sym e))
      (e ∙ same_octets-parts (i - at) (drop at x) (drop at y) ∙ ap (λ (u : Bool). g && u) (ap₂ same_octets (d x) (d y) ∙ sym r.whole))

pub unlike_length : (x y : List ℕ) → (length x ≡ length y → ⊥) → false ≡ same_octets x y
unlike_length x y h = true-false (same_octets x y) (λ e. h (ap length (same_octets-true x y e)))

-- ---- what octets are mapped to, side by side

module _ (f : ℕ → ℕ) (a b : List ℕ) where
  pub mapped-none : length a ≡ length b → Compared (map f a) (map f b) true 0
  mapped-none h = compared-none (map f a) (map f b) (length-map a f ∙ h ∙ sym (length-map b f))

  module _ (same : Bool) (i : ℕ) (r : Compared (map f a) (map f b) same i) where
    -- The octets of both that are next, as f sees them.
    pub mapped-octet : (u v : ℕ) → u ≡ f (get_or a i 0) → v ≡ f (get_or b i 0) → i < length a → i < length b
        → Compared (map f a) (map f b) (same && eqb u v) (i + 1)
    mapped-octet u v eu ev h k =
        compared-octet (map f a) (map f b) same i r u v (eu ∙ sym (get_or-map f a i 0 0 h)) (ev ∙ sym (get_or-map f b i 0 0 k)) (omega (arith, length-map a f))

    pub mapped_end : length a ≤ i → same ≡ same_octets (map f a) (map f b)
    mapped_end h = compared-end (map f a) (map f b) same i r (omega (arith, length-map a f))

  -- Parts of both, as the code lends them.
  pub mapped-slice : (i n : ℕ) (t : Bool) → t ≡ same_octets (map f (take n (drop i a))) (map f (take n (drop i b)))
      → t ≡ same_octets (take n (drop i (map f a))) (take n (drop i (map f b)))
  mapped-slice i n t e = e ∙ ap₂ same_octets (part-mapped a) (part-mapped b)
    where
      part-mapped : (l : List ℕ) → map f (take n (drop i l)) ≡ take n (drop i (map f l))
      part-mapped l = sym (take-map f n (drop i l)) ∙ ap (take n) (sym (drop-map f i l))

  pub mapped-rest : (at : ℕ) (t : Bool) → t ≡ same_octets (map f (take (length a - at) (drop at a))) (map f (take (length b - at) (drop at b)))
      → t ≡ same_octets (drop at (map f a)) (drop at (map f b))
  mapped-rest at t e = e ∙ ap₂ same_octets (rest-mapped a) (rest-mapped b)
    where
      rest-mapped : (l : List ℕ) → map f (take (length l - at) (drop at l)) ≡ drop at (map f l)
      rest-mapped l = ap (map f) (drop-slice l at) ∙ sym (drop-map f at l)

-- Octets as they stand.
pub as_they_stand : (a b : List ℕ) (t : Bool) → t ≡ same_octets (map (λ (x : ℕ). x) a) (map (λ (x : ℕ). x) b) → t ≡ same_octets a b
as_they_stand a b t e = e ∙ ap₂ same_octets (map-id a) (map-id b)

-- ---- two names side by side: their lowered octets are

lower-caseless : (b : ℕ) → caseless (lower b) ≡ caseless b
unfolding caseless
lower-caseless b = lower-cases (λ (c : ℕ). c % 32 ≡ b % 32) b (λ h. refl) (λ h k. omega arith) (λ h. refl)

lowered-caseless : (a : List ℕ) → map caseless (lowered a) ≡ map caseless a
lowered-caseless [] = refl
lowered-caseless (b ∷ a) = ap₂ (λ (c : ℕ) (l : List ℕ). c ∷ l) (lower-caseless b) (lowered-caseless a)

-- Names that are the same are so but for case.
pub unlike-caseless : (a b : List ℕ) → false ≡ same_octets (map caseless a) (map caseless b) → false ≡ same_octets (lowered a) (lowered b)
unlike-caseless a b e = true-false (same_octets (lowered a) (lowered b)) (λ s. differs (e ∙ near (same_octets-true (lowered a) (lowered b) s)))
  where
    differs : ◌≡◌ {A = Bool} false true → ⊥
    differs d = absurd (let z : ◌≡◌ {A = ℕ} 0 1 = cc in omega arith)

    near : lowered a ≡ lowered b → same_octets (map caseless a) (map caseless b) ≡ true
    near s = same_octets-of (map caseless a) (map caseless b) (sym (lowered-caseless a) ∙ ap (map caseless) s ∙ lowered-caseless b)

pub alike-whole : (a b : List ℕ) → true ≡ same_octets a b → true ≡ same_octets (lowered a) (lowered b)
alike-whole a b e = sym (same_octets-of (lowered a) (lowered b) (ap lowered (same_octets-true a b (sym e))))

pub unlike_names : (a b : List ℕ) → (length a ≡ length b → ⊥) → false ≡ same_name a b
unlike_names a b h = true-false (same_name a b) (λ e. h (same_name-length a b e))

-- ---- the labels of a name passed, in search of a zone

module _ (zone name : List ℕ) (at : ℕ) (r : within zone name ≡ ends_in zone 0 (drop at name)) where
  pub passed_end : length name ≤ at → false ≡ within zone name
  unfolding ends_in
  passed_end h = sym (r ∙ ap (ends_in zone 0) (drop_of_length-le name h))

  module _ (b : ℕ) (h : at < length name) (q : b ≡ get_or name at 0) where
    next-label : within zone name ≡ same_name zone (take (length name - at) (drop at name)) || ends_in zone b (drop (suc at) name)
    unfolding ends_in
    next-label =
        let n : drop at name ≡ b ∷ drop (suc at) name = drop-cons name at 0 h ∙ ap (λ (c : ℕ). c ∷ drop (suc at) name) (sym q) in
        r ∙ ap (ends_in zone 0) n ∙ ap (λ (l : List ℕ). same_name zone l || ends_in zone b (drop (suc at) name)) (sym n ∙ sym (drop-slice name at))

    pub passed-found : true ≡ same_name zone (take (length name - at) (drop at name)) → true ≡ within zone name
    passed-found e = sym (next-label ∙ ap (λ (t : Bool). t || ends_in zone b (drop (suc at) name)) (sym e))

    pub passed-label : false ≡ same_name zone (take (length name - at) (drop at name)) → within zone name ≡ ends_in zone 0 (drop (at + (b + 1)) name)
    passed-label e =
        let m : suc at + b ≡ at + (b + 1) = omega arith in
        next-label ∙ ap (λ (t : Bool). t || ends_in zone b (drop (suc at) name)) (sym e)
        ∙ ends_in-drop zone b (drop (suc at) name) ∙ ap (ends_in zone 0) (drop-drop b (suc at) name ∙ ap (λ (j : ℕ). drop j name) m)
