-- Laws of blocks: their number, one of them, fewer of them, a write into one, one more, one fewer.
use Prim.Native.Nat.{ℕ, zero, suc, ◌+◌, ◌-◌, ◌*◌, ◌≤◌, ◌<◌}
use mathlib.Core.Path.{◌≡◌, refl, sym, ap, ap₂, ◌∙◌}
use mathlib.Core.Bool.{Bool, cond}
use mathlib.Core.List.{List, [], ◌∷◌, ◌++◌, map}
use native.Mathlib.Nat.{suc-mul, zero-mul, zero-add, suc-add, not-suc-le-zero, le_of_suc-le-suc}
use native.Mathlib.Numerals.{add-one}
use native.Mathlib.Omega.{arith}
use lib.ListN.{length-set, length, take, drop, get_or, set, length-drop, drop_of_length-le}
use lib.Seq.{sets, take_all, take-nil, drop-nil, take-take, drop-drop, take-suc, length-take-le, get_or-drop}
use borrow.Author.Tests.{le-leb, lt-leb}
use Rattle.wire.specs.Part.{part}
use Rattle.wire.specs.Field.{field}
use Rattle.wire.proofs.Fields.{field-take-le, field_past, field-one}
use Rattle.wire.proofs.Writes.{sets-append, take-sets, take-sets-before, drop-sets-add, drop-sets-after, take-written}
use Rattle.table.specs.Blocks.{blocks, cut, slid, text_at}

-- ---- a list without a member

module _ {A : Type 0} where
  pub cut-split : (i : ℕ) (l : List A) → cut i l ≡ take i l ++ drop (suc i) l
  unfolding cut
  cut-split i [] = sym (ap₂ ◌++◌ (take-nil i) (drop-nil (suc i)))
  cut-split zero (x ∷ l) = refl
  cut-split (suc i) (x ∷ l) = ap (λ (k : List A). x ∷ k) (cut-split i l)

  pub cut_out : (i : ℕ) (l : List A) → length l ≤ i → cut i l ≡ l
  unfolding cut
  cut_out i [] h = refl
  cut_out zero (x ∷ l) h = absurd (not-suc-le-zero h)
  cut_out (suc i) (x ∷ l) h = ap (λ (k : List A). x ∷ k) (cut_out i l (le_of_suc-le-suc h))

  pub length_cut : (i : ℕ) (l : List A) → i < length l → suc (length (cut i l)) ≡ length l
  unfolding cut
  length_cut i [] h = absurd (not-suc-le-zero h)
  length_cut zero (x ∷ l) h = refl
  length_cut (suc i) (x ∷ l) h = ap suc (length_cut i l (le_of_suc-le-suc h))

  -- What stands before the member that went, and what stood behind it.
  pub take-cut : (i : ℕ) (l : List A) → take i (cut i l) ≡ take i l
  unfolding cut
  take-cut i [] = refl
  take-cut zero (x ∷ l) = refl
  take-cut (suc i) (x ∷ l) = ap (λ (k : List A). x ∷ k) (take-cut i l)

  pub drop-cut : (i : ℕ) (l : List A) → drop i (cut i l) ≡ drop (suc i) l
  unfolding cut
  drop-cut zero [] = refl
  drop-cut (suc i) [] = refl
  drop-cut zero (x ∷ l) = refl
  drop-cut (suc i) (x ∷ l) = drop-cut i l

module _ {A B : Type 0} (f : A → B) where
  pub map-cut : (i : ℕ) (l : List A) → map f (cut i l) ≡ cut i (map f l)
  unfolding cut
  map-cut i [] = refl
  map-cut zero (x ∷ l) = refl
  map-cut (suc i) (x ∷ l) = ap (λ (k : List B). f x ∷ k) (map-cut i l)

  pub take-map : (n : ℕ) (l : List A) → take n (map f l) ≡ map f (take n l)
  take-map zero l = refl
  take-map (suc n) [] = refl
  take-map (suc n) (x ∷ l) = ap (λ (k : List B). f x ∷ k) (take-map n l)

  pub map-set : (l : List A) (i : ℕ) (x : A) → map f (set l i x) ≡ set (map f l) i (f x)
  map-set [] zero x = refl
  map-set [] (suc i) x = refl
  map-set (y ∷ l) zero x = refl
  map-set (y ∷ l) (suc i) x = ap (λ (k : List B). f y ∷ k) (map-set l i x)

-- ---- octets of a list

pub drop-take : (n m : ℕ) (l : List ℕ) → drop n (take (n + m) l) ≡ take m (drop n l)
drop-take zero m l = ap (λ (k : ℕ). take k l) (zero-add m)
drop-take (suc n) m [] = ap (λ (k : ℕ). drop (suc n) (take k [])) (suc-add n m) ∙ sym (take-nil m)
drop-take (suc n) m (x ∷ l) = ap (λ (k : ℕ). drop (suc n) (take k (x ∷ l))) (suc-add n m) ∙ drop-take n m l

-- A part as far as a slice goes: from past the end, to the end, and within.
pub part-past : (s : List ℕ) (at n : ℕ) → length s ≤ at → part s 0 0 ≡ part s at n
part-past s at n h = sym (ap (take n) (drop_of_length-le s h) ∙ take-nil n)

pub part-rest : (s : List ℕ) (at n : ℕ) → length s - at < n → part s at (length s - at) ≡ part s at n
part-rest s at n h =
    let l = length-drop at s in
    take_all (length s - at) (drop at s) (omega arith) ∙ sym (take_all n (drop at s) (omega arith))

pub part-to : (s : List ℕ) (at n : ℕ) → part s at (at + n - at) ≡ part s at n
part-to s at n = let e : at + n - at ≡ n = omega arith in ap (λ (k : ℕ). part s at k) e

pub text-past : (b : List ℕ) (counted from : ℕ) (t : List ℕ) → length b ≤ counted → t ≡ part b from 0 → t ≡ text_at b counted from
text-past b counted from t h e = e ∙ ap (part b from) (field_past 1 b counted h)

pub text-there : (b : List ℕ) (counted from : ℕ) (t : List ℕ) → t ≡ part b from (get_or b counted 0) → t ≡ text_at b counted from
text-there b counted from t e = e ∙ ap (part b from) (sym (field-one b counted))

-- A part of a part, and a field in a part.
pub part-part : (a : List ℕ) (b m k n : ℕ) → k + n ≤ m → part (part a b m) k n ≡ part a (b + k) n
part-part a b m k n h =
    let e : k + (m - k) ≡ m = omega arith in
    ap (λ (j : ℕ). take n (drop k (take j (drop b a)))) (sym e) ∙ ap (take n) (drop-take k (m - k) (drop b a))
    ∙ take-take n (m - k) (drop k (drop b a)) (omega arith) ∙ ap (take n) (drop-drop k b a)

pub field-part : (a : List ℕ) (b m k n : ℕ) → k + n ≤ m → field n (drop (b + k) a) ≡ field n (drop k (part a b m))
field-part a b m k n h =
    sym (field-take-le n n (drop (b + k) a) (omega arith)) ∙ ap (field n) (sym (part-part a b m k n h))
    ∙ field-take-le n n (drop k (part a b m)) (omega arith)

-- What lies behind a write is as it was.
pub sets-unread : (l : List ℕ) (i : ℕ) (vs : List ℕ) (j : ℕ) → i + length vs ≤ j → get_or (sets l i vs) j 0 ≡ get_or l j 0
sets-unread l i vs j h =
    let e : j + 0 ≡ j = omega arith in
    ap (λ (k : ℕ). get_or (sets l i vs) k 0) (sym e) ∙ sym (get_or-drop j (sets l i vs) 0 0)
    ∙ ap (λ (k : List ℕ). get_or k 0 0) (drop-sets-after j l i vs h)
    ∙ get_or-drop j l 0 0 ∙ ap (λ (k : ℕ). get_or l k 0) e

-- ---- blocks

module _ (size : ℕ) where
  pub length-blocks : (n : ℕ) (a : List ℕ) → length (blocks size n a) ≡ n
  unfolding blocks
  length-blocks zero a = refl
  length-blocks (suc n) a = ap suc (length-blocks n (drop size a))

  -- One block is a part of the memory.
  pub blocks_at : (n : ℕ) (a : List ℕ) (i : ℕ) → i < n → get_or (blocks size n a) i [] ≡ part a (i * size) size
  unfolding blocks
  blocks_at zero a i h = absurd (not-suc-le-zero h)
  blocks_at (suc n) a zero h = ap (λ (k : ℕ). part a k size) (sym (zero-mul size))
  blocks_at (suc n) a (suc i) h =
      let e : size + i * size ≡ suc i * size = omega (arith, suc-mul i size) in
      blocks_at n (drop size a) i (le_of_suc-le-suc h)
      ∙ ap (take size) (drop-drop (i * size) size a ∙ ap (λ (k : ℕ). drop k a) e)

  pub take-blocks : (k n : ℕ) (a : List ℕ) → k ≤ n → take k (blocks size n a) ≡ blocks size k a
  unfolding blocks
  take-blocks zero n a h = refl
  take-blocks (suc k) zero a h = absurd (not-suc-le-zero h)
  take-blocks (suc k) (suc n) a h = ap (λ (l : List (List ℕ)). take size a ∷ l) (take-blocks k n (drop size a) (le_of_suc-le-suc h))

  -- One more block.
  pub blocks-suc : (n : ℕ) (a : List ℕ) → blocks size (suc n) a ≡ blocks size n a ++ (part a (n * size) size ∷ [])
  unfolding blocks
  blocks-suc zero a = ap (λ (k : ℕ). part a k size ∷ []) (sym (zero-mul size))
  blocks-suc (suc n) a =
      let e : size + n * size ≡ suc n * size = omega (arith, suc-mul n size) in
      ap (λ (l : List (List ℕ)). take size a ∷ l) (blocks-suc n (drop size a)
      ∙ ap (λ (b : List ℕ). blocks size n (drop size a) ++ (take size b ∷ []))
      (drop-drop (n * size) size a ∙ ap (λ (k : ℕ). drop k a) e))

  -- Blocks depend on their own octets alone.
  pub blocks-front : (n m : ℕ) (a : List ℕ) → n * size ≤ m → blocks size n (take m a) ≡ blocks size n a
  unfolding blocks
  blocks-front zero m a h = refl
  blocks-front (suc n) m a h =
      let e : size + (m - size) ≡ m = omega (arith, suc-mul n size) in
      ap₂ (λ (b : List ℕ) (l : List (List ℕ)). b ∷ l) (take-take size m a (omega (arith, suc-mul n size)))
      (ap (λ (k : ℕ). blocks size n (drop size (take k a))) (sym e) ∙ ap (blocks size n) (drop-take size (m - size) a)
      ∙ blocks-front n (m - size) (drop size a) (omega (arith, suc-mul n size)))

  pub blocks-past : (n : ℕ) (a : List ℕ) (at : ℕ) (vs : List ℕ) → n * size ≤ at → blocks size n (sets a at vs) ≡ blocks size n a
  blocks-past n a at vs h =
      sym (blocks-front n at (sets a at vs) h) ∙ ap (blocks size n) (take-sets-before at a at vs (omega arith))
      ∙ blocks-front n at a h

  -- A write into one block. It carries every change of a table.
  pub blocks-sets : (n : ℕ) (a : List ℕ) (i k : ℕ) (vs : List ℕ) → k + length vs ≤ size
      → blocks size n (sets a (i * size + k) vs) ≡ set (blocks size n a) i (sets (get_or (blocks size n a) i []) k vs)
  unfolding blocks
  blocks-sets zero a zero k vs h = refl
  blocks-sets zero a (suc i) k vs h = refl
  blocks-sets (suc n) a zero k vs h =
      let e : zero * size + k ≡ k = omega (arith, zero-mul size) in
      ap (λ (j : ℕ). blocks size (suc n) (sets a j vs)) e
      ∙ ap₂ (λ (b c : List ℕ). b ∷ blocks size n c) (take-sets size a k vs) (drop-sets-after size a k vs h)
  blocks-sets (suc n) a (suc i) k vs h =
      let e : suc i * size + k ≡ size + (i * size + k) = omega (arith, suc-mul i size) in
      ap (λ (j : ℕ). blocks size (suc n) (sets a j vs)) e
      ∙ ap₂ (λ (b c : List ℕ). b ∷ blocks size n c) (take-sets-before size a (size + (i * size + k)) vs (omega arith))
      (drop-sets-add size a (i * size + k) vs)
      ∙ ap (λ (l : List (List ℕ)). take size a ∷ l) (blocks-sets n (drop size a) i k vs h)

  -- The blocks behind block i moved down by one: block i is gone.
  moved : (n : ℕ) (a : List ℕ) (i : ℕ) → i ≤ n → suc n * size ≤ length a
      → blocks size n (sets a (i * size) (part a (i * size + size) ((n - i) * size))) ≡ cut i (blocks size (suc n) a)
  unfolding blocks cut
  moved n a zero h k =
      let v : List ℕ = part a size (n * size) in
      let e : zero * size + size ≡ size = omega (arith, zero-mul size) in
      let z : n - zero ≡ n = omega arith in
      let l : length v ≡ n * size = length-take-le (n * size) (drop size a) (omega (arith, suc-mul n size, length-drop size a)) in
      ap₂ (λ (s d : ℕ). blocks size n (sets a s (part a d ((n - zero) * size)))) (zero-mul size) e
      ∙ ap (λ (m : ℕ). blocks size n (sets a 0 (part a size (m * size)))) z
      ∙ sym (blocks-front n (n * size) (sets a 0 v) (omega arith))
      ∙ ap (λ (m : ℕ). blocks size n (take m (sets a 0 v))) (sym l)
      ∙ ap (blocks size n) (take-written a v (omega (arith, suc-mul n size)))
      ∙ blocks-front n (n * size) (drop size a) (omega arith)
  moved zero a (suc i) h k = absurd (not-suc-le-zero h)
  moved (suc n) a (suc i) h k =
      let e : suc i * size ≡ size + i * size = omega (arith, suc-mul i size) in
      let f : suc i * size + size ≡ size + (i * size + size) = omega arith in
      let g : suc n - suc i ≡ n - i = omega arith in
      let v : List ℕ = part (drop size a) (i * size + size) ((n - i) * size) in
      let w : part a (suc i * size + size) ((suc n - suc i) * size) ≡ v =
      ap₂ (λ (b m : ℕ). part a b (m * size)) f g ∙ ap (take ((n - i) * size)) (sym (drop-drop (i * size + size) size a)) in
      ap₂ (λ (j : ℕ) (l : List ℕ). blocks size (suc n) (sets a j l)) e w
      ∙ ap₂ (λ (b c : List ℕ). b ∷ blocks size n c) (take-sets-before size a (size + i * size) v (omega arith))
      (drop-sets-add size a (i * size) v)
      ∙ ap (λ (l : List (List ℕ)). take size a ∷ l)
      (moved n (drop size a) i (le_of_suc-le-suc h) (omega (arith, suc-mul (suc n) size, length-drop size a)))

  pub blocks-slid : (n : ℕ) (a : List ℕ) (i : ℕ) → i < n → n * size ≤ length a
      → blocks size (n - 1) (slid a (i * size) (i * size + size) ((n - 1 - i) * size)) ≡ cut i (blocks size n a)
  unfolding slid
  blocks-slid zero a i h k = absurd (not-suc-le-zero h)
  blocks-slid (suc n) a i h k =
      let e : suc n - 1 ≡ n = omega arith in
      ap (λ (t : Bool). blocks size (suc n - 1) (cond t (sets a (i * size) (part a (i * size + size) ((suc n - 1 - i) * size))) a)) (le-leb (i * size) (i * size + size) (omega arith))
      ∙ ap (λ (m : ℕ). blocks size m (sets a (i * size) (part a (i * size + size) ((m - i) * size)))) e
      ∙ moved n a i (le_of_suc-le-suc h) k

-- ---- what is moved

pub slid-up : (a : List ℕ) (to from n : ℕ) → from < to → a ≡ slid a to from n
unfolding slid
slid-up a to from n h = ap (λ (t : Bool). cond t (sets a to (part a from n)) a) (sym (lt-leb to from h))

pub slid-down : (a b : List ℕ) (to from n : ℕ) → to ≤ from → b ≡ sets a to (part a from n) → b ≡ slid a to from n
unfolding slid
slid-down a b to from n h e = e ∙ ap (λ (t : Bool). cond t (sets a to (part a from n)) a) (sym (le-leb to from h))

-- Nothing lies past the end.
pub slid-past : (a : List ℕ) (to from n : ℕ) → to ≤ from → length a ≤ from → a ≡ slid a to from n
slid-past a to from n h k =
    slid-down a a to from n h (ap (λ (l : List ℕ). sets a to l) (sym (ap (take n) (drop_of_length-le a k) ∙ take-nil n)))

pub slid-clipped : (a b : List ℕ) (to from n : ℕ) → to ≤ from → length a - from < n
    → b ≡ sets a to (part a from (length a - from)) → b ≡ slid a to from n
slid-clipped a b to from n h k e =
    let l = length-drop from a in
    slid-down a b to from n h
    (e ∙ ap (λ (l : List ℕ). sets a to l) (take_all (length a - from) (drop from a) (omega arith) ∙ sym (take_all n (drop from a) (omega arith))))

-- The loop that moves: the first i octets are moved. Octet i is read as it was, for only what lies before it has been
-- written.
pub record Moved (a : List ℕ) (to from n : ℕ) (b : List ℕ) (i : ℕ) : Type 0 where
  pub few : i ≤ n
  pub long : length b ≡ length a
  pub here : b ≡ sets a to (part a from i)

pub moved_none : (a : List ℕ) (to from n : ℕ) → Moved a to from n a 0
moved_none a to from n = record { few = omega arith; long = refl; here = refl }

module _ (a : List ℕ) (to from n : ℕ) (b : List ℕ) (i : ℕ) (m : Moved a to from n b i) where
  pub moved-turn : to ≤ from → from + n ≤ length a → i < n → Moved a to from n (set b (to + i) (get_or b (from + i) 0)) (i + 1)
  moved-turn h k t =
      let d : List ℕ = drop from a in
      let v : List ℕ = part a from i in
      let w = length-drop from a in
      let l : length v ≡ i = length-take-le i d (omega arith) in
      let r : get_or b (from + i) 0 ≡ get_or d i 0 =
      ap (λ (l : List ℕ). get_or l (from + i) 0) m.here ∙ sets-unread a to v (from + i) (omega arith) ∙ sym (get_or-drop from a i 0) in
      record {
        few = omega arith;
        long = length-set b (to + i) (get_or b (from + i) 0) ∙ m.long;
        here = ap₂ (λ (m : List ℕ) (x : ℕ). set m (to + i) x) m.here r
            ∙ ap (λ (j : ℕ). set (sets a to v) (to + j) (get_or d i 0)) (sym l)
            ∙ sym (sets-append a to v (get_or d i 0 ∷ []))
            ∙ ap (λ (l : List ℕ). sets a to l) (sym (ap (λ (j : ℕ). take j d) (add-one i) ∙ take-suc d i 0 (omega arith)));
      }

  pub moved_all : n ≤ i → b ≡ sets a to (part a from n)
  moved_all h = let e : i ≡ n = omega (arith, m.few) in m.here ∙ ap (λ (j : ℕ). sets a to (part a from j)) e

-- The code's steps: `part`, `text`, `slide`.
pub ruleset parting = (part-past, part-rest, part-to)

pub ruleset texts = (text-past, text-there)

pub ruleset sliding = (slid-up, slid-past, slid-down, slid-clipped)
