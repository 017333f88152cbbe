-- Laws of `sets`, a list with other octets from a place on: two writes in a row; what a write leaves as it was; what was
-- written; a part that was lent and has come back.
use Prim.Native.Nat.{ℕ, zero, suc, ◌+◌, ◌-◌, ◌^◌, ◌≤◌, ◌<◌}
use mathlib.Core.Path.{◌≡◌, refl, sym, ap, ap₂, ◌∙◌}
use mathlib.Core.Bool.{true}
use mathlib.Core.List.{List, [], ◌∷◌, ◌++◌, append-nil}
use native.Mathlib.Nat.{suc-add, add-suc, zero-add, add-zero, suc_inj}
use native.Mathlib.Numerals.{add-one}
use native.Mathlib.Omega.{arith}
use lib.Pow.{are_bytes}
use lib.ListN.{length, take, drop, get_or, set, length-take, length-drop, take-append-drop, drop_of_length-le}
use lib.Seq.{sets, length-sets, set_comm, set_out, take-suc, take_all, drop-set-lt, length-take-le, take-append_seam}
use Rattle.wire.specs.Field.{field, octets}
use Rattle.wire.specs.Part.{part}
use Rattle.wire.proofs.Fields.{are_bytes-append, are_bytes-drop, are_bytes-take, length-octets, field-octets, field-take-le}

-- ---- writes in a row, past the end, one place further

pub sets-append : (l : List ℕ) (i : ℕ) (a b : List ℕ) → sets l i (a ++ b) ≡ sets (sets l i a) (i + length a) b
sets-append l i [] b = ap (λ (k : ℕ). sets l k b) (sym (add-zero i))
sets-append l i (x ∷ a) b = sets-append (set l i x) (suc i) a b
    ∙ ap (λ (k : ℕ). sets (sets (set l i x) (suc i) a) k b) (suc-add i (length a) ∙ sym (add-suc i (length a)))

pub sets-out : (l : List ℕ) (i : ℕ) (vs : List ℕ) → length l ≤ i → sets l i vs ≡ l
sets-out l i [] h = refl
sets-out l i (v ∷ vs) h =
    ap (λ (k : List ℕ). sets k (suc i) vs) (set_out l i v h) ∙ sets-out l (suc i) vs (omega arith)

pub sets_past : (l : List ℕ) (i : ℕ) (vs : List ℕ) → length l ≤ i → l ≡ sets l i vs
sets_past l i vs h = sym (sets-out l i vs h)

pub sets-nil : (i : ℕ) (vs : List ℕ) → ◌≡◌ {A = List ℕ} (sets [] i vs) []
sets-nil i vs = sets-out [] i vs (omega arith)

pub sets-cons : (x : ℕ) (l : List ℕ) (i : ℕ) (vs : List ℕ) → sets (x ∷ l) (suc i) vs ≡ x ∷ sets l i vs
sets-cons x l i [] = refl
sets-cons x l i (v ∷ vs) = sets-cons x (set l i v) (suc i) vs

-- Writes that lie apart may be made in any order; so what belongs in front may be written last.
set-sets : (o : List ℕ) (i x j : ℕ) (b : List ℕ) → i < j → set (sets o j b) i x ≡ sets (set o i x) j b
set-sets o i x j [] h = refl
set-sets o i x j (y ∷ b) h = set-sets (set o j y) i x (suc j) b (omega arith)
    ∙ ap (λ (l : List ℕ). sets l (suc j) b) (set_comm o j i y x (λ e. omega arith))

pub sets-comm : (o : List ℕ) (i : ℕ) (a : List ℕ) (j : ℕ) (b : List ℕ) → i + length a ≤ j → sets (sets o i a) j b ≡ sets (sets o j b) i a
sets-comm o i [] j b h = refl
sets-comm o i (x ∷ a) j b h = sets-comm (set o i x) (suc i) a j b (omega arith)
    ∙ ap (λ (l : List ℕ). sets l (suc i) a) (sym (set-sets o i x j b (omega arith)))

pub sets-front-last : (o : List ℕ) (i : ℕ) (a b : List ℕ) → sets (sets o (i + length a) b) i a ≡ sets o i (a ++ b)
sets-front-last o i a b = sym (sets-append o i a b ∙ sets-comm o i a (i + length a) b (omega arith))

pub are_bytes-sets : (o : List ℕ) (i : ℕ) (vs : List ℕ) → are_bytes o ≡ true → are_bytes vs ≡ true → are_bytes (sets o i vs) ≡ true
are_bytes-sets [] i vs p q = ap are_bytes (sets-nil i vs)
are_bytes-sets (x ∷ o) (suc i) vs p q =
    ap are_bytes (sets-cons x o i vs) ∙ are_bytes-append (x ∷ []) (sets o i vs) (are_bytes-take 1 (x ∷ o) p) (are_bytes-sets o i vs (are_bytes-drop 1 (x ∷ o) p) q)
are_bytes-sets (x ∷ o) zero [] p q = p
are_bytes-sets (x ∷ o) zero (v ∷ vs) p q =
    ap are_bytes (sets-cons v o 0 vs)
    ∙ are_bytes-append (v ∷ []) (sets o 0 vs) (are_bytes-take 1 (v ∷ vs) q) (are_bytes-sets o 0 vs (are_bytes-drop 1 (x ∷ o) p) (are_bytes-drop 1 (v ∷ vs) q))

-- ---- a part of what was written to

pub take-sets : (n : ℕ) (l : List ℕ) (i : ℕ) (vs : List ℕ) → take n (sets l i vs) ≡ sets (take n l) i vs
take-sets zero l i vs = sym (sets-nil i vs)
take-sets (suc n) [] i vs = ap (λ (k : List ℕ). take (suc n) k) (sets-nil i vs) ∙ sym (sets-nil i vs)
take-sets (suc n) (x ∷ l) (suc i) vs = ap (λ (k : List ℕ). take (suc n) k) (sets-cons x l i vs)
    ∙ ap (λ (k : List ℕ). x ∷ k) (take-sets n l i vs) ∙ sym (sets-cons x (take n l) i vs)
take-sets (suc n) (x ∷ l) zero [] = refl
take-sets (suc n) (x ∷ l) zero (v ∷ vs) = ap (λ (k : List ℕ). take (suc n) k) (sets-cons v l 0 vs)
    ∙ ap (λ (k : List ℕ). v ∷ k) (take-sets n l 0 vs) ∙ sym (sets-cons v (take n l) 0 vs)

pub drop-sets-add : (n : ℕ) (l : List ℕ) (i : ℕ) (vs : List ℕ) → drop n (sets l (n + i) vs) ≡ sets (drop n l) i vs
drop-sets-add zero l i vs = ap (λ (k : ℕ). sets l k vs) (zero-add i)
drop-sets-add (suc n) [] i vs = ap (λ (k : List ℕ). drop (suc n) k) (sets-nil (suc n + i) vs) ∙ sym (sets-nil i vs)
drop-sets-add (suc n) (x ∷ l) i vs = ap (λ (k : ℕ). drop (suc n) (sets (x ∷ l) k vs)) (suc-add n i)
    ∙ ap (λ (k : List ℕ). drop (suc n) k) (sets-cons x l (n + i) vs) ∙ drop-sets-add n l i vs

pub take-sets-before : (n : ℕ) (l : List ℕ) (i : ℕ) (vs : List ℕ) → n ≤ i → take n (sets l i vs) ≡ take n l
take-sets-before n l i vs h = take-sets n l i vs ∙ sets-out (take n l) i vs (omega (arith, length-take n l))

pub drop-sets-after : (n : ℕ) (l : List ℕ) (i : ℕ) (vs : List ℕ) → i + length vs ≤ n → drop n (sets l i vs) ≡ drop n l
drop-sets-after n l i [] h = refl
drop-sets-after n l i (v ∷ vs) h = drop-sets-after n (set l i v) (suc i) vs (omega arith) ∙ drop-set-lt n l i v (omega arith)

pub part-before : (o : List ℕ) (i : ℕ) (vs : List ℕ) (a n : ℕ) → a + n ≤ i → part (sets o i vs) a n ≡ part o a n
part-before o i vs a n h =
    let e : a + (i - a) ≡ i = omega arith in
    ap (λ (k : ℕ). part (sets o k vs) a n) (sym e)
    ∙ ap (λ (k : List ℕ). take n k) (drop-sets-add a o (i - a) vs)
    ∙ take-sets-before n (drop a o) (i - a) vs (omega arith)

pub part-after : (o : List ℕ) (i : ℕ) (vs : List ℕ) (a n : ℕ) → i + length vs ≤ a → part (sets o i vs) a n ≡ part o a n
part-after o i vs a n h = ap (λ (k : List ℕ). take n k) (drop-sets-after a o i vs h)

-- ---- what was written

-- A front of a list replaced by one as long, where the rest is what lies behind n elements.
pub sets-front : (n : ℕ) (l p : List ℕ) → length p ≡ length (take n l) → sets l 0 p ≡ p ++ drop n l
sets-front zero l [] h = refl
sets-front zero l (y ∷ p) h = absurd (omega arith)
sets-front (suc n) [] [] h = refl
sets-front (suc n) [] (y ∷ p) h = absurd (omega arith)
sets-front (suc n) (x ∷ l) [] h = absurd (omega arith)
sets-front (suc n) (x ∷ l) (y ∷ p) h =
    sets-cons y l 0 p ∙ ap (λ (k : List ℕ). y ∷ k) (sets-front n l p (suc_inj h))

pub take-written : (o vs : List ℕ) → length vs ≤ length o → take (length vs) (sets o 0 vs) ≡ vs
take-written o vs h =
    ap (λ (k : List ℕ). take (length vs) k) (sets-front (length vs) o vs (sym (length-take-le (length vs) o h)))
    ∙ take-append_seam vs (drop (length vs) o)

pub part-written : (o : List ℕ) (i : ℕ) (vs : List ℕ) → i + length vs ≤ length o → part (sets o i vs) i (length vs) ≡ vs
part-written o i vs h =
    ap (λ (k : ℕ). part (sets o k vs) i (length vs)) (sym (add-zero i))
    ∙ ap (λ (k : List ℕ). take (length vs) k) (drop-sets-add i o 0 vs)
    ∙ take-written (drop i o) vs (omega (arith, length-drop i o))

-- A field that was written is read back; one before or after what was written is as it was.
pub field-written : (n x : ℕ) (o : List ℕ) (i : ℕ) → i + n ≤ length o → x < 256 ^ n → field n (drop i (sets o i (octets n x))) ≡ x
field-written n x o i h k =
    let e : length (octets n x) ≡ n = length-octets n x in
    sym (field-take-le n n (drop i (sets o i (octets n x))) (omega arith))
    ∙ ap (λ (m : ℕ). field n (part (sets o i (octets n x)) i m)) (sym e)
    ∙ ap (field n) (part-written o i (octets n x) (omega arith) ∙ sym (append-nil (octets n x))) ∙ field-octets n x [] k

pub field-before : (n : ℕ) (o : List ℕ) (i : ℕ) (vs : List ℕ) (a : ℕ) → a + n ≤ i → field n (drop a (sets o i vs)) ≡ field n (drop a o)
field-before n o i vs a h =
    sym (field-take-le n n (drop a (sets o i vs)) (omega arith)) ∙ ap (field n) (part-before o i vs a n h)
    ∙ field-take-le n n (drop a o) (omega arith)

pub field-after : (n : ℕ) (o : List ℕ) (i : ℕ) (vs : List ℕ) (a : ℕ) → i + length vs ≤ a → field n (drop a (sets o i vs)) ≡ field n (drop a o)
field-after n o i vs a h = ap (field n) (drop-sets-after a o i vs h)

-- ---- a part lent on and come back

-- All from b on, written to from its place i on.
pub sets-lent-tail : (b : ℕ) (o : List ℕ) (i : ℕ) (vs : List ℕ) → take b o ++ sets (drop b o) i vs ≡ sets o (b + i) vs
sets-lent-tail zero o i vs = ap (λ (k : ℕ). sets o k vs) (sym (zero-add i))
sets-lent-tail (suc b) [] i vs = sets-nil i vs ∙ sym (sets-nil (suc b + i) vs)
sets-lent-tail (suc b) (x ∷ o) i vs = ap (λ (k : List ℕ). x ∷ k) (sets-lent-tail b o i vs)
    ∙ sym (sets-cons x o (b + i) vs) ∙ ap (λ (k : ℕ). sets (x ∷ o) k vs) (sym (suc-add b i))

-- n elements from b on, come back as p.
pub sets-lent : (b n : ℕ) (o p : List ℕ) → length p ≡ length (part o b n) → take b o ++ (p ++ drop n (drop b o)) ≡ sets o b p
sets-lent b n o p h =
    ap (λ (k : List ℕ). take b o ++ k) (sym (sets-front n (drop b o) p h)) ∙ sets-lent-tail b o 0 p
    ∙ ap (λ (k : ℕ). sets o k p) (add-zero b)

-- The same where the part lies within the list.
pub sets-lent-within : (b n : ℕ) (o p : List ℕ) → length p ≡ n → b + n ≤ length o → take b o ++ (p ++ drop n (drop b o)) ≡ sets o b p
sets-lent-within b n o p h k =
    sets-lent b n o p (h ∙ sym (length-take-le n (drop b o) (omega (arith, length-drop b o))))

-- A write into n elements from b on that stays within them is a write into the whole.
pub sets-in-front : (n : ℕ) (l : List ℕ) (i : ℕ) (vs : List ℕ) → i + length vs ≤ n → sets (take n l) i vs ++ drop n l ≡ sets l i vs
sets-in-front n l i vs h =
    ap (λ (k : List ℕ). k ++ drop n l) (sym (take-sets n l i vs))
    ∙ ap (λ (k : List ℕ). take n (sets l i vs) ++ k) (sym (drop-sets-after n l i vs h))
    ∙ take-append-drop n (sets l i vs)

pub sets-in-part : (b n : ℕ) (o : List ℕ) (i : ℕ) (vs : List ℕ) → i + length vs ≤ n
    → take b o ++ (sets (part o b n) i vs ++ drop n (drop b o)) ≡ sets o (b + i) vs
sets-in-part b n o i vs h =
    ap (λ (k : List ℕ). take b o ++ k) (sets-in-front n (drop b o) i vs h) ∙ sets-lent-tail b o i vs

-- The same, said of what a part became: a write into it is a write into the whole at b + i.
pub sets-of-part : (b n : ℕ) (o p : List ℕ) (i : ℕ) (vs : List ℕ) → p ≡ sets (part o b n) i vs → i + length vs ≤ n
    → sets o b p ≡ sets o (b + i) vs
sets-of-part b n o p i vs e h =
    sym (sets-lent b n o p (ap length e ∙ length-sets (part o b n) i vs))
    ∙ ap (λ (k : List ℕ). take b o ++ (k ++ drop n (drop b o))) e ∙ sets-in-part b n o i vs h

-- All from a place on, as a slice has it; and what it became, come back.
pub drop-slice : (l : List ℕ) (at : ℕ) → take (length l - at) (drop at l) ≡ drop at l
drop-slice l at = take_all (length l - at) (drop at l) (omega (arith, length-drop at l))

pub sets-lent-rest : (o p vs : List ℕ) (at : ℕ) → p ≡ sets (take (length o - at) (drop at o)) 0 vs
    → take at o ++ (p ++ drop (length o - at) (drop at o)) ≡ sets o at vs
sets-lent-rest o p vs at e =
    ap₂ (λ (x y : List ℕ). take at o ++ (x ++ y)) (e ∙ ap (λ (l : List ℕ). sets l 0 vs) (drop-slice o at))
    (drop_of_length-le (drop at o) {i = length o - at} (omega (arith, length-drop at o)))
    ∙ ap (λ (l : List ℕ). take at o ++ l) (append-nil (sets (drop at o) 0 vs))
    ∙ sets-lent-tail at o 0 vs ∙ ap (λ (k : ℕ). sets o k vs) (add-zero at)

-- What a write from a place on comes to.
pub ruleset written_from = (sets-lent-rest, sets_past)

-- ---- a loop that copies

pub sets-step : (d s : List ℕ) (i : ℕ) → i < length s → set (sets d 0 (take i s)) i (get_or s i 0) ≡ sets d 0 (take (i + 1) s)
sets-step d s i h =
    let n : length (take i s) ≡ i = length-take-le i s (omega arith) in
    sym (ap (λ (k : ℕ). sets d 0 (take k s)) (add-one i)
    ∙ ap (λ (k : List ℕ). sets d 0 k) (take-suc s i 0 h)
    ∙ sets-append d 0 (take i s) (get_or s i 0 ∷ [])
    ∙ ap (λ (k : ℕ). set (sets d 0 (take i s)) k (get_or s i 0)) (zero-add (length (take i s)) ∙ n))

-- What lies past the end of the memory is not written.
pub sets-full : (d s : List ℕ) (i : ℕ) → i ≤ length s → length d ≤ i → sets d 0 (take i s) ≡ sets d 0 s
sets-full d s i h k =
    let n : length (take i s) ≡ i = length-take-le i s h in
    let z : 0 + length (take i s) ≡ i = omega arith in
    sym (ap (λ (r : List ℕ). sets d 0 r) (sym (take-append-drop i s))
    ∙ sets-append d 0 (take i s) (drop i s)
    ∙ ap (λ (r : ℕ). sets (sets d 0 (take i s)) r (drop i s)) z
    ∙ sets-out (sets d 0 (take i s)) i (drop i s) (omega (arith, length-sets d 0 (take i s))))

-- A copy of all, and of what there is room for.
pub copied_all : (d s p : List ℕ) → p ≡ sets d 0 (take (length s) s) → p ≡ sets d 0 s
copied_all d s p e = e ∙ ap (sets d 0) (take_all (length s) s (omega arith))

pub copied_room : (d s p : List ℕ) → p ≡ sets d 0 (take (length d) s) → length d ≤ length s → p ≡ sets d 0 s
copied_room d s p e h = e ∙ sets-full d s (length d) h (omega arith)
