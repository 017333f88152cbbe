-- Laws of the removals that are chosen: the widest true one, the narrowest collective one that covers the same leaving
-- records, and the first record of each.
use Prim.Native.Nat.{ℕ, zero, suc, ◌+◌, ◌≤◌}
use mathlib.Core.Path.{◌≡◌, refl, sym, ap, ◌∙◌}
use mathlib.Core.Logic.{◌⊎◌, inl, inr, ◌≢◌}
use mathlib.Core.Bool.{Bool, true, false, cond, beq}
use mathlib.Core.List.{List}
use native.Mathlib.Omega.{arith}
use lib.Dec.{leb}
use lib.ListN.{length}
use Rattle.zone.specs.Record.{Record, Key, key_of}
use Rattle.zone.specs.Store.{held}
use Rattle.zone.specs.Layout.{size}
use Rattle.zone.proofs.Lists.{clash, decided, beq-true, beq-refl, all_of-any}
use Rattle.zone.proofs.Stores.{all_of-held}
use borrow.Author.Tests.{leb-true, leb-false}
use Rattle.push.specs.Change.{Removal, removal, covers, is_true, fields_of}
use Rattle.push.specs.List.{single_at, rrset_at, all_types_at, all_classes_at, widest, alike, chosen}
use Rattle.push.proofs.Covers.{at, grade, at_own, covers_at, at-within, is_true-within, is_true-at, is_true-single}

-- ---- the widest true removal at a record

pub record WidestAt (store : List Record) (r : Record) : Type 0 where
  pub index : ℕ
  pub is : widest store r ≡ at index r
  pub small : index ≤ 3
  pub holds : index ≤ 2 → is_true store (at index r) ≡ true
  pub least : (j : ℕ) → is_true store (at j r) ≡ true → index ≤ j

pub widest_at : (store : List Record) (r : Record) → WidestAt store r
unfolding widest
widest_at store r = go (is_true store (at 0 r)) refl (is_true store (at 1 r)) refl (is_true store (at 2 r)) refl
  where
    least1 : is_true store (at 0 r) ≡ false → (j : ℕ) → is_true store (at j r) ≡ true → 1 ≤ j
    least1 a zero e = clash (is_true store (at 0 r)) e a
    least1 a (suc j) e = omega arith

    least2 : is_true store (at 0 r) ≡ false → is_true store (at 1 r) ≡ false → (j : ℕ) → is_true store (at j r) ≡ true → 2 ≤ j
    least2 a b zero e = clash (is_true store (at 0 r)) e a
    least2 a b (suc zero) e = clash (is_true store (at 1 r)) e b
    least2 a b (suc (suc j)) e = omega arith

    least3 : is_true store (at 0 r) ≡ false → is_true store (at 1 r) ≡ false → is_true store (at 2 r) ≡ false
        → (j : ℕ) → is_true store (at j r) ≡ true → 3 ≤ j
    least3 a b c zero e = clash (is_true store (at 0 r)) e a
    least3 a b c (suc zero) e = clash (is_true store (at 1 r)) e b
    least3 a b c (suc (suc zero)) e = clash (is_true store (at 2 r)) e c
    least3 a b c (suc (suc (suc j))) e = omega arith

    go : (a : Bool) → is_true store (at 0 r) ≡ a → (b : Bool) → is_true store (at 1 r) ≡ b → (c : Bool) → is_true store (at 2 r) ≡ c
        → WidestAt store r
    go true a b f c h = record { index = 0; is = rw a; small = omega arith; holds = λ z. a; least = λ j e. omega arith }
    go false a true f c h = record { index = 1; is = rw (a, f); small = omega arith; holds = λ z. f; least = least1 a }
    go false a false f true h =
        record { index = 2; is = rw (a, f, h); small = omega arith; holds = λ z. h; least = least2 a f }
    go false a false f false h =
        record { index = 3; is = rw (a, f, h); small = omega arith; holds = λ z. absurd (omega arith); least = least3 a f h }

pub widest-own : (store : List Record) (r : Record) → covers (widest store r) (key_of r) ≡ true
widest-own store r = let w = widest_at store r in rw w.is (at_own w.index r)

-- A true removal that covers a record lies within the widest true one there.
pub widest-widest : (store : List Record) (r : Record) (m : Removal) (k : Key) → is_true store m ≡ true
    → covers m (key_of r) ≡ true → covers m k ≡ true → covers (widest store r) k ≡ true
widest-widest store r m k e c d =
    let w = widest_at store r in
    let f : is_true store (at (grade m) r) ≡ true = is_true-within store (at (grade m) r) m (λ j h. covers_at m r j c ∙ h) e in
    rw w.is (at-within w.index (grade m) r k (w.least (grade m) f) (sym (covers_at m r k c) ∙ d))

-- It is true where the record is gone.
pub narrow-or-single : (n : ℕ) → n ≤ 3 → (n ≤ 2) ⊎ (n ≡ 3)
narrow-or-single zero h = inl (omega arith)
narrow-or-single (suc zero) h = inl (omega arith)
narrow-or-single (suc (suc zero)) h = inl (omega arith)
narrow-or-single (suc (suc (suc n))) h = inr (omega arith)

pub widest-true : (store : List Record) (r : Record) → is_true store (single_at r) ≡ true → is_true store (widest store r) ≡ true
widest-true store r e =
    let w = widest_at store r in
    rw w.is (go w.index w.holds (narrow-or-single w.index w.small))
  where
    go : (i : ℕ) → (i ≤ 2 → is_true store (at i r) ≡ true) → (i ≤ 2) ⊎ (i ≡ 3) → is_true store (at i r) ≡ true
    go i f (inl h) = f h
    go i f (inr h) = rw h e

-- The records that one widest removal covers have the same widest removal, but for spelling.
pub grade-at : (n : ℕ) (r : Record) → n ≤ 3 → grade (at n r) ≡ n
grade-at zero r h = refl
grade-at (suc zero) r h = refl
grade-at (suc (suc zero)) r h = refl
grade-at (suc (suc (suc n))) r h = omega arith

pub at_same : (n : ℕ) (e r : Record) (k : Key) → n ≤ 3 → covers (at n e) (key_of r) ≡ true → covers (at n e) k ≡ covers (at n r) k
at_same n e r k h c = covers_at (at n e) r k c ∙ ap (λ (i : ℕ). covers (at i r) k) (grade-at n e h)

pub widest-class : (store : List Record) (e r : Record) (k : Key) → covers (widest store e) (key_of r) ≡ true
    → covers (widest store r) k ≡ true → covers (widest store e) k ≡ true
widest-class store e r k c d = rw we.is (at_same i e r k we.small c' ∙ at-within i j r k (wider (decided (leb i j))) (rw wr.is at d))
  where
    we : WidestAt store e
    we = widest_at store e

    wr : WidestAt store r
    wr = widest_at store r

    i : ℕ
    i = we.index

    j : ℕ
    j = wr.index

    c' : covers (at i e) (key_of r) ≡ true
    c' = rw we.is at c

    wider : (leb i j ≡ true) ⊎ (leb i j ≡ false) → i ≤ j
    wider (inl h) = leb-true i j h
    wider (inr h) =
        let z : suc j ≤ i = leb-false i j h in
        let s = we.small in
        let q : covers (at j e) (key_of r) ≡ true = at-within j i e (key_of r) (omega arith) c' in
        we.least j (is_true-within store (at j e) (at j r) (λ k f. sym (at_same j e r k (omega arith) q) ∙ f) (wr.holds (omega arith)))

-- ---- the removal that is chosen

pub alike_refl : (gone : List Record) (m : Removal) → alike gone m m ≡ true
unfolding alike
alike_refl gone m = all_of-any (λ (r : Record). beq (covers m (key_of r)) (covers m (key_of r))) gone (λ r. beq-refl (covers m (key_of r)))

pub alike_at : (gone : List Record) (m w : Removal) (k : Key) → alike gone m w ≡ true → held k gone ≡ true → covers m k ≡ covers w k
unfolding alike
alike_at gone m w k e h =
    beq-true (covers m k) (covers w k) (all_of-held (λ (k : Key). beq (covers m k) (covers w k)) k gone e h)

pub record ChosenAt (store gone : List Record) (r : Record) : Type 0 where
  pub index : ℕ
  pub is : chosen store gone r ≡ at index r
  pub within : (widest_at store r).index ≤ index
  pub same : alike gone (at index r) (widest store r) ≡ true

pub chosen_at : (store gone : List Record) (r : Record) → ChosenAt store gone r
unfolding chosen
chosen_at store gone r = go (is_true store (at 2 r)) refl (alike gone (at 2 r) v) refl (alike gone (at 1 r) v) refl
  where
    v : Removal
    v = widest store r

    w : WidestAt store r
    w = widest_at store r

    i : ℕ
    i = w.index

    -- an index whose removal isn't alike is another
    other : (n : ℕ) → alike gone (at n r) v ≡ false → i ≡ n → ⊥
    other n f q = clash (alike gone (at n r) v) (ap (alike gone (at n r)) (w.is ∙ ap (λ (n : ℕ). at n r) q) ∙ alike_refl gone (at n r)) f

    go : (a : Bool) → is_true store (at 2 r) ≡ a → (b : Bool) → alike gone (at 2 r) v ≡ b → (c : Bool) → alike gone (at 1 r) v ≡ c
        → ChosenAt store gone r
    go true a true f c g = record { index = 2; is = rw (a, f); within = w.least 2 a; same = f }
    go true a false f true g =
        record {
          index = 1;
          is = rw (a, f, g);
          within = let h = w.least 2 a in let z : i ≢ 2 = other 2 f in omega arith;
          same = g;
        }
    go true a false f false g =
        let h : i ≤ 2 = w.least 2 a in
        let y : i ≢ 2 = other 2 f in
        let z : i ≢ 1 = other 1 g in
        let q : i ≡ 0 = omega arith in
        record {
          index = 0;
          is = rw (a, f, g);
          within = omega arith;
          same = rw (w.is, q) (alike_refl gone (at 0 r));
        }
    go false a b f c g =
        let q : i ≡ 3 = single (narrow-or-single i w.small) in
        record { index = 3; is = rw a; within = w.small; same = rw (w.is, q) (alike_refl gone (at 3 r)) }
      where
        single : (i ≤ 2) ⊎ (i ≡ 3) → i ≡ 3
        single (inl h) = clash (is_true store (at 2 r)) (is_true-at store i 2 r h (w.holds h)) a
        single (inr h) = h

pub chosen-alike : (store gone : List Record) (r : Record) → alike gone (chosen store gone r) (widest store r) ≡ true
chosen-alike store gone r = let c = chosen_at store gone r in rw c.is c.same

-- It is true where the record is gone.
pub chosen-true : (store gone : List Record) (r : Record) → held (key_of r) store ≡ false → is_true store (chosen store gone r) ≡ true
chosen-true store gone r h =
    let c = chosen_at store gone r in
    let w = widest_at store r in
    rw c.is
    (is_true-at store w.index c.index r c.within (rw w.is at (widest-true store r (is_true-single store r h))))

-- One record alone only where its RRset isn't gone; else it has no RDATA.
pub chosen-single : (store gone : List Record) (r : Record) → is_true store (rrset_at r) ≡ false → chosen store gone r ≡ single_at r
unfolding chosen
chosen-single store gone r e = rw e

pub chosen-size : (store gone : List Record) (r : Record) → is_true store (rrset_at r) ≡ true
    → size (fields_of (removal (chosen store gone r))) ≡ length r.owner + 10 + 0
unfolding chosen size fields_of
chosen-size store gone r e = rw e (go (alike gone (rrset_at r) (widest store r)) (alike gone (all_types_at r) (widest store r)))
  where
    go : (a b : Bool) → size (fields_of (removal (cond a (rrset_at r) (cond b (all_types_at r) (all_classes_at r))))) ≡ length r.owner + 10 + 0
    go true b = refl
    go false true = refl
    go false false = refl
