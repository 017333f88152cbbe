-- Laws of one edit applied to the store in lent memory, and of the index of a key.
use Prim.Native.Nat.{ℕ, suc, ◌+◌, ◌≤◌, ◌<◌}
use mathlib.Core.Path.{◌≡◌, refl, sym, ap, ap₂, ◌∙◌, subst}
use mathlib.Core.Bool.{Bool, true, false, cond, not, ◌&&◌, ◌||◌}
use mathlib.Core.List.{List, [], ◌∷◌, ◌++◌, map}
use mathlib.Core.Option.{some}
use Rattle.std.specs.Prelude.{Option, None, Some, is_some, Ok, Err}
use native.Mathlib.Nat.{min-eq_left}
use native.Mathlib.Numerals.{one-add}
use native.Mathlib.Omega.{arith}
use lib.ListN.{length, take, drop, get_or}
use lib.Dec.{leb}
use borrow.Author.Tests.{le-leb, lt-leb}
use Rattle.wire.specs.Name.{after}
use Rattle.table.specs.Blocks.{cut}
use Rattle.zone.specs.Lists.{only_if}
use Rattle.zone.specs.Record.{Record, Key, key_of, same_key}
use Rattle.zone.specs.Store.{find, held, with_ttl, set_if, put, remove}
use Rattle.zone.specs.Sound.{distinct}
use Rattle.zone.specs.Batch.{max_records, max_ttl, is_put, overfull, edit}
use Rattle.zone.specs.Table.{records_of, index_of}
use Rattle.zone.specs.Update.{applied}
use Rattle.zone.specs.declared.BatchFault.TheVariants.{StoreFull}
use Rattle.zone.proofs.Stores.{held_cons, none-held, find-alike, find-apart, remove_absent, distinct_head, distinct_tail}
use Rattle.zone.proofs.Keys.{same_key-true}
use Rattle.zone.proofs.Memory.{no_record, length-records}
use Rattle.zone.proofs.Updates.{Timed, timed_turn, timed_all, ttl_set_true, ttl_set_false}

-- ---- the index of a key

-- A key is held where it has an index.
pub held-index : (k : Key) (l : List Record) → held k l ≡ is_some (index_of k l)
unfolding index_of
held-index k [] = none-held k [] (unfold find in refl)
held-index k (r ∷ l) = held_cons k r l ∙ ap (λ (t : Bool). same_key (key_of r) k || t) (held-index k l) ∙ go (same_key (key_of r) k) (index_of k l)
  where
    go : (b : Bool) (o : Option ℕ) → (b || is_some o) ≡ is_some (cond b (Some 0) (after 1 o))
    go true o = refl
    go false None = refl
    go false (Some i) = refl

-- The first record with a key stands in front, or behind.
data First (k : Key) (r : Record) (l : List Record) : ℕ → Type 0 where
  here : same_key (key_of r) k ≡ true → First k r l 0
  later : {j : ℕ} → same_key (key_of r) k ≡ false → index_of k l ≡ Some j → First k r l (suc j)

first : (k : Key) (r : Record) (l : List Record) (i : ℕ) → index_of k (r ∷ l) ≡ Some i → First k r l i
unfolding index_of
first k r l i e = go (same_key (key_of r) k) refl (index_of k l) refl
  where
    value : (b : Bool) → same_key (key_of r) k ≡ b → (o : Option ℕ) → index_of k l ≡ o → cond b (Some 0) (after 1 o) ≡ Some i
    value b h o g = sym (ap₂ (λ (b : Bool) (o : Option ℕ). cond b (Some 0) (after 1 o)) h g) ∙ e

    go : (b : Bool) → same_key (key_of r) k ≡ b → (o : Option ℕ) → index_of k l ≡ o → First k r l i
    go true h o g =
        let w : Some 0 ≡ Some i = value true h o g in
        let z : 0 ≡ i = cc in subst (First k r l) z (here h)
    go false h None g =
        let w : None ≡ Some i = value false h None g in
        let z : ◌≡◌ {A = ℕ} 0 1 = cc in absurd (omega arith)
    go false h (Some j) g =
        let w : Some (1 + j) ≡ Some i = value false h (Some j) g in
        let z : 1 + j ≡ i = cc in subst (First k r l) (sym (one-add j) ∙ z) (later h g)

never : {X : Type 0} (k : Key) (i : ℕ) → index_of k [] ≡ Some i → X
unfolding index_of
never k i e = let w : None ≡ Some i = e in let z : ◌≡◌ {A = ℕ} 0 1 = cc in absurd (omega arith)

-- What stands at the index is what is found there.
pub find-index : (k : Key) (l : List Record) (i : ℕ) → index_of k l ≡ Some i → find k l ≡ some (get_or l i no_record).ttl
find-index k [] i e = never k i e
find-index k (r ∷ l) i e = go (first k r l i e) (find-index k l)
  where
    go : {i : ℕ} → First k r l i → ((j : ℕ) → index_of k l ≡ Some j → find k l ≡ some (get_or l j no_record).ttl)
        → find k (r ∷ l) ≡ some (get_or (r ∷ l) i no_record).ttl
    go (here h) f = find-alike k r l h
    go (later {j} h g) f = find-apart k r l h ∙ f j g

-- Where no key stands twice, a removal takes that one record.
pub remove-index : (k : Key) (l : List Record) (i : ℕ) → distinct l ≡ true → index_of k l ≡ Some i → remove k l ≡ cut i l
unfolding cut remove
remove-index k [] i d e = never k i e
remove-index k (r ∷ l) i d e = go (first k r l i e) (λ j. remove-index k l j (distinct_tail r l d))
  where
    kept : (b : Bool) → same_key (key_of r) k ≡ b → remove k (r ∷ l) ≡ only_if (not b) r (remove k l)
    kept b h = ap (λ (b : Bool). only_if (not b) r (remove k l)) h

    go : {i : ℕ} → First k r l i → ((j : ℕ) → index_of k l ≡ Some j → remove k l ≡ cut j l) → remove k (r ∷ l) ≡ cut i (r ∷ l)
    go (here h) f =
        kept true h ∙ remove_absent k l (ap (λ (k : Key). held k l) (sym (same_key-true (key_of r) k h)) ∙ distinct_head r l d)
    go (later {j} h g) f = kept false h ∙ ap (λ (m : List Record). r ∷ m) (f j g)

-- The records before the index keep their TTL, so the loop that sets TTLs may begin there.
before-index : (k : Key) (t : ℕ) (l : List Record) (i : ℕ) → index_of k l ≡ Some i
    → (i ≤ length l) × (map (set_if k t) l ≡ take i l ++ map (set_if k t) (drop i l))
before-index k t [] i e = never k i e
before-index k t (r ∷ l) i e = go (first k r l i e) (before-index k t l)
  where
    go : {i : ℕ} → First k r l i
        → ((j : ℕ) → index_of k l ≡ Some j → (j ≤ length l) × (map (set_if k t) l ≡ take j l ++ map (set_if k t) (drop j l)))
        → (i ≤ length (r ∷ l)) × (map (set_if k t) (r ∷ l) ≡ take i (r ∷ l) ++ map (set_if k t) (drop i (r ∷ l)))
    go (here h) f = (omega arith, refl)
    go (later {j} h g) f =
        let p = f j g in
        (omega arith, ap₂ (λ (b : Bool) (m : List Record). cond b (with_ttl t r) r ∷ m) h p.1)

pub timed_from : (k : Key) (t n : ℕ) (a : List ℕ) (i : ℕ) → n ≤ max_records → index_of k (records_of n a) ≡ Some i → Timed k t n a a i
timed_from k t n a i h e =
    let p = before-index k t (records_of n a) i e in
    record { few = omega (arith, length-records n a, min-eq_left h); store = p.1 }

-- ---- one edit

-- What becomes of a store, by the three tests.
by : (l : List Record) (r : Record) (p h w : Bool) → is_put r ≡ p → held (key_of r) l ≡ h → leb max_records (length l) ≡ w → applied l r
    ≡ cond (p && not h && w) (Err StoreFull) (Ok (cond p (cond h (map (set_if (key_of r) r.ttl) l) (l ++ (r ∷ []))) (remove (key_of r) l)))
unfolding applied overfull edit put
by l r p h w e f g = cc

pub put_held : (l after : List Record) (r : Record) (i : ℕ) → r.ttl ≤ max_ttl → index_of (key_of r) l ≡ Some i
    → after ≡ map (set_if (key_of r) r.ttl) l → Ok after ≡ applied l r
put_held l after r i t e s =
    ap Ok s ∙ sym (by l r true true (leb max_records (length l)) (le-leb r.ttl max_ttl t) (held-index (key_of r) l ∙ ap is_some e) refl)

module _ (a : List ℕ) (n : ℕ) (r : Record) (few : n ≤ max_records) where
  long : length (records_of n a) ≡ n
  long = length-records n a ∙ min-eq_left few

  module _ (t : r.ttl ≤ max_ttl) where
    module _ (e : index_of (key_of r) (records_of n a) ≡ None) where
      absent : held (key_of r) (records_of n a) ≡ false
      absent = held-index (key_of r) (records_of n a) ∙ ap is_some e

      pub put_full : max_records ≤ n → Err StoreFull ≡ applied (records_of n a) r
      put_full m =
          sym (by (records_of n a) r true false true (le-leb r.ttl max_ttl t) absent (le-leb max_records (length (records_of n a)) (omega (arith, long))))

      pub put_new : (b : List ℕ) → n < max_records → records_of (n + 1) b ≡ records_of n a ++ (r ∷ [])
          → Ok (records_of (n + 1) b) ≡ applied (records_of n a) r
      put_new b m s =
          ap Ok s
          ∙ sym (by (records_of n a) r true false false (le-leb r.ttl max_ttl t) absent (lt-leb max_records (length (records_of n a)) (omega (arith, long))))

  pub removed : (m : ℕ) (b : List ℕ) → max_ttl < r.ttl → records_of m b ≡ remove (key_of r) (records_of n a)
      → Ok (records_of m b) ≡ applied (records_of n a) r
  removed m b t s =
      ap Ok s
      ∙ sym (by (records_of n a) r false (held (key_of r) (records_of n a)) (leb max_records (length (records_of n a))) (lt-leb r.ttl max_ttl t) refl refl)

pub ruleset of_putting = (put_held, put_full, put_new)

pub ruleset of_sweeping = (timed_from, timed_turn, timed_all, ttl_set_true, ttl_set_false)
