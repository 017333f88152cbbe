-- What edits do to a store, key by key.
use mathlib.Core.Path.{◌≡◌, refl, ◌∙◌}
use mathlib.Core.Bool.{Bool, true, false, cond}
use mathlib.Core.List.{List, [], ◌∷◌}
use Prim.Native.Nat.{ℕ}
use Rattle.zone.specs.Lists.{any_of}
use Rattle.zone.specs.Record.{Record, Key, key_of, same_key}
use Rattle.zone.specs.Store.{find, put, remove}
use Rattle.zone.specs.Sound.{distinct}
use Rattle.zone.specs.Batch.{is_put, edit, stored, batch_of}
use Rattle.zone.proofs.Lists.{or_left, or_right}
use Rattle.zone.proofs.Stores.{find-put, find-remove, distinct-put, distinct_remove}
use Rattle.zone.proofs.Batches.{edited_by, batch-edits}

-- An edit touches its own key alone, and lets no key stand twice.
pub find-edit : (k : Key) (r : Record) (l : List Record) → same_key (key_of r) k ≡ false → find k (edit l r) ≡ find k l
unfolding edit
find-edit k r l e = go (is_put r)
  where
    go : (b : Bool) → find k (cond b (put r l) (remove (key_of r) l)) ≡ find k l
    go true = find-put k r l ∙ rw e
    go false = find-remove k (key_of r) l ∙ rw e

pub distinct-edit : (r : Record) (l : List Record) → distinct l ≡ true → distinct (edit l r) ≡ true
unfolding edit
distinct-edit r l d = go (is_put r)
  where
    go : (b : Bool) → distinct (cond b (put r l) (remove (key_of r) l)) ≡ true
    go true = distinct-put r l d
    go false = distinct_remove (key_of r) l d

-- Edits one after the other.
pub find-edited_by : (k : Key) (rs l : List Record) → any_of (λ (r : Record). same_key (key_of r) k) rs ≡ false
    → find k (edited_by rs l) ≡ find k l
find-edited_by k [] l e = refl
find-edited_by k (r ∷ rs) l e =
    find-edited_by k rs (edit l r) (or_right (same_key (key_of r) k) (any_of (λ (r : Record). same_key (key_of r) k) rs) e)
    ∙ find-edit k r l (or_left (same_key (key_of r) k) (any_of (λ (r : Record). same_key (key_of r) k) rs) e)

pub distinct-edited_by : (rs l : List Record) → distinct l ≡ true → distinct (edited_by rs l) ≡ true
distinct-edited_by [] l d = d
distinct-edited_by (r ∷ rs) l d = distinct-edited_by rs (edit l r) (distinct-edit r l d)

pub distinct-batch : (zone bytes : List ℕ) (old new : List Record) → batch_of zone bytes old ≡ stored new → distinct old ≡ true
    → distinct new ≡ true
distinct-batch zone bytes old new e d =
    let x = batch-edits zone bytes old new e in
    rw x.gives at (distinct-edited_by x.edits old d)
