-- The records of a store in lent memory, in turn.
use Prim.Native.Nat.{ℕ, zero, suc, min, ◌+◌, ◌≤◌, ◌<◌}
use mathlib.Core.Path.{◌≡◌, refl, sym, ap, ap₂, ◌∙◌}
use mathlib.Core.Bool.{Bool, false}
use mathlib.Core.List.{List, [], ◌∷◌}
use native.Mathlib.Numerals.{add-one}
use native.Mathlib.Omega.{arith}
use lib.ListN.{drop, get_or, drop_of_length-le}
use lib.Seq.{drop-cons}
use Rattle.zone.specs.Lists.{only_if}
use Rattle.zone.specs.Record.{Record}
use Rattle.zone.specs.Batch.{max_records}
use Rattle.zone.specs.Table.{block_at, rec_of, records_of}
use Rattle.zone.proofs.Memory.{no_record, length-records, records-at}
use Rattle.notify.specs.Marks.{marked}

module _ (count : ℕ) (a : List ℕ) (i n : ℕ) (e : n ≡ min count max_records) where
  pub records-end : n ≤ i → drop i (records_of count a) ≡ []
  records-end h = drop_of_length-le (records_of count a) {i = i} (omega (arith, length-records count a))

  pub records-next : i < n → (b : List ℕ) → b ≡ block_at a i → drop i (records_of count a) ≡ rec_of b ∷ drop (i + 1) (records_of count a)
  records-next h b f =
      drop-cons (records_of count a) i no_record (omega (arith, length-records count a))
      ∙ ap₂ (λ (r : Record) (j : ℕ). r ∷ drop j (records_of count a)) (records-at count a i (omega arith) ∙ ap rec_of (sym f)) (sym (add-one i))

-- The next record by its mark, which it may lack.
pub marked-next : (ms : List Bool) (i : ℕ) (r : Record) (l : List Record)
    → marked (drop i ms) (r ∷ l) ≡ only_if (get_or ms i false) r (marked (drop (i + 1) ms) l)
unfolding marked
marked-next ms i r l = go ms i ∙ ap (λ (j : ℕ). only_if (get_or ms i false) r (marked (drop j ms) l)) (sym (add-one i))
  where
    go : (ms : List Bool) (i : ℕ) → marked (drop i ms) (r ∷ l) ≡ only_if (get_or ms i false) r (marked (drop (suc i) ms) l)
    go [] zero = refl
    go [] (suc i) = refl
    go (m ∷ ms) zero = refl
    go (m ∷ ms) (suc i) = go ms i
