-- Laws of marks: one for each record of a store, by a test of it.
use Prim.Native.Nat.{ℕ, suc, min, ◌+◌, ◌<◌}
use mathlib.Core.Path.{◌≡◌, refl, sym, ap, ap₂, ◌∙◌}
use mathlib.Core.Bool.{Bool, true, false, ◌&&◌}
use mathlib.Core.List.{List, [], ◌∷◌}
use native.Mathlib.Omega.{arith}
use lib.ListN.{length, get_or, set}
use Rattle.std.proofs.lemmas.List.Edits.{fill_by_more}
use Rattle.zone.specs.Lists.{only_if, keep}
use Rattle.zone.specs.Record.{Record}
use Rattle.zone.specs.Batch.{max_records}
use Rattle.zone.specs.Table.{block_at, rec_of, records_of}
use Rattle.zone.proofs.Memory.{no_record, length-records, records-at}
use Rattle.notify.specs.Marks.{marked}

-- Where each mark is that of a test of a marked record, those that pass it are marked.
marked-among : (p : Record → Bool) (ms among : List Bool) (l : List Record)
    → ((k : ℕ) → k < length l → get_or ms k false ≡ (get_or among k false && p (get_or l k no_record))) → marked ms l ≡ keep p (marked among l)
unfolding marked
marked-among p [] [] l h = refl
marked-among p [] (m ∷ among) [] h = refl
marked-among p [] (m ∷ among) (r ∷ l) h = rest m (h 0 (omega arith)) (marked-among p [] among l (λ k j. h (suc k) (omega arith)))
  where
    rest : (m : Bool) → false ≡ (m && p r) → [] ≡ keep p (marked among l) → [] ≡ keep p (only_if m r (marked among l))
    rest true e g = g ∙ ap (λ (b : Bool). only_if b r (keep p (marked among l))) e
    rest false e g = g
marked-among p (m ∷ ms) among [] h = none among
  where
    none : (among : List Bool) → [] ≡ keep p (marked among [])
    none [] = refl
    none (n ∷ among) = refl
marked-among p (m ∷ ms) [] (r ∷ l) h =
    ap₂ (λ (b : Bool) (x : List Record). only_if b r x) (h 0 (omega arith)) (marked-among p ms [] l (λ k j. h (suc k) (omega arith)))
marked-among p (m ∷ ms) (n ∷ among) (r ∷ l) h =
    ap₂ (λ (b : Bool) (x : List Record). only_if b r x) (h 0 (omega arith)) (marked-among p ms among l (λ k j. h (suc k) (omega arith))) ∙ rest n
  where
    rest : (n : Bool) → only_if (n && p r) r (keep p (marked among l)) ≡ keep p (only_if n r (marked among l))
    rest true = refl
    rest false = refl

-- Where each is that of a test of a record.
marked-each : (p : Record → Bool) (ms : List Bool) (l : List Record)
    → ((k : ℕ) → k < length l → get_or ms k false ≡ p (get_or l k no_record)) → marked ms l ≡ keep p l
unfolding marked
marked-each p [] [] h = refl
marked-each p [] (r ∷ l) h =
    marked-each p [] l (λ k j. h (suc k) (omega arith)) ∙ ap (λ (b : Bool). only_if b r (keep p l)) (h 0 (omega arith))
marked-each p (m ∷ ms) [] h = refl
marked-each p (m ∷ ms) (r ∷ l) h =
    ap₂ (λ (b : Bool) (x : List Record). only_if b r x) (h 0 (omega arith)) (marked-each p ms l (λ k j. h (suc k) (omega arith)))

module _ (p : Record → Bool) (count : ℕ) (a : List ℕ) (ms : List Bool) where
  short : (k : ℕ) → k < length (records_of count a) → k < min count max_records
  short k h = omega (arith, length-records count a)

  pub marked-by : ((k : ℕ) → k < min count max_records → get_or ms k false ≡ p (rec_of (block_at a k)))
      → marked ms (records_of count a) ≡ keep p (records_of count a)
  marked-by h = marked-each p ms (records_of count a) (λ k j. let i : k < min count max_records = short k j in h k i ∙ sym (ap p (records-at count a k i)))

  pub marked-by_among : (among : List Bool)
      → ((k : ℕ) → k < min count max_records → get_or ms k false ≡ (get_or among k false && p (rec_of (block_at a k))))
      → marked ms (records_of count a) ≡ keep p (marked among (records_of count a))
  marked-by_among among h = marked-among p ms among (records_of count a)
      (λ k j. let i : k < min count max_records = short k j in h k i ∙ sym (ap (λ (r : Record). get_or among k false && p r) (records-at count a k i)))

-- One mark more.
pub marked-more : (f : ℕ → Bool) (ms : List Bool) (i : ℕ) (v : Bool) → i < length ms → v ≡ f i
    → ((k : ℕ) → k < i → get_or ms k false ≡ f k) → (k : ℕ) → k < i + 1 → get_or (set ms i v) k false ≡ f k
marked-more f ms i v h e g = rw e (fill_by_more f ms i false h g)
