-- Laws of the store in lent memory: its blocks, keys, the search for a key.
use Prim.Native.Nat.{ℕ, zero, suc, min, ◌*◌, ◌≤◌, ◌<◌}
use mathlib.Core.Path.{◌≡◌, refl, sym, ap, ◌∙◌}
use mathlib.Core.Bool.{Bool, true, false, ◌&&◌}
use mathlib.Core.List.{List, [], ◌∷◌, map}
use native.Mathlib.Nat.{min-eq_left}
use native.Mathlib.Numerals.{one-add}
use native.Mathlib.Omega.{arith}
use lib.ListN.{length, take, drop, get_or, length-map, get_or-map, drop_of_length-le}
use lib.Seq.{drop-cons}
use lib.Dec.{eqb}
use Rattle.std.specs.Prelude.{Option, None, Some, MatchOption}
use Rattle.wire.specs.Name.{lowered, same_octets, same_name}
use Rattle.table.specs.Blocks.{blocks}
use Rattle.table.proofs.Blocks.{length-blocks, blocks_at, take-blocks, take-map}
use Rattle.zone.specs.Record.{Record, Key, key_of, same_key}
use Rattle.zone.specs.Batch.{max_records}
use Rattle.zone.specs.Table.{block_size, area_size, block_at, rec_of, records_of, key_from, index_of}
use Rattle.zone.specs.Update.{keyed, Passes}
use Rattle.zone.proofs.Lists.{never, clash}
use Rattle.zone.proofs.Keys.{same_key-true}

-- ---- a block

pub block_past : (a : List ℕ) (i : ℕ) → length a ≡ area_size → max_records ≤ i → [] ≡ block_at a i
block_past a i l h = sym (ap (take block_size) (drop_of_length-le a {i = i * block_size} (omega arith)))

-- ---- a key, by the tests in the order in which the code asks them

pub same_key_turned : (r : Record) (name : List ℕ) (t c : ℕ) (d : List ℕ) → same_key (key_of r) (key_from name t c d)
    ≡ (eqb r.rrtype t && (eqb r.rrclass c && (same_octets r.rdata d && same_name r.owner name)))
unfolding same_key same_name
same_key_turned r name t c d =
    turned (same_octets (lowered r.owner) (lowered name)) (eqb r.rrtype t) (eqb r.rrclass c) (same_octets r.rdata d)
  where
    turned : (o t c d : Bool) → (o && t && c && d) ≡ (t && (c && (d && o)))
    turned true true true true = refl
    turned true true true false = refl
    turned true true false d = refl
    turned true false c d = refl
    turned false true true true = refl
    turned false true true false = refl
    turned false true false d = refl
    turned false false c d = refl

-- A quick look at the RDATA tells keys apart.
pub key_apart : (r : Record) (k : Key) (passed : Bool) → Passes r.rdata k.rdata passed → passed ≡ false → false ≡ same_key (key_of r) k
key_apart r k passed s h =
    sym (never (same_key (key_of r) k) (λ q. clash passed (s.equal (ap (λ (k : Key). k.rdata) (same_key-true (key_of r) k q))) h))

-- ---- the store as a list

pub length-records : (n : ℕ) (a : List ℕ) → length (records_of n a) ≡ min n max_records
unfolding records_of
length-records n a = length-map (blocks block_size (min n max_records) a) rec_of ∙ length-blocks block_size (min n max_records) a

abbrev pub no_record : Record
no_record = rec_of []

pub records-at : (n : ℕ) (a : List ℕ) (i : ℕ) → i < min n max_records → get_or (records_of n a) i no_record ≡ rec_of (block_at a i)
unfolding records_of
records-at n a i h =
    get_or-map rec_of (blocks block_size (min n max_records) a) i [] ∙ ap rec_of (blocks_at block_size (min n max_records) a i h)

-- For loops over a store: the next record, those before a place, none at all.
pub records-next : (n : ℕ) (a : List ℕ) (i : ℕ) → i < min n max_records
    → drop i (records_of n a) ≡ rec_of (block_at a i) ∷ drop (suc i) (records_of n a)
records-next n a i h =
    drop-cons (records_of n a) i no_record (omega (arith, length-records n a))
    ∙ ap (λ (r : Record). r ∷ drop (suc i) (records_of n a)) (records-at n a i h)

pub records-take : (k n : ℕ) (a : List ℕ) → k ≤ n → n ≤ max_records → take k (records_of n a) ≡ records_of k a
unfolding records_of
records-take k n a h m =
    let l : k ≤ max_records = omega arith in
    take-map rec_of k (blocks block_size (min n max_records) a)
    ∙ ap (map rec_of) (take-blocks block_size k (min n max_records) a (omega (arith, min-eq_left m)))
    ∙ ap (λ (j : ℕ). map rec_of (blocks block_size j a)) (sym (min-eq_left l))

pub records-none : (a : List ℕ) → records_of 0 a ≡ []
unfolding records_of blocks
records-none a = refl

-- ---- the search for a key

absent : (k : Key) (l : List Record) → ((j : ℕ) → j < length l → same_key (key_of (get_or l j no_record)) k ≡ false) → index_of k l ≡ None
unfolding index_of
absent k [] f = refl
absent k (r ∷ l) f = rw (f 0 (omega arith), absent k l (λ j h. f (suc j) (omega arith))) refl

stands : (k : Key) (l : List Record) (i : ℕ) → i < length l → same_key (key_of (get_or l i no_record)) k ≡ true
    → ((j : ℕ) → j < i → same_key (key_of (get_or l j no_record)) k ≡ false) → index_of k l ≡ Some i
unfolding index_of
stands k [] i h g f = absurd (omega arith)
stands k (r ∷ l) zero h g f = rw g refl
stands k (r ∷ l) (suc i) h g f =
    rw (f 0 (omega arith), stands k l i (omega arith) g (λ j q. f (suc j) (omega arith)), one-add i) refl

-- No block in use has the key; or one has it, and none before it.
pub found : (k : Key) (a : List ℕ) (count n : ℕ) (r : Option ℕ) → n ≡ min count max_records
    → MatchOption r ((j : ℕ) → 0 ≤ j → j < n → keyed a j k ≡ false)
    (λ i. (0 ≤ i) × (i < n) × (keyed a i k ≡ true) × ((j : ℕ) → 0 ≤ j → j < i → keyed a j k ≡ false))
    → r ≡ index_of k (records_of count a)
found k a count n r e m = go r m
  where
    same : (j : ℕ) (b : Bool) → j < n → keyed a j k ≡ b → same_key (key_of (get_or (records_of count a) j no_record)) k ≡ b
    same j b h q = ap (λ (r : Record). same_key (key_of r) k) (records-at count a j (omega arith)) ∙ q

    go : (r : Option ℕ) → MatchOption r ((j : ℕ) → 0 ≤ j → j < n → keyed a j k ≡ false)
        (λ i. (0 ≤ i) × (i < n) × (keyed a i k ≡ true) × ((j : ℕ) → 0 ≤ j → j < i → keyed a j k ≡ false))
        → r ≡ index_of k (records_of count a)
    go None f =
        sym (absent k (records_of count a) (λ j h. let w : j < n = omega (arith, length-records count a) in same j false w (f j (omega arith) w)))
    go (Some i) f =
        sym (stands k (records_of count a) i (omega (arith, length-records count a, f.1)) (same i true f.1 f.2)
        (λ j h. same j false (omega (arith, f.1)) (f.3 j (omega arith) h)))
