-- Laws of changes of the store in lent memory: a TTL set, a record gone, a record added.
use Prim.Native.Nat.{ℕ, suc, ◌+◌, ◌-◌, ◌*◌, ◌^◌, ◌≤◌, ◌<◌}
use mathlib.Core.Path.{◌≡◌, refl, sym, ap, ap₂, ◌∙◌}
use mathlib.Core.Bool.{Bool, true, false, cond, not}
use mathlib.Core.List.{List, [], ◌∷◌, ◌++◌, append-nil, append_assoc, map}
use native.Mathlib.Nat.{min-eq_left}
use native.Mathlib.Numerals.{add-one}
use native.Mathlib.Omega.{arith}
use lib.ListN.{length, take, drop, get_or, set, length-drop, drop_of_length-le}
use lib.Seq.{sets, take-suc, take-suc-set, take_all, set-get_or, drop-set-lt, drop-cons, length-take-le}
use Rattle.wire.specs.Field.{octets}
use Rattle.wire.proofs.Fields.{length-octets}
use Rattle.wire.proofs.Writes.{drop-sets-after, field-before, field-written}
use Rattle.table.specs.Blocks.{blocks, cut, slid, text_at}
use Rattle.table.proofs.Blocks.{map-cut, map-set, blocks_at, blocks-sets, blocks-slid, take-cut, drop-cut}
use Rattle.zone.specs.Lists.{keep, only_if}
use Rattle.zone.specs.Record.{Record, Key, key_of, same_key}
use Rattle.zone.specs.Store.{with_ttl, set_if, remove}
use Rattle.zone.specs.Batch.{max_records}
use Rattle.zone.specs.Table.{block_size, area_size, block_at, rec_of, records_of}
use Rattle.zone.specs.Update.{keyed, TtlSet}
use Rattle.zone.proofs.Lists.{keep_append}
use Rattle.zone.proofs.Memory.{no_record, length-records, records-at}

-- ---- a TTL in a block

pub rec_of-timed : (b : List ℕ) (t : ℕ) → 10 ≤ length b → t < 256 ^ 4 → rec_of (sets b 6 (octets 4 t)) ≡ with_ttl t (rec_of b)
unfolding rec_of
rec_of-timed b t l h =
    let v : List ℕ = octets 4 t in
    let n = length-octets 4 t in
    let o : text_at (sets b 6 v) 0 10 ≡ text_at b 0 10 =
    ap₂ (λ (m : ℕ) (d : List ℕ). take m d) (field-before 1 b 6 v 0 (omega arith)) (drop-sets-after 10 b 6 v (omega arith)) in
    let d : text_at (sets b 6 v) 1 265 ≡ text_at b 1 265 =
    ap₂ (λ (m : ℕ) (d : List ℕ). take m d) (field-before 1 b 6 v 1 (omega arith)) (drop-sets-after 265 b 6 v (omega arith)) in
    let p = field-before 2 b 6 v 2 (omega arith) in
    let q = field-before 2 b 6 v 4 (omega arith) in
    let r = field-written 4 t b 6 (omega arith) h in
    λ i. record { owner = o i; rrtype = p i; rrclass = q i; ttl = r i; rdata = d i }

-- ---- the store as a list

pub records-plain : (n : ℕ) (a : List ℕ) → n ≤ max_records → records_of n a ≡ map rec_of (blocks block_size n a)
unfolding records_of
records-plain n a h = ap (λ (m : ℕ). map rec_of (blocks block_size m a)) (min-eq_left h)

pub length-block : (a : List ℕ) (i : ℕ) → length a ≡ area_size → i < max_records → length (block_at a i) ≡ block_size
length-block a i l h = length-take-le block_size (drop (i * block_size) a) (omega (arith, length-drop (i * block_size) a))

-- A write into one block.
pub records-sets : (n : ℕ) (a : List ℕ) (i k : ℕ) (vs : List ℕ) → n ≤ max_records → i < n → k + length vs ≤ block_size
    → records_of n (sets a (i * block_size + k) vs) ≡ set (records_of n a) i (rec_of (sets (block_at a i) k vs))
records-sets n a i k vs h g f =
    records-plain n (sets a (i * block_size + k) vs) h ∙ ap (map rec_of) (blocks-sets block_size n a i k vs f)
    ∙ map-set rec_of (blocks block_size n a) i (sets (get_or (blocks block_size n a) i []) k vs)
    ∙ ap₂ (λ (l : List Record) (b : List ℕ). set l i (rec_of (sets b k vs))) (sym (records-plain n a h)) (blocks_at block_size n a i g)

-- ---- loops over a list: one that changes every member in turn, and one that takes members out from the last on

module _ (g : Record → Record) (l₀ l m : List Record) (i : ℕ) (d : Record) where
  pub sweep : i < length l → map g l₀ ≡ take i l ++ map g (drop i l) → m ≡ set l i (g (get_or l i d))
      → map g l₀ ≡ take (i + 1) m ++ map g (drop (i + 1) m)
  sweep h e f =
      let x : Record = g (get_or l i d) in
      let t : take (suc i) m ≡ take i l ++ (x ∷ []) = ap (take (suc i)) f ∙ take-suc-set l i x h in
      let u : drop (suc i) m ≡ drop (suc i) l = ap (drop (suc i)) f ∙ drop-set-lt (suc i) l i x (omega arith) in
      e ∙ ap (λ (r : List Record). take i l ++ map g r) (drop-cons l i d h)
      ∙ sym (append_assoc (take i l) (x ∷ []) (map g (drop (suc i) l)))
      ∙ ap₂ (λ (v w : List Record). v ++ map g w) (sym t) (sym u)
      ∙ ap (λ (j : ℕ). take j m ++ map g (drop j m)) (sym (add-one i))

module _ (p : Record → Bool) (l₀ l m : List Record) (i : ℕ) (d : Record) where
  pub thin : i < length l → keep p l₀ ≡ keep p (take (suc i) l) ++ drop (suc i) l → m ≡ cond (p (get_or l i d)) l (cut i l)
      → keep p l₀ ≡ keep p (take i m) ++ drop i m
  thin h e f =
      e ∙ ap (λ (r : List Record). keep p r ++ drop (suc i) l) (take-suc l i d h)
      ∙ ap (λ (r : List Record). r ++ drop (suc i) l) (keep_append p (take i l) (get_or l i d ∷ []))
      ∙ append_assoc (keep p (take i l)) (keep p (get_or l i d ∷ [])) (drop (suc i) l)
      ∙ go (p (get_or l i d)) refl
    where
      go : (b : Bool) → p (get_or l i d) ≡ b → keep p (take i l) ++ (only_if b (get_or l i d) [] ++ drop (suc i) l) ≡ keep p (take i m) ++ drop i m
      go true q =
          let n : m ≡ l = f ∙ ap (λ (t : Bool). cond t l (cut i l)) q in
          ap (λ (r : List Record). keep p (take i l) ++ r) (sym (drop-cons l i d h))
          ∙ ap (λ (r : List Record). keep p (take i r) ++ drop i r) (sym n)
      go false q =
          let n : m ≡ cut i l = f ∙ ap (λ (t : Bool). cond t l (cut i l)) q in
          ap₂ (λ (v w : List Record). keep p v ++ w) (sym (take-cut i l)) (sym (drop-cut i l))
          ∙ ap (λ (r : List Record). keep p (take i r) ++ drop i r) (sym n)

-- ---- the TTL of every record with a key

record-there : (n : ℕ) (a : List ℕ) (i : ℕ) → n ≤ max_records → i < n → get_or (records_of n a) i no_record ≡ rec_of (block_at a i)
record-there n a i h g = records-at n a i (omega (arith, min-eq_left h))

pub ttl_set : (t : ℕ) (a : List ℕ) (i : ℕ) (b : List ℕ) → length a ≡ area_size → i < max_records → t < 256 ^ 4
    → b ≡ sets a (i * block_size + 6) (octets 4 t) → TtlSet t a i b
ttl_set t a i b l h f e = record {
  store = λ n m g. ap (records_of n) e ∙ records-sets n a i 6 (octets 4 t) m g (omega (arith, length-octets 4 t))
      ∙ ap (set (records_of n a) i) (rec_of-timed (block_at a i) t (omega (arith, length-block a i l h)) f);
}

-- The same where the block's record has a key.
pub record TtlSetIf (k : Key) (t : ℕ) (area : List ℕ) (i : ℕ) (after : List ℕ) : Type 0 where
  pub store : (n : ℕ) → n ≤ max_records → i < n → records_of n after ≡ set (records_of n area) i (set_if k t (rec_of (block_at area i)))

module _ (k : Key) (t : ℕ) (a : List ℕ) (i : ℕ) (b : List ℕ) (u : Bool) (f : u ≡ keyed a i k) where
  chosen : (v : Bool) → u ≡ v → set_if k t (rec_of (block_at a i)) ≡ cond v (with_ttl t (rec_of (block_at a i))) (rec_of (block_at a i))
  chosen v g = ap (λ (x : Bool). cond x (with_ttl t (rec_of (block_at a i))) (rec_of (block_at a i))) (sym f ∙ g)

  pub ttl_set_true : u ≡ true → TtlSet t a i b → TtlSetIf k t a i b
  ttl_set_true g s = record { store = λ n m h. s.store n m h ∙ ap (set (records_of n a) i) (sym (chosen true g)) }

  pub ttl_set_false : u ≡ false → TtlSetIf k t a i a
  ttl_set_false g = record {
    store = λ n m h. sym (ap (set (records_of n a) i) (chosen false g ∙ sym (record-there n a i m h)) ∙ set-get_or (records_of n a) i no_record);
  }

-- The loop over all records: those before i have their TTL.
pub record Timed (k : Key) (t n : ℕ) (a b : List ℕ) (i : ℕ) : Type 0 where
  pub few : i ≤ n
  pub store : map (set_if k t) (records_of n a) ≡ take i (records_of n b) ++ map (set_if k t) (drop i (records_of n b))

pub timed_turn : (k : Key) (t n : ℕ) (a b : List ℕ) (i : ℕ) (c : List ℕ) → Timed k t n a b i → n ≤ max_records → i < n
    → TtlSetIf k t b i c → Timed k t n a c (i + 1)
timed_turn k t n a b i c s h g e =
    let w = length-records n b in
    let m = min-eq_left h in
    record {
      few = omega arith;
      store = sweep (set_if k t) (records_of n a) (records_of n b) (records_of n c) i no_record (omega arith) s.store
          (e.store n h g ∙ ap (λ (r : Record). set (records_of n b) i (set_if k t r)) (sym (record-there n b i h g)));
    }

pub timed_all : (k : Key) (t n : ℕ) (a b : List ℕ) (i : ℕ) → Timed k t n a b i → n ≤ max_records → n ≤ i
    → records_of n b ≡ map (set_if k t) (records_of n a)
timed_all k t n a b i s h g =
    let w = length-records n b in
    let m = min-eq_left h in
    let l : List Record = records_of n b in
    sym (s.store
    ∙ ap₂ (λ (v w : List Record). v ++ map (set_if k t) w) (take_all i l (omega arith)) (drop_of_length-le l {i = i} (omega arith))
    ∙ append-nil l)

-- ---- every record with a key gone

pub records_slid : (n : ℕ) (a b : List ℕ) (i : ℕ) → length a ≡ area_size → n ≤ max_records → i < n
    → b ≡ slid a (i * block_size) (i * block_size + block_size) ((n - 1 - i) * block_size) → records_of (n - 1) b ≡ cut i (records_of n a)
records_slid n a b i l h g e =
    records-plain (n - 1) b (omega arith) ∙ ap (λ (b : List ℕ). map rec_of (blocks block_size (n - 1) b)) e
    ∙ ap (map rec_of) (blocks-slid block_size n a i g (omega arith)) ∙ map-cut rec_of i (blocks block_size n a)
    ∙ ap (cut i) (sym (records-plain n a h))

-- One record is gone where it has the key; the count says so.
pub record DroppedIf (k : Key) (area : List ℕ) (n i : ℕ) (after : List ℕ) (m : ℕ) : Type 0 where
  pub few : m ≤ n
  pub most : n ≤ m + 1
  pub store : records_of m after ≡ cond (keyed area i k) (cut i (records_of n area)) (records_of n area)

abbrev others : Key → Record → Bool
others k r = not (same_key (key_of r) k)

-- The loop from the last record to the first: those from i on are looked at.
pub record Dropped (k : Key) (count : ℕ) (a b : List ℕ) (n i : ℕ) : Type 0 where
  pub few : n ≤ max_records
  pub left : i ≤ n
  pub store : remove k (records_of count a) ≡ keep (others k) (take i (records_of n b)) ++ drop i (records_of n b)

pub dropped_none : (k : Key) (count : ℕ) (a : List ℕ) → count ≤ max_records → Dropped k count a a count count
unfolding remove
dropped_none k count a h =
    let l : List Record = records_of count a in
    let w = length-records count a in
    let m = min-eq_left h in
    record {
      few = h;
      left = omega arith;
      store = sym (ap₂ (λ (v w : List Record). keep (others k) v ++ w) (take_all count l (omega arith)) (drop_of_length-le l {i = count} (omega arith))
          ∙ append-nil (keep (others k) l));
    }

pub dropped_turn : (k : Key) (count : ℕ) (a b : List ℕ) (n i : ℕ) (c : List ℕ) (m : ℕ) → Dropped k count a b n i → 0 < i
    → DroppedIf k b n (i - 1) c m → Dropped k count a c m (i - 1)
unfolding remove
dropped_turn k count a b n i c m s h d =
    let l : List Record = records_of n b in
    let j : ℕ = i - 1 in
    let e : i ≡ suc (i - 1) = omega arith in
    let w = length-records n b in
    let v = min-eq_left s.few in
    let g : j < n = omega (arith, s.left) in
    let q : get_or l j no_record ≡ rec_of (block_at b j) = record-there n b j s.few g in
    record {
      few = omega (arith, s.few, d.few);
      left = omega (arith, s.left, d.most);
      store = thin (others k) (records_of count a) l (records_of m c) j no_record (omega arith)
          (s.store ∙ ap (λ (i : ℕ). keep (others k) (take i l) ++ drop i l) e)
          (d.store ∙ ap (λ (r : Record). cond (same_key (key_of r) k) (cut j l) l) (sym q) ∙ swap (same_key (key_of (get_or l j no_record)) k) l (cut j l));
    }
  where
    swap : (t : Bool) (x y : List Record) → cond t y x ≡ cond (not t) x y
    swap true x y = refl
    swap false x y = refl

pub dropped_all : (k : Key) (count : ℕ) (a b : List ℕ) (n i : ℕ) → Dropped k count a b n i → i ≤ 0
    → (n ≤ max_records) × (records_of n b ≡ remove k (records_of count a))
dropped_all k count a b n i s h =
    let z : i ≡ 0 = omega arith in
    (s.few, sym (s.store ∙ ap (λ (i : ℕ). keep (others k) (take i (records_of n b)) ++ drop i (records_of n b)) z))

pub ruleset of_thinning = (dropped_none, dropped_turn, dropped_all)
