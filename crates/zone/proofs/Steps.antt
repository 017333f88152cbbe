-- Laws of the steps of a batch in lent memory, and of the loop over them.
use Prim.Native.Nat.{ℕ, suc, min, ◌+◌, ◌-◌, ◌*◌, ◌≤◌, ◌<◌}
use mathlib.Core.Path.{◌≡◌, refl, sym, ap, ap₂, ◌∙◌}
use mathlib.Core.Bool.{Bool, true, false}
use mathlib.Core.List.{List, map}
use native.Mathlib.Nat.{min-eq_left, min-le_right}
use native.Mathlib.Omega.{arith}
use lib.ListN.{length, take, drop, length-drop, drop_of_length-le}
use lib.Seq.{sets, drop-drop, length-take-le}
use Rattle.std.specs.Prelude.{Option, None, Some, Result, Ok, Err}
use Rattle.wire.specs.Part.{part}
use Rattle.wire.proofs.Writes.{take-written}
use Rattle.table.specs.Blocks.{blocks}
use Rattle.table.proofs.Blocks.{blocks-front}
use Rattle.zone.specs.Record.{Record}
use Rattle.zone.specs.Layout.{size, read_record}
use Rattle.zone.specs.Batch.{max_records, max_edits, allowed, overfull, Edited, faulty, edited, batch_of}
use Rattle.zone.specs.Table.{block_size, area_size, rec_of, records_of}
use Rattle.zone.specs.Edit.{checked, checked_at}
use Rattle.zone.specs.Update.{applied}
use Rattle.zone.specs.Batches.{edited_of}
use Rattle.zone.specs.declared.BatchFault.{BatchFault}
use Rattle.zone.specs.declared.BatchFault.TheVariants.{TooManyEdits}
use Rattle.zone.proofs.Batches.{edited-end, edited-more, edited-unreadable, edited-bad, edited-full, edited-step}

-- ---- an edit that was checked

-- What becomes of a batch's first edit, by the check and by its application.
abbrev after_edit : ℕ → List ℕ → List ℕ → Record → Result (List Record) BatchFault → Edited
after_edit k zone l r (Ok store) = edited k zone (drop (size r) l) store
after_edit k zone l r (Err f) = faulty f

abbrev after_check : ℕ → List ℕ → List ℕ → List Record → Result Record BatchFault → Edited
after_check k zone l store (Ok r) = after_edit k zone l r (applied store r)
after_check k zone l store (Err f) = faulty f

edited_first : (k : ℕ) (zone l : List ℕ) (store : List Record) → 0 < length l
    → edited (suc k) zone l store ≡ after_check k zone l store (checked zone (read_record l))
unfolding applied
edited_first k zone l store h = go (read_record l) refl
  where
    full : (r : Record) → read_record l ≡ Some r → allowed zone r ≡ true → (b : Bool) → overfull store r ≡ b
        → edited (suc k) zone l store ≡ after_check k zone l store (checked zone (Some r))
    full r e a true f = edited-full k zone l store r e a f ∙ rw (a, f) refl
    full r e a false f = edited-step k zone l store r e a f ∙ rw (a, f) refl

    value : (r : Record) → read_record l ≡ Some r → (b : Bool) → allowed zone r ≡ b
        → edited (suc k) zone l store ≡ after_check k zone l store (checked zone (Some r))
    value r e true a = full r e a (overfull store r) refl
    value r e false a = edited-bad k zone l store r e a ∙ rw a refl

    go : (o : Option Record) → read_record l ≡ o → edited (suc k) zone l store ≡ after_check k zone l store (checked zone (read_record l))
    go None e = edited-unreadable k zone l store h e ∙ rw e refl
    go (Some r) e = rw e (value r e (allowed zone r) refl)

-- ---- the loop

-- What is left of the batch gives the outcome.
pub record Midway (zone bytes : List ℕ) (store : List Record) (turn at n : ℕ) (area : List ℕ) : Type 0 where
  pub few : n ≤ max_records
  pub rest : batch_of zone bytes store ≡ edited (max_edits - turn) zone (drop at bytes) (records_of n area)

pub midway_none : (zone bytes : List ℕ) (count : ℕ) (area : List ℕ) → count ≤ max_records
    → Midway zone bytes (records_of count area) 0 0 count area
unfolding batch_of
midway_none zone bytes count area h = record { few = h; rest = refl }

module _ (zone bytes : List ℕ) (store : List Record) (turn at n : ℕ) (area : List ℕ) (w : Midway zone bytes store turn at n area) where
  pub midway_end : length bytes ≤ at → edited_of (Ok n) area ≡ batch_of zone bytes store
  midway_end h =
      sym (w.rest ∙ ap (λ (l : List ℕ). edited (max_edits - turn) zone l (records_of n area)) (drop_of_length-le bytes h)
      ∙ edited-end (max_edits - turn) zone (records_of n area))

  pub midway_over : at < length bytes → max_edits ≤ turn → edited_of (Err TooManyEdits) area ≡ batch_of zone bytes store
  midway_over h z =
      let e : max_edits - turn ≡ 0 = omega arith in
      sym (w.rest ∙ ap (λ (k : ℕ). edited k zone (drop at bytes) (records_of n area)) e
      ∙ edited-more zone (drop at bytes) (records_of n area) (omega (arith, length-drop at bytes)))

  module _ (h : at < length bytes) (g : turn < max_edits) where
    first : batch_of zone bytes store ≡ after_check (max_edits - turn - 1) zone (drop at bytes) (records_of n area) (checked_at zone bytes at)
    first =
        let e : max_edits - turn ≡ suc (max_edits - turn - 1) = omega arith in
        w.rest ∙ ap (λ (k : ℕ). edited k zone (drop at bytes) (records_of n area)) e
        ∙ edited_first (max_edits - turn - 1) zone (drop at bytes) (records_of n area) (omega (arith, length-drop at bytes))

    pub midway_bad : (f : BatchFault) → Err f ≡ checked_at zone bytes at → edited_of (Err f) area ≡ batch_of zone bytes store
    midway_bad f e = sym (first ∙ ap (after_check (max_edits - turn - 1) zone (drop at bytes) (records_of n area)) (sym e))

    module _ (r : Record) (e : Ok r ≡ checked_at zone bytes at) where
      second : batch_of zone bytes store ≡ after_edit (max_edits - turn - 1) zone (drop at bytes) r (applied (records_of n area) r)
      second = first ∙ ap (after_check (max_edits - turn - 1) zone (drop at bytes) (records_of n area)) (sym e)

      pub midway_full : (f : BatchFault) (b : List ℕ) → Err f ≡ applied (records_of n area) r → edited_of (Err f) b ≡ batch_of zone bytes store
      midway_full f b q = sym (second ∙ ap (after_edit (max_edits - turn - 1) zone (drop at bytes) r) (sym q))

      pub midway_turn : (m : ℕ) (b : List ℕ) → m ≤ max_records → Ok (records_of m b) ≡ applied (records_of n area) r
          → Midway zone bytes store (turn + 1) (at + size r) m b
      midway_turn m b l q = record {
        few = l;
        rest = let k : max_edits - turn - 1 ≡ max_edits - (turn + 1) = omega arith in
            second ∙ ap (after_edit (max_edits - turn - 1) zone (drop at bytes) r) (sym q)
            ∙ ap₂ (λ (k : ℕ) (l : List ℕ). edited k zone l (records_of m b)) k (drop-drop (size r) at bytes);
      }

pub ruleset of_batches = (midway_none, midway_end, midway_over, midway_bad, midway_full, midway_turn)

-- ---- the copy that a batch begins with

-- The blocks in use are copied whole, so their records are.
copied : (new old a : List ℕ) (n : ℕ) → n ≤ max_records → area_size ≤ length new → area_size ≤ length old
    → a ≡ sets new 0 (part old 0 (n * block_size)) → records_of n a ≡ records_of n old
unfolding records_of
copied new old a n h k l e =
    let v : List ℕ = take (n * block_size) old in
    let w : length v ≡ n * block_size = length-take-le (n * block_size) old (omega arith) in
    let m : min n max_records ≡ n = min-eq_left h in
    let f : take (n * block_size) a ≡ v =
    ap (take (n * block_size)) e ∙ ap (λ (j : ℕ). take j (sets new 0 v)) (sym w) ∙ take-written new v (omega arith) in
    ap (map rec_of) (ap (λ (j : ℕ). blocks block_size j a) m
    ∙ sym (blocks-front block_size n (n * block_size) a (omega arith)) ∙ ap (blocks block_size n) f
    ∙ blocks-front block_size n (n * block_size) old (omega arith) ∙ ap (λ (j : ℕ). blocks block_size j old) (sym m))

records-clamped : (count n : ℕ) (a : List ℕ) → n ≡ min count max_records → records_of n a ≡ records_of count a
unfolding records_of
records-clamped count n a e =
    let h : n ≤ max_records = omega (arith, min-le_right count max_records) in
    ap (λ (m : ℕ). map rec_of (blocks block_size m a)) (min-eq_left h ∙ e)

pub batched : (zone bytes new old used a : List ℕ) (count n : ℕ) (x : Edited) → length new ≡ area_size → length old ≡ area_size
    → n ≡ min count max_records → used ≡ part old 0 (n * block_size) → a ≡ sets new 0 used
    → x ≡ batch_of zone bytes (records_of n a) → x ≡ batch_of zone bytes (records_of count old)
batched zone bytes new old used a count n x k l f u e g =
    let h : n ≤ max_records = omega (arith, min-le_right count max_records) in
    g ∙ ap (batch_of zone bytes) (copied new old a n h (omega arith) (omega arith) (e ∙ ap (sets new 0) u) ∙ records-clamped count n old f)
