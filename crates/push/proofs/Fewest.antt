-- No other list that brings the old view to the new with true removals only is shorter, in changes or in bytes.
use Prim.Native.Nat.{ℕ, ◌+◌, ◌≤◌}
use mathlib.Core.Path.{◌≡◌, refl, sym, ap, ◌∙◌}
use mathlib.Core.Bool.{Bool, true, false, not, ◌&&◌}
use mathlib.Core.List.{List, [], ◌∷◌, map}
use native.Mathlib.Nat.{le_of_eq, le_refl}
use native.Mathlib.Omega.{arith}
use lib.ListN.{length}
use Rattle.zone.specs.Lists.{any_of}
use Rattle.zone.specs.Record.{Record, Key, key_of, same_key}
use Rattle.zone.specs.Store.{find}
use Rattle.zone.specs.Layout.{size}
use Rattle.zone.proofs.Lists.{clash, and_left, and_right, any_of-with}
use Rattle.zone.proofs.Keys.{same_key-true, same_key-of}
use Rattle.zone.proofs.Stores.{held_none, held-some, distinct-keep}
use Rattle.push.specs.Change.{Removal, Change, addition, removal, covers, is_true, fields_of}
use Rattle.push.specs.List.{widest, chosen, leaving, has_ttl, entering, removals, additions, changes}
use Rattle.push.specs.Measure.{is_true_change, total, bytes, Brings}
use Rattle.push.proofs.Effects.{acts, find-applied_all}
use Rattle.push.proofs.Chosen.{widest-widest}
use Rattle.push.proofs.Firsts.{firsts-apart}
use Rattle.push.proofs.Pigeonhole.{apart, pigeonhole, total-append, total-ones, total-map}
use Rattle.push.proofs.Arrive.{Between, Leaves, heads, heads-widest, all_of-heads}
use Rattle.push.proofs.Needed.{drops, adds, acts-drops, acts-adds, distinct_apart, all_of-entering}
use Rattle.push.proofs.Sizes.{size-key, size-chosen}

-- A measure of changes by which no true removal of a record is less than the chosen one, and adds of one key are equal.
pub record Measure (store gone : List Record) (w : Change → ℕ) : Type 0 where
  pub drop : (r : Record) (m : Removal) → is_true store m ≡ true → covers m (key_of r) ≡ true → w (removal (chosen store gone r)) ≤ w (removal m)
  pub add : (r s : Record) → key_of r ≡ key_of s → w (addition r) ≤ w (addition s)

-- The part of a measure that falls on removals, and on adds.
abbrev pub on_removals : (Change → ℕ) → Change → ℕ
on_removals w (addition r) = 0
on_removals w (removal m) = w (removal m)

abbrev pub on_additions : (Change → ℕ) → Change → ℕ
on_additions w (addition r) = w (addition r)
on_additions w (removal m) = 0

pub parts : (w : Change → ℕ) (cs : List Change) → total w cs ≡ total (on_removals w) cs + total (on_additions w) cs
parts w [] = refl
parts w (addition r ∷ cs) = let h = parts w cs in omega arith
parts w (removal m ∷ cs) = let h = parts w cs in omega arith

module _ (store old new : List Record) (b : Between store old new) (cs : List Change) (x : Brings store old new cs) (w : Change → ℕ)
    (v : Measure store (leaving old new) w)
  where
    pub brings : (k : Key) → acts k cs (find k old) ≡ find k new
    brings k = sym (find-applied_all k cs old) ∙ x.arrives k

    -- Each head needs a true removal that covers it, and no true removal covers two heads.
    unfoldable pub takes : Record → Change → Bool
    takes r c = drops (key_of r) c && is_true_change store c

    pub fewest-removals : total (λ (r : Record). w (removal (chosen store (leaving old new) r))) (heads store old new b) ≤ total (on_removals w) cs
    unfolding takes
    fewest-removals =
        pigeonhole takes (λ (e s : Record). covers (widest store e) (key_of s)) (λ (r : Record). w (removal (chosen store (leaving old new) r))) (on_removals w)
        weighs meets (heads store old new b) cs
        (ap (apart (λ (e s : Record). covers (widest store e) (key_of s))) (heads-widest store old new b) ∙ firsts-apart (widest store) [] (leaving old new))
        (all_of-heads store old new b (λ (r : Record). any_of (takes r) cs) taken)
      where
        weighs : (r : Record) (c : Change) → takes r c ≡ true → w (removal (chosen store (leaving old new) r)) ≤ on_removals w c
        weighs r (addition s) e = clash false e refl
        weighs r (removal m) e = v.drop r m (and_right (covers m (key_of r)) (is_true store m) e) (and_left (covers m (key_of r)) (is_true store m) e)

        meets : (r s : Record) (c : Change) → takes r c ≡ true → takes s c ≡ true → covers (widest store r) (key_of s) ≡ true
        meets r s (addition a) e f = clash false e refl
        meets r s (removal m) e f =
            widest-widest store r m (key_of s) (and_right (covers m (key_of r)) (is_true store m) e) (and_left (covers m (key_of r)) (is_true store m) e)
            (and_left (covers m (key_of s)) (is_true store m) f)

        taken : (r : Record) → Leaves (key_of r) old new → any_of (takes r) cs ≡ true
        taken r l =
            let f = held-some (key_of r) old l.before in
            any_of-with (is_true_change store) (drops (key_of r)) cs x.true_only
            (acts-drops (key_of r) cs f.0 (ap (acts (key_of r) cs) (sym f.1) ∙ brings (key_of r) ∙ held_none (key_of r) new l.after))

    -- Each entering record needs an add of its key, and an add is of one key.
    pub fewest-additions : total (λ (r : Record). w (addition r)) (entering old new) ≤ total (on_additions w) cs
    fewest-additions =
        pigeonhole (λ (r : Record). adds (key_of r)) (λ (r s : Record). same_key (key_of r) (key_of s)) (λ (r : Record). w (addition r)) (on_additions w)
        weighs meets (entering old new) cs
        (distinct_apart (entering old new) (distinct-keep (λ (r : Record). not (has_ttl (find (key_of r) old) r.ttl)) new b.after))
        (all_of-entering (λ (r : Record). any_of (adds (key_of r)) cs) old new b.after
        (λ r e. acts-adds (key_of r) cs (find (key_of r) old) r.ttl (brings (key_of r) ∙ e.after) e.before))
      where
        weighs : (r : Record) (c : Change) → adds (key_of r) c ≡ true → w (addition r) ≤ on_additions w c
        weighs r (addition s) e = v.add r s (sym (same_key-true (key_of s) (key_of r) e))
        weighs r (removal m) e = clash false e refl

        meets : (r s : Record) (c : Change) → adds (key_of r) c ≡ true → adds (key_of s) c ≡ true → same_key (key_of r) (key_of s) ≡ true
        meets r s (addition a) e f = same_key-of (key_of r) (key_of s) (sym (same_key-true (key_of a) (key_of r) e) ∙ same_key-true (key_of a) (key_of s) f)
        meets r s (removal m) e f = clash false e refl

    pub least : total w (changes store old new) ≤ total w cs
    unfolding changes removals additions
    least =
        let rs : List Change = map (λ (r : Record). removal (chosen store (leaving old new) r)) (heads store old new b) in
        let p = total-append w rs (map addition (entering old new)) in
        let q = total-map (λ (r : Record). removal (chosen store (leaving old new) r)) w (heads store old new b) in
        let s = total-map addition w (entering old new) in
        let f = fewest-removals in
        let g = fewest-additions in
        let h = parts w cs in
        omega arith

module _ (store old new : List Record) (b : Between store old new) (cs : List Change) (x : Brings store old new cs) where
  pub fewest : length (changes store old new) ≤ length cs
  fewest =
      let h = least store old new b cs x (λ (c : Change). 1) (record { drop = λ r m e f. le_refl 1; add = λ r s e. le_refl 1 }) in
      let p = total-ones (changes store old new) in
      let q = total-ones cs in
      omega arith

  pub shortest : bytes (changes store old new) ≤ bytes cs
  unfolding fields_of
  shortest =
      least store old new b cs x (λ (c : Change). size (fields_of c))
      (record { drop = size-chosen store (leaving old new); add = λ r s e. le_of_eq (size-key r s e) })
