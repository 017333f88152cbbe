-- The list has at most as many changes as keys change in the store: at most as many as the batch has edits.
use Prim.Native.Nat.{ℕ, suc, ◌+◌, ◌≤◌}
use mathlib.Core.Path.{◌≡◌, refl, sym, ap, ◌∙◌}
use mathlib.Core.Logic.{inl, inr}
use mathlib.Core.Bool.{Bool, true, false, cond, not, ◌&&◌}
use mathlib.Core.List.{List, [], ◌∷◌, map}
use mathlib.Core.Option.{Option, none}
use native.Mathlib.Omega.{arith}
use lib.ListN.{length, length-map, length-append}
use borrow.Author.Tests.{eq-eqb}
use Rattle.zone.specs.Lists.{any_of, all_of}
use Rattle.zone.specs.Record.{Record, Key, key_of, same_key}
use Rattle.zone.specs.Store.{find, held}
use Rattle.zone.specs.Match.{Subscription, view}
use Rattle.zone.specs.Batch.{max_edits, stored, batch_of}
use Rattle.zone.specs.Sound.{distinct}
use Rattle.zone.proofs.Lists.{clash, decided, and_left, and_right, and_both, any_of-of-map, any_of-map}
use Rattle.zone.proofs.Keys.{same_key-true, same_key-of}
use Rattle.zone.proofs.Stores.{held_same, some-held, distinct-keep}
use Rattle.zone.proofs.Views.{wanted_key, find-view}
use Rattle.zone.proofs.Batches.{Edits, batch-edits}
use Rattle.zone.proofs.Edits.{find-edited_by, distinct-batch}
use Rattle.push.specs.Change.{Change, addition, removal, covers}
use Rattle.push.specs.List.{widest, chosen, leaving, has_ttl, entering, removals, additions, changes}
use Rattle.push.specs.Measure.{total}
use Rattle.push.proofs.Chosen.{widest-own}
use Rattle.push.proofs.Firsts.{firsts-apart}
use Rattle.push.proofs.Pigeonhole.{apart, pigeonhole, total-ones}
use Rattle.push.proofs.Arrive.{Between, views-between, heads, heads-widest, all_of-heads}
use Rattle.push.proofs.Needed.{distinct_apart, all_of-entering}

-- Records of different keys that pass a test and are among some keys are at most as many as those keys that pass it.
pub few-part : (q : Key → Bool) (meet : Record → Record → Bool) (l : List Record) (ks : List Key)
    → ((r s : Record) → key_of r ≡ key_of s → meet r s ≡ true) → apart meet l ≡ true
    → all_of (λ (r : Record). any_of (λ (k : Key). same_key k (key_of r) && q k) ks) l ≡ true
    → length l ≤ total (λ (k : Key). cond (q k) 1 0) ks
few-part q meet l ks f d e =
    let h = pigeonhole serves meet (λ (r : Record). 1) (λ (k : Key). cond (q k) 1 0) weighs meets l ks d e in
    let o = total-ones l in
    omega arith
  where
    serves : Record → Key → Bool
    serves r k = same_key k (key_of r) && q k

    weighs : (r : Record) (k : Key) → serves r k ≡ true → 1 ≤ cond (q k) 1 0
    weighs r k e = rw (and_right (same_key k (key_of r)) (q k) e) (omega arith)

    same : (r : Record) (k : Key) → serves r k ≡ true → k ≡ key_of r
    same r k e = same_key-true k (key_of r) (and_left (same_key k (key_of r)) (q k) e)

    meets : (r s : Record) (k : Key) → serves r k ≡ true → serves s k ≡ true → meet r s ≡ true
    meets r s k e g = f r s (sym (same r k e) ∙ same s k g)

-- The keys that fail a test and those that pass it.
pub halves : (q : Key → Bool) (l : List Key)
    → total (λ (k : Key). cond (not (q k)) 1 0) l + total (λ (k : Key). cond (q k) 1 0) l ≡ length l
halves q [] = refl
halves q (k ∷ l) = go (q k) _ _ (halves q l)
  where
    go : (b : Bool) (m n : ℕ) → m + n ≡ length l → cond (not b) 1 0 + m + (cond b 1 0 + n) ≡ suc (length l)
    go true m n e = omega arith
    go false m n e = omega arith

module _ (store old new : List Record) (b : Between store old new) (ks : List Key)
    (untouched : (k : Key) → any_of (λ (j : Key). same_key j k) ks ≡ false → find k old ≡ find k new)
  where
    -- A key at which something else is found is one of the keys.
    pub touched : (q : Key → Bool) (k : Key) → q k ≡ true → (find k old ≡ find k new → ⊥) → any_of (λ (j : Key). same_key j k && q j) ks ≡ true
    touched q k h f =
        any_of-map (λ (j : Key). same_key j k) (λ (j : Key). same_key j k && q j) ks (λ j e. and_both e (ap q (same_key-true j k e) ∙ h))
        (elim (decided (any_of (λ (j : Key). same_key j k) ks)) [ inl e ↦ e | inr e ↦ absurd (f (untouched k e)) ])

    pub few-heads : length (heads store old new b) ≤ total (λ (k : Key). cond (not (held k new)) 1 0) ks
    few-heads =
        few-part (λ (k : Key). not (held k new)) (λ (e s : Record). covers (widest store e) (key_of s)) (heads store old new b) ks
        (λ r s e. ap (covers (widest store r)) (sym e) ∙ widest-own store r)
        (ap (apart (λ (e s : Record). covers (widest store e) (key_of s))) (heads-widest store old new b) ∙ firsts-apart (widest store) [] (leaving old new))
        (all_of-heads store old new b (λ (r : Record). any_of (λ (k : Key). same_key k (key_of r) && not (held k new)) ks)
        (λ r l. touched (λ (k : Key). not (held k new)) (key_of r) (ap not l.after)
        (λ e. clash (held (key_of r) old) l.before (held_same (key_of r) old new e ∙ l.after))))

    pub few-entering : length (entering old new) ≤ total (λ (k : Key). cond (held k new) 1 0) ks
    few-entering =
        few-part (λ (k : Key). held k new) (λ (r s : Record). same_key (key_of r) (key_of s)) (entering old new) ks
        (λ r s. same_key-of (key_of r) (key_of s))
        (distinct_apart (entering old new) (distinct-keep (λ (r : Record). not (has_ttl (find (key_of r) old) r.ttl)) new b.after))
        (all_of-entering (λ (r : Record). any_of (λ (k : Key). same_key k (key_of r) && held k new) ks) old new b.after
        (λ r x. touched (λ (k : Key). held k new) (key_of r) (some-held (key_of r) new r.ttl x.after)
        (λ e. clash (has_ttl (find (key_of r) old) r.ttl)
        (ap (λ (o : Option ℕ). has_ttl o r.ttl) (e ∙ x.after) ∙ eq-eqb r.ttl r.ttl refl) x.before)))

    pub few : length (changes store old new) ≤ length ks
    unfolding changes removals additions
    few =
        let rs : List Change = map (λ (r : Record). removal (chosen store (leaving old new) r)) (heads store old new b) in
        let p = length-append rs (map addition (entering old new)) in
        let q = length-map (heads store old new b) (λ (r : Record). removal (chosen store (leaving old new) r)) in
        let s = length-map (entering old new) addition in
        let f = few-heads in
        let g = few-entering in
        let h = halves (λ (k : Key). held k new) ks in
        omega arith

-- A batch's list has at most as many changes as a batch may have edits.
pub few-batch : (zone bytes : List ℕ) (subs : List Subscription) (old new : List Record) → distinct old ≡ true
    → batch_of zone bytes old ≡ stored new → length (changes new (view subs old) (view subs new)) ≤ max_edits
few-batch zone bytes subs old new d e =
    let h = few new (view subs old) (view subs new) (views-between subs old new d (distinct-batch zone bytes old new e d)) (map key_of x.edits) untouched in
    let k = length-map x.edits key_of in
    let f = x.few in
    omega arith
  where
    x : Edits max_edits old new
    x = batch-edits zone bytes old new e

    untouched : (k : Key) → any_of (λ (j : Key). same_key j k) (map key_of x.edits) ≡ false → find k (view subs old) ≡ find k (view subs new)
    untouched k a =
        find-view k subs old
        ∙ ap (λ (o : Option ℕ). cond (wanted_key subs k) o none)
        (sym (ap (find k) (sym x.gives) ∙ find-edited_by k x.edits old (sym (any_of-of-map key_of (λ (j : Key). same_key j k) x.edits) ∙ a)))
        ∙ sym (find-view k subs new)
