-- The list of changes is true and leads from the old view to the new.
use Prim.Native.Nat.{ℕ}
use mathlib.Core.Path.{◌≡◌, refl, sym, ap, ◌∙◌, fun_ext}
use mathlib.Core.Bool.{Bool, true, false, cond, not}
use mathlib.Core.List.{List, [], map}
use mathlib.Core.Option.{Option, none, some}
use lib.Dec.{eqb}
use borrow.Author.Tests.{eqb-true}
use Rattle.zone.specs.Lists.{any_of, all_of}
use Rattle.zone.specs.Record.{Record, Key, key_of}
use Rattle.zone.specs.Store.{find, held}
use Rattle.zone.specs.Match.{Subscription, view}
use Rattle.zone.specs.Sound.{distinct, Exactly}
use Rattle.zone.proofs.Lists.{clash, and_both, all_of-append, all_of-of-map, all_of-any, any_of-never}
use Rattle.zone.proofs.Stores.{
  or_else,
  passing,
  find-keep,
  find-pick,
  held_none,
  held-some,
  none-held,
  some-held,
  any_of-held,
  all_of-found,
  distinct-keep,
}
use Rattle.zone.proofs.Views.{wanted_key, find-view, distinct-view}
use Rattle.push.specs.Change.{addition, removal, covers, is_true, applied_all}
use Rattle.push.specs.List.{widest, chosen, firsts, leaving, has_ttl, entering, removals, additions, changes}
use Rattle.push.specs.Measure.{is_true_change, only_true}
use Rattle.push.proofs.Effects.{acts, find-applied_all, acts-append, acts-removals, acts-additions, distinct-applied_all}
use Rattle.push.proofs.Covers.{is_true-uncovered}
use Rattle.push.proofs.Chosen.{widest-own, widest-class, alike_at, chosen-alike, chosen-true}
use Rattle.push.proofs.Firsts.{firsts-alike, all_of-firsts, firsts-cover}

-- What is asked of a new store, an old view and a new view: a key that leaves the view is gone from the store, and a key of
-- the new view is in it.
pub record Between (store old new : List Record) : Type 0 where
  pub before : distinct old ≡ true
  pub after : distinct new ≡ true
  pub gone : (k : Key) → held k old ≡ true → held k new ≡ false → held k store ≡ false
  pub stored : (k : Key) → held k new ≡ true → held k store ≡ true

-- Views of the same subscriptions are so.
pub views-between : (subs : List Subscription) (old new : List Record) → distinct old ≡ true → distinct new ≡ true
    → Between new (view subs old) (view subs new)
views-between subs old new d e =
    record { before = distinct-view subs old d; after = distinct-view subs new e; gone = gone; stored = stored }
  where
    unwanted : (k : Key) (l : List Record) → wanted_key subs k ≡ false → held k (view subs l) ≡ false
    unwanted k l w = none-held k (view subs l) (find-view k subs l ∙ rw w)

    here : (k : Key) (l : List Record) → wanted_key subs k ≡ true → find k (view subs l) ≡ find k l
    here k l w = find-view k subs l ∙ rw w

    gone : (k : Key) → held k (view subs old) ≡ true → held k (view subs new) ≡ false → held k new ≡ false
    gone k h f = go (wanted_key subs k) refl
      where
        go : (b : Bool) → wanted_key subs k ≡ b → held k new ≡ false
        go true w = none-held k new (sym (here k new w) ∙ held_none k (view subs new) f)
        go false w = clash (held k (view subs old)) h (unwanted k old w)

    stored : (k : Key) → held k (view subs new) ≡ true → held k new ≡ true
    stored k h = go (wanted_key subs k) refl
      where
        go : (b : Bool) → wanted_key subs k ≡ b → held k new ≡ true
        go true w = let f = held-some k (view subs new) h in some-held k new f.0 (sym (here k new w) ∙ f.1)
        go false w = clash (held k (view subs new)) h (unwanted k new w)

-- ---- leaving and entering

pub record Leaves (k : Key) (old new : List Record) : Type 0 where
  pub before : held k old ≡ true
  pub after : held k new ≡ false

pub find-leaving : (k : Key) (old new : List Record) → find k (leaving old new) ≡ cond (not (held k new)) (find k old) none
find-leaving k old new = find-keep (λ (j : Key). not (held j new)) k old

pub leaves : (k : Key) (old new : List Record) → held k (leaving old new) ≡ true → Leaves k old new
leaves k old new h = go (held k new) refl
  where
    go : (b : Bool) → held k new ≡ b → Leaves k old new
    go true e = clash (held k (leaving old new)) h (none-held k (leaving old new) (find-leaving k old new ∙ rw e))
    go false e =
        let f = held-some k (leaving old new) h in
        record { before = some-held k old f.0 (sym (find-leaving k old new ∙ rw e) ∙ f.1); after = e }

pub is-leaving : (k : Key) (old new : List Record) → Leaves k old new → held k (leaving old new) ≡ true
is-leaving k old new l =
    let f = held-some k old l.before in
    some-held k (leaving old new) f.0 (find-leaving k old new ∙ rw l.after f.1)

pub find-entering : (k : Key) (old new : List Record) → distinct new ≡ true
    → find k (entering old new) ≡ passing (λ (t : ℕ). not (has_ttl (find k old) t)) (find k new)
find-entering k old new d = find-pick (λ (j : Key) (t : ℕ). not (has_ttl (find j old) t)) k new d

-- ---- the theorem

module _ (store old new : List Record) (b : Between store old new) where
  -- The first records of the leaving classes, with the removals chosen and with the widest.
  abbrev pub heads : List Record
  heads = firsts (chosen store (leaving old new)) [] (leaving old new)

  pub heads-widest : heads ≡ firsts (widest store) [] (leaving old new)
  heads-widest = firsts-alike (chosen store (leaving old new)) (widest store) [] (leaving old new) (chosen-alike store (leaving old new))

  pub distinct-leaving : distinct (leaving old new) ≡ true
  distinct-leaving = distinct-keep (λ (r : Record). not (held (key_of r) new)) old b.before

  pub all_of-heads : (p : Record → Bool) → ((r : Record) → Leaves (key_of r) old new → p r ≡ true) → all_of p heads ≡ true
  all_of-heads p f =
      all_of-firsts (chosen store (leaving old new)) p [] (leaving old new)
      (all_of-found p (leaving old new) distinct-leaving (λ r h. f r (leaves (key_of r) old new (some-held (key_of r) (leaving old new) r.ttl h))))

  pub heads-true : all_of (λ (r : Record). is_true store (chosen store (leaving old new) r)) heads ≡ true
  heads-true =
      all_of-heads (λ (r : Record). is_true store (chosen store (leaving old new) r))
      (λ r l. chosen-true store (leaving old new) r (b.gone (key_of r) l.before l.after))

  -- Each leaving record is covered.
  pub heads-cover : (k : Key) → Leaves k old new → any_of (λ (r : Record). covers (chosen store (leaving old new) r) k) heads ≡ true
  heads-cover k l =
      ap (λ (p : Record → Bool). any_of p heads) (fun_ext (λ r. alike_at (leaving old new) (chosen store (leaving old new) r) (widest store r) k (chosen-alike store (leaving old new) r) (is-leaving k old new l)))
      ∙ ap (any_of (λ (r : Record). covers (widest store r) k)) heads-widest
      ∙ firsts-cover (widest store) (widest-class store) k [] (leaving old new)
      ∙ any_of-held (λ (r : Record). covers (widest store r) k) k (leaving old new) (λ r q. ap (covers (widest store r)) (sym q) ∙ widest-own store r)
      (is-leaving k old new l)

  -- What stays is not covered.
  pub heads-spare : (k : Key) → held k new ≡ true → any_of (λ (r : Record). covers (chosen store (leaving old new) r) k) heads ≡ false
  heads-spare k h =
      any_of-never (λ (r : Record). is_true store (chosen store (leaving old new) r)) (λ (r : Record). covers (chosen store (leaving old new) r) k)
      heads heads-true (λ r e. is_true-uncovered store (chosen store (leaving old new) r) k e (b.stored k h))

  pub arrives_at : (k : Key) → acts k (changes store old new) (find k old) ≡ find k new
  unfolding changes removals additions
  arrives_at k =
      acts-append k (map (λ (r : Record). removal (chosen store (leaving old new) r)) heads) (map addition (entering old new)) (find k old)
      ∙ acts-additions k (entering old new) _ (distinct-keep (λ (r : Record). not (has_ttl (find (key_of r) old) r.ttl)) new b.after)
      ∙ ap (or_else (find k (entering old new))) (acts-removals k (chosen store (leaving old new)) heads (find k old))
      ∙ ap (λ (e : Option ℕ). or_else e (cond covered none (find k old))) (find-entering k old new b.after)
      ∙ go (find k new) refl
    where
      covered : Bool
      covered = any_of (λ (r : Record). covers (chosen store (leaving old new) r) k) heads

      set : (o : Option ℕ) (t : ℕ) → or_else (cond (not (has_ttl o t)) (some t) none) o ≡ some t
      set none t = refl
      set (some u) t = kept (eqb u t) refl
        where
          kept : (c : Bool) → eqb u t ≡ c → or_else (cond (not c) (some t) none) (some u) ≡ some t
          kept true e = ap {B = Option ℕ} some (eqb-true u t e)
          kept false e = refl

      dropped : held k new ≡ false → (h : Bool) → held k old ≡ h → cond covered none (find k old) ≡ none
      dropped n true h = rw (heads-cover k (record { before = h; after = n }))
      dropped n false h = rw (held_none k old h) (same covered)
        where
          same : (c : Bool) → ◌≡◌ {A = Option ℕ} (cond c none none) none
          same true = refl
          same false = refl

      go : (w : Option ℕ) → find k new ≡ w → or_else (passing (λ (t : ℕ). not (has_ttl (find k old) t)) w) (cond covered none (find k old)) ≡ w
      go none e = dropped (none-held k new e) (held k old) refl
      go (some t) e = rw (heads-spare k (some-held k new t e)) (set (find k old) t)

  -- A client that has just the old view comes to have just the new one.
  pub arrives : (client : List Record) → Exactly client old → Exactly (applied_all (changes store old new) client) new
  arrives client x = record {
    once = distinct-applied_all (changes store old new) client x.once;
    same = λ k. find-applied_all k (changes store old new) client
        ∙ ap (acts k (changes store old new)) (x.same k)
        ∙ arrives_at k;
  }

  -- No removal covers a record of the new store.
  pub changes-true : only_true store (changes store old new) ≡ true
  unfolding changes removals additions
  changes-true =
      all_of-append (is_true_change store) (map (λ (r : Record). removal (chosen store (leaving old new) r)) heads) (map addition (entering old new))
      ∙ and_both
      (all_of-of-map (λ (r : Record). removal (chosen store (leaving old new) r)) (is_true_change store) heads ∙ heads-true)
      (all_of-of-map addition (is_true_change store) (entering old new) ∙ all_of-any (λ (r : Record). true) (entering old new) (λ r. refl))
