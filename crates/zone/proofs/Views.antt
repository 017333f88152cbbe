-- Laws of views, and what it means that a client has just its view.
use Prim.Native.Nat.{ℕ, suc, ◌≤◌}
use mathlib.Core.Path.{◌≡◌, refl, sym, ap, ◌∙◌}
use mathlib.Core.Logic.{◌↔◌}
use mathlib.Core.Bool.{Bool, true, false, cond, ◌&&◌, ◌||◌, or-false, and-true}
use mathlib.Core.List.{List, [], ◌∷◌, ◌++◌}
use mathlib.Core.Option.{Option, none, some}
use native.Mathlib.Omega.{arith}
use lib.ListN.{length}
use lib.Dec.{eqb}
use borrow.Author.Tests.{eqb-true, eq-eqb}
use Rattle.zone.specs.Lists.{only_if, keep, any_of}
use Rattle.zone.specs.Record.{Record, Key, key_of, same_key}
use Rattle.zone.specs.Store.{find, held}
use Rattle.zone.specs.Match.{Subscription, matches_key, wanted, view}
use Rattle.zone.specs.Sound.{distinct, Exactly}
use Rattle.zone.proofs.Lists.{keep_same, any_of-append, any_of-keep, any_of-map, and_right}
use Rattle.zone.proofs.Keys.{Keys, alike, apart, keys, same_key-refl}
use Rattle.zone.proofs.Stores.{find-keep, held_none, distinct-keep, distinct_head, distinct_tail, distinct_cons, held_cons, none-held}

-- ---- what is found in a view

-- Whether one of the subscriptions matches depends on the key alone.
abbrev pub wanted_key : List Subscription → Key → Bool
wanted_key subs k = any_of (λ (s : Subscription). matches_key s k) subs

pub find-view : (k : Key) (subs : List Subscription) (store : List Record)
    → find k (view subs store) ≡ cond (wanted_key subs k) (find k store) none
find-view k subs store = find-keep (wanted_key subs) k store

pub distinct-view : (subs : List Subscription) (store : List Record) → distinct store ≡ true → distinct (view subs store) ≡ true
distinct-view subs store d = distinct-keep (wanted subs) store d

pub wanted_key-more : (subs : List Subscription) (s : Subscription) (k : Key)
    → wanted_key (subs ++ (s ∷ [])) k ≡ (wanted_key subs k || matches_key s k)
wanted_key-more subs s k =
    any_of-append (λ (s : Subscription). matches_key s k) subs (s ∷ [])
    ∙ ap (λ (t : Bool). wanted_key subs k || t) (or-false (matches_key s k))

pub wanted_key-fewer : (p : Subscription → Bool) (subs : List Subscription) (k : Key)
    → wanted_key (keep p subs) k ≡ true → wanted_key subs k ≡ true
wanted_key-fewer p subs k e =
    any_of-map (λ (s : Subscription). p s && matches_key s k) (λ (s : Subscription). matches_key s k) subs
    (λ s. and_right (p s) (matches_key s k)) (sym (any_of-keep (λ (s : Subscription). matches_key s k) p subs) ∙ e)

-- One subscription fewer: the client keeps only what the others match.
pub view-fewer : (subs rest : List Subscription) (store client : List Record)
    → ((k : Key) → wanted_key rest k ≡ true → wanted_key subs k ≡ true)
    → Exactly client (view subs store) → Exactly (view rest client) (view rest store)
view-fewer subs rest store client fewer x = record { once = distinct-view rest client x.once; same = same }
  where
    go : (k : Key) (b : Bool) → wanted_key rest k ≡ b → cond b (find k client) none ≡ cond b (find k store) none
    go k true e = x.same k ∙ find-view k subs store ∙ rw (fewer k e)
    go k false e = refl

    same : (k : Key) → find k (view rest client) ≡ find k (view rest store)
    same k = find-view k rest client ∙ go k (wanted_key rest k) refl ∙ sym (find-view k rest store)

-- ---- Exactly, by how often each record stands

-- How often a key stands in a list, and how often it stands there with a TTL.
abbrev pub times : Key → List Record → ℕ
times k l = length (keep (λ (r : Record). same_key (key_of r) k) l)

abbrev pub times_with : Key → ℕ → List Record → ℕ
times_with k t l = length (keep (λ (r : Record). same_key (key_of r) k && eqb r.ttl t) l)

-- The client's list and the view are the same multiset of keys and TTLs, with no key twice.
pub record SameMultiset (client view : List Record) : Type 0 where
  pub once : (k : Key) → times k client ≤ 1
  pub same : (k : Key) (t : ℕ) → times_with k t client ≡ times_with k t view

abbrev pub tally : (ℕ → Bool) → Option ℕ → ℕ
tally p none = 0
tally p (some t) = cond (p t) 1 0

pub tallied : (p : ℕ → Bool) (k : Key) (l : List Record) → distinct l ≡ true
    → length (keep (λ (r : Record). same_key (key_of r) k && p r.ttl) l) ≡ tally p (find k l)
unfolding find
tallied p k [] d = refl
tallied p k (r ∷ l) d = go (keys (key_of r) k) (p r.ttl) refl (tallied p k l (distinct_tail r l d))
  where
    rest : List Record
    rest = keep (λ (r : Record). same_key (key_of r) k && p r.ttl) l

    none_left : key_of r ≡ k → length rest ≡ tally p (find k l) → length rest ≡ 0
    none_left q ih = ih ∙ ap (tally p) (held_none k l (ap (λ (k : Key). held k l) (sym q) ∙ distinct_head r l d))

    go : Keys (key_of r) k → (b : Bool) → p r.ttl ≡ b → length rest ≡ tally p (find k l)
        → length (only_if (same_key (key_of r) k && p r.ttl) r rest) ≡ tally p (cond (same_key (key_of r) k) (some r.ttl) (find k l))
    go (alike q e) true h ih = rw (e, h) (ap suc (none_left q ih))
    go (alike q e) false h ih = rw (e, h) (none_left q ih)
    go (apart e) b h ih = rw e ih

pub tally-le : (o : Option ℕ) → tally (λ (t : ℕ). true) o ≤ 1
tally-le none = omega arith
tally-le (some t) = omega arith

pub times-distinct : (k : Key) (l : List Record) → distinct l ≡ true → times k l ≤ 1
times-distinct k l d = go (tallied (λ (t : ℕ). true) k l d)
  where
    p : (r : Record) → (same_key (key_of r) k && true) ≡ same_key (key_of r) k
    p r = and-true (same_key (key_of r) k)

    go : length (keep (λ (r : Record). same_key (key_of r) k && true) l) ≡ tally (λ (t : ℕ). true) (find k l) → times k l ≤ 1
    go e = let h = tally-le (find k l) in let f = ap length (keep_same (λ (r : Record). same_key (key_of r) k && true) (λ (r : Record). same_key (key_of r) k) l p) in omega arith

pub held-times : (k : Key) (l : List Record) → times k l ≤ 0 → held k l ≡ false
held-times k [] h = none-held k [] (unfold find in refl)
held-times k (r ∷ l) h = go (keys (key_of r) k) (held-times k l)
  where
    go : Keys (key_of r) k → (times k l ≤ 0 → held k l ≡ false) → held k (r ∷ l) ≡ false
    go (alike q e) f = absurd (let z : suc (times k l) ≤ 0 = rw e at h in omega arith)
    go (apart e) f = held_cons k r l ∙ rw e (f (rw e at h))

pub distinct-times : (l : List Record) → ((k : Key) → times k l ≤ 1) → distinct l ≡ true
distinct-times [] f = unfold distinct in refl
distinct-times (r ∷ l) f =
    distinct_cons r l (absent (f (key_of r))) (distinct-times l (λ k. fewer k (same_key (key_of r) k) (f k)))
  where
    absent : times (key_of r) (r ∷ l) ≤ 1 → held (key_of r) l ≡ false
    absent h = held-times (key_of r) l (let z : suc (times (key_of r) l) ≤ 1 = rw (same_key-refl (key_of r)) at h in omega arith)

    fewer : (k : Key) (b : Bool) → length (only_if b r (keep (λ (r : Record). same_key (key_of r) k) l)) ≤ 1 → times k l ≤ 1
    fewer k true h = omega arith
    fewer k false h = h

-- Tallies of one kind that agree at every TTL are of the same finding.
pub tally-same : (o q : Option ℕ) → ((t : ℕ) → tally (λ (u : ℕ). eqb u t) o ≡ tally (λ (u : ℕ). eqb u t) q) → o ≡ q
tally-same none none f = refl
tally-same none (some u) f = absurd (let h : 0 ≡ 1 = f u ∙ rw (eq-eqb u u refl) in omega arith)
tally-same (some t) none f = absurd (let h : 1 ≡ 0 = rw (eq-eqb t t refl) at (f t) in omega arith)
tally-same (some t) (some u) f = go (eqb u t) refl
  where
    go : (b : Bool) → eqb u t ≡ b → ◌≡◌ {A = Option ℕ} (some t) (some u)
    go true e = ap {B = Option ℕ} some (sym (eqb-true u t e))
    go false e = absurd (let h : 1 ≡ 0 = rw (eq-eqb t t refl, e) at (f t) in omega arith)

pub exactly-multiset : (client view : List Record) → distinct view ≡ true → Exactly client view ↔ SameMultiset client view
exactly-multiset client view d = (there, back)
  where
    there : Exactly client view → SameMultiset client view
    there x = record {
      once = λ k. times-distinct k client x.once;
      same = λ k t. tallied (λ (u : ℕ). eqb u t) k client x.once
          ∙ ap (tally (λ (u : ℕ). eqb u t)) (x.same k)
          ∙ sym (tallied (λ (u : ℕ). eqb u t) k view d);
    }

    back : SameMultiset client view → Exactly client view
    back x =
        let c : distinct client ≡ true = distinct-times client x.once in
        record {
          once = c;
          same = λ k. tally-same (find k client) (find k view) (λ t. sym (tallied (λ (u : ℕ). eqb u t) k client c)
              ∙ x.same k t
              ∙ tallied (λ (u : ℕ). eqb u t) k view d);
        }
