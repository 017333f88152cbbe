-- Laws of stores: what is found after a change, that no key comes to stand twice, and how long a store is.
use Prim.Native.Nat.{ℕ, suc}
use mathlib.Core.Path.{◌≡◌, refl, sym, ap, ◌∙◌}
use mathlib.Core.Bool.{Bool, true, false, cond, not, ◌&&◌, ◌||◌}
use mathlib.Core.List.{List, [], ◌∷◌, ◌++◌, map}
use mathlib.Core.Option.{Option, none, some}
use native.Mathlib.Numerals.{add-one}
use lib.ListN.{length, length-map, length-append}
use borrow.Author.Tests.{not-true}
use Rattle.zone.specs.Lists.{only_if, keep, any_of, all_of}
use Rattle.zone.specs.Record.{Record, Key, key_of, same_key}
use Rattle.zone.specs.Store.{find, is_some, held, with_ttl, set_if, put, remove}
use Rattle.zone.specs.Sound.{distinct}
use Rattle.zone.proofs.Lists.{clash, never, and_left, and_right, and_both, not-any_of, keep_all, any_of-keep, any_of-map, all_of-map}
use Rattle.zone.proofs.Keys.{Keys, alike, apart, keys, same_key-true, same_key-refl, same_key-sym}

-- ---- found and held

pub held_none : (k : Key) (l : List Record) → held k l ≡ false → find k l ≡ none
unfolding held
held_none k l e = go (find k l) e
  where
    go : (o : Option ℕ) → is_some o ≡ false → o ≡ none
    go none e = refl
    go (some t) e = clash (is_some (some t)) refl e

pub held-some : (k : Key) (l : List Record) → held k l ≡ true → (t : ℕ) × (find k l ≡ some t)
unfolding held
held-some k l e = go (find k l) e
  where
    go : (o : Option ℕ) → is_some o ≡ true → (t : ℕ) × (o ≡ some t)
    go none e = clash (is_some none) e refl
    go (some t) e = (t, refl)

pub none-held : (k : Key) (l : List Record) → find k l ≡ none → held k l ≡ false
unfolding held
none-held k l e = ap is_some e

pub some-held : (k : Key) (l : List Record) (t : ℕ) → find k l ≡ some t → held k l ≡ true
unfolding held
some-held k l t e = ap is_some e

pub held_same : (k : Key) (l m : List Record) → find k l ≡ find k m → held k l ≡ held k m
unfolding held
held_same k l m e = ap is_some e

-- What stands at the front.
pub find-alike : (k : Key) (r : Record) (l : List Record) → same_key (key_of r) k ≡ true → find k (r ∷ l) ≡ some r.ttl
unfolding find
find-alike k r l e = rw e

pub find-apart : (k : Key) (r : Record) (l : List Record) → same_key (key_of r) k ≡ false → find k (r ∷ l) ≡ find k l
unfolding find
find-apart k r l e = rw e

pub held_cons : (k : Key) (r : Record) (l : List Record) → held k (r ∷ l) ≡ (same_key (key_of r) k || held k l)
unfolding held find
held_cons k r l = go (same_key (key_of r) k)
  where
    go : (b : Bool) → is_some (cond b (some r.ttl) (find k l)) ≡ (b || is_some (find k l))
    go true = refl
    go false = refl

pub held-any_of : (k : Key) (l : List Record) → held k l ≡ any_of (λ (r : Record). same_key (key_of r) k) l
held-any_of k [] = none-held k [] (unfold find in refl)
held-any_of k (r ∷ l) = held_cons k r l ∙ ap (λ (t : Bool). same_key (key_of r) k || t) (held-any_of k l)

-- A test on keys that passes at a held key passes at a member; one that passes at all members passes at a held key.
pub any_of-held : (p : Record → Bool) (k : Key) (l : List Record) → ((r : Record) → key_of r ≡ k → p r ≡ true)
    → held k l ≡ true → any_of p l ≡ true
any_of-held p k l f e =
    any_of-map (λ (r : Record). same_key (key_of r) k) p l (λ r h. f r (same_key-true (key_of r) k h)) (rw (held-any_of k l) at e)

pub all_of-held : (p : Key → Bool) (k : Key) (l : List Record) → all_of (λ (r : Record). p (key_of r)) l ≡ true → held k l ≡ true
    → p k ≡ true
all_of-held p k [] a e = clash (held k []) e (none-held k [] (unfold find in refl))
all_of-held p k (r ∷ l) a e = go (keys (key_of r) k) (all_of-held p k l (and_right (p (key_of r)) (all_of (λ (r : Record). p (key_of r)) l) a))
  where
    go : Keys (key_of r) k → (held k l ≡ true → p k ≡ true) → p k ≡ true
    go (alike q s) f = ap p (sym q) ∙ and_left (p (key_of r)) (all_of (λ (r : Record). p (key_of r)) l) a
    go (apart s) f = f (sym (held_cons k r l ∙ ap (λ (t : Bool). t || held k l) s) ∙ e)

-- ---- what is found after a change

abbrev pub or_else : Option ℕ → Option ℕ → Option ℕ
or_else none o = o
or_else (some t) o = some t

pub or_else-none : (o : Option ℕ) → or_else o none ≡ o
or_else-none none = refl
or_else-none (some t) = refl

pub find-append : (k : Key) (l m : List Record) → find k (l ++ m) ≡ or_else (find k l) (find k m)
unfolding find
find-append k [] m = refl
find-append k (r ∷ l) m = rw (find-append k l m) (go (same_key (key_of r) k))
  where
    go : (b : Bool) → cond b (some r.ttl) (or_else (find k l) (find k m)) ≡ or_else (cond b (some r.ttl) (find k l)) (find k m)
    go true = refl
    go false = refl

-- A filter by key.
pub find-keep : (p : Key → Bool) (k : Key) (l : List Record)
    → find k (keep (λ (r : Record). p (key_of r)) l) ≡ cond (p k) (find k l) none
unfolding find
find-keep p k [] = go (p k)
  where
    go : (b : Bool) → ◌≡◌ {A = Option ℕ} none (cond b none none)
    go true = refl
    go false = refl
find-keep p k (r ∷ l) = go (keys (key_of r) k) (p (key_of r)) refl (find-keep p k l)
  where
    rest : List Record
    rest = keep (λ (r : Record). p (key_of r)) l

    go : Keys (key_of r) k → (b : Bool) → p (key_of r) ≡ b → find k rest ≡ cond (p k) (find k l) none
        → find k (only_if b r rest) ≡ cond (p k) (cond (same_key (key_of r) k) (some r.ttl) (find k l)) none
    go (alike q e) true h ih = rw (← ap p q, h, e)
    go (alike q e) false h ih = rw (← ap p q, h) (ih ∙ rw (← ap p q, h))
    go (apart e) true h ih = rw e ih
    go (apart e) false h ih = rw e ih

abbrev pub passing : (ℕ → Bool) → Option ℕ → Option ℕ
passing p none = none
passing p (some t) = cond (p t) (some t) none

-- A filter by key and TTL, where no key stands twice.
pub find-pick : (p : Key → ℕ → Bool) (k : Key) (l : List Record) → distinct l ≡ true
    → find k (keep (λ (r : Record). p (key_of r) r.ttl) l) ≡ passing (p k) (find k l)
unfolding find distinct
find-pick p k [] d = refl
find-pick p k (r ∷ l) d = go (keys (key_of r) k) (p (key_of r) r.ttl) refl (find-pick p k l (and_right (not (held (key_of r) l)) (distinct l) d))
  where
    rest : List Record
    rest = keep (λ (r : Record). p (key_of r) r.ttl) l

    gone : key_of r ≡ k → find k l ≡ none
    gone q = held_none k l (ap (λ (k : Key). held k l) (sym q) ∙ not-true (held (key_of r) l) (and_left (not (held (key_of r) l)) (distinct l) d))

    go : Keys (key_of r) k → (b : Bool) → p (key_of r) r.ttl ≡ b → find k rest ≡ passing (p k) (find k l)
        → find k (only_if b r rest) ≡ passing (p k) (cond (same_key (key_of r) k) (some r.ttl) (find k l))
    go (alike q e) true h ih = rw (e, ← ap (λ (k : Key). p k r.ttl) q, h)
    go (alike q e) false h ih = rw (e, ← ap (λ (k : Key). p k r.ttl) q, h) (ih ∙ ap (passing (p k)) (gone q))
    go (apart e) true h ih = rw e ih
    go (apart e) false h ih = rw e ih

-- Another TTL, in place.
abbrev pub retimed : Bool → ℕ → Option ℕ → Option ℕ
retimed b t none = none
retimed b t (some u) = some (cond b t u)

pub retimed-false : (t : ℕ) (o : Option ℕ) → retimed false t o ≡ o
retimed-false t none = refl
retimed-false t (some u) = refl

pub key_of-cond : (b : Bool) (t : ℕ) (r : Record) → key_of (cond b (with_ttl t r) r) ≡ key_of r
key_of-cond true t r = refl
key_of-cond false t r = refl

pub key_of-set_if : (j : Key) (t : ℕ) (r : Record) → key_of (set_if j t r) ≡ key_of r
key_of-set_if j t r = key_of-cond (same_key (key_of r) j) t r

pub ttl-cond : (b : Bool) (t : ℕ) (r : Record) → (cond b (with_ttl t r) r).ttl ≡ cond b t r.ttl
ttl-cond true t r = refl
ttl-cond false t r = refl

pub find-set_if : (j : Key) (t : ℕ) (k : Key) (l : List Record) → find k (map (set_if j t) l) ≡ retimed (same_key j k) t (find k l)
unfolding find
find-set_if j t k [] = refl
find-set_if j t k (r ∷ l) = rw (key_of-set_if j t r, find-set_if j t k l) (go (keys (key_of r) k))
  where
    go : Keys (key_of r) k → cond (same_key (key_of r) k) (some (set_if j t r).ttl) (retimed (same_key j k) t (find k l))
        ≡ retimed (same_key j k) t (cond (same_key (key_of r) k) (some r.ttl) (find k l))
    go (alike q e) = rw e (ap {B = Option ℕ} some (ttl-cond (same_key (key_of r) j) t r ∙ ap (λ (b : Bool). cond b t r.ttl) (same_key-sym (key_of r) j ∙ ap (same_key j) q)))
    go (apart e) = rw e

pub find-put : (k : Key) (r : Record) (l : List Record) → find k (put r l) ≡ cond (same_key (key_of r) k) (some r.ttl) (find k l)
unfolding put
find-put k r l = go (held (key_of r) l) refl (keys (key_of r) k)
  where
    set : List Record
    set = map (set_if (key_of r) r.ttl) l

    go : (h : Bool) → held (key_of r) l ≡ h → Keys (key_of r) k
        → find k (cond h set (l ++ (r ∷ []))) ≡ cond (same_key (key_of r) k) (some r.ttl) (find k l)
    go true h (alike q e) =
        let f = held-some k l (ap (λ (k : Key). held k l) (sym q) ∙ h) in
        find-set_if (key_of r) r.ttl k l ∙ rw (e, f.1)
    go true h (apart e) = find-set_if (key_of r) r.ttl k l ∙ rw e (retimed-false r.ttl (find k l))
    go false h (alike q e) =
        find-append k l (r ∷ [])
        ∙ rw (held_none k l (ap (λ (k : Key). held k l) (sym q) ∙ h), e) (find-alike k r [] e)
    go false h (apart e) = find-append k l (r ∷ []) ∙ rw (e, find-apart k r [] e) (unfold find in or_else-none (find k l))

pub find-remove : (k j : Key) (l : List Record) → find k (remove j l) ≡ cond (same_key j k) none (find k l)
unfolding remove
find-remove k j l = find-keep (λ (i : Key). not (same_key i j)) k l ∙ rw (same_key-sym k j) (go (same_key j k))
  where
    go : (b : Bool) → cond (not b) (find k l) none ≡ cond b none (find k l)
    go true = refl
    go false = refl

pub held-put : (k : Key) (r : Record) (l : List Record) → held k (put r l) ≡ (same_key (key_of r) k || held k l)
held-put k r l = held_same k (put r l) (r ∷ l) (find-put k r l ∙ unfold find in refl) ∙ held_cons k r l

pub held-keep : (q : Record → Bool) (k : Key) (l : List Record) → held k l ≡ false → held k (keep q l) ≡ false
held-keep q k l e =
    never (held k (keep q l))
    (λ h. clash (held k l)
    (rw (held-any_of k l) (any_of-map (λ (r : Record). q r && same_key (key_of r) k) (λ (r : Record). same_key (key_of r) k) l (λ r. and_right (q r) (same_key (key_of r) k))
    (rw (held-any_of k (keep q l), any_of-keep) at h)))
    e)

-- ---- no key stands twice

pub distinct_head : (r : Record) (l : List Record) → distinct (r ∷ l) ≡ true → held (key_of r) l ≡ false
unfolding distinct
distinct_head r l d = not-true (held (key_of r) l) (and_left (not (held (key_of r) l)) (distinct l) d)

pub distinct_tail : (r : Record) (l : List Record) → distinct (r ∷ l) ≡ true → distinct l ≡ true
unfolding distinct
distinct_tail r l d = and_right (not (held (key_of r) l)) (distinct l) d

pub distinct_cons : (r : Record) (l : List Record) → held (key_of r) l ≡ false → distinct l ≡ true → distinct (r ∷ l) ≡ true
unfolding distinct
distinct_cons r l h d = and_both (ap not h) d

pub distinct-keep : (q : Record → Bool) (l : List Record) → distinct l ≡ true → distinct (keep q l) ≡ true
distinct-keep q [] d = d
distinct-keep q (r ∷ l) d = go (q r) (distinct-keep q l (distinct_tail r l d))
  where
    go : (b : Bool) → distinct (keep q l) ≡ true → distinct (only_if b r (keep q l)) ≡ true
    go true f = distinct_cons r (keep q l) (held-keep q (key_of r) l (distinct_head r l d)) f
    go false f = f

pub distinct_remove : (k : Key) (l : List Record) → distinct l ≡ true → distinct (remove k l) ≡ true
unfolding remove
distinct_remove k l d = distinct-keep (λ (r : Record). not (same_key (key_of r) k)) l d

pub is_some-retimed : (b : Bool) (t : ℕ) (o : Option ℕ) → is_some (retimed b t o) ≡ is_some o
is_some-retimed b t none = refl
is_some-retimed b t (some u) = refl

pub held-set_if : (j : Key) (t : ℕ) (k : Key) (l : List Record) → held k (map (set_if j t) l) ≡ held k l
unfolding held
held-set_if j t k l = ap is_some (find-set_if j t k l) ∙ is_some-retimed (same_key j k) t (find k l)

pub distinct-set_if : (j : Key) (t : ℕ) (l : List Record) → distinct l ≡ true → distinct (map (set_if j t) l) ≡ true
distinct-set_if j t [] d = d
distinct-set_if j t (r ∷ l) d =
    distinct_cons (set_if j t r) (map (set_if j t) l)
    (rw (key_of-set_if j t r) (held-set_if j t (key_of r) l ∙ distinct_head r l d))
    (distinct-set_if j t l (distinct_tail r l d))

pub distinct_append : (l m : List Record) → distinct l ≡ true → distinct m ≡ true
    → all_of (λ (r : Record). not (held (key_of r) m)) l ≡ true → distinct (l ++ m) ≡ true
distinct_append [] m d e a = e
distinct_append (r ∷ l) m d e a =
    distinct_cons r (l ++ m)
    (none-held (key_of r) (l ++ m)
    (find-append (key_of r) l m
    ∙ rw (held_none (key_of r) l (distinct_head r l d)) (held_none (key_of r) m (not-true (held (key_of r) m) (and_left (not (held (key_of r) m)) (all_of (λ (r : Record). not (held (key_of r) m)) l) a)))))
    (distinct_append l m (distinct_tail r l d) e (and_right (not (held (key_of r) m)) (all_of (λ (r : Record). not (held (key_of r) m)) l) a))

pub distinct-one : (r : Record) → distinct (r ∷ []) ≡ true
distinct-one r = distinct_cons r [] (none-held (key_of r) [] (unfold find in refl)) (unfold distinct in refl)

pub distinct-put : (r : Record) (l : List Record) → distinct l ≡ true → distinct (put r l) ≡ true
unfolding put
distinct-put r l d = go (held (key_of r) l) refl
  where
    new : (e : Record) → not (same_key (key_of e) (key_of r)) ≡ true → not (held (key_of e) (r ∷ [])) ≡ true
    new e f =
        rw (
          held_cons (key_of e) r [],
          same_key-sym (key_of r) (key_of e),
          not-true (same_key (key_of e) (key_of r)) f,
          none-held (key_of e) [] (unfold find in refl),
        )

    go : (b : Bool) → held (key_of r) l ≡ b → distinct (cond b (map (set_if (key_of r) r.ttl) l) (l ++ (r ∷ []))) ≡ true
    go true h = distinct-set_if (key_of r) r.ttl l d
    go false h =
        distinct_append l (r ∷ []) d (distinct-one r)
        (all_of-map (λ (e : Record). not (same_key (key_of e) (key_of r))) (λ (e : Record). not (held (key_of e) (r ∷ []))) l new
        (sym (not-any_of (λ (e : Record). same_key (key_of e) (key_of r)) l) ∙ ap not (sym (held-any_of (key_of r) l) ∙ h)))

-- Of every record of a store, its key finds its TTL.
pub all_of-found : (p : Record → Bool) (l : List Record) → distinct l ≡ true
    → ((r : Record) → find (key_of r) l ≡ some r.ttl → p r ≡ true) → all_of p l ≡ true
all_of-found p [] d f = refl
all_of-found p (r ∷ l) d f =
    and_both (f r (find-alike (key_of r) r l (same_key-refl (key_of r))))
    (all_of-found p l (distinct_tail r l d) (λ e h. f e (find-apart (key_of e) r l (other e (some-held (key_of e) l e.ttl h)) ∙ h)))
  where
    other : (e : Record) → held (key_of e) l ≡ true → same_key (key_of r) (key_of e) ≡ false
    other e h =
        never (same_key (key_of r) (key_of e))
        (λ s. clash (held (key_of r) l) (rw (same_key-true (key_of r) (key_of e) s) h) (distinct_head r l d))

-- ---- how long

pub length-put : (r : Record) (l : List Record) → length (put r l) ≡ cond (held (key_of r) l) (length l) (suc (length l))
unfolding put
length-put r l = go (held (key_of r) l)
  where
    go : (b : Bool) → length (cond b (map (set_if (key_of r) r.ttl) l) (l ++ (r ∷ []))) ≡ cond b (length l) (suc (length l))
    go true = length-map l (set_if (key_of r) r.ttl)
    go false = length-append l (r ∷ []) ∙ add-one (length l)

pub remove_absent : (k : Key) (l : List Record) → held k l ≡ false → remove k l ≡ l
unfolding remove
remove_absent k l h =
    keep_all (λ (r : Record). not (same_key (key_of r) k)) l
    (sym (not-any_of (λ (r : Record). same_key (key_of r) k) l) ∙ ap not (sym (held-any_of k l) ∙ h))

pub length-remove : (k : Key) (l : List Record) → distinct l ≡ true → held k l ≡ true → suc (length (remove k l)) ≡ length l
unfolding remove
length-remove k [] d h = clash (held k []) h (none-held k [] (unfold find in refl))
length-remove k (r ∷ l) d h = go (keys (key_of r) k) (length-remove k l (distinct_tail r l d))
  where
    rest : List Record
    rest = keep (λ (r : Record). not (same_key (key_of r) k)) l

    go : Keys (key_of r) k → (held k l ≡ true → suc (length rest) ≡ length l)
        → suc (length (only_if (not (same_key (key_of r) k)) r rest)) ≡ suc (length l)
    go (alike q e) f = rw e (ap (λ (m : List Record). suc (length m)) (remove_absent k l (ap (λ (k : Key). held k l) (sym q) ∙ distinct_head r l d)))
    go (apart e) f = rw e (ap suc (f (sym (held_cons k r l ∙ ap (λ (t : Bool). t || held k l) e) ∙ h)))
