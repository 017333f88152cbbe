-- What changes do to one key: each acts on what is found there, and a list of changes is a fold.
use Prim.Native.Nat.{ℕ}
use mathlib.Core.Path.{◌≡◌, refl, sym, ap, ◌∙◌}
use mathlib.Core.Bool.{Bool, true, false, cond, not, ◌||◌}
use mathlib.Core.List.{List, [], ◌∷◌, ◌++◌, map}
use mathlib.Core.Option.{Option, none, some}
use Rattle.zone.specs.Lists.{any_of}
use Rattle.zone.specs.Record.{Record, Key, key_of, same_key}
use Rattle.zone.specs.Store.{find, held}
use Rattle.zone.specs.Sound.{distinct}
use Rattle.zone.proofs.Keys.{Keys, alike, apart, keys}
use Rattle.zone.proofs.Stores.{
  or_else,
  find-put,
  find-keep,
  find-alike,
  find-apart,
  held_none,
  distinct-put,
  distinct-keep,
  distinct_head,
  distinct_tail,
}
use Rattle.push.specs.Change.{Removal, Change, addition, removal, covers, applied, applied_all}

-- What a change makes of what is found at a key.
abbrev pub act : Key → Change → Option ℕ → Option ℕ
act k (addition r) o = cond (same_key (key_of r) k) (some r.ttl) o
act k (removal m) o = cond (covers m k) none o

abbrev pub acts : Key → List Change → Option ℕ → Option ℕ
acts k [] o = o
acts k (c ∷ cs) o = acts k cs (act k c o)

pub find-applied : (k : Key) (c : Change) (l : List Record) → find k (applied c l) ≡ act k c (find k l)
unfolding applied
find-applied k (addition r) l = find-put k r l
find-applied k (removal m) l = find-keep (λ (j : Key). not (covers m j)) k l ∙ go (covers m k)
  where
    go : (b : Bool) → cond (not b) (find k l) none ≡ cond b none (find k l)
    go true = refl
    go false = refl

pub find-applied_all : (k : Key) (cs : List Change) (l : List Record) → find k (applied_all cs l) ≡ acts k cs (find k l)
unfolding applied_all
find-applied_all k [] l = refl
find-applied_all k (c ∷ cs) l = find-applied_all k cs (applied c l) ∙ ap (acts k cs) (find-applied k c l)

pub acts-append : (k : Key) (cs ds : List Change) (o : Option ℕ) → acts k (cs ++ ds) o ≡ acts k ds (acts k cs o)
acts-append k [] ds o = refl
acts-append k (c ∷ cs) ds o = acts-append k cs ds (act k c o)

-- Removals drop what one of them covers.
pub acts-removals : (k : Key) (f : Record → Removal) (l : List Record) (o : Option ℕ)
    → acts k (map (λ (r : Record). removal (f r)) l) o ≡ cond (any_of (λ (r : Record). covers (f r) k) l) none o
acts-removals k f [] o = refl
acts-removals k f (r ∷ l) o =
    acts-removals k f l (cond (covers (f r) k) none o)
    ∙ go (covers (f r) k) (any_of (λ (r : Record). covers (f r) k) l)
  where
    go : (a b : Bool) → cond b none (cond a none o) ≡ cond (a || b) none o
    go true true = refl
    go true false = refl
    go false b = refl

-- Additions of different keys put what they hold.
pub acts-additions : (k : Key) (l : List Record) (o : Option ℕ) → distinct l ≡ true
    → acts k (map addition l) o ≡ or_else (find k l) o
acts-additions k [] o d = unfold find in refl
acts-additions k (r ∷ l) o d =
    acts-additions k l (cond (same_key (key_of r) k) (some r.ttl) o) (distinct_tail r l d) ∙ go (keys (key_of r) k)
  where
    go : Keys (key_of r) k → or_else (find k l) (cond (same_key (key_of r) k) (some r.ttl) o) ≡ or_else (find k (r ∷ l)) o
    go (alike q e) =
        rw (find-alike k r l e, e, held_none k l (ap (λ (k : Key). held k l) (sym q) ∙ distinct_head r l d))
    go (apart e) = rw (find-apart k r l e, e)

-- No key comes to stand twice.
pub distinct-applied : (c : Change) (l : List Record) → distinct l ≡ true → distinct (applied c l) ≡ true
unfolding applied
distinct-applied (addition r) l d = distinct-put r l d
distinct-applied (removal m) l d = distinct-keep (λ (r : Record). not (covers m (key_of r))) l d

pub distinct-applied_all : (cs : List Change) (l : List Record) → distinct l ≡ true → distinct (applied_all cs l) ≡ true
unfolding applied_all
distinct-applied_all [] l d = d
distinct-applied_all (c ∷ cs) l d = distinct-applied_all cs (applied c l) (distinct-applied c l d)
