-- What every list that brings the old view to the new holds: a removal of each leaving record, an add of each entering one.
use Prim.Native.Nat.{ℕ}
use mathlib.Core.Path.{◌≡◌, refl, sym, ap, ◌∙◌}
use mathlib.Core.Bool.{Bool, true, false, cond, not, ◌||◌}
use mathlib.Core.List.{List, [], ◌∷◌}
use mathlib.Core.Option.{Option, none, some, some-injective}
use native.Mathlib.Omega.{arith}
use borrow.Author.Tests.{eq-eqb}
use Rattle.zone.specs.Lists.{any_of, all_of}
use Rattle.zone.specs.Record.{Record, Key, key_of, same_key}
use Rattle.zone.specs.Store.{find}
use Rattle.zone.specs.Sound.{distinct}
use Rattle.zone.proofs.Lists.{clash, and_both, all_of-map, not-any_of}
use Rattle.zone.proofs.Keys.{same_key-sym}
use Rattle.zone.proofs.Stores.{passing, held-any_of, all_of-found, distinct-keep, distinct_head, distinct_tail}
use Rattle.push.specs.Change.{Change, addition, removal, covers}
use Rattle.push.specs.List.{has_ttl, entering}
use Rattle.push.proofs.Effects.{acts}
use Rattle.push.proofs.Pigeonhole.{apart}
use Rattle.push.proofs.Arrive.{find-entering}

abbrev pub drops : Key → Change → Bool
drops k (addition r) = false
drops k (removal m) = covers m k

abbrev pub adds : Key → Change → Bool
adds k (addition r) = same_key (key_of r) k
adds k (removal m) = false

-- A removal of what is found before and not after.
pub acts-drops : (k : Key) (cs : List Change) (t : ℕ) → acts k cs (some t) ≡ none → any_of (drops k) cs ≡ true
acts-drops k [] t e = absurd (let z : ◌≡◌ {A = ℕ} 0 1 = cc in omega arith)
acts-drops k (addition r ∷ cs) t e = go (same_key (key_of r) k) (acts-drops k cs) e
  where
    go : (b : Bool) → ((t : ℕ) → acts k cs (some t) ≡ none → any_of (drops k) cs ≡ true)
        → acts k cs (cond b (some r.ttl) (some t)) ≡ none → any_of (drops k) cs ≡ true
    go true f e = f r.ttl e
    go false f e = f t e
acts-drops k (removal m ∷ cs) t e = go (covers m k) (acts-drops k cs t) e
  where
    go : (b : Bool) → (acts k cs (some t) ≡ none → any_of (drops k) cs ≡ true)
        → acts k cs (cond b none (some t)) ≡ none → (b || any_of (drops k) cs) ≡ true
    go true f e = refl
    go false f e = f e

-- An add of what is found after and not, or otherwise, before.
pub acts-adds : (k : Key) (cs : List Change) (o : Option ℕ) (t : ℕ) → acts k cs o ≡ some t → has_ttl o t ≡ false
    → any_of (adds k) cs ≡ true
acts-adds k [] o t e h = clash (has_ttl o t) (ap (λ (p : Option ℕ). has_ttl p t) e ∙ eq-eqb t t refl) h
acts-adds k (addition r ∷ cs) o t e h = go (same_key (key_of r) k) (λ e. acts-adds k cs o t e h) e
  where
    go : (b : Bool) → (acts k cs o ≡ some t → any_of (adds k) cs ≡ true)
        → acts k cs (cond b (some r.ttl) o) ≡ some t → (b || any_of (adds k) cs) ≡ true
    go true f e = refl
    go false f e = f e
acts-adds k (removal m ∷ cs) o t e h =
    go (covers m k) (λ e. acts-adds k cs o t e h) (λ e. acts-adds k cs none t e refl) e
  where
    go : (b : Bool) → (acts k cs o ≡ some t → any_of (adds k) cs ≡ true) → (acts k cs none ≡ some t → any_of (adds k) cs ≡ true)
        → acts k cs (cond b none o) ≡ some t → any_of (adds k) cs ≡ true
    go true f g e = g e
    go false f g e = f e

-- ---- keys that are distinct are apart

pub distinct_apart : (l : List Record) → distinct l ≡ true → apart (λ (r s : Record). same_key (key_of r) (key_of s)) l ≡ true
distinct_apart [] d = refl
distinct_apart (r ∷ l) d =
    and_both
    (all_of-map (λ (s : Record). not (same_key (key_of s) (key_of r))) (λ (s : Record). not (same_key (key_of r) (key_of s))) l
    (λ s h. ap not (same_key-sym (key_of r) (key_of s)) ∙ h)
    (sym (not-any_of (λ (s : Record). same_key (key_of s) (key_of r)) l) ∙ ap not (sym (held-any_of (key_of r) l) ∙ distinct_head r l d)))
    (distinct_apart l (distinct_tail r l d))

-- A record enters where its TTL is found after and not before.
pub record Enters (r : Record) (old new : List Record) : Type 0 where
  pub before : has_ttl (find (key_of r) old) r.ttl ≡ false
  pub after : find (key_of r) new ≡ some r.ttl

pub all_of-entering : (p : Record → Bool) (old new : List Record) → distinct new ≡ true
    → ((r : Record) → Enters r old new → p r ≡ true) → all_of p (entering old new) ≡ true
all_of-entering p old new d f =
    all_of-found p (entering old new) (distinct-keep (λ (r : Record). not (has_ttl (find (key_of r) old) r.ttl)) new d)
    (λ r h. f r (enters r (find (key_of r) new) refl (sym (find-entering (key_of r) old new d) ∙ h)))
  where
    enters : (r : Record) (o : Option ℕ) → find (key_of r) new ≡ o
        → passing (λ (t : ℕ). not (has_ttl (find (key_of r) old) t)) o ≡ some r.ttl → Enters r old new
    enters r none e h = absurd (let z : ◌≡◌ {A = ℕ} 0 1 = cc in omega arith)
    enters r (some t) e h = go (has_ttl (find (key_of r) old) t) refl h
      where
        go : (b : Bool) → has_ttl (find (key_of r) old) t ≡ b → cond (not b) (some t) none ≡ some r.ttl → Enters r old new
        go true g h = absurd (let z : ◌≡◌ {A = ℕ} 0 1 = cc in omega arith)
        go false g h = record { before = ap (has_ttl (find (key_of r) old)) (some-injective r.ttl t (sym h)) ∙ g; after = e ∙ h }
