-- Laws of the removal that is chosen for a record, and of those that are sent.
use Prim.Native.Nat.{ℕ, suc, min, ◌+◌, ◌≤◌, ◌<◌}
use mathlib.Core.Path.{◌≡◌, refl, sym, ap, ap₂, ◌∙◌}
use mathlib.Core.Bool.{Bool, true, false, cond, not, ◌&&◌, beq}
use mathlib.Core.List.{List, [], ◌∷◌, ◌++◌, map, map-append}
use native.Mathlib.Omega.{arith}
use lib.ListN.{length, drop, get_or}
use Rattle.std.specs.Prelude.{Option, Some, None}
use Rattle.zone.specs.Lists.{only_if, any_of, all_of}
use Rattle.zone.specs.Record.{Record, key_of}
use Rattle.zone.specs.Batch.{max_records}
use Rattle.zone.specs.Table.{block_at, rec_of, records_of}
use Rattle.zone.proofs.Lists.{beq-refl, any_of-of-map}
use Rattle.zone.proofs.Memory.{no_record, length-records, records-at}
use Rattle.push.specs.Change.{Removal, covers, is_true}
use Rattle.push.specs.List.{single_at, rrset_at, all_types_at, all_classes_at, widest, alike, chosen, firsts}
use Rattle.push.proofs.Covers.{at, is_true-at}
use Rattle.push.proofs.Plains.{chosen-cases}
use Rattle.notify.specs.declared.removal.RemovalKind.{RemovalKind}
use Rattle.notify.specs.declared.removal.RemovalKind.TheVariants.{Single, Rrset, AllTypes, AllClasses}
use Rattle.notify.specs.Marks.{removal_at, kind_of, marked, told_apart, is_head, marked_kind, heads, sent}
use Rattle.notify.proofs.Records.{records-end, records-next, marked-next}
use Rattle.notify.proofs.Removals.{covers-split, kind-same, kind-other}

-- ---- whether two removals cover the same of the marked records

-- None of the first i marked records tells two removals apart.
pub record Agreed (m w : Removal) (ms : List Bool) (l : List Record) (i : ℕ) : Type 0 where
  pub rest : alike (marked ms l) m w ≡ alike (marked (drop i ms) (drop i l)) m w

pub agreed-none : (m w : Removal) (ms : List Bool) (l : List Record) → Agreed m w ms l 0
agreed-none m w ms l = record { rest = refl }

alike-cons : (m w : Removal) (b : Bool) (ms : List Bool) (r : Record) (l : List Record)
    → alike (marked (b ∷ ms) (r ∷ l)) m w ≡ (not (told_apart b m w (key_of r)) && alike (marked ms l) m w)
unfolding alike marked told_apart
alike-cons m w true ms r l = go (beq (covers m (key_of r)) (covers w (key_of r)))
  where
    go : (e : Bool) → (e && all_of (λ (r : Record). beq (covers m (key_of r)) (covers w (key_of r))) (marked ms l))
        ≡ (not (not e) && all_of (λ (r : Record). beq (covers m (key_of r)) (covers w (key_of r))) (marked ms l))
    go true = refl
    go false = refl
alike-cons m w false ms r l = refl

-- A removal covers what it covers.
alike_self : (l : List Record) (m : Removal) → alike l m m ≡ true
unfolding alike
alike_self [] m = refl
alike_self (x ∷ l) m = ap₂ (λ (p q : Bool). p && q) (beq-refl (covers m (key_of x))) (alike_self l m)

pub alike_same : (l : List Record) (r : Record) (narrow wide : RemovalKind) → narrow ≡ wide → true ≡ alike l (removal_at narrow r) (removal_at wide r)
alike_same l r narrow wide e =
    sym (alike_self l (removal_at narrow r)) ∙ ap (λ (k : RemovalKind). alike l (removal_at narrow r) (removal_at k r)) e

alike_end : (m w : Removal) (ms : List Bool) → alike (marked ms []) m w ≡ true
unfolding alike marked
alike_end m w [] = refl
alike_end m w (b ∷ ms) = refl

module _ (m w : Removal) (ms : List Bool) (count : ℕ) (a : List ℕ) (i : ℕ) (s : Agreed m w ms (records_of count a) i) (n : ℕ)
    (e : n ≡ min count max_records) where
  pub agreed-all : n ≤ i → true ≡ alike (marked ms (records_of count a)) m w
  agreed-all h =
      sym (s.rest ∙ ap (λ (l : List Record). alike (marked (drop i ms) l) m w) (records-end count a i n e h)
      ∙ alike_end m w (drop i ms))

  module _ (h : i < n) (b : List ℕ) (f : b ≡ block_at a i) (t : Bool) (g : t ≡ told_apart (get_or ms i false) m w (key_of (rec_of b))) where
    left : Bool
    left = alike (marked (drop (i + 1) ms) (drop (i + 1) (records_of count a))) m w

    next-alike : alike (marked ms (records_of count a)) m w ≡ (not t && left)
    unfolding left marked
    next-alike =
        s.rest ∙ ap (λ (l : List Record). alike (marked (drop i ms) l) m w) (records-next count a i n e h b f)
        ∙ ap (λ (l : List Record). alike l m w) (marked-next ms i (rec_of b) (drop (i + 1) (records_of count a)))
        ∙ alike-cons m w (get_or ms i false) (drop (i + 1) ms) (rec_of b) (drop (i + 1) (records_of count a))
        ∙ ap (λ (x : Bool). not x && alike (marked (drop (i + 1) ms) (drop (i + 1) (records_of count a))) m w) (sym g)

    pub agreed-not : t ≡ true → false ≡ alike (marked ms (records_of count a)) m w
    agreed-not q = sym (next-alike ∙ ap (λ (x : Bool). not x && left) q)

    pub agreed-turn : t ≡ false → Agreed m w ms (records_of count a) (i + 1)
    unfolding left
    agreed-turn q = record { rest = next-alike ∙ ap (λ (x : Bool). not x && left) q }

-- ---- a removal at a record by its kind

widest-at : (store : List Record) (r : Record) → removal_at (kind_of (widest store r)) r ≡ widest store r
unfolding widest removal_at kind_of
widest-at store r = go (is_true store (all_classes_at r)) (is_true store (all_types_at r)) (is_true store (rrset_at r))
  where
    go : (x y z : Bool) → removal_at (kind_of (cond x (all_classes_at r) (cond y (all_types_at r) (cond z (rrset_at r) (single_at r))))) r
        ≡ cond x (all_classes_at r) (cond y (all_types_at r) (cond z (rrset_at r) (single_at r)))
    go true y z = refl
    go false true z = refl
    go false false true = refl
    go false false false = refl

chosen_at : (store gone : List Record) (r : Record) → removal_at (kind_of (chosen store gone r)) r ≡ chosen store gone r
unfolding removal_at kind_of
chosen_at store gone r = chosen-cases (λ (m : Removal). removal_at (kind_of m) r ≡ m) store gone r refl refl refl refl

-- ---- the choice

-- The RRset is gone where the widest true removal is collective.
pub set-gone : (store : List Record) (r : Record) → (kind_of (widest store r) ≡ Single → is_true store (rrset_at r) ≡ false)
    × ((kind_of (widest store r) ≡ Single → ⊥) → is_true store (rrset_at r) ≡ true)
unfolding widest kind_of
set-gone store r = go (is_true store (at 0 r)) refl (is_true store (at 1 r)) refl (is_true store (at 2 r)) refl
  where
    kind : Bool → Bool → Bool → RemovalKind
    kind x y z = kind_of (cond x (all_classes_at r) (cond y (all_types_at r) (cond z (rrset_at r) (single_at r))))

    go : (x : Bool) → is_true store (at 0 r) ≡ x → (y : Bool) → is_true store (at 1 r) ≡ y → (z : Bool) → is_true store (at 2 r) ≡ z
        → (kind x y z ≡ Single → z ≡ false) × ((kind x y z ≡ Single → ⊥) → z ≡ true)
    go true p y q z u = ((λ e. absurd (cc)), λ _. sym u ∙ is_true-at store 0 2 r (omega arith) p)
    go false p true q z u = ((λ e. absurd (cc)), λ _. sym u ∙ is_true-at store 1 2 r (omega arith) q)
    go false p false q true u = ((λ e. absurd (cc)), λ _. refl)
    go false p false q false u = ((λ _. refl), λ h. absurd (h refl))

module _ (store gone : List Record) (r : Record) (w : RemovalKind) (f : w ≡ kind_of (widest store r)) where
  pub chosen-single : w ≡ Single → Single ≡ kind_of (chosen store gone r)
  unfolding chosen kind_of
  chosen-single g = rw ((set-gone store r).0 (sym f ∙ g))

  wide : removal_at w r ≡ widest store r
  wide = ap (λ (k : RemovalKind). removal_at k r) f ∙ widest-at store r

  module _ (g : w ≡ Single → ⊥) (u : Bool) (h : u ≡ alike gone (removal_at Rrset r) (removal_at w r)) where
    set : is_true store (rrset_at r) ≡ true
    set = (set-gone store r).1 (λ e. g (f ∙ e))

    set-alike : alike gone (removal_at Rrset r) (widest store r) ≡ u
    set-alike = sym (h ∙ ap (alike gone (removal_at Rrset r)) wide)

    pub chosen-set : u ≡ true → Rrset ≡ kind_of (chosen store gone r)
    unfolding chosen removal_at kind_of
    chosen-set k = rw (set, set-alike ∙ k)

    module _ (k : u ≡ false) (v : Bool) (i : v ≡ alike gone (removal_at AllTypes r) (removal_at w r)) where
      types-alike : alike gone (removal_at AllTypes r) (widest store r) ≡ v
      types-alike = sym (i ∙ ap (alike gone (removal_at AllTypes r)) wide)

      pub chosen-types : v ≡ true → AllTypes ≡ kind_of (chosen store gone r)
      unfolding chosen removal_at kind_of
      chosen-types j = rw (set, set-alike ∙ k, types-alike ∙ j)

      pub chosen-classes : v ≡ false → AllClasses ≡ kind_of (chosen store gone r)
      unfolding chosen removal_at kind_of
      chosen-classes j = rw (set, set-alike ∙ k, types-alike ∙ j)

-- ---- all of them

module _ (f : Record → Removal) (kind : Record → RemovalKind) (at : (r : Record) → removal_at (kind r) r ≡ f r) where
  abbrev step : Bool → Record → Option RemovalKind
  step m r = cond m (Some (kind r)) None

  -- A head of the code's list is one of the definition's.
  one-head : (r : Record) (earlier : List Record) (rest : List Removal)
      → only_if (is_head (map f earlier) r) (removal_at (kind r) r) rest
      ≡ only_if (not (any_of (λ (e : Record). covers (f e) (key_of r)) earlier)) (f r) rest
  unfolding is_head
  one-head r earlier rest =
      ap₂ (λ (b : Bool) (x : Removal). only_if (not b) x rest) (any_of-of-map f (λ (e : Removal). covers e (key_of r)) earlier) (at r)

  map-only_if : (b : Bool) (r : Record) (l : List Record) → map f (only_if b r l) ≡ only_if b (f r) (map f l)
  map-only_if true r l = refl
  map-only_if false r l = refl

  more : (r : Record) (earlier : List Record) → map f earlier ++ (removal_at (kind r) r ∷ []) ≡ map f (earlier ++ (r ∷ []))
  more r earlier = ap (λ (x : Removal). map f earlier ++ (x ∷ [])) (at r) ∙ sym (map-append f earlier (r ∷ []))

  heads-firsts : (ks : List (Option RemovalKind)) (ms : List Bool) (earlier l : List Record)
      → ((k : ℕ) → k < length l → get_or ks k None ≡ step (get_or ms k false) (get_or l k no_record))
      → heads (map f earlier) ks l ≡ map f (firsts f earlier (marked ms l))
  unfolding heads firsts marked
  heads-firsts [] [] earlier l h = refl
  heads-firsts [] (m ∷ ms) earlier [] h = refl
  heads-firsts [] (m ∷ ms) earlier (r ∷ l) h =
      none m (h 0 (omega arith)) (heads-firsts [] ms earlier l (λ k j. h (suc k) (omega arith)))
    where
      none : (m : Bool) → None ≡ step m r → [] ≡ map f (firsts f earlier (marked ms l)) → [] ≡ map f (firsts f earlier (only_if m r (marked ms l)))
      none true e p = absurd (cc)
      none false e p = p
  heads-firsts (k ∷ ks) [] earlier [] h = refl
  heads-firsts (k ∷ ks) [] earlier (r ∷ l) h =
      ap (λ (o : Option RemovalKind). heads (map f earlier) (o ∷ ks) (r ∷ l)) (h 0 (omega arith))
      ∙ heads-firsts ks [] earlier l (λ k j. h (suc k) (omega arith))
  heads-firsts (k ∷ ks) (m ∷ ms) earlier [] h = refl
  heads-firsts (k ∷ ks) (m ∷ ms) earlier (r ∷ l) h =
      ap (λ (o : Option RemovalKind). heads (map f earlier) (o ∷ ks) (r ∷ l)) (h 0 (omega arith))
      ∙ both m (heads-firsts ks ms (earlier ++ (r ∷ [])) l (λ k j. h (suc k) (omega arith))) (heads-firsts ks ms earlier l (λ k j. h (suc k) (omega arith)))
    where
      both : (m : Bool) → heads (map f (earlier ++ (r ∷ []))) ks l ≡ map f (firsts f (earlier ++ (r ∷ [])) (marked ms l))
          → heads (map f earlier) ks l ≡ map f (firsts f earlier (marked ms l))
          → heads (map f earlier) (step m r ∷ ks) (r ∷ l) ≡ map f (firsts f earlier (only_if m r (marked ms l)))
      both true p q =
          one-head r earlier (heads (map f earlier ++ (removal_at (kind r) r ∷ [])) ks l)
          ∙ ap (only_if (not (any_of (λ (e : Record). covers (f e) (key_of r)) earlier)) (f r))
          (ap (λ (x : List Removal). heads x ks l) (more r earlier) ∙ p)
          ∙ sym (map-only_if (not (any_of (λ (e : Record). covers (f e) (key_of r)) earlier)) r (firsts f (earlier ++ (r ∷ [])) (marked ms l)))
      both false p q = q

heads-sent : (store : List Record) (ks : List (Option RemovalKind)) (ms : List Bool) (l : List Record)
    → ((k : ℕ) → k < length l → get_or ks k None ≡ marked_kind store (marked ms l) (get_or ms k false) (get_or l k no_record))
    → heads [] ks l ≡ sent store (marked ms l)
unfolding marked_kind
heads-sent store ks ms l h =
    heads-firsts (chosen store (marked ms l)) (λ (r : Record). kind_of (chosen store (marked ms l) r)) (chosen_at store (marked ms l)) ks ms [] l h

pub choosing : (store : List Record) (ms : List Bool) (count : ℕ) (a : List ℕ) (ks : List (Option RemovalKind))
    → ((k : ℕ) → k < min count max_records
    → get_or ks k None ≡ marked_kind store (marked ms (records_of count a)) (get_or ms k false) (rec_of (block_at a k)))
    → heads [] ks (records_of count a) ≡ sent store (marked ms (records_of count a))
choosing store ms count a ks h = heads-sent store ks ms (records_of count a)
    (λ k j.
    let i : k < min count max_records = omega (arith, length-records count a) in
    h k i ∙ sym (ap (marked_kind store (marked ms (records_of count a)) (get_or ms k false)) (records-at count a k i)))

pub ruleset agreed = (kind-same, alike_same, agreed-none, agreed-all, agreed-not, agreed-turn)

pub ruleset chosen_kind = (kind-same, kind-other, chosen-single, chosen-set, chosen-types, chosen-classes)
