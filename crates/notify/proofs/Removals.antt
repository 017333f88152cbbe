-- Laws of the removals that hold a record: what each kind covers, which are true, and the widest true one.
use Prim.Native.Nat.{ℕ, min, ◌+◌, ◌≤◌, ◌<◌}
use mathlib.Core.Path.{◌≡◌, refl, sym, ap, ap₂, ◌∙◌}
use mathlib.Core.Bool.{Bool, true, false, cond, not, ◌&&◌, and_comm, and-true, and-false}
use mathlib.Core.List.{List, [], ◌∷◌}
use native.Mathlib.Omega.{arith}
use borrow.Author.Rules.{rules}
use denote.Enum.Bare.{sameb, same_true, same_false, differs_true, differs_false}
use lib.ListN.{drop}
use lib.Dec.{eqb}
use Rattle.wire.specs.Name.{lowered, same_octets, same_name}
use Rattle.zone.specs.Lists.{any_of}
use Rattle.zone.specs.Record.{Record, key_of, same_key}
use Rattle.zone.specs.Batch.{max_records}
use Rattle.zone.specs.Table.{block_at, rec_of, records_of}
use Rattle.zone.proofs.Lists.{clash, never, not-or}
use Rattle.push.specs.Change.{Removal, covers, is_true}
use Rattle.push.specs.List.{single_at, rrset_at, all_types_at, all_classes_at, widest}
use Rattle.push.proofs.Covers.{at-step}
use Rattle.notify.proofs.Records.{records-end, records-next}
use Rattle.notify.specs.declared.removal.RemovalKind.{RemovalKind}
use Rattle.notify.specs.declared.removal.RemovalKind.TheVariants.{Single, Rrset, AllTypes, AllClasses}
use Rattle.notify.specs.contracts.removal.RemovalKind.{the_type}
use Rattle.notify.specs.Marks.{removal_at, kind_of, same_numbers, narrower, narrowed}

-- ---- what `==` and `!=` of two kinds say

module _ (a b : RemovalKind) (t : Bool) where
  pub kind-same : t ≡ sameb the_type a b → t ≡ true → a ≡ b
  kind-same e h = same_true the_type (search rules) a b (sym e ∙ h)

  pub kind-other : t ≡ sameb the_type a b → t ≡ false → a ≡ b → ⊥
  kind-other e h = same_false the_type a b (sym e ∙ h)

  pub kind-differs : t ≡ not (sameb the_type a b) → t ≡ true → a ≡ b → ⊥
  kind-differs e h = differs_true the_type a b (sym e ∙ h)

  pub kind-agrees : t ≡ not (sameb the_type a b) → t ≡ false → a ≡ b
  kind-agrees e h = differs_false the_type (search rules) a b (sym e ∙ h)

-- ---- what a removal covers

swap : (s t c : Bool) → (s && t && c) ≡ ((c && t) && s)
swap true t c = and_comm t c ∙ sym (and-true (c && t))
swap false t c = sym (and-false (c && t))

-- A collective removal covers what has its class, its type and its name, as far as its kind names them.
pub covers-split : (k : RemovalKind) (a b : Record) → (k ≡ Single → ⊥)
    → covers (removal_at k a) (key_of b) ≡ (same_numbers k a b && same_name a.owner b.owner)
unfolding covers removal_at same_numbers same_name
covers-split Single a b h = absurd (h refl)
covers-split Rrset a b h =
    swap (same_octets (lowered a.owner) (lowered b.owner)) (eqb a.rrtype b.rrtype) (eqb a.rrclass b.rrclass)
covers-split AllTypes a b h = and_comm (same_octets (lowered a.owner) (lowered b.owner)) (eqb a.rrclass b.rrclass)
covers-split AllClasses a b h = refl

pub covers_single : (a b : Record) → covers (removal_at Single a) (key_of b) ≡ same_key (key_of a) (key_of b)
unfolding covers removal_at
covers_single a b = refl

-- ---- the widest kind that spares a record

pub narrowed-by : (k : RemovalKind) (a b : Record) → (k ≡ Single → ⊥)
    → narrowed k a b ≡ cond (covers (removal_at k a) (key_of b)) (narrowed (narrower k) a b) k
unfolding narrowed
narrowed-by Single a b h = absurd (h refl)
narrowed-by Rrset a b h = refl
narrowed-by AllTypes a b h = refl
narrowed-by AllClasses a b h = refl

-- How many kinds are narrower.
abbrev pub width : RemovalKind → ℕ
width Single = 0
width Rrset = 1
width AllTypes = 2
width AllClasses = 3

width-falls : (k : RemovalKind) → (k ≡ Single → ⊥) → width (narrower k) < width k
width-falls Single h = absurd (h refl)
width-falls Rrset h = omega arith
width-falls AllTypes h = omega arith
width-falls AllClasses h = omega arith

pub narrower-width : (k n : RemovalKind) → (k ≡ Single → ⊥) → n ≡ narrower k → width n < width k
narrower-width k n h e = omega (arith, width-falls k h, ap width e)

pub narrowed_single : (a b : Record) → narrowed Single a b ≡ Single
unfolding narrowed
narrowed_single a b = refl

-- ---- the widest true one

module _ (r : Record) where
  -- The widest kind up to one whose removal is true, or Single.
  abbrev pub if_true : List Record → RemovalKind → RemovalKind → RemovalKind
  if_true l kind less = cond (is_true l (removal_at kind r)) kind less

  unfoldable pub widest_to : List Record → RemovalKind → RemovalKind
  widest_to l Single = Single
  widest_to l Rrset = if_true l Rrset Single
  widest_to l AllTypes = if_true l AllTypes (if_true l Rrset Single)
  widest_to l AllClasses = if_true l AllClasses (if_true l AllTypes (if_true l Rrset Single))

  widest-to : (l : List Record) → kind_of (widest l r) ≡ widest_to l AllClasses
  unfolding widest removal_at kind_of widest_to
  widest-to l = go (is_true l (all_classes_at r)) (is_true l (all_types_at r)) (is_true l (rrset_at r))
    where
      go : (x y z : Bool) → kind_of (cond x (all_classes_at r) (cond y (all_types_at r) (cond z (rrset_at r) (single_at r)))) ≡ cond x AllClasses (cond y AllTypes (cond z Rrset Single))
      go true y z = refl
      go false true z = refl
      go false false true = refl
      go false false false = refl

  abbrev pub covered : RemovalKind → Record → Bool
  covered k b = covers (removal_at k r) (key_of b)

  is_true-cons : (m : Removal) (b : Record) (l : List Record) → is_true (b ∷ l) m ≡ (not (covers m (key_of b)) && is_true l m)
  unfolding is_true
  is_true-cons m b l = not-or (covers m (key_of b)) (any_of (λ (s : Record). covers m (key_of s)) l) (is_true l m) refl

  module _ (b : Record) (l : List Record) where
    -- One record more, where no narrower kind covers it that this one spares.
    step : (k less n : RemovalKind) → ((l : List Record) → widest_to l k ≡ if_true l k (widest_to l less))
        → widest_to (b ∷ l) less ≡ widest_to l n → (covered k b ≡ false → n ≡ less)
        → widest_to (b ∷ l) k ≡ widest_to l (cond (covered k b) n k)
    step k less n f h g =
        f (b ∷ l) ∙ ap₂ (λ (t : Bool) (w : RemovalKind). cond t k w) (is_true-cons (removal_at k r) b l) h ∙ go (covered k b) refl
      where
        go : (x : Bool) → covered k b ≡ x → cond (not x && is_true l (removal_at k r)) k (widest_to l n) ≡ widest_to l (cond x n k)
        go true e = refl
        go false e = ap (λ (j : RemovalKind). cond (is_true l (removal_at k r)) k (widest_to l j)) (g e) ∙ sym (f l)

    spares : (p q : Bool) → (p ≡ true → q ≡ true) → q ≡ false → p ≡ false
    spares p q h e = never p (λ k. clash q (h k) e)

    rrset-cons : widest_to (b ∷ l) Rrset ≡ widest_to l (narrowed Rrset r b)
    unfolding widest_to narrowed
    rrset-cons = step Rrset Single Single (λ l. refl) refl (λ e. refl)

    types-cons : widest_to (b ∷ l) AllTypes ≡ widest_to l (narrowed AllTypes r b)
    unfolding widest_to narrowed removal_at
    types-cons = step AllTypes Rrset (narrowed Rrset r b) (λ l. refl) rrset-cons
        (λ e. ap (λ (x : Bool). cond x Single Rrset) (spares (covered Rrset b) (covered AllTypes b) (at-step 1 r (key_of b)) e))

    classes-cons : widest_to (b ∷ l) AllClasses ≡ widest_to l (narrowed AllClasses r b)
    unfolding widest_to narrowed removal_at
    classes-cons = step AllClasses AllTypes (narrowed AllTypes r b) (λ l. refl) types-cons
        (λ e. ap (λ (x : Bool). cond x (narrowed Rrset r b) AllTypes) (spares (covered AllTypes b) (covered AllClasses b) (at-step 0 r (key_of b)) e))

    widest-cons : (k : RemovalKind) → widest_to (b ∷ l) k ≡ widest_to l (narrowed k r b)
    unfolding widest_to narrowed
    widest-cons Single = refl
    widest-cons Rrset = rrset-cons
    widest-cons AllTypes = types-cons
    widest-cons AllClasses = classes-cons

  widest-nil : (k : RemovalKind) → widest_to [] k ≡ k
  unfolding widest_to is_true
  widest-nil Single = refl
  widest-nil Rrset = refl
  widest-nil AllTypes = refl
  widest-nil AllClasses = refl

-- What is left of a store narrows the kind further.
pub record Widest (l : List Record) (r : Record) (kind : RemovalKind) (i : ℕ) : Type 0 where
  pub rest : kind_of (widest l r) ≡ widest_to r (drop i l) kind

pub widest-none : (l : List Record) (r : Record) → Widest l r AllClasses 0
widest-none l r = record { rest = widest-to r l }

module _ (count : ℕ) (a : List ℕ) (r : Record) (kind : RemovalKind) (i : ℕ) (s : Widest (records_of count a) r kind i) (n : ℕ) (e : n ≡ min count max_records) where
  pub widest-end : n ≤ i → kind ≡ kind_of (widest (records_of count a) r)
  widest-end h = sym (s.rest ∙ ap (λ (l : List Record). widest_to r l kind) (records-end count a i n e h) ∙ widest-nil r kind)

  pub widest-turn : i < n → (b : List ℕ) → b ≡ block_at a i → (k : RemovalKind) → k ≡ narrowed kind r (rec_of b) → Widest (records_of count a) r k (i + 1)
  widest-turn h b f k g = record {
    rest = s.rest ∙ ap (λ (l : List Record). widest_to r l kind) (records-next count a i n e h b f)
        ∙ widest-cons r (rec_of b) (drop (i + 1) (records_of count a)) kind ∙ ap (widest_to r (drop (i + 1) (records_of count a))) (sym g);
  }

pub ruleset removal_spares = (kind-differs, kind-agrees, narrowed-by, narrowed_single, narrower-width)

pub ruleset widest_removal = (widest-none, widest-turn, widest-end)

pub ruleset removal_covers = (covers_single, covers-split)
