-- Fields: parting a line at its first tab, and that fields joined by tabs are parted again.
use Prim.Native.Nat.{ℕ, suc, ◌+◌, ◌-◌, ◌≤◌, ◌<◌}
use mathlib.Core.Path.{◌≡◌, refl, sym, ap, ◌∙◌, subst⁻¹}
use mathlib.Core.Bool.{Bool, true, false, cond}
use mathlib.Core.List.{List, [], ◌∷◌, ◌++◌, append-nil}
use native.Mathlib.Numerals.{add-one}
use native.Mathlib.Omega.{arith}
use lib.ListN.{length, take, drop}
use lib.Dec.{ltb, eqb}
use borrow.Author.Tests.{ltb-true, ltb-false}
use Rattle.wire.proofs.Writes.{drop-slice}
use Rattle.script.specs.Fields.{tab, fields_with, fields, tabs_before, tabbed, until}

-- ---- parting at the first tab

fields-parted : (s : List ℕ) → until tab s < length s → fields s ≡ take (until tab s) s ∷ fields (drop (suc (until tab s)) s)
unfolding fields until
fields-parted [] h = absurd (omega arith)
fields-parted (b ∷ s) h = by-test (eqb b tab) (λ k. fields-parted s k) h
  where
    by-test : (t : Bool) → (until tab s < length s → fields s ≡ take (until tab s) s ∷ fields (drop (suc (until tab s)) s)) → cond t 0 (suc (until tab s)) < suc (length s)
        → fields_with t b (fields s) ≡ take (cond t 0 (suc (until tab s))) (b ∷ s) ∷ fields (drop (suc (cond t 0 (suc (until tab s)))) (b ∷ s))
    by-test true ih k = refl
    by-test false ih k = ap (fields_with false b) (ih (omega arith))

pub fields-whole : (s : List ℕ) → length s ≤ until tab s → fields s ≡ s ∷ []
unfolding fields until
fields-whole [] h = refl
fields-whole (b ∷ s) h = by-test (eqb b tab) (λ k. fields-whole s k) h
  where
    by-test : (t : Bool) → (length s ≤ until tab s → fields s ≡ s ∷ []) → suc (length s) ≤ cond t 0 (suc (until tab s)) → fields_with t b (fields s) ≡ (b ∷ s) ∷ []
    by-test true ih k = absurd (omega arith)
    by-test false ih k = ap (fields_with false b) (ih (omega arith))

-- There is always a field.
pub fields-some : (s : List ℕ) → 0 < length (fields s)
unfolding fields
fields-some [] = omega arith
fields-some (b ∷ s) = by-test (eqb b tab) (fields s)
  where
    by-test : (t : Bool) (fs : List (List ℕ)) → 0 < length (fields_with t b fs)
    by-test true fs = omega arith
    by-test false [] = omega arith
    by-test false (f ∷ fs) = omega arith

-- The same as slices have it: up to a place, and behind it.
pub parted : (s : List ℕ) (i : ℕ) → (i ≡ until tab s) × (i < length s) → fields s ≡ take i s ∷ fields (take (length s - (i + 1)) (drop (i + 1) s))
parted s i h =
    fields-parted s (omega (arith, h.0, h.1)) ∙ ap (λ (j : ℕ). take j s ∷ fields (drop (suc j) s)) (sym h.0)
    ∙ ap (λ (l : List ℕ). take i s ∷ fields l) (ap (λ (j : ℕ). drop j s) (sym (add-one i)) ∙ sym (drop-slice s (i + 1)))

pub ruleset parting = (fields-whole, parted)

-- ---- fields joined

-- A field has no tab.
pub record Field (f : List ℕ) : Type 0 where
  pub tabless : length f ≤ until tab f

pub fields-joined : (f l : List ℕ) → Field f → fields (f ++ (tab ∷ l)) ≡ f ∷ fields l
unfolding fields until
fields-joined [] l h = refl
fields-joined (b ∷ f) l h = by-test (eqb b tab) (λ k. fields-joined f l k) h.tabless
  where
    by-test : (t : Bool) → (Field f → fields (f ++ (tab ∷ l)) ≡ f ∷ fields l) → suc (length f) ≤ cond t 0 (suc (until tab f)) → fields_with t b (fields (f ++ (tab ∷ l))) ≡ (b ∷ f) ∷ fields l
    by-test true ih k = absurd (omega arith)
    by-test false ih k = ap (fields_with false b) (ih (record { tabless = omega arith }))

-- Every one of the fields is one.
abbrev pub AllFields : List (List ℕ) → Type 0
AllFields [] = Unit {0}
AllFields (f ∷ fs) = Field f × AllFields fs

tabs-parted : (f : List ℕ) (fs : List (List ℕ)) → Field f → AllFields fs → fields (f ++ tabs_before fs) ≡ f ∷ fs
tabs-parted f [] h k = ap fields (append-nil f) ∙ fields-whole f h.tabless
tabs-parted f (g ∷ fs) h k =
    fields-joined f (g ++ tabs_before fs) h ∙ ap (λ (l : List (List ℕ)). f ∷ l) (tabs-parted g fs k.0 k.1)

-- What was joined is parted.
pub fields-tabbed : (f : List ℕ) (fs : List (List ℕ)) → AllFields (f ∷ fs) → fields (tabbed (f ∷ fs)) ≡ f ∷ fs
unfolding tabbed
fields-tabbed f fs h = tabs-parted f fs h.0 h.1

-- ---- one field, or more

module _ (P : List (List ℕ) → Type 0) (s : List ℕ) where
  -- What holds of the whole as one field, and of any two or more, holds of the fields.
  pub fields-cases : P (s ∷ []) → ((f g : List ℕ) (gs : List (List ℕ)) → P (f ∷ g ∷ gs)) → P (fields s)
  fields-cases one more = by-test (ltb (until tab s) (length s)) refl
    where
      more_of : (f : List ℕ) (fs : List (List ℕ)) → 0 < length fs → P (f ∷ fs)
      more_of f [] h = absurd (omega arith)
      more_of f (g ∷ gs) h = more f g gs

      by-test : (t : Bool) → ltb (until tab s) (length s) ≡ t → P (fields s)
      by-test true e =
          let rest : List ℕ = drop (suc (until tab s)) s in
          subst⁻¹ P (fields-parted s (ltb-true (until tab s) (length s) e)) (more_of (take (until tab s) s) (fields rest) (fields-some rest))
      by-test false e = subst⁻¹ P (fields-whole s (ltb-false (until tab s) (length s) e)) one
