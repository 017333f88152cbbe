-- Laws of `firsts`: the records of a list that no removal chosen for an earlier one covers.
use mathlib.Core.Path.{◌≡◌, refl, sym, ap, ap₂, ◌∙◌, fun_ext}
use mathlib.Core.Bool.{Bool, true, false, not, ◌||◌, beq, or-false}
use mathlib.Core.List.{List, [], ◌∷◌, ◌++◌}
use lib.Seq.{append_snoc}
use borrow.Author.Tests.{not-true}
use Rattle.zone.specs.Lists.{only_if, any_of, all_of}
use Rattle.zone.specs.Record.{Record, Key, key_of}
use Rattle.zone.proofs.Lists.{
  beq-true,
  all_of-map,
  all_of-only_if,
  any_of-append,
  any_of-absorb,
  and_left,
  and_right,
  and_both,
  or_left,
  or_right,
}
use Rattle.push.specs.Change.{Removal, covers}
use Rattle.push.specs.List.{alike, firsts}
use Rattle.push.proofs.Pigeonhole.{apart}

module _ (f : Record → Removal) where
  -- Where a choice that covers a record covers all that the record's own choice covers, the firsts' choices cover what all
  -- choices do.
  pub firsts-cover : ((e r : Record) (k : Key) → covers (f e) (key_of r) ≡ true → covers (f r) k ≡ true → covers (f e) k ≡ true)
      → (k : Key) (earlier l : List Record)
      → any_of (λ (e : Record). covers (f e) k) (earlier ++ firsts f earlier l) ≡ any_of (λ (e : Record). covers (f e) k) (earlier ++ l)
  unfolding firsts
  firsts-cover class k earlier [] = refl
  firsts-cover class k earlier (r ∷ l) =
      go (any_of (λ (e : Record). covers (f e) (key_of r)) earlier) refl
      ∙ firsts-cover class k (earlier ++ (r ∷ [])) l
      ∙ ap any (append_snoc earlier r l)
    where
      any : List Record → Bool
      any = any_of (λ (e : Record). covers (f e) k)

      rest : List Record
      rest = firsts f (earlier ++ (r ∷ [])) l

      go : (b : Bool) → any_of (λ (e : Record). covers (f e) (key_of r)) earlier ≡ b
          → any (earlier ++ only_if (not b) r rest) ≡ any (earlier ++ (r ∷ []) ++ rest)
      go false h = ap any (sym (append_snoc earlier r rest))
      go true h =
          any_of-append (λ (e : Record). covers (f e) k) earlier rest
          ∙ ap (λ (t : Bool). t || any rest) (sym absorbed)
          ∙ sym (any_of-append (λ (e : Record). covers (f e) k) (earlier ++ (r ∷ [])) rest)
        where
          absorbed : any (earlier ++ (r ∷ [])) ≡ any earlier
          absorbed =
              any_of-append (λ (e : Record). covers (f e) k) earlier (r ∷ [])
              ∙ ap (λ (t : Bool). any earlier || t) (or-false (covers (f r) k))
              ∙ any_of-absorb (λ (e : Record). covers (f e) (key_of r)) (λ (e : Record). covers (f e) k) (covers (f r) k) earlier h
              (λ e. class e r k)

  -- What holds of all of a list holds of its firsts.
  pub all_of-firsts : (p : Record → Bool) (earlier l : List Record) → all_of p l ≡ true → all_of p (firsts f earlier l) ≡ true
  unfolding firsts
  all_of-firsts p earlier [] a = a
  all_of-firsts p earlier (r ∷ l) a =
      all_of-only_if p (not (any_of (λ (e : Record). covers (f e) (key_of r)) earlier)) r (firsts f (earlier ++ (r ∷ [])) l)
      (λ h. and_left (p r) (all_of p l) a)
      (all_of-firsts p (earlier ++ (r ∷ [])) l (and_right (p r) (all_of p l) a))

  -- No first is covered by an earlier choice, so the firsts are apart.
  unfoldable pub covered : List Record → Record → Bool
  covered earlier s = any_of (λ (e : Record). covers (f e) (key_of s)) earlier

  pub covered-snoc : (earlier : List Record) (r s : Record) → covered (earlier ++ (r ∷ [])) s ≡ (covered earlier s || covers (f r) (key_of s))
  unfolding covered
  covered-snoc earlier r s =
      any_of-append (λ (e : Record). covers (f e) (key_of s)) earlier (r ∷ [])
      ∙ ap (λ (t : Bool). covered earlier s || t) (or-false (covers (f r) (key_of s)))

  pub firsts-new : (earlier l : List Record) → all_of (λ (s : Record). not (covered earlier s)) (firsts f earlier l) ≡ true
  unfolding firsts covered
  firsts-new earlier [] = refl
  firsts-new earlier (r ∷ l) =
      all_of-only_if (λ (s : Record). not (covered earlier s)) (not (covered earlier r)) r (firsts f (earlier ++ (r ∷ [])) l) (λ h. h)
      (all_of-map (λ (s : Record). not (covered (earlier ++ (r ∷ [])) s)) (λ (s : Record). not (covered earlier s)) (firsts f (earlier ++ (r ∷ [])) l)
      (λ s h. ap not (or_left (covered earlier s) (covers (f r) (key_of s)) (sym (covered-snoc earlier r s) ∙ not-true (covered (earlier ++ (r ∷ [])) s) h)))
      (firsts-new (earlier ++ (r ∷ [])) l))

  pub firsts-apart : (earlier l : List Record) → apart (λ (e s : Record). covers (f e) (key_of s)) (firsts f earlier l) ≡ true
  unfolding firsts
  firsts-apart earlier [] = refl
  firsts-apart earlier (r ∷ l) =
      go (not (any_of (λ (e : Record). covers (f e) (key_of r)) earlier)) (firsts-apart (earlier ++ (r ∷ [])) l)
    where
      rest : List Record
      rest = firsts f (earlier ++ (r ∷ [])) l

      go : (b : Bool) → apart (λ (e s : Record). covers (f e) (key_of s)) rest ≡ true
          → apart (λ (e s : Record). covers (f e) (key_of s)) (only_if b r rest) ≡ true
      go true d =
          and_both
          (all_of-map (λ (s : Record). not (covered (earlier ++ (r ∷ [])) s)) (λ (s : Record). not (covers (f r) (key_of s))) rest
          (λ s h. ap not (or_right (covered earlier s) (covers (f r) (key_of s)) (sym (covered-snoc earlier r s) ∙ not-true (covered (earlier ++ (r ∷ [])) s) h)))
          (firsts-new (earlier ++ (r ∷ [])) l))
          d
      go false d = d

-- Choices that cover the same of the list have the same firsts.
pub firsts-alike : (f g : Record → Removal) (earlier l : List Record) → ((e : Record) → alike l (f e) (g e) ≡ true)
    → firsts f earlier l ≡ firsts g earlier l
unfolding firsts alike
firsts-alike f g earlier [] h = refl
firsts-alike f g earlier (r ∷ l) h =
    ap₂ (λ (b : Bool) (m : List Record). only_if (not b) r m)
    (ap (λ (p : Record → Bool). any_of p earlier) (fun_ext (λ e. beq-true (covers (f e) (key_of r)) (covers (g e) (key_of r)) (here e))))
    (firsts-alike f g (earlier ++ (r ∷ [])) l (λ e. and_right (same e r) (all_of (same e) l) (h e)))
  where
    same : Record → Record → Bool
    same e r = beq (covers (f e) (key_of r)) (covers (g e) (key_of r))

    here : (e : Record) → same e r ≡ true
    here e = and_left (same e r) (all_of (same e) l) (h e)
