-- The weighted pigeonhole: where each of some demands is served by a member of a list, none serves two, and none weighs less
-- than what it serves, the list weighs at least as much as the demands.
use Prim.Native.Nat.{ℕ, ◌+◌, ◌≤◌}
use mathlib.Core.Path.{◌≡◌, refl, ap}
use mathlib.Core.Bool.{Bool, true, false, cond, not, ◌&&◌}
use mathlib.Core.List.{List, [], ◌∷◌, ◌++◌, map}
use native.Mathlib.Omega.{arith}
use lib.ListN.{length}
use borrow.Author.Tests.{not-true}
use Rattle.zone.specs.Lists.{any_of, all_of}
use Rattle.zone.proofs.Lists.{clash, and_left, and_right, all_of-map, all_of-both}
use Rattle.push.specs.Measure.{total}

-- ---- sums

module _ {A : Type 0} where
  pub total-append : (w : A → ℕ) (l m : List A) → total w (l ++ m) ≡ total w l + total w m
  total-append w [] m = omega arith
  total-append w (a ∷ l) m = let h = total-append w l m in omega arith

  pub total-sum : (v w : A → ℕ) (l : List A) → total (λ (a : A). v a + w a) l ≡ total v l + total w l
  total-sum v w [] = omega arith
  total-sum v w (a ∷ l) = let h = total-sum v w l in omega arith

  pub total-ones : (l : List A) → total (λ (a : A). 1) l ≡ length l
  total-ones [] = refl
  total-ones (a ∷ l) = let h = total-ones l in omega arith

  pub total-le : (v w : A → ℕ) (l : List A) → ((a : A) → v a ≤ w a) → total v l ≤ total w l
  total-le v w [] f = omega arith
  total-le v w (a ∷ l) f = let h = total-le v w l f in let k = f a in omega arith

pub total-map : {A B : Type 0} (f : A → B) (w : B → ℕ) (l : List A) → total w (map f l) ≡ total (λ (a : A). w (f a)) l
total-map f w [] = refl
total-map f w (a ∷ l) = ap (λ (n : ℕ). w (f a) + n) (total-map f w l)

-- ---- one member taken out

module _ {A : Type 0} where
  -- No member meets a later one.
  abbrev pub apart : (A → A → Bool) → List A → Bool
  apart meet [] = true
  apart meet (a ∷ l) = all_of (λ (b : A). not (meet a b)) l && apart meet l

  -- The list without the first member that passes.
  abbrev pub without : (A → Bool) → List A → List A
  without p [] = []
  without p (a ∷ l) = cond (p a) l (a ∷ without p l)

  -- Who passes another test is still there.
  pub without_other : (p q : A → Bool) (l : List A) → ((a : A) → p a ≡ true → q a ≡ true → ⊥) → any_of q l ≡ true
      → any_of q (without p l) ≡ true
  without_other p q [] f e = e
  without_other p q (a ∷ l) f e = go (p a) refl (q a) refl (without_other p q l f)
    where
      go : (b : Bool) → p a ≡ b → (c : Bool) → q a ≡ c → (any_of q l ≡ true → any_of q (without p l) ≡ true)
          → any_of q (cond b l (a ∷ without p l)) ≡ true
      go true h true i g = absurd (f a h i)
      go true h false i g = rw i at e
      go false h true i g = rw i
      go false h false i g = rw i (g (rw i at e))

  pub without-weight : (p : A → Bool) (w : A → ℕ) (x : ℕ) (l : List A) → ((a : A) → p a ≡ true → x ≤ w a) → any_of p l ≡ true
      → x + total w (without p l) ≤ total w l
  without-weight p w x [] f e = clash (any_of p []) e refl
  without-weight p w x (a ∷ l) f e = go (p a) refl (without-weight p w x l f)
    where
      go : (b : Bool) → p a ≡ b → (any_of p l ≡ true → x + total w (without p l) ≤ total w l)
          → x + total w (cond b l (a ∷ without p l)) ≤ w a + total w l
      go true h g = let k = f a h in omega arith
      go false h g = let k = g (rw h at e) in omega arith

-- ---- the law

module _ {A B : Type 0} (serves : B → A → Bool) (meet : B → B → Bool) (x : B → ℕ) (w : A → ℕ)
    (weighs : (b : B) (a : A) → serves b a ≡ true → x b ≤ w a)
    (meets : (b c : B) (a : A) → serves b a ≡ true → serves c a ≡ true → meet b c ≡ true)
  where
    pub pigeonhole : (bs : List B) (l : List A) → apart meet bs ≡ true → all_of (λ (b : B). any_of (serves b) l) bs ≡ true
        → total x bs ≤ total w l
    pigeonhole [] l d e = omega arith
    pigeonhole (b ∷ bs) l d e =
        let here : any_of (serves b) l ≡ true = and_left (any_of (serves b) l) (all_of (λ (b : B). any_of (serves b) l) bs) e in
        let later : all_of (λ (b : B). any_of (serves b) l) bs ≡ true = and_right (any_of (serves b) l) (all_of (λ (b : B). any_of (serves b) l) bs) e in
        let off : all_of (λ (c : B). not (meet b c)) bs ≡ true = and_left (all_of (λ (c : B). not (meet b c)) bs) (apart meet bs) d in
        let h = without-weight (serves b) w (x b) l (weighs b) here in
        let k =
        pigeonhole bs (without (serves b) l) (and_right (all_of (λ (c : B). not (meet b c)) bs) (apart meet bs) d)
        (all_of-map (λ (c : B). not (meet b c) && any_of (serves c) l) (λ (c : B). any_of (serves c) (without (serves b) l)) bs (still b l)
        (all_of-both (λ (c : B). not (meet b c)) (λ (c : B). any_of (serves c) l) bs off later)) in
        omega arith
      where
        still : (b : B) (l : List A) (c : B) → (not (meet b c) && any_of (serves c) l) ≡ true → any_of (serves c) (without (serves b) l) ≡ true
        still b l c q =
            without_other (serves b) (serves c) l
            (λ a f g. clash (meet b c) (meets b c a f g) (not-true (meet b c) (and_left (not (meet b c)) (any_of (serves c) l) q)))
            (and_right (not (meet b c)) (any_of (serves c) l) q)
