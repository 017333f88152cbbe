-- Laws of tests and of lists by a test.
use Prim.Native.Nat.{suc, ◌≤◌}
use mathlib.Core.Path.{◌≡◌, refl, sym, ap, ap₂, ◌∙◌, fun_ext}
use mathlib.Core.Logic.{◌⊎◌, inl, inr}
use mathlib.Core.Bool.{Bool, true, false, not, ◌&&◌, ◌||◌, beq, false≢true, or_assoc, or-true, and_assoc}
use mathlib.Core.List.{List, [], ◌∷◌, ◌++◌, map, Memᴰ}
use native.Mathlib.Omega.{arith}
use lib.ListN.{length}
use Rattle.zone.specs.Lists.{only_if, keep, any_of, all_of}

-- ---- tests

pub decided : (b : Bool) → (b ≡ true) ⊎ (b ≡ false)
decided true = inl refl
decided false = inr refl

pub clash : {X : Type 0} (b : Bool) → b ≡ true → b ≡ false → X
clash b p q = absurd (false≢true (sym q ∙ p))

pub and_left : (a b : Bool) → (a && b) ≡ true → a ≡ true
and_left true b e = refl
and_left false b e = e

pub and_right : (a b : Bool) → (a && b) ≡ true → b ≡ true
and_right true b e = e
and_right false b e = absurd (false≢true e)

pub and_both : {a b : Bool} → a ≡ true → b ≡ true → (a && b) ≡ true
and_both p q = ap₂ ◌&&◌ p q

pub or_left : (a b : Bool) → (a || b) ≡ false → a ≡ false
or_left true b e = e
or_left false b e = refl

pub or_right : (a b : Bool) → (a || b) ≡ false → b ≡ false
or_right true b e = absurd (false≢true (sym e))
or_right false b e = e

pub beq-true : (a b : Bool) → beq a b ≡ true → a ≡ b
beq-true true true e = refl
beq-true true false e = sym e
beq-true false true e = e
beq-true false false e = refl

pub beq-refl : (a : Bool) → beq a a ≡ true
beq-refl true = refl
beq-refl false = refl

-- Two tests that pass together are equal.
pub same_test : (a b : Bool) → (a ≡ true → b ≡ true) → (b ≡ true → a ≡ true) → a ≡ b
same_test true b f g = sym (f refl)
same_test false true f g = g refl
same_test false false f g = refl

pub never : (a : Bool) → (a ≡ true → ⊥) → a ≡ false
never true f = absurd (f refl)
never false f = refl

pub or_map : (a b c d : Bool) → (a ≡ true → c ≡ true) → (b ≡ true → d ≡ true) → (a || b) ≡ true → (c || d) ≡ true
or_map true b c d f g e = rw (f refl)
or_map false b true d f g e = refl
or_map false b false d f g e = g e

pub not-or : (a b c : Bool) → not b ≡ c → not (a || b) ≡ (not a && c)
not-or true b c e = refl
not-or false b c e = e

-- ---- lists

module _ {A : Type 0} where
  -- a test at every member, and at one
  pub any_of-append : (p : A → Bool) (l m : List A) → any_of p (l ++ m) ≡ (any_of p l || any_of p m)
  any_of-append p [] m = refl
  any_of-append p (a ∷ l) m =
      ap (λ (t : Bool). p a || t) (any_of-append p l m) ∙ sym (or_assoc (p a) (any_of p l) (any_of p m))

  pub all_of-append : (p : A → Bool) (l m : List A) → all_of p (l ++ m) ≡ (all_of p l && all_of p m)
  all_of-append p [] m = refl
  all_of-append p (a ∷ l) m =
      ap (λ (t : Bool). p a && t) (all_of-append p l m) ∙ sym (and_assoc (p a) (all_of p l) (all_of p m))

  pub any_of-map : (p q : A → Bool) (l : List A) → ((a : A) → p a ≡ true → q a ≡ true) → any_of p l ≡ true → any_of q l ≡ true
  any_of-map p q [] f e = e
  any_of-map p q (a ∷ l) f e = or_map (p a) (any_of p l) (q a) (any_of q l) (f a) (any_of-map p q l f) e

  pub all_of-map : (p q : A → Bool) (l : List A) → ((a : A) → p a ≡ true → q a ≡ true) → all_of p l ≡ true → all_of q l ≡ true
  all_of-map p q [] f e = e
  all_of-map p q (a ∷ l) f e = and_both (f a (and_left (p a) (all_of p l) e)) (all_of-map p q l f (and_right (p a) (all_of p l) e))

  pub all_of-both : (p q : A → Bool) (l : List A) → all_of p l ≡ true → all_of q l ≡ true → all_of (λ (a : A). p a && q a) l ≡ true
  all_of-both p q [] e f = refl
  all_of-both p q (a ∷ l) e f =
      and_both (and_both (and_left (p a) (all_of p l) e) (and_left (q a) (all_of q l) f))
      (all_of-both p q l (and_right (p a) (all_of p l) e) (and_right (q a) (all_of q l) f))

  pub all_of-any : (p : A → Bool) (l : List A) → ((a : A) → p a ≡ true) → all_of p l ≡ true
  all_of-any p [] f = refl
  all_of-any p (a ∷ l) f = and_both (f a) (all_of-any p l f)

  pub not-any_of : (p : A → Bool) (l : List A) → not (any_of p l) ≡ all_of (λ (a : A). not (p a)) l
  not-any_of p [] = refl
  not-any_of p (a ∷ l) = not-or (p a) (any_of p l) (all_of (λ (a : A). not (p a)) l) (not-any_of p l)

  -- Where one member passes p, and passes q as soon as t holds, t adds nothing to q.
  pub any_of-absorb : (p q : A → Bool) (t : Bool) (l : List A) → any_of p l ≡ true
      → ((a : A) → p a ≡ true → t ≡ true → q a ≡ true) → (any_of q l || t) ≡ any_of q l
  any_of-absorb p q t l e f = same_test (any_of q l || t) (any_of q l) (absorbed (any_of q l) t (λ h. any_of-map p q l (λ a g. f a g h) e)) (λ h. rw h)
    where
      absorbed : (a t : Bool) → (t ≡ true → a ≡ true) → (a || t) ≡ true → a ≡ true
      absorbed true t f h = refl
      absorbed false t f h = f h

  pub any_of-never : (p q : A → Bool) (l : List A) → all_of p l ≡ true → ((a : A) → p a ≡ true → q a ≡ false) → any_of q l ≡ false
  any_of-never p q [] e f = refl
  any_of-never p q (a ∷ l) e f =
      rw (f a (and_left (p a) (all_of p l) e)) (any_of-never p q l (and_right (p a) (all_of p l) e) f)

  -- One that passes q, of members that all pass p, passes both.
  pub any_of-with : (p q : A → Bool) (l : List A) → all_of p l ≡ true → any_of q l ≡ true → any_of (λ (a : A). q a && p a) l ≡ true
  any_of-with p q [] e f = f
  any_of-with p q (a ∷ l) e f =
      or_map (q a) (any_of q l) (q a && p a) (any_of (λ (a : A). q a && p a) l) (λ h. and_both h (and_left (p a) (all_of p l) e))
      (any_of-with p q l (and_right (p a) (all_of p l) e))
      f

  pub all_of-at : (p : A → Bool) (l : List A) {a : A} → all_of p l ≡ true → Memᴰ a l → p a ≡ true
  all_of-at p [] {a = a} e m = elim m [ ]
  all_of-at p (b ∷ l) e (Memᴰ.head q) = ap p q ∙ and_left (p b) (all_of p l) e
  all_of-at p (b ∷ l) e (Memᴰ.tail m) = all_of-at p l (and_right (p b) (all_of p l) e) m

  pub any_of-at : (p : A → Bool) (l : List A) {a : A} → Memᴰ a l → p a ≡ true → any_of p l ≡ true
  any_of-at p [] {a = a} m e = elim m [ ]
  any_of-at p (b ∷ l) (Memᴰ.head q) e = rw (sym (ap p q) ∙ e)
  any_of-at p (b ∷ l) (Memᴰ.tail m) e = rw (any_of-at p l m e) (or-true (p b))

  -- The member that passes.
  pub record Passing (p : A → Bool) (l : List A) : Type 0 where
    pub member : A
    pub there : Memᴰ member l
    pub passes : p member ≡ true

  pub any_of-member : (p : A → Bool) (l : List A) → any_of p l ≡ true → Passing p l
  any_of-member p [] e = clash (any_of p []) e refl
  any_of-member p (a ∷ l) e = go (p a) refl (any_of-member p l)
    where
      go : (b : Bool) → p a ≡ b → (any_of p l ≡ true → Passing p l) → Passing p (a ∷ l)
      go true h f = record { member = a; there = Memᴰ.head refl; passes = h }
      go false h f =
          let x = f (rw h at e) in record { member = x.member; there = Memᴰ.tail x.there; passes = x.passes }

  pub all_of-members : (p : A → Bool) (l : List A) → ((a : A) → Memᴰ a l → p a ≡ true) → all_of p l ≡ true
  all_of-members p [] f = refl
  all_of-members p (a ∷ l) f = and_both (f a (Memᴰ.head refl)) (all_of-members p l (λ b m. f b (Memᴰ.tail m)))

  -- ---- the members that pass
  pub only_if-append : (b : Bool) (a : A) (l m : List A) → only_if b a (l ++ m) ≡ only_if b a l ++ m
  only_if-append true a l m = refl
  only_if-append false a l m = refl

  pub keep_append : (p : A → Bool) (l m : List A) → keep p (l ++ m) ≡ keep p l ++ keep p m
  keep_append p [] m = refl
  keep_append p (a ∷ l) m = ap (only_if (p a) a) (keep_append p l m) ∙ only_if-append (p a) a (keep p l) (keep p m)

  pub keep_same : (p q : A → Bool) (l : List A) → ((a : A) → p a ≡ q a) → keep p l ≡ keep q l
  keep_same p q l f = ap (λ (r : A → Bool). keep r l) (fun_ext f)

  pub keep_all : (p : A → Bool) (l : List A) → all_of p l ≡ true → keep p l ≡ l
  keep_all p [] e = refl
  keep_all p (a ∷ l) e = rw (and_left (p a) (all_of p l) e, keep_all p l (and_right (p a) (all_of p l) e))

  pub length-only_if : (b : Bool) (a : A) (l : List A) → length (only_if b a l) ≤ suc (length l)
  length-only_if true a l = omega arith
  length-only_if false a l = omega arith

  pub length-keep : (p : A → Bool) (l : List A) → length (keep p l) ≤ length l
  length-keep p [] = omega arith
  length-keep p (a ∷ l) =
      let h = length-only_if (p a) a (keep p l) in
      let k = length-keep p l in
      omega arith

  pub all_of-only_if : (p : A → Bool) (b : Bool) (a : A) (l : List A) → (b ≡ true → p a ≡ true) → all_of p l ≡ true → all_of p (only_if b a l) ≡ true
  all_of-only_if p true a l f e = and_both (f refl) e
  all_of-only_if p false a l f e = e

  pub all_of-keep : (p q : A → Bool) (l : List A) → all_of p l ≡ true → all_of p (keep q l) ≡ true
  all_of-keep p q [] e = e
  all_of-keep p q (a ∷ l) e =
      all_of-only_if p (q a) a (keep q l) (λ h. and_left (p a) (all_of p l) e) (all_of-keep p q l (and_right (p a) (all_of p l) e))

  pub any_of-only_if : (p : A → Bool) (b : Bool) (a : A) (l : List A) → any_of p (only_if b a l) ≡ (b && p a || any_of p l)
  any_of-only_if p true a l = refl
  any_of-only_if p false a l = refl

  pub any_of-keep : (p q : A → Bool) (l : List A) → any_of p (keep q l) ≡ any_of (λ (a : A). q a && p a) l
  any_of-keep p q [] = refl
  any_of-keep p q (a ∷ l) = any_of-only_if p (q a) a (keep q l) ∙ ap (λ (t : Bool). q a && p a || t) (any_of-keep p q l)

module _ {A B : Type 0} (f : A → B) where
  pub any_of-of-map : (p : B → Bool) (l : List A) → any_of p (map f l) ≡ any_of (λ (a : A). p (f a)) l
  any_of-of-map p [] = refl
  any_of-of-map p (a ∷ l) = ap (λ (t : Bool). p (f a) || t) (any_of-of-map p l)

  pub all_of-of-map : (p : B → Bool) (l : List A) → all_of p (map f l) ≡ all_of (λ (a : A). p (f a)) l
  all_of-of-map p [] = refl
  all_of-of-map p (a ∷ l) = ap (λ (t : Bool). p (f a) && t) (all_of-of-map p l)
