-- Where the first octet of a kind stands.
use Prim.Native.Nat.{ℕ, suc, ◌+◌}
use mathlib.Core.Path.{◌≡◌, refl}
use mathlib.Core.Bool.{Bool, true, false, cond, not}
use mathlib.Core.List.{List, [], ◌∷◌}
use native.Mathlib.Omega.{arith}
use lib.ListN.{length}
use lib.Dec.{eqb, ltb}
use borrow.Author.Tests.{ltb-true, ltb-false}
use Rattle.std.specs.Prelude.{Option, Some, None}
use Rattle.std.specs.List.{position_or_len, prefix_len}
use Rattle.script.specs.Fields.{until, First}

until-position : (x : ℕ) (s : List ℕ) → position_or_len (λ b. eqb b x) s ≡ until x s
unfolding until
until-position x [] = refl
until-position x (b ∷ s) = by-test (eqb b x) (until-position x s)
  where
    by-test : (t : Bool) → prefix_len (λ b. not (eqb b x)) s ≡ until x s → cond (not t) (1 + prefix_len (λ b. not (eqb b x)) s) 0 ≡ cond t 0 (suc (until x s))
    by-test true e = refl
    by-test false e = omega arith

-- What std's `position` finds.
pub first-found : (x : ℕ) (s : List ℕ) (r : Option ℕ)
    → r ≡ cond (ltb (position_or_len (λ b. eqb b x) s) (length s)) (Some (position_or_len (λ b. eqb b x) s)) None → First x s r
first-found x s r e = by-test (ltb (until x s) (length s)) refl (rw (until-position x s) at e)
  where
    by-test : (t : Bool) → ltb (until x s) (length s) ≡ t → r ≡ cond (ltb (until x s) (length s)) (Some (until x s)) None → First x s r
    by-test true k f = rw (f, k) (refl, ltb-true (until x s) (length s) k)
    by-test false k f = rw (f, k) (ltb-false (until x s) (length s) k)
