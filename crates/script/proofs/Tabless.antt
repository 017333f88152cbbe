-- A field that reads as a number or as octets has no tab in it, and so is the only one.
use Prim.Native.Nat.{ℕ, ◌+◌, ◌*◌, ◌^◌, ◌≤◌}
use mathlib.Core.Path.{◌≡◌, refl, sym, ◌∙◌}
use mathlib.Core.Bool.{Bool, true, false, cond}
use mathlib.Core.List.{List, [], ◌∷◌}
use native.Mathlib.Omega.{arith}
use lib.ListN.{length}
use lib.Dec.{ltb}
use borrow.Author.Tests.{ne_eqb}
use Rattle.std.specs.Prelude.{Option, Some, None, option_map, option_and_then}
use Rattle.std.proofs.lemmas.Option.{none-some, option_and_then_some}
use Rattle.script.specs.Digit.{digit_value}
use Rattle.script.specs.Number.{digits, in64, value_of, plain, number}
use Rattle.script.specs.Hex.{hex_bytes}
use Rattle.script.specs.Fields.{tab, until}
use Rattle.script.proofs.Digits.{digit-below}
use Rattle.script.proofs.Parting.{Field}

pub cond-some : {A : Type 0} (t : Bool) (o : Option A) (x : A) → cond t o None ≡ Some x → (t ≡ true) × (o ≡ Some x)
cond-some true o x e = (refl, e)
cond-some false o x e = absurd (none-some x e)

pub map-some : {A B : Type 0} (f : A → B) (o : Option A) (y : B) → option_map f o ≡ Some y → (x : A) × ((o ≡ Some x) × (Some (f x) ≡ Some y))
map-some f None y e = absurd (none-some y e)
map-some f (Some x) y e = (x, (refl, e))

-- A tab is no digit.
no-tab : (b d : ℕ) → digit_value b ≡ Some d → b ≡ tab → ⊥
no-tab b d h e = none-some d (sym (digit-below b (omega arith)) ∙ h)

digits-tabless : (x : ℕ) (s : List ℕ) (y : ℕ) → digits x s ≡ Some y → length s ≤ until tab s
unfolding digits until
digits-tabless x [] y e = omega arith
digits-tabless x (b ∷ s) y e =
    option_and_then_some (λ d. cond (ltb d 10) (digits (x * 10 + d) s) None) (digit_value b) y e (λ d f g.
    let rest = digits-tabless (x * 10 + d) s y (cond-some (ltb d 10) (digits (x * 10 + d) s) y g).1 in
    rw (ne_eqb b tab (no-tab b d f)) (omega arith))

in64-some : (o : Option ℕ) (x : ℕ) → in64 o ≡ Some x → o ≡ Some x
unfolding in64
in64-some None x e = e
in64-some (Some y) x e = (cond-some (ltb y (2 ^ 64)) (Some y) x e).1

pub number-tabless : (s : List ℕ) (x : ℕ) → number s ≡ Some x → Field s
unfolding number value_of
number-tabless s x e =
    record { tabless = digits-tabless 0 s x (in64-some (digits 0 s) x (cond-some (plain s) (value_of s) x e).1) }

hex-tabless : (s l : List ℕ) → hex_bytes s ≡ Some l → length s ≤ until tab s
unfolding hex_bytes until
hex-tabless [] l e = omega arith
hex-tabless (a ∷ []) l e = absurd (none-some l e)
hex-tabless (a ∷ b ∷ s) l e =
    option_and_then_some (λ high. option_and_then (λ low. option_map (λ r. (high * 16 + low) ∷ r) (hex_bytes s)) (digit_value b)) (digit_value a) l e (λ high f g.
    option_and_then_some (λ low. option_map (λ r. (high * 16 + low) ∷ r) (hex_bytes s)) (digit_value b) l g (λ low h k.
    let m = map-some (λ r. (high * 16 + low) ∷ r) (hex_bytes s) l k in
    let rest = hex-tabless s m.0 m.1.0 in
    rw (ne_eqb a tab (no-tab a high f), ne_eqb b tab (no-tab b low h)) (omega arith)))

pub bytes-tabless : (s l : List ℕ) → hex_bytes s ≡ Some l → Field s
bytes-tabless s l e = record { tabless = hex-tabless s l e }
