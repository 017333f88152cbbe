-- The octets that a line carries are below 256: two hexadecimal digits stand for no more.
use Prim.Native.Nat.{ℕ, ◌+◌, ◌*◌, ◌<◌}
use mathlib.Core.Path.{◌≡◌, refl}
use mathlib.Core.Bool.{Bool, true, false, cond}
use mathlib.Core.List.{List, [], ◌∷◌}
use native.Mathlib.Omega.{arith}
use lib.ListN.{length}
use lib.Dec.{leb}
use lib.Pow.{are_bytes}
use borrow.Author.Tests.{lt-ltb}
use Rattle.std.specs.Prelude.{Option, Some, None, option_map, option_and_then}
use Rattle.std.proofs.lemmas.Option.{none-some, same_Some, option_and_then_some}
use Rattle.script.specs.Digit.{digit_value}
use Rattle.script.specs.Number.{number}
use Rattle.script.specs.Hex.{hex_bytes}
use Rattle.script.specs.Fields.{fields}
use Rattle.script.specs.Verb.{verb_of}
use Rattle.script.specs.Line.{Line, max_line, with_field, timed, spoken, line_of_fields, line_of, octets_in}
use Rattle.script.specs.declared.verb.Verb.{Verb}
use Rattle.script.specs.declared.verb.Verb.TheVariants.{Open, Close, Message, Batch, Tick}
use Rattle.script.proofs.Digits.{digit-small}
use Rattle.script.proofs.Tabless.{map-some}

hex-small : (s l : List ℕ) → hex_bytes s ≡ Some l → are_bytes l ≡ true
unfolding hex_bytes
hex-small [] l e = rw (← same_Some [] l e)
hex-small (a ∷ []) l e = absurd (none-some l e)
hex-small (a ∷ b ∷ s) l e =
    option_and_then_some (λ high. option_and_then (λ low. option_map (λ r. (high * 16 + low) ∷ r) (hex_bytes s)) (digit_value b)) (digit_value a) l e (λ high f g.
    option_and_then_some (λ low. option_map (λ r. (high * 16 + low) ∷ r) (hex_bytes s)) (digit_value b) l g (λ low h k.
    let m = map-some (λ r. (high * 16 + low) ∷ r) (hex_bytes s) l k in
    let rest : are_bytes m.0 ≡ true = hex-small s m.0 m.1.0 in
    let x : high < 16 = digit-small a high f in
    let y : low < 16 = digit-small b low h in
    rw (← same_Some ((high * 16 + low) ∷ m.0) l m.1.1, lt-ltb (high * 16 + low) 256 (omega arith)) rest))

-- Of a line that is read only where a field is a verb, a number, or octets.
field-small : {A : Type 0} (o : Option A) (k : A → Line) → ((x : A) → o ≡ Some x → are_bytes (octets_in (k x)) ≡ true) → are_bytes (octets_in (with_field o k)) ≡ true
field-small None k h = refl
field-small (Some x) k h = h x refl

timed-small : (v : Verb) (t : ℕ) (fs : List (List ℕ)) → are_bytes (octets_in (timed v t fs)) ≡ true
unfolding timed
timed-small Open t [] = refl
timed-small Open t (f ∷ fs) = refl
timed-small Tick t [] = refl
timed-small Tick t (f ∷ fs) = refl
timed-small Close t [] = refl
timed-small Close t (s ∷ []) = field-small (number s) (λ n. Line.closing t n) (λ n e. refl)
timed-small Close t (s ∷ f ∷ fs) = refl
timed-small Message t [] = refl
timed-small Message t (s ∷ []) = refl
timed-small Message t (s ∷ h ∷ []) =
    field-small (number s) (λ n. with_field (hex_bytes h) (λ l. Line.message t n l)) (λ n e.
    field-small (hex_bytes h) (λ l. Line.message t n l) (λ l f. hex-small h l f))
timed-small Message t (s ∷ h ∷ f ∷ fs) = refl
timed-small Batch t [] = refl
timed-small Batch t (h ∷ []) = field-small (hex_bytes h) (λ l. Line.batch t l) (λ l f. hex-small h l f)
timed-small Batch t (h ∷ f ∷ fs) = refl

spoken-small : (v : Verb) (fs : List (List ℕ)) → are_bytes (octets_in (spoken v fs)) ≡ true
unfolding spoken
spoken-small v [] = refl
spoken-small v (t ∷ fs) = field-small (number t) (λ n. timed v n fs) (λ n e. timed-small v n fs)

fields-small : (fs : List (List ℕ)) → are_bytes (octets_in (line_of_fields fs)) ≡ true
unfolding line_of_fields
fields-small [] = refl
fields-small (v ∷ fs) = field-small (verb_of v) (λ w. spoken w fs) (λ w e. spoken-small w fs)

-- Of every line, readable or not.
pub line_small : (l : List ℕ) → are_bytes (octets_in (line_of l)) ≡ true
unfolding line_of
line_small l = by-test (leb (length l) max_line)
  where
    by-test : (t : Bool) → are_bytes (octets_in (cond t (line_of_fields (fields l)) Line.unreadable)) ≡ true
    by-test true = fields-small (fields l)
    by-test false = refl
