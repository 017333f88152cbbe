-- What a call that passed the checks brings.
use Prim.Native.Nat.{ℕ}
use mathlib.Core.Bool.{Bool, true, false, cond}
use mathlib.Core.Option.{none, some}
use mathlib.Core.Path.{◌≡◌, refl}
use native.Mathlib.Omega.{arith}
use lib.Dec.{ltb}
use Rattle.service.specs.State.{State}
use Rattle.service.specs.Checks.{Brought, is_short, is_absent, is_long, refusal_of}
use Rattle.service.specs.declared.refusal.Refusal.{Refusal}
use Rattle.service.specs.declared.refusal.Refusal.TheVariants.{
  NoSession,
  TimeBackwards,
  OutputTooShort,
  MessageTooLong,
}

pub record Passed (st : State) (b : Brought) : Type 0 where
  pub roomy : is_short b.output ≡ false
  pub timely : ltb b.time st.latest ≡ false
  pub present : is_absent st b.session ≡ false
  pub short : is_long b.message ≡ false

-- A chain of tests that comes to none failed each of them.
chain : (p q r s : Bool) (a b c d : Refusal)
    → cond p (some a) (cond q (some b) (cond r (some c) (cond s (some d) none))) ≡ none
    → (p ≡ false) × (q ≡ false) × (r ≡ false) × (s ≡ false)
chain true q r s a b c d e = absurd (let z : ◌≡◌ {A = ℕ} 0 1 = cc in omega arith)
chain false true r s a b c d e = absurd (let z : ◌≡◌ {A = ℕ} 0 1 = cc in omega arith)
chain false false true s a b c d e = absurd (let z : ◌≡◌ {A = ℕ} 0 1 = cc in omega arith)
chain false false false true a b c d e = absurd (let z : ◌≡◌ {A = ℕ} 0 1 = cc in omega arith)
chain false false false false a b c d e = (refl, refl, refl, refl)

pub checks-passed : (st : State) (b : Brought) → refusal_of st b ≡ none → Passed st b
unfolding refusal_of
checks-passed st b e =
    let h = chain (is_short b.output) (ltb b.time st.latest) (is_absent st b.session) (is_long b.message)
    OutputTooShort TimeBackwards NoSession MessageTooLong e in
    record { roomy = h.0; timely = h.1; present = h.2; short = h.3 }
