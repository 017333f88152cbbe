-- What holds between the server's state and the observer after every call: the same store, and place by place the same
-- subscriptions and a client that has just its view.
use Prim.Native.Nat.{ℕ, zero, suc, ◌+◌, ◌≤◌, ◌<◌}
use native.Mathlib.Nat.{add-suc, suc-add, add-zero}
use native.Mathlib.Omega.{arith}
use mathlib.Core.Bool.{true, false}
use mathlib.Core.List.{List, [], ◌∷◌}
use mathlib.Core.Option
use mathlib.Core.Option.{Option, none, some}
use mathlib.Core.Path.{◌≡◌, refl, sym, ap, ◌∙◌}
use mathlib.Core.Logic.{⊎_elim}
use lib.ListN.{length, get_or, set}
use lib.Seq.{get_or-set_same, get_or-set_other, set_out}
use lib.Dec.{eqb, ltb}
use borrow.Author.Tests.{eqb-true, eqb-false, ltb-true, ltb-false}
use Rattle.zone.specs.Record.{Record}
use Rattle.zone.specs.Match.{view}
use Rattle.zone.specs.Sound.{Exactly, Sound}
use Rattle.zone.proofs.Lists.{decided}
use Rattle.service.specs.State.{Session, Slot, free, live, max_sessions}
use Rattle.service.specs.Answer.{Answer}
use Rattle.service.specs.Reader.{bytes_for}
use Rattle.service.specs.Call.{Call, Outcome, lent}
use Rattle.service.specs.Observer.{Client, hearing, heard, observe}
use Rattle.service.specs.Demand.{Run, Kept}

pub record Told (store : List Record) (x : Session) (c : Client) : Type 0 where
  pub subs : c.subscriptions ≡ x.subscriptions
  pub exact : Exactly c.records (view x.subscriptions store)

abbrev pub PlaceAt : List Record → Slot → Option Client → Type 0
PlaceAt store free none = Unit {0}
PlaceAt store free (some c) = ⊥
PlaceAt store (live x) none = ⊥
PlaceAt store (live x) (some c) = Told store x c

pub record Related (r : Run) : Type 0 where
  pub zones : r.observer.zone ≡ r.state.zone
  pub stores : r.observer.store ≡ r.state.store
  pub sound : Sound r.state.zone r.state.store
  pub slots : length r.state.slots ≡ max_sessions
  pub clients : length r.observer.clients ≡ max_sessions
  pub places : (s : ℕ) → PlaceAt r.state.store (get_or r.state.slots s free) (get_or r.observer.clients s none)

-- What an outcome of a call leads to: state and observer are related again, and no byte of the output changed but those that
-- the answer states.
pub record Leads (r : Run) (c : Call) (x : Outcome) : Type 0 where
  pub related : Related (record { state = x.next; observer = observe c x.answer x.output r.observer })
  pub kept : Kept x.answer (lent c) x.output

-- Two places at an index are what they were, or what was put there.
module _ (store : List Record) (slots : List Slot) (clients : List (Option Client)) (all : (s : ℕ) → PlaceAt store (get_or slots s free) (get_or clients s none)) (same : length slots ≡ length clients) where
  pub placed : (s : ℕ) (x : Slot) (c : Option Client) → PlaceAt store x c
      → (i : ℕ) → PlaceAt store (get_or (set slots s x) i free) (get_or (set clients s c) i none)
  placed s x c p i = ⊎_elim here there (decided (eqb i s))
    where
      inside : s < length slots → PlaceAt store (get_or (set slots s x) s free) (get_or (set clients s c) s none)
      inside h = rw (get_or-set_same slots s x free h, get_or-set_same clients s c none (omega arith)) p

      outside : length slots ≤ s → (j : ℕ) → PlaceAt store (get_or (set slots s x) j free) (get_or (set clients s c) j none)
      outside h j = rw (set_out slots s x h, set_out clients s c (omega arith)) (all j)

      here : eqb i s ≡ true → PlaceAt store (get_or (set slots s x) i free) (get_or (set clients s c) i none)
      here e =
          rw (eqb-true i s e)
          (⊎_elim (λ (t : ltb s (length slots) ≡ true). inside (ltb-true s (length slots) t))
          (λ (t : ltb s (length slots) ≡ false). outside (ltb-false s (length slots) t) s)
          (decided (ltb s (length slots))))

      there : eqb i s ≡ false → PlaceAt store (get_or (set slots s x) i free) (get_or (set clients s c) i none)
      there e = rw (get_or-set_other slots s i x free (eqb-false i s e), get_or-set_other clients s i c none (eqb-false i s e)) (all i)

-- What a client hears.
pub length-heard : (s : ℕ) (a : Answer) (o : List ℕ) (cl : List (Option Client)) → length (heard s a o cl) ≡ length cl
length-heard s a o [] = refl
length-heard s a o (c ∷ cl) = ap suc (length-heard (suc s) a o cl)

pub heard-at : (s : ℕ) (a : Answer) (o : List ℕ) (cl : List (Option Client)) (i : ℕ)
    → get_or (heard s a o cl) i none ≡ Option.map (hearing (bytes_for a o (s + i))) (get_or cl i none)
heard-at s a o [] i = refl
heard-at s a o (c ∷ cl) zero = ap (λ (k : ℕ). Option.map (hearing (bytes_for a o k)) c) (sym (add-zero s))
heard-at s a o (c ∷ cl) (suc i) =
    heard-at (suc s) a o cl i
    ∙ ap (λ (k : ℕ). Option.map (hearing (bytes_for a o k)) (get_or cl i none)) (suc-add s i ∙ sym (add-suc s i))
