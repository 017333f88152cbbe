-- Two runs that differ in other sessions' messages have the same zone and the same store.
use Prim.Native.Nat.{ℕ, ◌≤◌}
use mathlib.Core.Bool.{true, false}
use mathlib.Core.List.{List}
use mathlib.Core.Option.{Option, none, some}
use mathlib.Core.Path.{◌≡◌, refl, sym, ◌∙◌}
use lib.ListN.{length}
use Rattle.zone.specs.Record.{Record}
use Rattle.zone.specs.Batch.{batch_of, Edited, stored, faulty}
use Rattle.zone.proofs.Lists.{clash}
use Rattle.service.specs.State.{State}
use Rattle.service.specs.Checks.{refusal_of}
use Rattle.service.specs.Call.{
  Bytes,
  Call,
  opens,
  closes,
  receives,
  edits,
  ticks,
  brought,
  passed,
  outcome,
  batch_outcome,
}
use Rattle.service.specs.declared.refusal.Refusal.{Refusal}
use Rattle.service.specs.Observer.{stored_or, noted, observe}
use Rattle.service.specs.Demand.{Run, stepped, is_batch}
use Rattle.service.specs.Isolation.{is_others, Same, open-too, close-too, message-too, batch-too, tick-too}
use Rattle.service.proofs.Related.{Related}
use Rattle.service.proofs.Theorem.{step_kept}
use Rattle.service.proofs.Share.{lacking, refusal-lacking}

pub record SameStore (r r' : Run) : Type 0 where
  pub zones : r.state.zone ≡ r'.state.zone
  pub stores : r.state.store ≡ r'.state.store

-- What the observer knows of both changes with batches alone; and it is the server's.
zone-observed : (r : Run) (c : Call) → (stepped r c).observer.zone ≡ r.observer.zone
unfolding stepped observe noted
zone-observed r (opens t) = refl
zone-observed r (closes t n) = refl
zone-observed r (receives t n m o) = refl
zone-observed r (edits t b o) = refl
zone-observed r (ticks t) = refl

store-observed : (r : Run) (c : Call) → is_batch c ≡ false → (stepped r c).observer.store ≡ r.observer.store
unfolding stepped observe noted
store-observed r (opens t) e = refl
store-observed r (closes t n) e = refl
store-observed r (receives t n m o) e = refl
store-observed r (edits t b o) e = clash true refl e
store-observed r (ticks t) e = refl

module _ (r : Run) (h : Related r) where
  zone-stays : (c : Call) → (stepped r c).state.zone ≡ r.state.zone
  zone-stays c = sym (step_kept r h c).zones ∙ zone-observed r c ∙ h.zones

  store-stays : (c : Call) → is_batch c ≡ false → (stepped r c).state.store ≡ r.state.store
  store-stays c e = sym (step_kept r h c).stores ∙ store-observed r c e ∙ h.stores

-- A batch's store: by the checks and its edits.
abbrev store_after : List Record → Option Refusal → Edited → List Record
store_after store (some g) e = store
store_after store none e = stored_or store e

batch-store : (st : State) (t : ℕ) (b : Bytes) (o : List ℕ) → st.latest ≤ t
    → (outcome st (edits t b o)).next.store ≡ store_after st.store (lacking (brought (edits t b o))) (batch_of st.zone b.list st.store)
unfolding outcome passed batch_outcome
batch-store st t b o p = go (lacking (brought (edits t b o))) (refusal-lacking st (brought (edits t b o)) p refl)
  where
    carried : (e : Edited) → batch_of st.zone b.list st.store ≡ e → (batch_outcome st t b.list o).next.store ≡ stored_or st.store e
    carried (faulty f) e = rw (e, batch_outcome)
    carried (stored new) e = rw (e, batch_outcome)

    go : (f : Option Refusal) → refusal_of st (brought (edits t b o)) ≡ f
        → (outcome st (edits t b o)).next.store ≡ store_after st.store f (batch_of st.zone b.list st.store)
    go (some g) p = rw (p, outcome)
    go none p = rw (p, outcome) (carried (batch_of st.zone b.list st.store) refl)

-- The same call in both runs.
pub store_both : (r r' : Run) → Related r → Related r' → SameStore r r' → {c d : Call} → Same c d → r.state.latest ≤ (brought c).time
    → r'.state.latest ≤ (brought d).time → SameStore (stepped r c) (stepped r' d)
unfolding stepped
store_both r r' h h' l {c} {d} e p p' =
    record { zones = zone-stays r h c ∙ l.zones ∙ sym (zone-stays r' h' d); stores = stores e p p' }
  where
    quiet : (c d : Call) → is_batch c ≡ false → is_batch d ≡ false → (stepped r c).state.store ≡ (stepped r' d).state.store
    quiet c d p p' = store-stays r h c p ∙ l.stores ∙ sym (store-stays r' h' d p')

    batch : (t : ℕ) (b b' : Bytes) (o o' : List ℕ) → b.list ≡ b'.list → length o ≡ length o' → r.state.latest ≤ t
        → r'.state.latest ≤ t → (outcome r.state (edits t b o)).next.store ≡ (outcome r'.state (edits t b' o')).next.store
    batch t b b' o o' e k q q' = rw (batch-store r.state t b o q, batch-store r'.state t b' o' q', e, k, l.zones, l.stores)

    stores : {c d : Call} → Same c d → r.state.latest ≤ (brought c).time → r'.state.latest ≤ (brought d).time
        → (stepped r c).state.store ≡ (stepped r' d).state.store
    stores (open-too t) p p' = quiet (opens t) (opens t) refl refl
    stores (close-too t n) p p' = quiet (closes t n) (closes t n) refl refl
    stores (message-too t n m m' o o' e k) p p' = quiet (receives t n m o) (receives t n m' o') refl refl
    stores (batch-too t b b' o o' e k) p p' = batch t b b' o o' e k p p'
    stores (tick-too t) p p' = quiet (ticks t) (ticks t) refl refl

others-no-batch : (own : Option ℕ) (c : Call) → is_others own c ≡ true → is_batch c ≡ false
others-no-batch own (opens t) e = refl
others-no-batch own (closes t n) e = refl
others-no-batch own (receives t n m o) e = refl
others-no-batch own (edits t b o) e = sym e
others-no-batch own (ticks t) e = refl

-- Another session's message in one of them.
module _ (own : Option ℕ) (r r' : Run) (l : SameStore r r') where
  pub store-first : Related r → (c : Call) → is_others own c ≡ true → SameStore (stepped r c) r'
  store-first h c e =
      record { zones = zone-stays r h c ∙ l.zones; stores = store-stays r h c (others-no-batch own c e) ∙ l.stores }

  pub store-second : Related r' → (d : Call) → is_others own d ≡ true → SameStore r (stepped r' d)
  store-second h d e =
      record { zones = l.zones ∙ sym (zone-stays r' h d); stores = l.stores ∙ sym (store-stays r' h d (others-no-batch own d e)) }
