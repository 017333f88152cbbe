-- Every answer is one of 01's numbers, and so none is zero; a refused call changes nothing; any other takes its time.
use Prim.Native.Nat.{ℕ, zero, suc, ◌≤◌, ◌<◌}
use native.Mathlib.Omega.{arith}
use mathlib.Core.Bool.{Bool, true, false, cond}
use mathlib.Core.List.{List, [], ◌∷◌, map}
use mathlib.Core.Option.{Option, none, some}
use mathlib.Core.Path.{◌≡◌, refl}
use lib.ListN.{length}
use lib.Dec.{eqb, ltb}
use Rattle.wire.specs.Name.{is_name}
use Rattle.zone.specs.Lists.{any_of, all_of}
use Rattle.zone.specs.Batch.{batch_of, Edited, stored, faulty}
use Rattle.zone.specs.declared.BatchFault.{BatchFault}
use Rattle.zone.specs.declared.BatchFault.TheVariants.{TooManyEdits, Unreadable, BadValue, StoreFull}
use Rattle.service.specs.State.{State, fresh, lowest_free, slot_at}
use Rattle.service.specs.Answer.{done, sent, fault_number, refusal_number, answer_number}
use Rattle.service.specs.Checks.{Brought, is_short, is_absent, is_long, refusal_of}
use Rattle.service.specs.Message.{Effect, abort, nothing, reply, others, places}
use Rattle.service.specs.Call.{
  Bytes,
  Call,
  opens,
  closes,
  receives,
  edits,
  ticks,
  Outcome,
  Started,
  running,
  unnamed,
  start,
  refuse,
  brought,
  lent,
  passed,
  outcome,
  open_outcome,
  close_outcome,
  effect_outcome,
  effect_at,
  message_outcome,
  batch_outcome,
  tick_outcome,
  push_to,
}
use Rattle.service.specs.declared.refusal.Refusal.{Refusal}
use Rattle.service.specs.declared.refusal.Refusal.TheVariants.{
  NoSession,
  TimeBackwards,
  OutputTooShort,
  AllOpen,
  Batch,
  MessageTooLong,
  NotAName,
}
use Rattle.service.proofs.Quiet.{refusal-above}

-- The numbers of 01's table that a call may answer with: 19 is the replay program's, 20 start's.
abbrev pub is_listed : ℕ → Bool
is_listed n = any_of (eqb n) (1 ∷ 2 ∷ 3 ∷ 4 ∷ 5 ∷ 10 ∷ 11 ∷ 12 ∷ 13 ∷ 14 ∷ 15 ∷ 16 ∷ 17 ∷ 18 ∷ [])

-- What the number of a call's answer says.
pub record Numbered (st : State) (c : Call) (x : Outcome) : Type 0 where
  pub listed : is_listed (answer_number x.answer) ≡ true
  -- "Answers 10 to 20 change nothing, the clock included."
  pub unchanged : 10 ≤ answer_number x.answer → (x.next ≡ st) × (x.output ≡ lent c)
  -- "Answers 1 to 5 take the given time as latest."
  pub timed : answer_number x.answer ≤ 5 → x.next.latest ≡ (brought c).time
  -- So the latest time stays behind the last call's.
  pub behind : st.latest ≤ (brought c).time → x.next.latest ≤ (brought c).time

refused-numbered : (st : State) (c : Call) (r : Refusal) → is_listed (refusal_number r) ≡ true → Numbered st c (refuse st (lent c) r)
unfolding answer_number
refused-numbered st c r e =
    record {
      listed = e;
      unchanged = λ h. (refl, refl);
      timed = λ (h : refusal_number r ≤ 5). absurd (omega (arith, refusal-above r));
      behind = λ h. h;
    }

fault-listed : (f : BatchFault) → is_listed (refusal_number (Batch f)) ≡ true
unfolding refusal_number fault_number
fault-listed TooManyEdits = refl
fault-listed Unreadable = refl
fault-listed BadValue = refl
fault-listed StoreFull = refl

-- An outcome that is no refusal: its number is computed.
abbrev Accepted : State → Call → Outcome → Type 0
Accepted st c x = (is_listed (answer_number x.answer) ≡ true) × (answer_number x.answer ≤ 5) × (x.next.latest ≡ (brought c).time)

accepted-numbered : (st : State) (c : Call) (x : Outcome) → Accepted st c x → Numbered st c x
accepted-numbered st c x h =
    record { listed = h.0; unchanged = λ g. absurd (omega (arith, h.1)); timed = λ g. h.2; behind = λ g. omega (arith, h.2) }

open-numbered : (st : State) (t : ℕ) → Numbered st (opens t) (open_outcome st t)
unfolding open_outcome answer_number refusal_number
open-numbered st t = go (lowest_free st.slots) refl
  where
    go : (o : Option ℕ) → lowest_free st.slots ≡ o → Numbered st (opens t) (open_outcome st t)
    go none e = rw (e, open_outcome) (refused-numbered st (opens t) AllOpen refl)
    go (some s) e = rw (e, open_outcome) (accepted-numbered st (opens t) _ (refl, omega arith, refl))

close-numbered : (st : State) (t s : ℕ) → Numbered st (closes t s) (close_outcome st t s)
unfolding close_outcome answer_number
close-numbered st t s = accepted-numbered st (closes t s) (close_outcome st t s) (refl, omega arith, refl)

tick-numbered : (st : State) (t : ℕ) → Numbered st (ticks t) (tick_outcome st t)
unfolding tick_outcome answer_number
tick-numbered st t = accepted-numbered st (ticks t) (tick_outcome st t) (refl, omega arith, refl)

effect-accepted : (st : State) (t s : ℕ) (m : Bytes) (output : List ℕ) (e : Effect)
    → Accepted st (receives t s m output) (effect_outcome st t s output e)
unfolding effect_outcome answer_number
effect-accepted st t s m output abort = (refl, omega arith, refl)
effect-accepted st t s m output (nothing x) = (refl, omega arith, refl)
effect-accepted st t s m output (reply x w) = (refl, omega arith, refl)
effect-accepted st t s m output (others x) = (refl, omega arith, refl)
effect-accepted st t s m output (places x r) = (refl, omega arith, refl)

message-numbered : (st : State) (t s : ℕ) (m : Bytes) (output : List ℕ)
    → Numbered st (receives t s m output) (message_outcome st t s m.list output)
unfolding message_outcome
message-numbered st t s m output =
    accepted-numbered st (receives t s m output) (message_outcome st t s m.list output)
    (effect-accepted st t s m output (effect_at st t m.list (slot_at st s)))

told-accepted : (quiet : Bool) (counts : List ℕ)
    → (is_listed (answer_number (cond quiet done (sent counts))) ≡ true) × (answer_number (cond quiet done (sent counts)) ≤ 5)
unfolding answer_number
told-accepted true counts = (refl, omega arith)
told-accepted false counts = (refl, omega arith)

batch-numbered : (st : State) (t : ℕ) (b : Bytes) (output : List ℕ)
    → Numbered st (edits t b output) (batch_outcome st t b.list output)
unfolding batch_outcome
batch-numbered st t b output = go (batch_of st.zone b.list st.store) refl
  where
    go : (e : Edited) → batch_of st.zone b.list st.store ≡ e → Numbered st (edits t b output) (batch_outcome st t b.list output)
    go (faulty f) e = rw (e, batch_outcome) (refused-numbered st (edits t b output) (Batch f) (fault-listed f))
    go (stored new) e =
        let ws = map (push_to st.store new) st.slots in
        let h = told-accepted (all_of (λ (w : List ℕ). eqb (length w) 0) ws) (map length ws) in
        rw (e, batch_outcome) (accepted-numbered st (edits t b output) _ (h.0, h.1, refl))

passed-numbered : (st : State) (c : Call) → Numbered st c (passed st c)
unfolding passed
passed-numbered st (opens t) = open-numbered st t
passed-numbered st (closes t s) = close-numbered st t s
passed-numbered st (receives t s m output) = message-numbered st t s m output
passed-numbered st (edits t b output) = batch-numbered st t b output
passed-numbered st (ticks t) = tick-numbered st t

-- The checks refuse with numbers of the table.
abbrev is_listed_if : Option Refusal → Bool
is_listed_if none = true
is_listed_if (some r) = is_listed (refusal_number r)

chain-listed : (p q r s : Bool)
    → is_listed_if (cond p (some OutputTooShort) (cond q (some TimeBackwards) (cond r (some NoSession) (cond s (some MessageTooLong) none)))) ≡ true
unfolding refusal_number
chain-listed true q r s = refl
chain-listed false true r s = refl
chain-listed false false true s = refl
chain-listed false false false true = refl
chain-listed false false false false = refl

checks-listed : (st : State) (b : Brought) → is_listed_if (refusal_of st b) ≡ true
unfolding refusal_of
checks-listed st b =
    chain-listed (is_short b.output) (ltb b.time st.latest) (is_absent st b.session) (is_long b.message)

pub numbered : (st : State) (c : Call) → Numbered st c (outcome st c)
unfolding outcome
numbered st c = go (refusal_of st (brought c)) refl
  where
    go : (o : Option Refusal) → refusal_of st (brought c) ≡ o → Numbered st c (outcome st c)
    go (some r) e = rw (e, outcome) (refused-numbered st c r (rw e at (checks-listed st (brought c))))
    go none e = rw (e, outcome) (passed-numbered st c)

-- No answer is zero.
listed-positive : (n : ℕ) → is_listed n ≡ true → 0 < n
listed-positive zero e = absurd (let z : ◌≡◌ {A = ℕ} 0 1 = cc in omega arith)
listed-positive (suc n) e = omega arith

pub positive : (st : State) (c : Call) → 0 < answer_number (outcome st c).answer
positive st c = listed-positive (answer_number (outcome st c).answer) (numbered st c).listed

-- Start answers 1, or 20 where the zone's name is no name.
abbrev pub start_number : Started → ℕ
start_number (running st) = 1
start_number (unnamed r) = refusal_number r

pub start-numbered : (zone : List ℕ) → start_number (start zone) ≡ cond (is_name zone) 1 20
unfolding start refusal_number
start-numbered zone = go (is_name zone)
  where
    go : (b : Bool) → start_number (cond b (running (fresh zone)) (unnamed NotAName)) ≡ cond b 1 20
    go true = refl
    go false = refl
