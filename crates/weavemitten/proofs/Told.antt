-- A call's number and values tell its answer.
-- Assumes nothing.
use Prim.Native.Nat.{ℕ}
use native.Mathlib.Omega.{arith}
use mathlib.Core.Bool.{Bool, true, false, cond}
use mathlib.Core.List.{List, [], ◌∷◌, map}
use mathlib.Core.Option.{Option, none, some}
use mathlib.Core.Path.{◌≡◌, refl, ap, ◌∙◌}
use lib.ListN.{length, take, replicate, length-map, length-set}
use lib.Dec.{eqb}
use Rattle.dso.specs.declared.judgment.RecordPlaces.{RecordPlaces}
use Rattle.zone.specs.Lists.{all_of}
use Rattle.zone.specs.Batch.{batch_of, Edited, stored, faulty}
use Rattle.zone.specs.declared.BatchFault.TheVariants.{TooManyEdits, Unreadable, BadValue, StoreFull}
use Rattle.service.specs.declared.refusal.Refusal.{Refusal}
use Rattle.service.specs.declared.refusal.Refusal.TheVariants.{
  NoSession,
  TimeBackwards,
  OutputTooShort,
  AllOpen,
  Batch,
  MessageTooLong,
  NotAName,
}
use Rattle.service.specs.State.{State, max_sessions, lowest_free, slot_at}
use Rattle.service.specs.Answer.{Answer, done, opened, ended, sent, reconfirm, refused, answer_number, refusal_number, fault_number}
use Rattle.service.specs.Checks.{refusal_of}
use Rattle.service.specs.Message.{Effect, abort, nothing, reply, others, places}
use Rattle.service.specs.Call.{Bytes, Call, opens, closes, receives, edits, ticks, brought, passed, outcome, open_outcome, close_outcome, effect_outcome, effect_at, message_outcome, batch_outcome, tick_outcome, push_to, ends_at}
use Rattle.words.specs.Words.{truth, flag}
use Rattle.words.specs.Values.{eight, values_of}
use Rattle.weavemitten.specs.Told.{answer_from, has_values}

-- ---- one answer

-- What the number of an answer and the values that go with it are read as.
abbrev Reads : Call → Answer → Type 0
Reads c a = (v : List ℕ) → (has_values c ≡ true → v ≡ values_of a) → answer_from c (answer_number a) v ≡ a

refused-reads : (c : Call) (r : Refusal) → Reads c (refused r)
unfolding answer_from answer_number refusal_number fault_number
refused-reads c NoSession v h = refl
refused-reads c TimeBackwards v h = refl
refused-reads c OutputTooShort v h = refl
refused-reads c AllOpen v h = refl
refused-reads c (Batch Unreadable) v h = refl
refused-reads c (Batch BadValue) v h = refl
refused-reads c (Batch TooManyEdits) v h = refl
refused-reads c (Batch StoreFull) v h = refl
refused-reads c MessageTooLong v h = refl
refused-reads c NotAName v h = refl

-- Four values of eight are those that were put there.
first-four : (l : List ℕ) → length l ≡ max_sessions → take max_sessions (eight l) ≡ l
first-four (a ∷ b ∷ c ∷ d ∷ []) e = refl
first-four [] e = absurd (omega (arith, e))
first-four (a ∷ []) e = absurd (omega (arith, e))
first-four (a ∷ b ∷ []) e = absurd (omega (arith, e))
first-four (a ∷ b ∷ c ∷ []) e = absurd (omega (arith, e))
first-four (a ∷ b ∷ c ∷ d ∷ x ∷ l) e = absurd (omega (arith, e))

flags-back : (l : List Bool) → map truth (map flag l) ≡ l
flags-back [] = refl
flags-back (true ∷ l) = ap (λ (k : List Bool). true ∷ k) (flags-back l)
flags-back (false ∷ l) = ap (λ (k : List Bool). false ∷ k) (flags-back l)

opened-reads : (t s : ℕ) → Reads (opens t) (opened s)
unfolding answer_from answer_number values_of
opened-reads t s v h = rw (h refl)

ended-reads : (t : ℕ) (l : List Bool) → length l ≡ max_sessions → Reads (ticks t) (ended l)
unfolding answer_from answer_number values_of
ended-reads t l e v h = rw (h refl, first-four (map flag l) (length-map l flag ∙ e), flags-back l)

sent-reads : (c : Call) (l : List ℕ) → has_values c ≡ true → length l ≡ max_sessions → Reads c (sent l)
unfolding answer_from answer_number values_of
sent-reads c l has e v h = rw (h has, first-four l e)

places-read : (c : Call) (p : RecordPlaces) → has_values c ≡ true → Reads c (reconfirm p)
unfolding answer_from answer_number values_of
places-read c p has v h = rw (h has)

-- ---- every call

module _ (st : State) (four : length st.slots ≡ max_sessions) where
  open-reads : (t : ℕ) → Reads (opens t) (open_outcome st t).answer
  unfolding open_outcome
  open-reads t = go (lowest_free st.slots) refl
    where
      go : (o : Option ℕ) → lowest_free st.slots ≡ o → Reads (opens t) (open_outcome st t).answer
      go none e = rw (e, open_outcome) (refused-reads (opens t) AllOpen)
      go (some s) e = rw (e, open_outcome) (opened-reads t s)

  close-reads : (t s : ℕ) → Reads (closes t s) (close_outcome st t s).answer
  unfolding close_outcome answer_from answer_number
  close-reads t s v h = refl

  effect-reads : (t s : ℕ) (m : Bytes) (o : List ℕ) (e : Effect) → Reads (receives t s m o) (effect_outcome st t s o e).answer
  unfolding effect_outcome answer_from answer_number
  effect-reads t s m o abort = λ v h. refl
  effect-reads t s m o (nothing x) = λ v h. refl
  effect-reads t s m o (reply x w) =
      sent-reads (receives t s m o) _ refl (length-set (replicate max_sessions 0) s (length w))
  effect-reads t s m o (others x) = λ v h. refl
  effect-reads t s m o (places x r) = places-read (receives t s m o) r refl

  told-reads : (t : ℕ) (b : Bytes) (o : List ℕ) (quiet : Bool) (l : List ℕ) → length l ≡ max_sessions
      → Reads (edits t b o) (cond quiet done (sent l))
  unfolding answer_from answer_number
  told-reads t b o true l e = λ v h. refl
  told-reads t b o false l e = sent-reads (edits t b o) l refl e

  batch-reads : (t : ℕ) (b : Bytes) (o : List ℕ) → Reads (edits t b o) (batch_outcome st t b.list o).answer
  unfolding batch_outcome
  batch-reads t b o = go (batch_of st.zone b.list st.store) refl
    where
      go : (e : Edited) → batch_of st.zone b.list st.store ≡ e → Reads (edits t b o) (batch_outcome st t b.list o).answer
      go (faulty f) e = rw (e, batch_outcome) (refused-reads (edits t b o) (Batch f))
      go (stored new) e =
          let ws = map (push_to st.store new) st.slots in
          rw (e, batch_outcome) (told-reads t b o (all_of (λ (w : List ℕ). eqb (length w) 0) ws) (map length ws) (length-map ws length ∙ length-map st.slots (push_to st.store new) ∙ four))

  tick-reads : (t : ℕ) → Reads (ticks t) (tick_outcome st t).answer
  unfolding tick_outcome
  tick-reads t = ended-reads t (map (ends_at t) st.slots) (length-map st.slots (ends_at t) ∙ four)

  passed_reads : (c : Call) → Reads c (passed st c).answer
  unfolding passed message_outcome
  passed_reads (opens t) = open-reads t
  passed_reads (closes t s) = close-reads t s
  passed_reads (receives t s m o) = effect-reads t s m o (effect_at st t m.list (slot_at st s))
  passed_reads (edits t b o) = batch-reads t b o
  passed_reads (ticks t) = tick-reads t

  -- Of every call on a server of four sessions: what a host reads from the number, and from the values where it lent some, is
  -- the answer.
  pub answer-read : (c : Call) → Reads c (outcome st c).answer
  unfolding outcome
  answer-read c = go (refusal_of st (brought c)) refl
    where
      go : (o : Option Refusal) → refusal_of st (brought c) ≡ o → Reads c (outcome st c).answer
      go (some r) e = rw (e, outcome) (refused-reads c r)
      go none e = rw (e, outcome) (passed_reads c)
