-- The calls, and the outcome of each: the answer with its values, the next state, and the whole output slice as it is then.
use Rattle.std.specs.Prelude.{ℕ, suc, ◌*◌, Bool, true, false, cond, List, [], ◌∷◌, map, ◌≡◌, length, set, replicate, eqb}
use Rattle.std.proofs.Math.Option.{none, some}
use Rattle.std.proofs.Math.Pow.{are_bytes}
use Rattle.std.proofs.lemmas.List.Edits.{sets}
use Rattle.wire.specs.Name.{is_name}
use Rattle.zone.specs.Lists.{all_of}
use Rattle.zone.specs.Record.{Record}
use Rattle.zone.specs.Match.{Subscription, view}
use Rattle.zone.specs.Batch.{batch_of, stored, faulty}
use Rattle.push.specs.List.{changes}
use Rattle.push.specs.Octets.{push_of}
use Rattle.session.specs.Clocks.{started, expired}
use Rattle.service.specs.State.{State, Slot, free, live, slot_at, max_sessions, fresh, lowest_free}
use Rattle.service.specs.Answer.{
  Answer,
  done,
  opened,
  ended,
  sent,
  not_ours,
  aborted,
  reconfirm,
  refused,
}
use Rattle.service.specs.Checks.{Brought, refusal_of, output_size}
use Rattle.service.specs.Message.{
  Effect,
  abort,
  nothing,
  reply,
  others,
  places,
  message_effect,
}
use Rattle.service.specs.declared.refusal.Refusal.{Refusal}
use Rattle.service.specs.declared.refusal.Refusal.TheVariants.{AllOpen, Batch, NotAName}

-- A string of bytes: each is below 256.
pub record Bytes : Type 0 where
  pub list : List ℕ
  pub small : are_bytes list ≡ true

-- The calls on a server that has started, with any arguments: times, session numbers, bytes, and the output slice as it is
-- lent, of any length and content.
pub data Call : Type 0 where
  opens : (time : ℕ) → Call
  closes : (time session : ℕ) → Call
  receives : (time session : ℕ) (message : Bytes) (output : List ℕ) → Call
  edits : (time : ℕ) (batch : Bytes) (output : List ℕ) → Call
  ticks : (time : ℕ) → Call

pub record Outcome : Type 0 where
  pub answer : Answer
  pub next : State
  pub output : List ℕ

-- Start: 20 where the zone's name is no name, else 1 and a fresh server.
pub data Started : Type 0 where
  running : State → Started
  unnamed : Refusal → Started

unfoldable pub start : List ℕ → Started
start zone = cond (is_name zone) (running (fresh zone)) (unnamed NotAName)

-- 01: "Answers 10 to 20 change nothing, the clock included."
abbrev pub refuse : State → List ℕ → Refusal → Outcome
refuse st output r = record { answer = refused r; next = st; output = output }

abbrev pub with_slots : ℕ → List Slot → State → State
with_slots t slots st = record { zone = st.zone; latest = t; store = st.store; slots = slots }

abbrev pub with_store : ℕ → List Record → State → State
with_store t store st = record { zone = st.zone; latest = t; store = store; slots = st.slots }

-- The output slice with what is written for each session, session s from s x 16,384 on; other bytes keep their values.
unfoldable pub written : ℕ → List (List ℕ) → List ℕ → List ℕ
written s [] output = output
written s (w ∷ ws) output = written (suc s) ws (sets output (s * output_size) w)

-- 1 where nothing is written, else 2 with the count for each session.
abbrev pub told : List (List ℕ) → Answer
told ws = cond (all_of (λ (w : List ℕ). eqb (length w) 0) ws) done (sent (map length ws))

unfoldable pub open_outcome : State → ℕ → Outcome
open_outcome st t =
    elim (lowest_free st.slots) [
      | none ↦ refuse st [] AllOpen
      | some s ↦ record {
        answer = opened s;
        next = with_slots t (set st.slots s (live (record { subscriptions = []; clocks = started t }))) st;
        output = [];
      }
    ]

unfoldable pub close_outcome : State → ℕ → ℕ → Outcome
close_outcome st t s = record { answer = done; next = with_slots t (set st.slots s free) st; output = [] }

-- What a message's effect on session s makes of the server.
unfoldable pub effect_outcome : State → ℕ → ℕ → List ℕ → Effect → Outcome
effect_outcome st t s output abort =
    record { answer = aborted; next = with_slots t (set st.slots s free) st; output = output }
effect_outcome st t s output (nothing x) =
    record { answer = done; next = with_slots t (set st.slots s (live x)) st; output = output }
effect_outcome st t s output (reply x w) =
    record {
      answer = sent (set (replicate max_sessions 0) s (length w));
      next = with_slots t (set st.slots s (live x)) st;
      output = sets output (s * output_size) w;
    }
effect_outcome st t s output (others x) =
    record { answer = not_ours; next = with_slots t (set st.slots s (live x)) st; output = output }
effect_outcome st t s output (places x r) =
    record { answer = reconfirm r; next = with_slots t (set st.slots s (live x)) st; output = output }

abbrev pub effect_at : State → ℕ → List ℕ → Slot → Effect
effect_at st t m free = abort
effect_at st t m (live x) = message_effect st.zone st.store t m x

unfoldable pub message_outcome : State → ℕ → ℕ → List ℕ → List ℕ → Outcome
message_outcome st t s m output = effect_outcome st t s output (effect_at st t m (slot_at st s))

-- The PUSH that a slot's session is sent when the store changes from old to new.
abbrev pub push_to : List Record → List Record → Slot → List ℕ
push_to old new free = []
push_to old new (live x) = push_of (changes new (view x.subscriptions old) (view x.subscriptions new))

unfoldable pub batch_outcome : State → ℕ → List ℕ → List ℕ → Outcome
batch_outcome st t bytes output =
    elim (batch_of st.zone bytes st.store) [
      | faulty f ↦ refuse st output (Batch f)
      | stored new ↦ let ws = map (push_to st.store new) st.slots in record {
        answer = told ws;
        next = with_store t new st;
        output = written 0 ws output;
      }
    ]

abbrev pub has_any : List Subscription → Bool
has_any [] = false
has_any (s ∷ l) = true

abbrev pub ends_at : ℕ → Slot → Bool
ends_at t free = false
ends_at t (live x) = expired (has_any x.subscriptions) t x.clocks

unfoldable pub tick_outcome : State → ℕ → Outcome
tick_outcome st t =
    record {
      answer = ended (map (ends_at t) st.slots);
      next = with_slots t (map (λ (x : Slot). cond (ends_at t x) free x) st.slots) st;
      output = [];
    }

-- What a call brings to the checks, its output slice, and its outcome where the checks pass.
abbrev pub brought : Call → Brought
brought (opens t) = record { output = none; time = t; session = none; message = none }
brought (closes t s) = record { output = none; time = t; session = some s; message = none }
brought (receives t s m output) =
    record { output = some (length output); time = t; session = some s; message = some (length m.list) }
brought (edits t b output) = record { output = some (length output); time = t; session = none; message = none }
brought (ticks t) = record { output = none; time = t; session = none; message = none }

abbrev pub lent : Call → List ℕ
lent (opens t) = []
lent (closes t s) = []
lent (receives t s m output) = output
lent (edits t b output) = output
lent (ticks t) = []

unfoldable pub passed : State → Call → Outcome
passed st (opens t) = open_outcome st t
passed st (closes t s) = close_outcome st t s
passed st (receives t s m output) = message_outcome st t s m.list output
passed st (edits t b output) = batch_outcome st t b.list output
passed st (ticks t) = tick_outcome st t

unfoldable pub outcome : State → Call → Outcome
outcome st c = elim (refusal_of st (brought c)) [ some r ↦ refuse st (lent c) r | none ↦ passed st c ]
