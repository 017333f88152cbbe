-- Demand 3 (01, "Demand 3 over whole lists"), as a statement about the state and the observer after any list of calls.
use Rattle.std.specs.Prelude.{ℕ, ◌+◌, ◌*◌, ◌≤◌, ◌<◌, Bool, true, false, ◌||◌, List, [], ◌∷◌, ◌≡◌, length, get_or, eqb}
use Rattle.std.proofs.Math.Option.{Option, none, some}
use Rattle.zone.specs.Record.{Record}
use Rattle.zone.specs.Match.{Subscription, view}
use Rattle.zone.specs.Sound.{Exactly}
use Rattle.push.specs.Change.{Change}
use Rattle.push.specs.List.{changes}
use Rattle.push.specs.Octets.{push_of}
use Rattle.push.specs.Measure.{Right}
use Rattle.service.specs.Answer.{Answer, answer_number}
use Rattle.service.specs.State.{State, Slot, free, live, max_sessions}
use Rattle.service.specs.Checks.{output_size}
use Rattle.service.specs.Call.{Call, opens, closes, receives, edits, ticks, lent, outcome}
use Rattle.service.specs.Reader.{count_for, bytes_for, pushes_in}
use Rattle.service.specs.Observer.{Client, Observer, watching, observe}

-- A run: the server's state, and the observer beside it.
pub record Run : Type 0 where
  pub state : State
  pub observer : Observer

-- The run begins with what a start gave and an observer that knows the zone's name.
abbrev pub begun : List ℕ → State → Run
begun zone st = record { state = st; observer = watching zone }

unfoldable pub stepped : Run → Call → Run
stepped r c =
    record {
      state = (outcome r.state c).next;
      observer = observe c (outcome r.state c).answer (outcome r.state c).output r.observer;
    }

unfoldable pub run_of : Run → List Call → Run
run_of r [] = r
run_of r (c ∷ cs) = run_of (stepped r c) cs

-- "After every call a client has just its view".
pub record Faithful (o : Observer) : Type 0 where
  pub exact : (s : ℕ) (c : Client) → get_or o.clients s none ≡ some c → Exactly c.records (view c.subscriptions o.store)

-- "in one PUSH, or none if it is empty"
abbrev pub in_one : List Change → List (List Change)
in_one [] = []
in_one (c ∷ cs) = (c ∷ cs) ∷ []

-- Whether a call is a batch that was carried out: "Batch answered 1 or 2".
abbrev pub is_batch : Call → Bool
is_batch (opens t) = false
is_batch (closes t s) = false
is_batch (receives t s m output) = false
is_batch (edits t b output) = true
is_batch (ticks t) = false

abbrev pub is_done : Answer → Bool
is_done a = eqb (answer_number a) 1 || eqb (answer_number a) 2

-- What a batch tells a client, from the bytes written for its session: each of them; "they are the list fixed above, in one
-- PUSH, or none if it is empty"; it is right, and no other list that does the same is shorter. The views are read from the
-- observer, before and after the call.
pub record Pushed (before after : List Record) (subs : List Subscription) (bytes : List ℕ) : Type 0 where
  pub written : bytes ≡ push_of (changes after (view subs before) (view subs after))
  pub told : pushes_in bytes ≡ some (in_one (changes after (view subs before) (view subs after)))
  pub right : Right after (view subs before) (view subs after)

abbrev pub is_open : Slot → Bool
is_open free = false
is_open (live x) = true

abbrev pub is_living : Option Client → Bool
is_living none = false
is_living (some c) = true

-- What a call writes into the output slice: the bytes that its answer states, and no other. Byte k of session s stands at
-- s x 16,384 + k.
pub record Kept (a : Answer) (before after : List ℕ) : Type 0 where
  pub size : length after ≡ length before
  -- "four shelves of 16,384 bytes each": what is stated for a session fits its part, and sessions are 0 to 3.
  pub fits : (s : ℕ) → count_for a s ≤ output_size
  pub four : (s : ℕ) → max_sessions ≤ s → count_for a s ≡ 0
  -- "Bytes beyond a stated count, and other shelves, keep their values."
  pub beyond : (s k : ℕ) → count_for a s ≤ k → k < output_size
      → get_or after (s * output_size + k) 0 ≡ get_or before (s * output_size + k) 0

-- Demand 3, of a call: what the observer knew, the call, its answer and the output slice as it left it, and the next state.
pub record Holds (o : Observer) (c : Call) (a : Answer) (output : List ℕ) (next : State) : Type 0 where
  -- After the call each client has just its view.
  pub views : Faithful (observe c a output o)
  -- The sessions that live for the observer are those that are open.
  pub living : (s : ℕ) → is_living (get_or (observe c a output o).clients s none) ≡ is_open (get_or next.slots s free)
  -- The stores are the same.
  pub stores : (observe c a output o).store ≡ next.store
  -- After a batch that is carried out each client is told the right list.
  pub pushed : is_batch c ≡ true → is_done a ≡ true → (s : ℕ) (x : Client) → get_or o.clients s none ≡ some x
      → Pushed o.store (observe c a output o).store x.subscriptions (bytes_for a output s)
  -- Whatever the answer, a refusal too: no byte changes but those that it states as written.
  pub kept : Kept a (lent c) output

-- Demand 3, of a run and the next call, with what the definitions give for it.
abbrev pub HoldsNext : Run → Call → Type 0
HoldsNext r c =
    Holds r.observer c (outcome r.state c).answer (outcome r.state c).output (outcome r.state c).next
