-- Order 13 (02): "One phone cannot disturb another." Two runs that differ only in what other sessions send, seen from one
-- session. It is said of what a caller sees, never of a state: so it is one statement for the definitions, the code and the
-- C library.
use Rattle.std.specs.Prelude.{ℕ, Bool, true, false, cond, not, ◌&&◌, ◌||◌, List, [], ◌∷◌, ◌++◌, ◌≡◌, length, get_or, eqb, leb}
use Rattle.std.proofs.Math.Option.{Option, none, some}
use Rattle.service.specs.State.{State}
use Rattle.service.specs.Answer.{
  Answer,
  done,
  opened,
  ended,
  sent,
  not_ours,
  aborted,
  reconfirm,
  refused,
  answer_number,
}
use Rattle.service.specs.Call.{Bytes, Call, Outcome, opens, closes, receives, edits, ticks, brought, outcome}
use Rattle.service.specs.Reader.{count_for, bytes_for}
use Rattle.service.specs.Demand.{is_done}

-- ---- runs as their callers see them

-- A call, its answer, and the output slice as it left it.
pub record Event : Type 0 where
  pub call : Call
  pub answer : Answer
  pub output : List ℕ

abbrev pub event_of : Call → Outcome → Event
event_of c x = record { call = c; answer = x.answer; output = x.output }

-- A run from what h holds on: `step h x k` says that the call of x on what h holds gives the answer and the output of x, and
-- leaves k. What is held, and what a step is, is all that differs between the definitions, the code and the C library.
pub data Trace {H : Type 0} (step : H → Event → H → Type 0) : H → List Event → Type 0 where
  stops : {h : H} → Trace step h []
  calls : {h k : H} {x : Event} {xs : List Event} → step h x k → Trace step k xs → Trace step h (x ∷ xs)

-- A step of the definitions.
pub record Step (st : State) (x : Event) (after : State) : Type 0 where
  pub answer : x.answer ≡ (outcome st x.call).answer
  pub output : x.output ≡ (outcome st x.call).output
  pub next : after ≡ (outcome st x.call).next

-- "with times that never go back": from the time t on.
unfoldable pub onward : ℕ → List Event → Bool
onward t [] = true
onward t (x ∷ xs) = leb t (brought x.call).time && onward (brought x.call).time xs

-- ---- two runs that differ only in other sessions' messages

-- Whether a number is that of the session that we look from. None is, before it is opened: messages to its number are
-- another session's then.
abbrev pub is_own : Option ℕ → ℕ → Bool
is_own none n = false
is_own (some s) n = eqb n s

-- "other sessions' messages": what may differ.
abbrev pub is_others : Option ℕ → Call → Bool
is_others own (opens t) = false
is_others own (closes t n) = false
is_others own (receives t n m output) = not (is_own own n)
is_others own (edits t b output) = false
is_others own (ticks t) = false

-- The same call in both runs, at the same time and with the same bytes. Of the output slices that are lent the lengths are
-- the same; they may hold different bytes.
pub data Same : Call → Call → Type 0 where
  open-too : (t : ℕ) → Same (opens t) (opens t)
  close-too : (t n : ℕ) → Same (closes t n) (closes t n)
  message-too : (t n : ℕ) (m m' : Bytes) (o o' : List ℕ) → m.list ≡ m'.list → length o ≡ length o'
      → Same (receives t n m o) (receives t n m' o')
  batch-too : (t : ℕ) (b b' : Bytes) (o o' : List ℕ) → b.list ≡ b'.list → length o ≡ length o'
      → Same (edits t b o) (edits t b' o')
  tick-too : (t : ℕ) → Same (ticks t) (ticks t)

-- "the same opens, closes, batches, .. ticks, .. times, slice lengths .. in the same order, differing only in other sessions'
-- messages .., more or fewer too". A message that is another one in the second run is one more and one fewer.
pub data Alike (own : Option ℕ) : List Event → List Event → Type 0 where
  over : Alike own [] []
  both : {x y : Event} {xs ys : List Event} → Same x.call y.call → Alike own xs ys → Alike own (x ∷ xs) (y ∷ ys)
  first : {x : Event} {xs ys : List Event} → is_others own x.call ≡ true → Alike own xs ys → Alike own (x ∷ xs) ys
  second : {y : Event} {xs ys : List Event} → is_others own y.call ≡ true → Alike own xs ys → Alike own xs (y ∷ ys)

-- ---- what a session gets

-- Of one call: its answer, where it is the session's to know; how many bytes are stated for the session, and these bytes in
-- its part of the output (02: its shelf); whether it ended the session.
pub record Seen : Type 0 where
  pub answer : Option Answer
  pub count : ℕ
  pub bytes : List ℕ
  pub ended : Bool

-- "Left out are .. the shared 1 or 2 of a batch": both read as 1.
abbrev pub levelled : Answer → Answer
levelled a = cond (is_done a) done a

-- "the same answers to its own calls", with all values: those under its number. Of the calls of all, "Left out are open's
-- number and its 13, and the shared 1 or 2 of a batch"; whom a tick ended is in `ends_by`.
abbrev pub answer_for : ℕ → Call → Answer → Option Answer
answer_for s (opens t) a = cond (eqb (answer_number a) 1 || eqb (answer_number a) 13) none (some a)
answer_for s (closes t n) a = cond (eqb n s) (some a) none
answer_for s (receives t n m output) a = cond (eqb n s) (some a) none
answer_for s (edits t b output) a = some (levelled a)
answer_for s (ticks t) a = cond (eqb (answer_number a) 1) none (some a)

abbrev pub flag_for : Answer → ℕ → Bool
flag_for done s = false
flag_for (opened n) s = false
flag_for (ended flags) s = get_or flags s false
flag_for (sent counts) s = false
flag_for not_ours s = false
flag_for aborted s = false
flag_for (reconfirm places) s = false
flag_for (refused r) s = false

-- 01: "Close answered 1, answer 4, a tick's yes: that session is gone."
abbrev pub ends_by : ℕ → Call → Answer → Bool
ends_by s (opens t) a = false
ends_by s (closes t n) a = eqb n s && eqb (answer_number a) 1
ends_by s (receives t n m output) a = eqb n s && eqb (answer_number a) 4
ends_by s (edits t b output) a = false
ends_by s (ticks t) a = flag_for a s

abbrev pub seen : ℕ → Event → Seen
seen s x =
    record {
      answer = answer_for s x.call x.answer;
      count = count_for x.answer s;
      bytes = bytes_for x.answer x.output s;
      ended = ends_by s x.call x.answer;
    }

-- Another session's message is something that it gets only where bytes are stated for it.
abbrev pub concerns : ℕ → Event → Bool
concerns s x = not (is_others (some s) x.call) || not (eqb (count_for x.answer s) 0)

-- "until it ends"
abbrev pub unless_ended : Bool → List Seen → List Seen
unless_ended true l = []
unless_ended false l = l

abbrev pub entered : Bool → Seen → List Seen → List Seen
entered true e l = e ∷ unless_ended e.ended l
entered false e l = unless_ended e.ended l

-- What session s gets of the calls behind its open.
unfoldable pub gets : ℕ → List Event → List Seen
gets s [] = []
gets s (x ∷ xs) = entered (concerns s x) (seen s x) (gets s xs)

-- ---- the statement

-- A run around the open of a session: the calls before it, and those behind it until we stop looking.
pub record Life : Type 0 where
  pub before : List Event
  pub after : List Event

-- "opened by the same call under the same number": at the time t, as session s.
abbrev pub opened_as : ℕ → ℕ → Event
opened_as s t = record { call = opens t; answer = opened s; output = [] }

abbrev pub whole_of : ℕ → ℕ → Life → List Event
whole_of s t a = a.before ++ (opened_as s t ∷ a.after)

-- Two such runs. Before the open all messages are others'.
pub record Twins (s t : ℕ) (a b : Life) : Type 0 where
  pub earlier : Alike none a.before b.before
  pub later : Alike (some s) a.after b.after
  pub times : onward 0 (whole_of s t a) ≡ true
  pub times-too : onward 0 (whole_of s t b) ≡ true

-- One session cannot disturb another: in every two runs, one from what h holds and one from what h' holds, the session gets
-- the same.
abbrev pub Isolated : {H : Type 0} (step : H → Event → H → Type 0) → H → H → Type 0
Isolated step h h' =
    (s t : ℕ) (a b : Life) → Trace step h (whole_of s t a) → Trace step h' (whole_of s t b) → Twins s t a b
    → gets s a.after ≡ gets s b.after

-- Whether it has ended in what it got.
abbrev pub has_end : List Seen → Bool
has_end [] = false
has_end (x ∷ l) = x.ended || has_end l

-- The same of runs that go on after its end with any calls x and y: messages to its number are another session's then.
abbrev pub IsolatedAfter : {H : Type 0} (step : H → Event → H → Type 0) → H → H → Type 0
IsolatedAfter step h h' =
    (s t : ℕ) (a b : Life) (x y : List Event) → Trace step h (whole_of s t a ++ x) → Trace step h' (whole_of s t b ++ y)
    → Twins s t a b → has_end (gets s a.after) ≡ true → gets s (a.after ++ x) ≡ gets s (b.after ++ y)
