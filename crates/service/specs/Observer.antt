-- The observer (01: the plain book), kept from the calls' arguments, answers and bytes stated as written, and never from the
-- server's state.
use Rattle.std.specs.Prelude.{ℕ, suc, ◌+◌, Bool, cond, ◌&&◌, ◌||◌, List, [], ◌∷◌, ◌++◌, set, get_or, take, drop, replicate, eqb}
use Rattle.std.specs.Prelude as std
use Rattle.std.specs.Prelude.{None, Some}
use Rattle.std.proofs.Math.Option.{Option, none, some, map}
use Rattle.wire.specs.Field.{field}
use Rattle.wire.specs.Name.{name_length}
use Rattle.dso.specs.Header.{message_id}
use Rattle.dso.specs.Parts.{first_type}
use Rattle.dso.specs.Judge.{subscribe_type, data_start}
use Rattle.zone.specs.Lists.{keep}
use Rattle.zone.specs.Record.{Record}
use Rattle.zone.specs.Match.{Subscription, wanted}
use Rattle.zone.specs.Batch.{Edited, stored, faulty, batch_of}
use Rattle.push.specs.Change.{Change, applied_all}
use Rattle.push.specs.Frames.{push_in}
use Rattle.session.specs.Subscriptions.{without}
use Rattle.service.specs.Answer.{
  Answer,
  done,
  opened,
  ended,
  sent,
  not_ours,
  aborted,
  reconfirm,
  refused,
  answer_number,
}
use Rattle.service.specs.Call.{Call, opens, closes, receives, edits, ticks}
use Rattle.service.specs.State.{max_sessions}
use Rattle.service.specs.Reader.{bytes_for, messages_in, is_success}

-- A living session: its live subscriptions, and its client's records.
pub record Client : Type 0 where
  pub subscriptions : List Subscription
  pub records : List Record

-- The zone's name is start's argument. "a store, empty at first, and for each living session its live subscriptions and its
-- client's records".
pub record Observer : Type 0 where
  pub zone : List ℕ
  pub store : List Record
  pub clients : List (Option Client)

unfoldable pub watching : List ℕ → Observer
watching zone = record { zone = zone; store = []; clients = replicate max_sessions none }

abbrev pub with_clients : List (Option Client) → Observer → Observer
with_clients cl o = record { zone = o.zone; store = o.store; clients = cl }

-- The client of session s, if it lives, is changed.
abbrev pub change_at : ℕ → (Client → Client) → List (Option Client) → List (Option Client)
change_at s f cl = set cl s (map f (get_or cl s none))

-- "Open answered 1: its session lives, with neither."
abbrev pub newborn : Client
newborn = record { subscriptions = []; records = [] }

abbrev pub after_open : Answer → List (Option Client) → List (Option Client)
after_open (opened s) cl = set cl s (some newborn)
after_open done cl = cl
after_open (ended flags) cl = cl
after_open (sent counts) cl = cl
after_open not_ours cl = cl
after_open aborted cl = cl
after_open (reconfirm places) cl = cl
after_open (refused r) cl = cl

-- "a tick's yes: that session is gone."
abbrev pub gone_where : List Bool → List (Option Client) → List (Option Client)
gone_where [] cl = cl
gone_where (y ∷ ys) [] = []
gone_where (y ∷ ys) (c ∷ cl) = cond y none c ∷ gone_where ys cl

abbrev pub after_tick : Answer → List (Option Client) → List (Option Client)
after_tick (ended flags) cl = gone_where flags cl
after_tick (opened s) cl = cl
after_tick done cl = cl
after_tick (sent counts) cl = cl
after_tick not_ours cl = cl
after_tick aborted cl = cl
after_tick (reconfirm places) cl = cl
after_tick (refused r) cl = cl

-- The subscription that a message of first type 0x0040 asks for: "its ID, name, type and class".
abbrev pub named : List ℕ → std.Option ℕ → Subscription
named m None = record { id = message_id m; owner = []; rrtype = 0; rrclass = 0 }
named m (Some n) =
    record {
      id = message_id m;
      owner = take n (drop data_start m);
      rrtype = field 2 (drop (data_start + n) m);
      rrclass = field 2 (drop (data_start + n + 2) m);
    }

unfoldable pub subscription_in : List ℕ → Subscription
subscription_in m = named m (name_length (drop data_start m))

abbrev pub subscribing : Subscription → Client → Client
subscribing sub c = record { subscriptions = c.subscriptions ++ (sub ∷ []); records = c.records }

-- "Message answered 1 (UNSUBSCRIBE): the subscription of the ID in its data, if any, ends; the client keeps only what the
-- others match."
abbrev pub unsubscribing : ℕ → Client → Client
unsubscribing id c =
    record {
      subscriptions = without id c.subscriptions;
      records = keep (wanted (without id c.subscriptions)) c.records;
    }

-- "Message of first type 0x0040, reply RCODE 0".
unfoldable pub is_accepted : List ℕ → List ℕ → Bool
is_accepted m bytes = eqb (first_type m) subscribe_type && is_success (messages_in bytes)

-- A message of session s with the answer's number n and the bytes that the session was sent.
unfoldable pub after_message : ℕ → List ℕ → ℕ → List ℕ → List (Option Client) → List (Option Client)
after_message s m n bytes cl =
    cond (eqb n 4) (set cl s none)
    (cond (eqb n 1) (change_at s (unsubscribing (field 2 (drop data_start m))) cl)
    (cond (is_accepted m bytes) (change_at s (subscribing (subscription_in m)) cl) cl))

-- "Batch answered 1 or 2: its edits change the store as above."
abbrev pub stored_or : List Record → Edited → List Record
stored_or old (stored new) = new
stored_or old (faulty f) = old

abbrev pub after_batch : Answer → List ℕ → Observer → Observer
after_batch a bytes o =
    record {
      zone = o.zone;
      store = cond (eqb (answer_number a) 1 || eqb (answer_number a) 2) (stored_or o.store (batch_of o.zone bytes o.store)) o.store;
      clients = o.clients;
    }

-- What a call, its answer and the output slice as it left it say; all else, refusals too: nothing.
unfoldable pub noted : Call → Answer → List ℕ → Observer → Observer
noted (opens t) a output o = with_clients (after_open a o.clients) o
noted (closes t s) a output o = with_clients (cond (eqb (answer_number a) 1) (set o.clients s none) o.clients) o
noted (receives t s m lent) a output o =
    with_clients (after_message s m.list (answer_number a) (bytes_for a output s) o.clients) o
noted (edits t b lent) a output o = after_batch a b.list o
noted (ticks t) a output o = with_clients (after_tick a o.clients) o

-- "Then each client applies the notices of a PUSH (type 0x0041) written for it, in order."
abbrev pub apply_push : Option (List Change) → List Record → List Record
apply_push none records = records
apply_push (some cs) records = applied_all cs records

abbrev pub apply_pushes : List (List ℕ) → List Record → List Record
apply_pushes [] records = records
apply_pushes (m ∷ ms) records = apply_pushes ms (apply_push (push_in m) records)

abbrev pub hearing : List ℕ → Client → Client
hearing bytes c = record { subscriptions = c.subscriptions; records = apply_pushes (messages_in bytes) c.records }

-- For each client from session s on.
abbrev pub heard : ℕ → Answer → List ℕ → List (Option Client) → List (Option Client)
heard s a output [] = []
heard s a output (c ∷ cl) = map (hearing (bytes_for a output s)) c ∷ heard (suc s) a output cl

unfoldable pub observe : Call → Answer → List ℕ → Observer → Observer
observe c a output o = with_clients (heard 0 a output (noted c a output o).clients) (noted c a output o)
