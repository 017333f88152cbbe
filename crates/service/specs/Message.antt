-- What a received message does to its session (01, "Judging a message", from the judgment of its octets on).
use Rattle.std.specs.Prelude.{ℕ, cond, not, List, [], ◌∷◌, ◌++◌, take, drop}
use Rattle.wire.specs.Field.{field}
use Rattle.wire.specs.Name.{within}
use Rattle.dso.specs.Judge.{judged}
use Rattle.dso.specs.Response.{response_octets, granted as granted_timeouts}
use Rattle.dso.specs.declared.response.Response.TheVariants.{Error, Keepalive as KeepaliveResponse, Subscribed}
use Rattle.dso.specs.declared.judgment.Place.{Place}
use Rattle.dso.specs.declared.judgment.QuestionPlaces.{QuestionPlaces}
use Rattle.dso.specs.declared.judgment.MessageId.{MessageId}
use Rattle.dso.specs.declared.judgment.RecordPlaces.{RecordPlaces}
use Rattle.dso.specs.declared.judgment.ReplyCode.TheVariants.{ServFail, NotAuth}
use Rattle.dso.specs.declared.judgment.Judgment.{Judgment}
use Rattle.dso.specs.declared.judgment.Judgment.TheVariants.{
  NotOurs,
  Abort,
  Reply,
  Keepalive,
  Subscribe,
  Unsubscribe,
  Reconfirm,
}
use Rattle.zone.specs.Lists.{keep}
use Rattle.zone.specs.Record.{Record}
use Rattle.zone.specs.Match.{Subscription, matches}
use Rattle.push.specs.List.{additions}
use Rattle.push.specs.Octets.{push_of}
use Rattle.session.specs.declared.clocks.Clocks.{Clocks}
use Rattle.session.specs.Clocks.{received, granted}
use Rattle.session.specs.Subscriptions.{uses_id, asks_already, is_full, without}
use Rattle.service.specs.State.{Session}

-- What becomes of a session: it is aborted, or it goes on with an answer. `nothing` is answer 1, `reply` answer 2 with the
-- bytes written for it, `others` answer 3, `places` answer 5.
pub data Effect : Type 0 where
  abort : Effect
  nothing : Session → Effect
  reply : Session → List ℕ → Effect
  others : Session → Effect
  places : Session → RecordPlaces → Effect

-- The octets at a place of a message.
abbrev pub part_at : List ℕ → Place → List ℕ
part_at m p = take p.len (drop p.start m)

-- The subscription that a SUBSCRIBE asks for.
unfoldable pub asked : List ℕ → MessageId → QuestionPlaces → Subscription
asked m id q =
    record {
      id = id.0;
      owner = part_at m q.name;
      rrtype = field 2 (part_at m q.rtype);
      rrclass = field 2 (part_at m q.class);
    }

abbrev pub with_clocks : Clocks → Session → Session
with_clocks c s = record { subscriptions = s.subscriptions; clocks = c }

abbrev pub with_subscriptions : List Subscription → Session → Session
with_subscriptions subs s = record { subscriptions = subs; clocks = s.clocks }

-- SUBSCRIBE, in 01's order: a used ID, NOTAUTH, the same question as a live one, SERVFAIL; else the 12-byte reply and one
-- PUSH with every matching record in store order.
unfoldable pub subscribed : List ℕ → List Record → Subscription → Session → Effect
subscribed zone store sub s =
    cond (uses_id sub.id s.subscriptions) abort
    (cond (not (within zone sub.owner)) (reply s (response_octets sub.id (Error NotAuth)))
    (cond (asks_already sub s.subscriptions) abort
    (cond (is_full s.subscriptions) (reply s (response_octets sub.id (Error ServFail)))
    (reply (with_subscriptions (s.subscriptions ++ (sub ∷ [])) s)
    (response_octets sub.id Subscribed ++ push_of (additions (keep (matches sub) store)))))))

-- Keepalive: a used ID, else the reply, whose timeouts then hold.
unfoldable pub kept_alive : MessageId → Session → Effect
kept_alive id s =
    cond (uses_id id.0 s.subscriptions) abort
    (reply (with_clocks (granted granted_timeouts.inactivity granted_timeouts.keepalive s.clocks) s)
    (response_octets id.0 (KeepaliveResponse granted_timeouts)))

-- By the judgment of the octets; the clocks are restarted already.
unfoldable pub answered : List ℕ → List Record → List ℕ → Judgment → Session → Effect
answered zone store m NotOurs s = others s
answered zone store m Abort s = abort
answered zone store m (Reply id code) s = reply s (response_octets id.0 (Error code))
answered zone store m (Keepalive id) s = kept_alive id s
answered zone store m (Subscribe id q) s = subscribed zone store (asked m id q) s
answered zone store m (Unsubscribe id) s = nothing (with_subscriptions (without id.0 s.subscriptions) s)
answered zone store m (Reconfirm r) s = places s r

-- A message at a time: it restarts the clocks as its judgment says, and then is answered. (An abort ends the session, so
-- that its clocks are restarted first is not seen.)
unfoldable pub message_effect : List ℕ → List Record → ℕ → List ℕ → Session → Effect
message_effect zone store t m s =
    answered zone store m (judged m).judgment (with_clocks (received (judged m).keepalive t s.clocks) s)
