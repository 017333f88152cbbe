-- SUBSCRIBE in two steps: whether it is admitted, before anything is changed, and what an accepted one leads to.
use Rattle.std.specs.Prelude.{ℕ, Bool, cond, not, List, ◌++◌, Result, Ok, Err}
use Rattle.wire.specs.Name.{within}
use Rattle.dso.specs.Response.{response_octets}
use Rattle.dso.specs.declared.judgment.ReplyCode.TheVariants.{ServFail, NotAuth}
use Rattle.dso.specs.declared.response.Response.TheVariants.{Error, Subscribed}
use Rattle.zone.specs.Lists.{keep}
use Rattle.zone.specs.Record.{Record}
use Rattle.zone.specs.Match.{Subscription, matches}
use Rattle.push.specs.List.{additions}
use Rattle.push.specs.Octets.{push_of}
use Rattle.session.specs.Subscriptions.{uses_id, asks_already, is_full}
use Rattle.session.specs.Table.{subscription_for, appended}
use Rattle.service.specs.State.{Session}
use Rattle.service.specs.Message.{Effect, abort, reply, with_subscriptions}
use Rattle.receive.specs.declared.subscribing.Request.{Request}
use Rattle.receive.specs.declared.subscribing.Denial.{Denial}
use Rattle.receive.specs.declared.subscribing.Denial.TheVariants.{Abort, Refuse}

-- The subscription that a SUBSCRIBE asks for.
abbrev pub subscription_of : Request → Subscription
subscription_of r = subscription_for r.id.0 r.question

-- By four tests, in 01's order: an ID in use; a name at or below the zone; "Same name, type and class as a live one: abort.
-- 16 live already: SERVFAIL".
abbrev pub admits : Bool → Bool → Bool → Bool → Result Unit Denial
admits used inside same full =
    cond used (Err Abort)
    (cond (not inside) (Err (Refuse NotAuth)) (cond same (Err Abort) (cond full (Err (Refuse ServFail)) (Ok tt))))

unfoldable pub admission : List ℕ → Subscription → List Subscription → Result Unit Denial
admission zone sub subs =
    admits (uses_id sub.id subs) (within zone sub.owner) (asks_already sub subs) (is_full subs)

-- The reply to an accepted one, and one PUSH with every matching record in store order.
unfoldable pub accepted : List Record → Subscription → List ℕ
accepted store sub = response_octets sub.id Subscribed ++ push_of (additions (keep (matches sub) store))

unfoldable pub accepting : List Record → Subscription → Session → Effect
accepting store sub s = reply (with_subscriptions (appended sub s.subscriptions) s) (accepted store sub)

abbrev pub admitting : Result Unit Denial → List Record → Subscription → Session → Effect
admitting (Err Abort) store sub s = abort
admitting (Err (Refuse code)) store sub s = reply s (response_octets sub.id (Error code))
admitting (Ok x) store sub s = accepting store sub s
