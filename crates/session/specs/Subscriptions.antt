-- A session's live subscriptions, in the order in which they came.
use Rattle.std.specs.Prelude.{ℕ, Bool, not, ◌&&◌, List, length, leb, eqb}
use Rattle.wire.specs.Name.{same_name}
use Rattle.zone.specs.Lists.{keep, any_of}
use Rattle.zone.specs.Match.{Subscription}

-- 01: "Subscriptions: 16 a session, none shared."
abbrev pub max_subscriptions : ℕ
max_subscriptions = 16

-- Whether a subscription holds a message ID.
abbrev pub holds_id : ℕ → Subscription → Bool
holds_id id s = eqb s.id id

-- Whether a message ID is held by one of the subscriptions.
unfoldable pub uses_id : ℕ → List Subscription → Bool
uses_id id subs = any_of (holds_id id) subs

abbrev pub same_question : Subscription → Subscription → Bool
same_question a b = same_name a.owner b.owner && eqb a.rrtype b.rrtype && eqb a.rrclass b.rrclass

-- Whether one of them has the same name, type and class.
unfoldable pub asks_already : Subscription → List Subscription → Bool
asks_already s subs = any_of (same_question s) subs

unfoldable pub is_full : List Subscription → Bool
is_full subs = leb max_subscriptions (length subs)

-- Without the one of an ID, if there is one.
unfoldable pub without : ℕ → List Subscription → List Subscription
without id subs = keep (λ (s : Subscription). not (holds_id id s)) subs
