-- Subscriptions, what they match, and the view that they give of a store.
use Rattle.std.specs.Prelude.{ℕ, Bool, ◌&&◌, List}
use Rattle.wire.specs.Name.{lowered, same_octets}
use Rattle.dso.specs.Match.{asks_for}
use Rattle.zone.specs.Lists.{keep, any_of}
use Rattle.zone.specs.Record.{Record, Key, key_of}

pub record Subscription : Type 0 where
  pub id : ℕ
  pub owner : List ℕ
  pub rrtype : ℕ
  pub rrclass : ℕ

-- 01: "A subscription matches a record when names are equal, class is equal or asked as 255, and type is equal, asked as
-- 255, or the record is CNAME (5)." (RFC 8765, section 2.) An asterisk label is a plain label.
unfoldable pub matches_key : Subscription → Key → Bool
matches_key s k =
    same_octets (lowered s.owner) k.owner && asks_for s.rrtype s.rrclass k.rrtype k.rrclass

abbrev pub matches : Subscription → Record → Bool
matches s r = matches_key s (key_of r)

-- Whether one of a session's subscriptions matches.
abbrev pub wanted : List Subscription → Record → Bool
wanted subs r = any_of (λ (s : Subscription). matches s r) subs

-- A session's view of a store: the records that its subscriptions match, each once, in store order.
abbrev pub view : List Subscription → List Record → List Record
view subs store = keep (wanted subs) store
