-- A session's subscriptions in lent memory: how many there are, and blocks of one size, one for each.
use Rattle.std.specs.Prelude.{ℕ, ◌*◌, min, Bool, ◌≡◌, cond, ◌||◌, List, [], ◌∷◌, ◌++◌, map, length, drop, ltb}
use Rattle.wire.specs.Field.{field, octets}
use Rattle.wire.specs.Name.{max_name}
use Rattle.table.specs.Blocks.{blocks, text_at}
use Rattle.zone.specs.Record.{Record}
use Rattle.zone.specs.Match.{Subscription}
use Rattle.session.specs.Subscriptions.{max_subscriptions, is_full}
use Rattle.session.specs.declared.subscriptions.Subscriptions.{Subscriptions}
use Rattle.session.specs.declared.subscriptions.Block.{Block}
use Rattle.dso.specs.declared.matching.Question.{Question}

-- A block: the message ID, the type and the class, two octets each; the length of the name; the name.
abbrev pub block_size : ℕ
block_size = 262

abbrev pub area_size : ℕ
area_size = max_subscriptions * block_size

unfoldable pub sub_of : List ℕ → Subscription
sub_of b =
    record {
      id = field 2 b;
      owner = text_at b 6 7;
      rrtype = field 2 (drop 2 b);
      rrclass = field 2 (drop 4 b);
    }

unfoldable pub sub_octets : Subscription → List ℕ
sub_octets s =
    octets 2 s.id ++ (octets 2 s.rrtype ++ (octets 2 s.rrclass ++ (length s.owner ∷ s.owner)))

-- What a count and memory hold, whatever they are: a count over the limit counts as the limit.
unfoldable pub subscriptions_of : ℕ → List ℕ → List Subscription
subscriptions_of count area = map sub_of (blocks block_size (min count max_subscriptions) area)

-- The subscriptions that the code passes on.
abbrev pub subscriptions_in : Subscriptions → List Subscription
subscriptions_in s = subscriptions_of s.count s.area.now

-- What a closure answers, by what it is known to answer for a block, is a test of the subscription that stands there.
abbrev pub Tests : (Block → Bool → Type 0) → (Subscription → Bool) → Type 0
Tests answers p = (b : Block) (r : Bool) → answers b r → r ≡ p (sub_of b.octets.now)

-- One more at the end; nothing changes where there are as many as there may be, or where the name is too long to be one.
unfoldable pub appended : Subscription → List Subscription → List Subscription
appended s subs = cond (is_full subs || ltb max_name (length s.owner)) subs (subs ++ (s ∷ []))

-- A subscription, and a record of which only what matching looks at is given.
abbrev pub subscription : ℕ → List ℕ → ℕ → ℕ → Subscription
subscription id owner rrtype rrclass = record { id = id; owner = owner; rrtype = rrtype; rrclass = rrclass }

abbrev pub record_asked : List ℕ → ℕ → ℕ → Record
record_asked owner rrtype rrclass = record { owner = owner; rrtype = rrtype; rrclass = rrclass; ttl = 0; rdata = [] }

abbrev pub subscription_for : ℕ → Question → Subscription
subscription_for id q = subscription id q.name.now q.rrtype q.rrclass

abbrev pub record_for : Question → Record
record_for q = record_asked q.name.now q.rrtype q.rrclass
