-- What the bench examples are made of: names, records, messages, calls, and runs of a server for shop.example.
use Prim.Native.Nat.{ℕ, ◌%◌, ◌-◌}
use mathlib.Core.Bool.{Bool, true, false, ◌&&◌}
use mathlib.Core.List.{List, [], ◌∷◌, ◌++◌, map}
use mathlib.Core.Option.{Option}
use mathlib.Core.Path.{◌≡◌, refl, ap₂}
use native.Mathlib.Nat.{mod-lt}
use native.Mathlib.Omega.{arith}
use lib.ListN.{drop, replicate}
use lib.Pow.{are_bytes}
use borrow.Author.Tests.{lt-ltb}
use Rattle.wire.specs.Field.{octets}
use Rattle.dso.specs.Header.{flags}
use Rattle.dso.specs.Judge.{keepalive_type, subscribe_type, unsubscribe_type}
use Rattle.dso.specs.Response.{header, tlvs_octets}
use Rattle.zone.specs.Record.{Record}
use Rattle.zone.specs.Match.{Subscription}
use Rattle.zone.specs.Store.{with_ttl}
use Rattle.zone.specs.Batch.{remove_ttl}
use Rattle.zone.specs.Layout.{record_octets}
use Rattle.push.specs.Change.{Change}
use Rattle.push.specs.Octets.{unidirectional_flags}
use Rattle.service.specs.State.{State, Slot, free, live, fresh}
use Rattle.service.specs.Answer.{Answer, ended}
use Rattle.service.specs.Checks.{least_output}
use Rattle.service.specs.Call.{Bytes, Call, opens, receives, edits, ticks, Outcome, outcome}
use Rattle.service.specs.Reader.{bytes_for, pushes_in}

-- ---- names, types and records

-- shop.example
abbrev pub zone : List ℕ
zone = octets 14 0x0473686f70076578616d706c6500

-- A label of n octets "a" in front of a name.
abbrev pub under : ℕ → List ℕ → List ℕ
under n name = n ∷ replicate n 0x61 ++ name

-- a.shop.example, and the same name as A.SHOP.example.
abbrev pub host : List ℕ
host = under 1 zone

abbrev pub host_in_capitals : List ℕ
host_in_capitals = octets 16 0x01410453484f50076578616d706c6500

abbrev pub type_a : ℕ
type_a = 1

abbrev pub type_txt : ℕ
type_txt = 16

abbrev pub type_aaaa : ℕ
type_aaaa = 28

abbrev pub type_srv : ℕ
type_srv = 33

abbrev pub type_any : ℕ
type_any = 255

abbrev pub class_in : ℕ
class_in = 1

-- A record of a.shop.example, with TTL 120.
abbrev pub rr : ℕ → List ℕ → Record
rr rrtype rdata = record { owner = host; rrtype = rrtype; rrclass = class_in; ttl = 120; rdata = rdata }

abbrev pub address : Record
address = rr type_a (octets 4 0xc0000201)

abbrev pub service : Record
service = rr type_srv (octets 6 0 ++ host)

abbrev pub text : Record
text = rr type_txt (0 ∷ [])

abbrev pub address6 : ℕ → Record
address6 n = rr type_aaaa (octets 16 n)

-- ---- octets of calls

-- Octets as a call takes them: of a number over 255 its low eight bits.
pub low_small : (l : List ℕ) → are_bytes (map (λ (b : ℕ). b % 256) l) ≡ true
low_small [] = refl
low_small (b ∷ l) =
    ap₂ (λ (x y : Bool). x && y) (lt-ltb (b % 256) 256 (mod-lt b {m = 256} (omega arith))) (low_small l)

unfoldable pub bytes : List ℕ → Bytes
bytes l = record { list = map (λ (b : ℕ). b % 256) l; small = low_small l }

-- A message: an ID, and one TLV.
abbrev pub message_of : ℕ → ℕ → List ℕ → List ℕ
message_of id kind value = header id unidirectional_flags ++ tlvs_octets (record { kind = kind; value = value } ∷ [])

-- A SUBSCRIBE message: an ID, a name, a type.
abbrev pub subscribe : ℕ → List ℕ → ℕ → List ℕ
subscribe id name rrtype = message_of id subscribe_type (name ++ (octets 2 rrtype ++ octets 2 class_in))

-- A Keepalive: an ID; the values asked for are 0. An UNSUBSCRIBE: the ID of a subscription.
abbrev pub keepalive : ℕ → List ℕ
keepalive id = message_of id keepalive_type (octets 8 0)

abbrev pub unsubscribe : ℕ → List ℕ
unsubscribe id = message_of 0 unsubscribe_type (octets 2 id)

-- Edits: each record is put; each is deleted.
unfoldable pub puts : List Record → List ℕ
puts [] = []
puts (r ∷ l) = record_octets r ++ puts l

abbrev pub deletes : List Record → List ℕ
deletes l = puts (map (with_ttl remove_ttl) l)

-- ---- calls and runs

-- The output slice as it is lent, from its n-th byte on: not 0, so that a 0 written beyond a count is seen.
abbrev pub lent_from : ℕ → List ℕ
lent_from n = replicate (least_output - n) 0xee

abbrev pub lent : List ℕ
lent = lent_from 0

-- Session 0's message at a time; one, and a batch, at 1,000.
abbrev pub message_at : ℕ → List ℕ → Call
message_at t m = receives t 0 (bytes m) lent

abbrev pub message : List ℕ → Call
message m = message_at 1000 m

abbrev pub batch : List ℕ → Call
batch l = edits 1000 (bytes l) lent

-- The outcomes of calls one behind the other.
unfoldable pub outcomes : State → List Call → List Outcome
outcomes st [] = []
outcomes st (c ∷ cs) = let x = outcome st c in x ∷ outcomes x.next cs

unfoldable pub after : State → List Call → State
after st [] = st
after st (c ∷ cs) = after (outcome st c).next cs

abbrev pub answers : List Outcome → List Answer
answers l = map (λ (x : Outcome). x.answer) l

-- The answer to each of several ticks, each the next call; that session 0, the only one, stays, and that it is ended.
abbrev pub ticked : State → List ℕ → List Answer
ticked st times = map (λ (t : ℕ). (outcome st (ticks t)).answer) times

abbrev pub stays : Answer
stays = ended (replicate 4 false)

abbrev pub ends : Answer
ends = ended (true ∷ replicate 3 false)

-- A server that was started with the zone, and opened session 0 at 1,000.
abbrev pub server : State
server = fresh zone

abbrev pub ready : State
ready = after server (opens 1000 ∷ [])

-- One that holds records, of which session 0 asked for some.
abbrev pub watched : List Record → List (List ℕ) → State
watched held messages = after ready (batch (puts held) ∷ map message messages)

-- ---- what a session is sent

abbrev pub bytes_in : Outcome → ℕ → List ℕ
bytes_in x s = bytes_for x.answer x.output s

-- Session 0.
abbrev pub sent0 : Outcome → List ℕ
sent0 x = bytes_in x 0

-- The flags of the first message.
abbrev pub reply_flags : Outcome → ℕ
reply_flags x = flags (drop 2 (sent0 x))

-- The changes of each PUSH, where there are PUSH messages alone.
abbrev pub pushed : Outcome → Option (List (List Change))
pushed x = pushes_in (sent0 x)

abbrev pub subscriptions_of : Slot → List Subscription
subscriptions_of free = []
subscriptions_of (live x) = x.subscriptions
