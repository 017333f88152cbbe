-- The server's state (01: the dock) is numbers, by value, and octets in memory that the caller lends with each call. What
-- any numbers and any octets hold: a count over its limit counts as the limit, and a part is no longer than its place.
use Rattle.std.specs.Prelude.{ℕ, zero, suc, cond, List, [], ◌∷◌, take, get_or}
use Rattle.zone.specs.Record.{Record}
use Rattle.zone.specs.Table.{records_of}
use Rattle.session.specs.Table.{subscriptions_of}
use Rattle.service.specs.State.{State, Slot, free, live}
use Rattle.service.specs.State as Service
use Rattle.server.specs.declared.state.Session.{Session}
use Rattle.server.specs.declared.state.Server.{Server}
use Rattle.server.specs.Numbers.{session_at}

-- The lent octets: the zone's name; two areas for the records, of which one holds the store; each session's subscriptions.
pub record Memory : Type 0 where
  pub zone : List ℕ
  pub first : List ℕ
  pub second : List ℕ
  pub s0 : List ℕ
  pub s1 : List ℕ
  pub s2 : List ℕ
  pub s3 : List ℕ

-- With other octets for the zone's name.
abbrev pub with_zone : List ℕ → Memory → Memory
with_zone z m =
    record { zone = z; first = m.first; second = m.second; s0 = m.s0; s1 = m.s1; s2 = m.s2; s3 = m.s3 }

-- The area of a session's subscriptions; past the last session nothing.
abbrev pub area_at : ℕ → Memory → List ℕ
area_at i m = get_or (m.s0 ∷ m.s1 ∷ m.s2 ∷ m.s3 ∷ []) i []

-- Another area for a session; past the last one nothing changes.
abbrev pub with_areas : List ℕ → List ℕ → List ℕ → List ℕ → Memory → Memory
with_areas a b c d m = record { zone = m.zone; first = m.first; second = m.second; s0 = a; s1 = b; s2 = c; s3 = d }

-- What is lent, as it is before a call (`x.old`, and `x.now` of a `&`) or behind it (`x.new`).
abbrev pub memory_of : List ℕ → List ℕ → List ℕ → List ℕ → List ℕ → List ℕ → List ℕ → Memory
memory_of zone first second a b c d =
    record { zone = zone; first = first; second = second; s0 = a; s1 = b; s2 = c; s3 = d }

unfoldable pub put_area : ℕ → List ℕ → Memory → Memory
put_area zero a m = with_areas a m.s1 m.s2 m.s3 m
put_area (suc zero) a m = with_areas m.s0 a m.s2 m.s3 m
put_area (suc (suc zero)) a m = with_areas m.s0 m.s1 a m.s3 m
put_area (suc (suc (suc zero))) a m = with_areas m.s0 m.s1 m.s2 a m
put_area (suc (suc (suc (suc i)))) a m = m

-- What a session's numbers and area hold. Those of a session that is not live are not looked at.
abbrev pub session_of : Session → List ℕ → Service.Session
session_of s area = record { subscriptions = subscriptions_of s.count area; clocks = s.clocks }

unfoldable pub slot_of : Session → List ℕ → Slot
slot_of s area = cond s.live (live (session_of s area)) free

-- The area that holds the store.
abbrev pub holding : Server → Memory → List ℕ
holding s m = cond s.second m.second m.first

abbrev pub store_of : Server → Memory → List Record
store_of s m = records_of s.records (holding s m)

abbrev pub slots_of : Server → Memory → List Slot
slots_of s m =
    slot_of (session_at 0 s) m.s0 ∷ slot_of (session_at 1 s) m.s1 ∷ slot_of (session_at 2 s) m.s2 ∷ slot_of (session_at 3 s) m.s3 ∷ []

unfoldable pub state_of : Server → Memory → State
state_of s m = record { zone = take s.zone m.zone; latest = s.latest; store = store_of s m; slots = slots_of s m }
