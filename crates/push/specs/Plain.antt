-- Changes that octets can say, and the most octets of a PUSH.
use Rattle.std.specs.Prelude.{ℕ, ◌+◌, ◌*◌, Bool, true, not, ◌&&◌, leb, eqb}
use Rattle.dso.specs.Judge.{any}
use Rattle.zone.specs.Batch.{max_ttl, max_records}
use Rattle.zone.specs.Fits.{fits, max_size}
use Rattle.push.specs.Change.{single, rrset, all_types, all_classes, Change, addition, removal, fields_of}

abbrev pub not_any : ℕ → Bool
not_any x = not (eqb x any)

-- The values that tell one kind of change from another (RFC 8765, 6.3.1): an addition's TTL is at most 0x7FFFFFFF; 255 is no
-- type or class where one is named.
unfoldable pub plain_values : Change → Bool
plain_values (addition r) = leb r.ttl max_ttl && not_any r.rrtype && not_any r.rrclass
plain_values (removal (single owner rrtype rrclass rdata)) = not_any rrtype && not_any rrclass
plain_values (removal (rrset owner rrtype rrclass)) = not_any rrtype && not_any rrclass
plain_values (removal (all_types owner rrclass)) = not_any rrclass
plain_values (removal (all_classes owner)) = true

-- A change that is read back as it was meant: its fields fit, and its values are of its kind.
unfoldable pub plain_change : Change → Bool
plain_change c = fits (fields_of c) && plain_values c

-- The most octets of a PUSH message, without its length prefix (01, "What the dock can hold": 15,736).
abbrev pub max_push : ℕ
max_push = 12 + 4 + max_records * max_size
