-- A record in octets (RFC 8765, 6.3.1, figure 3, without compression): name, type, class, TTL of 32 bits, RDLEN, RDATA.
-- Edits of a batch and change notifications have this layout alike.
use Rattle.std.specs.Prelude.{ℕ, ◌+◌, cond, Option, None, Some, List, ◌++◌, length, take, drop, leb}
use Rattle.wire.specs.Field.{field, octets}
use Rattle.wire.specs.Name.{name_length}
use Rattle.zone.specs.Record.{Record}

-- The octets of type, class, TTL and RDLEN.
abbrev pub fixed_size : ℕ
fixed_size = 10

-- 01: "A notice's bytes are its name's + 10 + its RDATA's."
unfoldable pub size : Record → ℕ
size r = length r.owner + fixed_size + length r.rdata

unfoldable pub record_octets : Record → List ℕ
record_octets r =
    r.owner
    ++ (octets 2 r.rrtype
    ++ (octets 2 r.rrclass ++ (octets 4 r.ttl ++ (octets 2 (length r.rdata) ++ r.rdata))))

-- What follows the name `owner`; none where the octets run out.
unfoldable pub read_after : List ℕ → List ℕ → Option Record
read_after owner l =
    cond (leb (fixed_size + field 2 (drop 8 l)) (length l))
    (Some
    (record {
      owner = owner;
      rrtype = field 2 l;
      rrclass = field 2 (drop 2 l);
      ttl = field 4 (drop 4 l);
      rdata = take (field 2 (drop 8 l)) (drop fixed_size l);
    }))
    None

-- The record at the front of a list of octets, if one stands there; `size` says how many octets it takes.
unfoldable pub read_record : List ℕ → Option Record
read_record l = elim (name_length l) [ None ↦ None | Some n ↦ read_after (take n l) (drop n l) ]
