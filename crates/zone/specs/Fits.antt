-- When a record's fields fit the layout of a record in octets, and the most octets that one takes.
use Rattle.std.specs.Prelude.{ℕ, ◌+◌, Bool, ◌&&◌, length, ltb}
use Rattle.std.proofs.Math.Pow.{are_bytes}
use Rattle.wire.specs.Name.{is_name, max_name}
use Rattle.zone.specs.Record.{Record}
use Rattle.zone.specs.Layout.{fixed_size}
use Rattle.zone.specs.Batch.{max_rdata}

-- The owner is a name, type and class have 16 bits, the TTL 32, the RDATA a length of 16 bits, and octets are octets. A
-- record that is read from octets is one of these, and each of these is read back from its octets.
unfoldable pub fits : Record → Bool
fits r =
    is_name r.owner && are_bytes r.owner && ltb r.rrtype 65536 && ltb r.rrclass 65536
    && ltb r.ttl 0x1_0000_0000
    && ltb (length r.rdata) 65536
    && are_bytes r.rdata

-- 393: the most octets of a record that a store may hold, and of a change notification (01, "What the dock can hold").
abbrev pub max_size : ℕ
max_size = max_name + fixed_size + max_rdata
