-- The store in lent memory: a count of records, and blocks of which each holds a record. Any numbers and any octets are
-- a store: a count over 40 counts as 40, and a part is no longer than its place in the block.
use Rattle.std.specs.Prelude.{ℕ, min, ◌+◌, ◌*◌, cond, Option, None, Some, List, [], ◌∷◌, map, drop}
use Rattle.wire.specs.Field.{field}
use Rattle.wire.specs.Part.{part}
use Rattle.wire.specs.Name.{max_name, lowered, after}
use Rattle.table.specs.Blocks.{blocks, text_at}
use Rattle.zone.specs.Record.{Record, Key, key_of, same_key}
use Rattle.zone.specs.Batch.{max_records, max_rdata}
use Rattle.zone.specs.declared.records.Store.{Store}
use Rattle.zone.specs.declared.records.RecordKey.{RecordKey}

-- A block: the length of the owner and of the RDATA, an octet each; type, class and TTL; room for the longest name and
-- the longest RDATA.
abbrev pub owner_at : ℕ
owner_at = 10

abbrev pub rdata_at : ℕ
rdata_at = owner_at + max_name

abbrev pub block_size : ℕ
block_size = rdata_at + max_rdata

abbrev pub area_size : ℕ
area_size = max_records * block_size

unfoldable pub rec_of : List ℕ → Record
rec_of b =
    record {
      owner = text_at b 0 owner_at;
      rrtype = field 2 (drop 2 b);
      rrclass = field 2 (drop 4 b);
      ttl = field 4 (drop 6 b);
      rdata = text_at b 1 rdata_at;
    }

-- One block; past the end of the area nothing.
abbrev pub block_at : List ℕ → ℕ → List ℕ
block_at area i = part area (i * block_size) block_size

-- The store.
unfoldable pub records_of : ℕ → List ℕ → List Record
records_of count area = map rec_of (blocks block_size (min count max_records) area)

-- The store that the code passes on.
abbrev pub records_in : Store → List Record
records_in s = records_of s.count s.area.now

-- A record and a key by their parts.
abbrev pub record_from : List ℕ → ℕ → ℕ → ℕ → List ℕ → Record
record_from name t c ttl rdata = record { owner = name; rrtype = t; rrclass = c; ttl = ttl; rdata = rdata }

abbrev pub key_from : List ℕ → ℕ → ℕ → List ℕ → Key
key_from name t c rdata = record { owner = lowered name; rrtype = t; rrclass = c; rdata = rdata }

abbrev pub key_in : RecordKey → Key
key_in k = key_from k.name.now k.rrtype k.rrclass k.rdata.now

-- Where the first record with a key stands.
unfoldable pub index_of : Key → List Record → Option ℕ
index_of k [] = None
index_of k (r ∷ l) = cond (same_key (key_of r) k) (Some 0) (after 1 (index_of k l))
