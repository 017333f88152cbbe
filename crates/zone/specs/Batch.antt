-- A batch: edits end to end in the layout of a record, read from left to right; the first fault decides.
use Rattle.std.specs.Prelude.{ℕ, zero, suc, Bool, true, false, cond, not, ◌&&◌, ◌||◌, None, Some, List, [], ◌∷◌, length, drop, leb, eqb}
use Rattle.wire.specs.Name.{within}
use Rattle.zone.specs.Record.{Record, key_of}
use Rattle.zone.specs.Store.{held, put, remove}
use Rattle.dso.specs.Judge.{any}
use Rattle.zone.specs.Layout.{size, read_record}
use Rattle.zone.specs.declared.BatchFault.{BatchFault}
use Rattle.zone.specs.declared.BatchFault.TheVariants.{TooManyEdits, Unreadable, BadValue, StoreFull}

-- The limits (01, "What the dock can hold"), each stated once.
abbrev pub max_records : ℕ
max_records = 40

abbrev pub max_edits : ℕ
max_edits = 32

abbrev pub max_rdata : ℕ
max_rdata = 128

-- TTL 0 to 0x7FFFFFFF puts; 0xFFFFFFFF deletes.
abbrev pub max_ttl : ℕ
max_ttl = 0x7fff_ffff

abbrev pub remove_ttl : ℕ
remove_ttl = 0xffff_ffff

abbrev pub is_put : Record → Bool
is_put r = leb r.ttl max_ttl

-- A type or class that a record may have.
abbrev pub is_plain : ℕ → Bool
is_plain x = not (eqb x 0) && not (eqb x any)

-- The values that an edit may have; else 15.
unfoldable pub allowed : List ℕ → Record → Bool
allowed zone r =
    (is_put r || eqb r.ttl remove_ttl) && is_plain r.rrtype && is_plain r.rrclass
    && leb (length r.rdata) max_rdata
    && within zone r.owner

-- 17: a put finds 40 other records.
unfoldable pub overfull : List Record → Record → Bool
overfull store r = is_put r && not (held (key_of r) store) && leb max_records (length store)

unfoldable pub edit : List Record → Record → List Record
edit store r = cond (is_put r) (put r store) (remove (key_of r) store)

pub data Edited : Type 0 where
  stored : List Record → Edited
  faulty : BatchFault → Edited

-- What a batch makes of a store, when n more edits may come. Of each edit in turn: 16, then 14, then 15, then 17, the last
-- asked of the store as the earlier edits left it.
unfoldable pub edited : ℕ → List ℕ → List ℕ → List Record → Edited
edited zero zone [] store = stored store
edited zero zone (b ∷ l) store = faulty TooManyEdits
edited (suc n) zone [] store = stored store
edited (suc n) zone (b ∷ l) store =
    elim (read_record (b ∷ l)) [
      | None ↦ faulty Unreadable
      | Some r ↦ elim (allowed zone r) [
        | false ↦ faulty BadValue
        | true ↦ elim (overfull store r) [
          | true ↦ faulty StoreFull
          | false ↦ edited n zone (drop (size r) (b ∷ l)) (edit store r)
        ]
      ]
    ]

unfoldable pub batch_of : List ℕ → List ℕ → List Record → Edited
batch_of zone bytes store = edited max_edits zone bytes store
