-- What reading and checking one edit answers in code.
use Rattle.std.specs.Prelude.{ℕ, ◌≤◌, Bool, cond, ◌||◌, Option, None, Some, Result, Ok, Err, List, length, drop, leb, eqb}
use Rattle.wire.specs.Name.{max_name}
use Rattle.zone.specs.Record.{Record}
use Rattle.zone.specs.Layout.{read_record}
use Rattle.zone.specs.Batch.{max_rdata, max_ttl, remove_ttl, allowed}
use Rattle.zone.specs.Table.{record_from}
use Rattle.zone.specs.declared.BatchFault.{BatchFault}
use Rattle.zone.specs.declared.BatchFault.TheVariants.{Unreadable, BadValue}
use Rattle.zone.specs.declared.reading.Edit.{Edit}

-- The record that an edit puts or removes.
abbrev pub record_of : Edit → Record
record_of e = record_from e.key.name.now e.key.rrtype e.key.rrclass e.ttl e.key.rdata.now

-- Its name and its RDATA have room in a block.
abbrev pub FitsBlock : Edit → Type 0
FitsBlock e = (length e.key.name.now ≤ max_name) × (length e.key.rdata.now ≤ max_rdata)

-- A TTL that an edit may have.
abbrev pub ttl_may : ℕ → Bool
ttl_may t = leb t max_ttl || eqb t remove_ttl

-- What was read, where its values are allowed; or why not.
abbrev pub checked : List ℕ → Option Record → Result Record BatchFault
checked zone None = Err Unreadable
checked zone (Some r) = cond (allowed zone r) (Ok r) (Err BadValue)

abbrev pub checked_at : List ℕ → List ℕ → ℕ → Result Record BatchFault
checked_at zone bytes at = checked zone (read_record (drop at bytes))

-- A result, by what its value stands for.
abbrev pub ok_map : {T U E : Type 0} → (T → U) → Result T E → Result U E
ok_map f (Ok x) = Ok (f x)
ok_map f (Err e) = Err e
