-- What a batch answers in code.
use Rattle.std.specs.Prelude.{ℕ, Result, Ok, Err, List}
use Rattle.zone.specs.Batch.{Edited, stored, faulty}
use Rattle.zone.specs.Table.{records_of}
use Rattle.zone.specs.declared.BatchFault.{BatchFault}

-- The outcome of a batch, with the area that holds the new store.
abbrev pub edited_of : Result ℕ BatchFault → List ℕ → Edited
edited_of (Ok n) area = stored (records_of n area)
edited_of (Err f) area = faulty f
