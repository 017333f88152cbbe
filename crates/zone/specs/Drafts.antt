-- The store that a batch makes, in code.
use Rattle.std.specs.Prelude.{◌≡◌, Result, List}
use Rattle.zone.specs.Record.{Record}
use Rattle.zone.specs.Table.{records_of}
use Rattle.zone.specs.Edit.{ok_map}
use Rattle.zone.specs.declared.BatchFault.{BatchFault}
use Rattle.zone.specs.declared.editing.Draft.{Draft}

-- The records that stand in it.
abbrev pub drafted : Draft → List Record
drafted d = records_of d.count d.area.now

-- A draft's memory is still what was lent; and as many records stand in it.
abbrev pub SameMemory : Draft → Draft → Type 0
SameMemory before after = after.area.ghost_name ≡ before.area.ghost_name

abbrev pub Kept : Draft → Draft → Type 0
Kept before after = SameMemory before after × (after.count ≡ before.count)

-- The store after an edit, or why there is none.
abbrev pub stored_as : Result Unit BatchFault → Draft → Result (List Record) BatchFault
stored_as r after = ok_map (λ _. drafted after) r
