-- `zone::editing::Draft::remove` meets its contract. The loop's invariant: the records from `i` on are looked at. Assumes nothing.
use Rattle.zone.specs.Table.{key_in}
use Rattle.zone.specs.Drafts.{SameMemory}
use Rattle.zone.proofs.Updates.{Dropped}
use Rattle.zone.proofs.editing.Draft.remove.Given as goal

abbrev pub invariant-loop-i : goal.invariant-loop-i
invariant-loop-i l =
    SameMemory l.initial.self l.self
    × Dropped (key_in l.key) l.initial.self.count l.initial.self.area.now l.self.area.now l.self.count l.i
