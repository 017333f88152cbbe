-- `zone::editing::Draft::set_ttls` meets its contract. The loop's invariant: the records before `i` are done. Assumes nothing.
use Rattle.zone.specs.Table.{key_in}
use Rattle.zone.specs.Drafts.{Kept}
use Rattle.zone.proofs.Updates.{Timed}
use Rattle.zone.proofs.editing.Draft.set_ttls.Given as goal

abbrev pub invariant-loop-i : goal.invariant-loop-i
invariant-loop-i l =
    Kept l.initial.self l.self
    × Timed (key_in l.edit.key) l.edit.ttl l.self.count l.initial.self.area.now l.self.area.now l.i
