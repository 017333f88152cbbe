-- `zone::editing::Draft::apply_all` meets its contract. The loop's invariant: what is left of the batch gives the outcome.
-- Assumes nothing.
use Rattle.zone.specs.Drafts.{SameMemory, drafted}
use Rattle.zone.proofs.Steps.{Midway}
use Rattle.zone.proofs.editing.Draft.apply_all.Given as goal

abbrev pub invariant-loop-turn : goal.invariant-loop-turn
invariant-loop-turn l =
    SameMemory l.initial.self l.self
    × Midway l.zone l.bytes (drafted l.initial.self) l._turn l.at l.self.count l.self.area.now
