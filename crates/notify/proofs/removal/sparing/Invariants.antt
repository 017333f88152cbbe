-- `notify::removal::sparing` meets its contract. The loop's invariant: no kind from `kind` on spares b's record. Assumes nothing.
use mathlib.Core.Path.{◌≡◌}
use Rattle.zone.specs.Table.{rec_of}
use Rattle.notify.specs.Marks.{narrowed}
use Rattle.notify.proofs.Removals.{width}
use Rattle.notify.proofs.removal.sparing.Given as goal

abbrev pub invariant-loop-kind : goal.invariant-loop-kind
invariant-loop-kind l = narrowed l.fn.most (rec_of l.a.octets.now) (rec_of l.b.octets.now) ≡ narrowed l.kind (rec_of l.a.octets.now) (rec_of l.b.octets.now)

abbrev pub decreases-loop-kind : goal.decreases-loop-kind
decreases-loop-kind l = width l.kind
