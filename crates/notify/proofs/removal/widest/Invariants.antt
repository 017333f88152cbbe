-- `notify::removal::widest` meets its contract. The loop's invariant: `kind` is the widest that spares the first `i` records. Assumes nothing.
use Rattle.zone.specs.Table.{rec_of, records_in}
use Rattle.notify.proofs.Removals.{Widest}
use Rattle.notify.proofs.removal.widest.Given as goal

abbrev pub invariant-loop-i : goal.invariant-loop-i
invariant-loop-i l = Widest (records_in l.store) (rec_of l.a.octets.now) l.kind l.i
