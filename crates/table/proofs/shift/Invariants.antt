-- `table::shift` meets its contract. The loop's invariant: the first `i` octets are moved. Assumes nothing.
use Prim.Native.Nat.{◌-◌}
use Rattle.table.proofs.Blocks.{Moved}
use Rattle.table.proofs.shift.Given as goal

abbrev pub invariant-loop-i : goal.invariant-loop-i
invariant-loop-i l = Moved l.initial.area l.to l.from l.n l.area l.i

abbrev pub decreases-loop-i : goal.decreases-loop-i
decreases-loop-i l = l.n - l.i
