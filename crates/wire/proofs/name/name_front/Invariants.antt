-- `wire::name::name_front` meets its contract. The loop's invariant: the octets before `i` are whole labels. Assumes nothing.
use Prim.Native.Nat.{◌-◌}
use lib.ListN.{length}
use Rattle.wire.proofs.Loops.{Read}
use Rattle.wire.proofs.name.name_front.Given as goal

abbrev pub invariant-loop-n : goal.invariant-loop-n
invariant-loop-n l = Read l.front l.i

abbrev pub decreases-loop-n : goal.decreases-loop-n
decreases-loop-n l = length l.front - l.i
