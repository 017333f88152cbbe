-- `wire::name::by_parts` meets its contract. The loop's invariant: the octets before `i` are alike. Assumes nothing.
use Prim.Native.Nat.{◌-◌}
use mathlib.Core.Bool.{true}
use mathlib.Core.List.{map}
use Rattle.wire.proofs.Loops.{Compared}
use Rattle.wire.proofs.name.by_parts.Given as goal

abbrev pub invariant-loop-i : goal.invariant-loop-i
invariant-loop-i g l = Compared (map g.L.Likeness.seen l.a) (map g.L.Likeness.seen l.b) true l.i

abbrev pub decreases-loop-i : goal.decreases-loop-i
decreases-loop-i g l = l.last - l.i
