-- `notify::marks::for_each` meets its contract. The loop's invariant: the first `i` values are there. Assumes nothing.
use Prim.Native.Nat.{ℕ, ◌<◌}
use lib.ListN.{get_or}
use Rattle.notify.proofs.marks.for_each.Given as goal

abbrev pub invariant-loop-i : goal.invariant-loop-i
invariant-loop-i g l = (k : ℕ) → k < l.i → goal.F-post g l.value k (get_or l.values k l.fn.none)
