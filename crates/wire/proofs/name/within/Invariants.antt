-- `wire::name::within` meets its contract. The loop's invariant: no label boundary before `at` has the zone. Assumes nothing.
use Prim.Native.Nat.{◌-◌}
use mathlib.Core.Path.{◌≡◌}
use lib.ListN.{length, drop}
use Rattle.wire.specs.Name.{ends_in, within}
use Rattle.wire.proofs.name.within.Given as goal

abbrev pub invariant-loop-at : goal.invariant-loop-at
invariant-loop-at l = within l.zone l.name ≡ ends_in l.zone 0 (drop l.at l.name)

abbrev pub decreases-loop-at : goal.decreases-loop-at
decreases-loop-at l = length l.name - l.at
