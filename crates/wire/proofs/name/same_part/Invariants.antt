-- `wire::name::same_part` meets its contract. The loop's invariant: `same` says of the octets before `i` whether they are alike, as any f
-- sees them that `key` gives. Assumes nothing.
use Prim.Native.Nat.{ℕ}
use mathlib.Core.List.{map}
use Rattle.wire.specs.Case.{Gives}
use Rattle.wire.proofs.Loops.{Compared}
use Rattle.wire.proofs.name.same_part.Given as goal

abbrev pub invariant-loop-i : goal.invariant-loop-i
invariant-loop-i g l = (f : ℕ → ℕ) → Gives g.K.Fn l.key f → Compared (map f l.a) (map f l.b) l.same l.i
