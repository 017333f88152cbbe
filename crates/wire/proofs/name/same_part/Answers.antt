-- `wire::name::same_part` meets its contract. Assumes nothing.
use native.Mathlib.Omega.{arith}
use Rattle.wire.proofs.Loops.{mapped-octet, mapped_end}
use Rattle.wire.proofs.name.same_part.Goals as goal

pub loop-i-preserved : goal.loop-i-preserved
loop-i-preserved g c = λ f k.
    mapped-octet f _ _ _ _ (c.loop-i.invariant f k) _ _ (k.each _ _ c.key.ensures)
    (k.each _ _ c.key-in-loop-i.ensures) (omega arith) (omega arith)

pub returns : goal.returns
returns g c = λ f k. mapped_end f _ _ _ _ (c.loop-i.invariant f k) (omega arith)
