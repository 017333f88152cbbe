-- `wire::name::name_front` meets its contract. Assumes nothing.
use borrow.Author.Rules.{rules}
use native.Mathlib.Omega.{arith}
use Rattle.wire.proofs.Loops.{name_length-of, read_end, read-zero, read-over, read-label}
use Rattle.wire.proofs.name.name_front.Goals as goal

pub returns-in-0 : goal.returns-in-0
returns-in-0 c = name_length-of _ _ _ c.min.ensures (read-zero _ _ c.loop-n.invariant c.in-Some.n.now (omega (arith, c.in-Some.ensures.lookup)) (search rules) c.in-0.is)

pub loop-n-preserved : goal.loop-n-preserved
loop-n-preserved c = read-label _ _ c.loop-n.invariant c.from.result (omega (arith, c.in-Some.ensures.lookup)) (search rules) (λ e. omega arith) (omega arith)

pub returns-in_default-n : goal.returns-in_default-n
returns-in_default-n c = name_length-of _ _ _ c.min.ensures (read-over _ _ c.loop-n.invariant c.in-Some.n.now (omega (arith, c.in-Some.ensures.lookup)) (search rules) (omega arith))

pub returns : goal.returns
returns c = name_length-of _ _ _ c.min.ensures (read_end _ _ c.loop-n.invariant (omega (arith, c.in_default.ensures.lookup)))
