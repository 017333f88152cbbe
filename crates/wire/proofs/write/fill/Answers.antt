-- `wire::write::fill` meets its contract. Assumes nothing.
use mathlib.Core.Path.{ap, ◌∙◌}
use native.Mathlib.Omega.{arith}
use lib.ListN.{get_or, set}
use Rattle.wire.proofs.Writes.{sets-step}
use Rattle.wire.proofs.write.fill.Goals as goal

pub loop-i-preserved : goal.loop-i-preserved
loop-i-preserved c =
    let s = c.args.src.now in
    let i = c.loop-i.i in
    ap (λ l. set l i (get_or s i 0)) c.loop-i.invariant ∙ sets-step _ s i (omega arith)
