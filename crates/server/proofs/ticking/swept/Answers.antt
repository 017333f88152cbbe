-- `server::ticking::swept` meets its contract. Assumes nothing.
use Rattle.std.proofs.Common.{arith}
use Rattle.server.proofs.Ticks.{swept_none, swept-more, swept-all}
use Rattle.server.proofs.ticking.swept.Goals as goal

pub loop-i-init : goal.loop-i-init
loop-i-init c = swept_none c.args.flags c.args.server

pub loop-i-preserved : goal.loop-i-preserved
loop-i-preserved c =
    let a = c.args in
    swept-more a.flags a.server c.loop-i.server c.loop-i.i c.loop-i.invariant (omega arith) (omega arith) _ _ c.kept.ensures

pub returns : goal.returns
returns c =
    let a = c.args in
    swept-all a.flags a.server c.loop-i.server c.loop-i.i c.loop-i.invariant (omega arith) (omega arith)
