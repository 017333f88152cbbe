-- `server_batch::pushing::tell_all` meets its contract: session by session. Assumes nothing.
use Rattle.std.proofs.Common.{rules, arith}
use Rattle.server_batch.proofs.Pushed.{telling_none, telling_more, telling_all}
use Rattle.server_batch.proofs.pushing.tell_all.Goals as goal

pub loop-i-init : goal.loop-i-init
loop-i-init c = telling_none _ _ _ _

pub loop-i-preserved : goal.loop-i-preserved
loop-i-preserved c =
    telling_more _ (search rules) (search rules) c.loop-i-test.true c.loop-i.invariant _ _ c.tell.ensures (omega arith)

pub returns : goal.returns
returns c = telling_all c.loop-i.invariant c.loop-i-test.false c.loop-i.auto.i-end
