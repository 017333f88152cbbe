-- `words::words::end_sessions` meets its contract. Assumes nothing.
use Rattle.std.proofs.Common.{arith}
use Rattle.words.proofs.Saving.{ending_none, ending-more, ending-all}
use Rattle.words.proofs.words.end_sessions.Goals as goal

pub loop-i-init : goal.loop-i-init
loop-i-init c = ending_none _ _ _ (omega arith)

pub loop-i-preserved : goal.loop-i-preserved
loop-i-preserved c =
    ending-more _ _ _ _ _ c.loop-i.invariant (omega arith) (omega arith) _ _ c.end_session.ensures (omega arith)

pub returns : goal.returns
returns c = ending-all _ _ _ _ _ c.loop-i.invariant (omega arith) (omega arith)
