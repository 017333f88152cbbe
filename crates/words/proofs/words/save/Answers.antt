-- `words::words::save` meets its contract. Assumes nothing.
use Rattle.std.proofs.Common.{arith, rules}
use Rattle.server.proofs.States.{session-read}
use Rattle.words.proofs.Saving.{writing_none, writing-more, writing-all}
use Rattle.words.proofs.words.save.Goals as goal

pub loop-i-init : goal.loop-i-init
loop-i-init c = writing_none c.args.server c.args.words.now c.from.result (search rules)

pub loop-i-preserved : goal.loop-i-preserved
loop-i-preserved c =
    writing-more _ _ _ _ c.loop-i.invariant (omega arith) _ c.place_of.ensures _ (session-read _ _ _ (omega arith) (omega arith)) _ c.store_session.ensures

pub returns : goal.returns
returns c = writing-all _ _ _ _ c.loop-i.invariant (omega arith) (omega arith) (omega arith) (omega arith)
