-- `server_batch::pushing::tell` meets its contract. Assumes nothing.
use Rattle.server_batch.proofs.Pushed.{tell-live, tell-dead}
use Rattle.server_batch.proofs.pushing.tell.Goals as goal

pub returns-then-x : goal.returns-then-x
returns-then-x c =
    let a = c.args in
    tell-live a.x a.change a.subs.now a.out.now c.write_push.new.out _ _ _ c.if-x.true c.output_at-at.ensures c.requires.2 c.write_push.ensures

pub returns : goal.returns
returns c = tell-dead c.args.x _ _ c.args.subs.now _ _ c.if-x.false
