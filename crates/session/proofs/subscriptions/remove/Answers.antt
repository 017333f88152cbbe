-- `session::subscriptions::remove` meets its contract. Assumes nothing.
use native.Mathlib.Omega.{arith}
use Rattle.session.proofs.Changes.{swept_none, swept-kept, swept-gone}
use Rattle.session.proofs.subscriptions.remove.Goals as goal

pub loop-i-init : goal.loop-i-init
loop-i-init c = search swept_none

pub loop-i-preserved-then-has_id : goal.loop-i-preserved-then-has_id
loop-i-preserved-then-has_id c =
    let gone = c.close_gap-n.ensures in
    swept-gone _ _ _ _ _ c.loop-i.invariant _ (omega arith) _ c.part-octets.ensures _ c.has_id.ensures c.if-has_id.true _ _ gone.0 gone.1

pub loop-i-preserved : goal.loop-i-preserved
loop-i-preserved c =
    swept-kept _ _ _ _ _ c.loop-i.invariant _ (omega arith) _ c.part-octets.ensures _ c.has_id.ensures c.if-has_id.false
