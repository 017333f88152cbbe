-- `session::subscriptions::Subscriptions::position` meets its contract. Assumes nothing.
use Rattle.std.proofs.Common.{arith}
use Rattle.session.proofs.Table.{length_subscriptions_of, position-none, position-first, none_before-turn}
use Rattle.session.proofs.subscriptions.Subscriptions.position.Goals as goal

pub overflow_mul-i : goal.overflow_mul-i
overflow_mul-i g c = record { fits = omega (arith, length_subscriptions_of c.args.self.count c.args.self.area.now) }

pub returns-then-test : goal.returns-then-test
returns-then-test g c = λ p h.
    position-first p _ _ _ _ (c.loop-i.invariant p h) c.len-i-end.ensures c.loop-i-test.true _ c.part-octets.ensures _ (h _ _ c.test.ensures) c.if-test.true

pub loop-i-preserved : goal.loop-i-preserved
loop-i-preserved g c = λ p h.
    none_before-turn p _ _ _ _ (c.loop-i.invariant p h) c.len-i-end.ensures c.loop-i-test.true _ c.part-octets.ensures _ (h _ _ c.test.ensures) c.if-test.false

pub returns : goal.returns
returns g c = λ p h.
    position-none p _ _ _ _ (c.loop-i.invariant p h) c.len-i-end.ensures c.loop-i.auto.i-end c.loop-i-test.false
