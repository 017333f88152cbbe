-- `session::subscriptions::Subscriptions::position` meets its contract. The loop's invariant: none of the first `i` passes the test.
-- Assumes nothing.
use Rattle.std.proofs.Common.{Bool}
use Rattle.zone.specs.Match.{Subscription}
use Rattle.session.specs.Table.{Tests, subscriptions_in}
use Rattle.session.proofs.Table.{NoneBefore}
use Rattle.session.proofs.subscriptions.Subscriptions.position.Given as goal

abbrev pub invariant-loop-i : goal.invariant-loop-i
invariant-loop-i g l =
    (p : Subscription → Bool) → Tests (goal.F-post g l.test) p → NoneBefore p (subscriptions_in l.self) l.i
