-- `session::subscriptions::remove` meets its contract. The loop's invariant: the first `i` are as they were, and those behind them are
-- without the ones of the ID. Assumes nothing.
use Rattle.session.specs.Table.{subscriptions_of}
use Rattle.session.proofs.Changes.{Swept}
use Rattle.session.proofs.subscriptions.remove.Given as goal

abbrev pub invariant-loop-i : goal.invariant-loop-i
invariant-loop-i l = Swept l.id (subscriptions_of l.count l.initial.area) l.n l.area l.i
