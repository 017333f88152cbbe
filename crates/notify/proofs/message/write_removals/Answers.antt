-- `notify::message::write_removals` meets its contract. Assumes nothing.
use Rattle.std.proofs.Common.{rules}
use Rattle.notify.proofs.Heads.{removals-written}
use Rattle.notify.proofs.message.write_removals.Goals as goal

pub returns : goal.returns
returns c = removals-written _ _ _ _ _ _ _ _ (λ i o h k. search rules) c.write_each.ensures
