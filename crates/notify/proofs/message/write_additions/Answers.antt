-- `notify::message::write_additions` meets its contract. Assumes nothing.
use Rattle.std.proofs.Common.{rules}
use Rattle.notify.proofs.Heads.{additions-written}
use Rattle.notify.proofs.message.write_additions.Goals as goal

pub returns : goal.returns
returns c = additions-written _ _ _ _ _ _ _ _ (λ i o h k. search rules) c.write_each.ensures
