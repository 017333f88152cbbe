-- `notify::message::write_added` meets its contract. Assumes nothing.
use Rattle.notify.proofs.Messages.{push-written}
use Rattle.notify.proofs.message.write_added.Goals as goal

pub returns : goal.returns
returns c = search push-written
