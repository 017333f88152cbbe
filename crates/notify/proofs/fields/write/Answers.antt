-- `notify::fields::write` meets its contract. Assumes nothing.
use Rattle.notify.proofs.Writing.{change-written}
use Rattle.notify.proofs.fields.write.Goals as goal

pub returns : goal.returns
returns c = search change-written
