-- `notify::message::finish` meets its contract. Assumes nothing.
use Rattle.notify.proofs.Messages.{finish-none, finish-some}
use Rattle.notify.proofs.message.finish.Goals as goal

pub returns-then-end-eq-FRONT : goal.returns-then-end-eq-FRONT
returns-then-end-eq-FRONT c = search finish-none

pub returns : goal.returns
returns c = search finish-some
