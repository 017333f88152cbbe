-- `notify::message::addition_sent` meets its contract. Assumes nothing.
use Rattle.notify.proofs.Heads.{gives-unmarked, gives-marked}
use Rattle.notify.proofs.message.addition_sent.Goals as goal

pub returns-then-marks-i : goal.returns-then-marks-i
returns-then-marks-i c = search gives-marked

pub returns : goal.returns
returns c = search gives-unmarked
