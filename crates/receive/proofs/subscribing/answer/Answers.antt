-- `receive::subscribing::answer` meets its contract. Assumes nothing.
use Rattle.receive.proofs.Answers.{name-short}
use Rattle.receive.proofs.subscribing.answer.Goals as goal

pub subscribe-requires : goal.subscribe-requires
subscribe-requires c = search name-short
