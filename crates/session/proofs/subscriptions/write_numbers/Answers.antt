-- `session::subscriptions::write_numbers` meets its contract. Assumes nothing.
use Rattle.session.proofs.Changes.{numbers-written}
use Rattle.session.proofs.subscriptions.write_numbers.Goals as goal

pub returns : goal.returns
returns c = search numbers-written
