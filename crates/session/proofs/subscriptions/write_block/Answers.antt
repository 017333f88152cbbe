-- `session::subscriptions::write_block` meets its contract. Assumes nothing.
use Rattle.session.proofs.Changes.{block_written}
use Rattle.session.proofs.subscriptions.write_block.Goals as goal

pub returns : goal.returns
returns c = search block_written
