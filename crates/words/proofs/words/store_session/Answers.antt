-- `words::words::store_session` meets its contract: word by word. Assumes nothing.
use Rattle.words.proofs.Saving.{stored}
use Rattle.words.proofs.words.store_session.Goals as goal

pub returns : goal.returns
returns c =
    let six = c.session_words.ensures in
    stored c.args.words.now c.args.at c.args.x _ six.words six.timed
