-- `notify::message::write_first` meets its contract. Assumes nothing.
use Rattle.zone.specs.Match.{matches}
use Rattle.zone.specs.Table.{records_in}
use Rattle.session.specs.Table.{subscription_for}
use Rattle.notify.proofs.Messages.{first-sent}
use Rattle.notify.proofs.message.write_first.Goals as goal

pub returns : goal.returns
returns c =
    first-sent _ (records_in c.args.store) (matches (subscription_for 0 c.args.question)) c.args.out.now c.args.at _ _ _
    c.matched-marks.ensures c.min-from.ensures c.write_added.ensures
