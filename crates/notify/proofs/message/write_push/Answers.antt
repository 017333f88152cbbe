-- `notify::message::write_push` meets its contract. Assumes nothing.
use Rattle.notify.proofs.Messages.{changes-written, push-sent}
use Rattle.notify.proofs.message.write_push.Goals as goal

pub returns : goal.returns
returns c =
    push-sent _ _ _ _ _ _ _ _ _ _ c.removal_kinds-kinds.ensures c.visible-added.ensures
    (changes-written _ _ _ _ _ _ _ _ c.write_removals-middle.ensures c.write_additions-end.ensures.wrote _ _ c.finish.ensures)
