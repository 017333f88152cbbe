-- `views::proceed` meets its contract, from the calls' promises alone. Assumes nothing.
use Rattle.server_message.specs.Lent.{areas_lent}
use Rattle.views.proofs.Continued.{continues}
use Rattle.views.proofs.proceed.Goals as goal

pub returns : goal.returns
returns c =
    let a = c.args in
    let x = c.message-heard.ensures in
    let y = c.batch-told.ensures in
    continues a.server (areas_lent a.zone.now a.areas) _ _ a.t a.m.now a.bytes.now a.reply.now _ a.out.now _
    c.open-opened.result c.message-heard.result c.batch-told.result c.open-opened.ensures (x.serves, x.small) (y.serves, y.small)
