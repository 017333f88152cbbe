-- `respond`: the line is read, its call made, and its lines written.
use Rattle.std.specs.Prelude.{[]}
use Rattle.server.specs.Memory.{state_of}
use Rattle.server_message.specs.Lent.{areas_lent}
use Rattle.replay.proofs.Performing.{responds, unread}
use Rattle.replay.proofs.respond.respond.Goals as goal

pub returns-in_default : goal.returns-in_default
returns-in_default c =
    let a = c.args in
    unread a.server (areas_lent a.zone.now a.areas) a.out.now a.text.now _ _ a.line.now c.in_default.ensures (c.write_response.ensures [])

pub returns : goal.returns
returns c =
    let a = c.args in
    responds a.server (state_of a.server (areas_lent a.zone.now a.areas)) a.out.now _ _ a.text.now _ _ _ _ _ a.line.now
    c.in-Some.ensures c.perform-done.ensures c.write_response-2.ensures
