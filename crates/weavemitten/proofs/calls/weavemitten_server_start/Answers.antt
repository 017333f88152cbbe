-- `weavemitten::calls::weavemitten_server_start` meets its contract: a name, or none. Assumes nothing.
use Rattle.weavemitten.proofs.Serving.{begun, unbegun}
use Rattle.weavemitten.proofs.calls.weavemitten_server_start.Goals as goal

pub returns-in-Ok : goal.returns-in-Ok
returns-in-Ok c =
    let a = c.args in
    begun a.zone.now a.words.now a.octets.now _ _ c.start.ensures _ c.in-Ok.is c.save.ensures

pub returns-in-Err : goal.returns-in-Err
returns-in-Err c =
    let a = c.args in
    unbegun a.zone.now a.words.now a.octets.now _ _ c.start.ensures _ c.in-Err.is _ c.refusal_number.ensures
