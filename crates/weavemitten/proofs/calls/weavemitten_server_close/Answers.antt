-- `weavemitten::calls::weavemitten_server_close` meets its contract: what the server decides is kept. Assumes nothing.
use Rattle.service.specs.Call.{closes}
use Rattle.weavemitten.proofs.Serving.{returned-decision}
use Rattle.weavemitten.proofs.calls.weavemitten_server_close.Goals as goal

pub returns : goal.returns
returns c m =
    let a = c.args in
    returned-decision a.words.now _ _ c.load.ensures a.time _ _ c.keep_decision.ensures m (closes a.time a.session) (c.decide_close-decision.ensures m)
