-- `weavemitten::calls::weavemitten_server_open` meets its contract: what the server decides is kept. Assumes nothing.
use Rattle.service.specs.Call.{opens}
use Rattle.weavemitten.proofs.Serving.{returned-decision-with}
use Rattle.weavemitten.proofs.calls.weavemitten_server_open.Goals as goal

pub returns : goal.returns
returns c m =
    let a = c.args in
    returned-decision-with a.words.now _ _ c.load.ensures a.time _ _ c.keep_decision.ensures m (opens a.time) (c.decide_open-decision.ensures m) _ c.decision_answer.ensures _ c.put.ensures
