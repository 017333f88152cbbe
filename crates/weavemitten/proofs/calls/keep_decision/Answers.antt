-- `weavemitten::calls::keep_decision` meets its contract. Assumes nothing.
use Rattle.weavemitten.proofs.Serving.{kept-decision}
use Rattle.weavemitten.proofs.calls.keep_decision.Goals as goal

pub returns : goal.returns
returns c =
    let a = c.args in
    kept-decision a.words.now _ a.t a.decision c.save_decision.ensures _ c.decision_answer.ensures _ c.answer_number.ensures
