-- `weavemitten::weavemitten_match` meets its contract: the names, then the type and class. Assumes nothing.
use mathlib.Core.Path.{◌∙◌}
use Rattle.weavemitten.proofs.Answers.{match_same, match_other}
use Rattle.weavemitten.proofs.weavemitten_match.Goals as goal

pub returns-then-eq : goal.returns-then-eq
returns-then-eq c =
    let a = c.args in
    c.answer_number.ensures ∙ rw c.asks_for.ensures (match_same a.qname.now a.qtype a.qclass a.name.now a.rtype a.class _ c.compared-same.ensures _ c.eq.ensures c.if-eq.true)

pub returns : goal.returns
returns c =
    let a = c.args in
    c.answer_number-2.ensures ∙ match_other a.qname.now a.qtype a.qclass a.name.now a.rtype a.class _ c.compared-same.ensures _ c.eq.ensures c.if-eq.false
