-- `next_line`: what is left of the chunk, and what is read behind it.
use Rattle.std.proofs.lemmas.Result.{IfOk-weaker, on_err_weaker}
use Rattle.input.proofs.Taking.{cut-next, read_next, next_fails}
use Rattle.input.proofs.next_line.Goals as goal

pub returns-then-q-clause-ok : goal.returns-then-q-clause-ok
returns-then-q-clause-ok g c =
    let a = c.args in
    cut-next a.p a.input.now a.line.now _ _ _ c.begun.ensures c.resume-q.ensures c.if-q.true

pub returns-clause-ok : goal.returns-clause-ok
returns-clause-ok g c =
    let a = c.args in
    IfOk-weaker c.read_on.result _ _
    (λ r y. read_next a.p a.input.now a.line.now _ _ _ c.begun.ensures c.resume-q.ensures c.if-q.false r _ _ y)
    c.read_on.ensures.ok

pub returns-clause-err : goal.returns-clause-err
returns-clause-err g c =
    let a = c.args in
    on_err_weaker c.read_on.result
    (λ f. next_fails a.p a.input.now a.line.now _ _ _ c.begun.ensures c.resume-q.ensures c.if-q.false _ f)
    c.read_on.ensures.err
