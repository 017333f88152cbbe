-- `server::calls::decide_close` meets its contract: the checks, then the session is gone. Assumes nothing.
use Rattle.std.proofs.Common.{ap, Some}
use Rattle.server.specs.declared.checks.Brought.{Brought}
use Rattle.std.proofs.lemmas.Result.{err_from_is_err_and}
use Rattle.service.specs.Call.{closes, passed}
use Rattle.server.specs.Checks.{brought_of}
use Rattle.server.proofs.Outcomes.{gives-refusal, gives-passed, gives-closed}
use Rattle.server.proofs.calls.decide_close.Goals as goal

pub returns-in_err-check : goal.returns-in_err-check
returns-in_err-check c =
    let a = c.args in
    let b : Brought = record c.at.result { session = Some a.session.0 } in
    let p = err_from_is_err_and c.from_residual.result c.from_residual.ensures.1 in
    gives-refusal _ (closes a.time a.session.0) b (ap (λ (b : Brought). brought_of (record b { session = Some a.session.0 })) c.at.ensures) _ c.check.ensures _ c.in_err-check.was a.time _ (rw (p.1, p.2))

pub returns : goal.returns
unfolding passed
returns c m =
    let a = c.args in
    let b : Brought = record c.at.result { session = Some a.session.0 } in
    gives-passed _ (closes a.time a.session.0) b (ap (λ (b : Brought). brought_of (record b { session = Some a.session.0 })) c.at.ensures) _ c.check.ensures _ c.in_ok-check.was _ m m _ (gives-closed _ a.time a.session.0 m)
