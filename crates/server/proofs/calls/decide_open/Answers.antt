-- `server::calls::decide_open` meets its contract: the checks, then the lowest free number. Assumes nothing.
use Rattle.std.proofs.Common.{ap}
use Rattle.std.proofs.lemmas.Result.{err_from_is_err_and}
use Rattle.service.specs.Call.{opens, passed}
use Rattle.server.specs.Checks.{brought_of}
use Rattle.server.proofs.Outcomes.{gives-refusal, gives-passed}
use Rattle.server.proofs.calls.decide_open.Goals as goal

pub returns-in_err-check : goal.returns-in_err-check
returns-in_err-check c =
    let a = c.args in
    let p = err_from_is_err_and c.from_residual.result c.from_residual.ensures.1 in
    gives-refusal _ (opens a.time) _ (ap brought_of c.at.ensures) _ c.check.ensures _ c.in_err-check.was a.time _ (rw (p.1, p.2))

pub returns : goal.returns
unfolding passed
returns c m =
    let a = c.args in
    gives-passed _ (opens a.time) _ (ap brought_of c.at.ensures) _ c.check.ensures _ c.in_ok-check.was _ m m _ (c.open_lowest.ensures m)
