-- `server::calls::open_lowest` meets its contract. Assumes nothing.
use Rattle.std.proofs.Common.{arith}
use Rattle.std.proofs.lemmas.Result.{err_from_is_err_and}
use Rattle.server.proofs.Outcomes.{gives-all-open, gives-opened}
use Rattle.server.proofs.calls.open_lowest.Goals as goal

pub returns-in_err-i : goal.returns-in_err-i
returns-in_err-i c =
    let p = err_from_is_err_and c.from_residual.result c.from_residual.ensures.1 in
    gives-all-open _ c.args.time _ c.lowest_free.ensures (grind arith) _ (grind arith)

pub returns : goal.returns
returns c = gives-opened _ c.args.time _ c.lowest_free.ensures _ (grind arith)
