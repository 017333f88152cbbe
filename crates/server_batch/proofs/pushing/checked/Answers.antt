-- `server_batch::pushing::checked` meets its contract: the checks, then the edits. Assumes nothing.
use Rattle.std.proofs.Common.{true, false}
use Rattle.std.proofs.lemmas.Result.{err_from_is_err_and}
use Rattle.server_batch.specs.Pushing.{areas_in}
use Rattle.server_batch.proofs.Pushed.{roomy, refused-batch, edited-batch}
use Rattle.server_batch.proofs.pushing.checked.Goals as goal

pub edit-requires : goal.edit-requires
edit-requires c = let a = c.args in roomy a.server a.t a.out.now _ _ c.at.ensures c.check.ensures _ c.in_ok-check.was

pub edit-requires-else-server : goal.edit-requires-else-server
edit-requires-else-server c = let a = c.args in roomy a.server a.t a.out.now _ _ c.at.ensures c.check.ensures _ c.in_ok-check.was

pub returns-in_err-check : goal.returns-in_err-check
returns-in_err-check c small =
    let a = c.args in
    let p = err_from_is_err_and c.from_residual.result c.from_residual.ensures.1 in
    refused-batch a.server a.t a.out.now _ _ c.at.ensures c.check.ensures a.zone.now a.first.now a.second.now (areas_in a.tables) a.bytes.now small
    _ c.in_err-check.was _ (rw (p.1, p.2))

pub returns-then-server : goal.returns-then-server
returns-then-server c small =
    let a = c.args in
    edited-batch a.server a.t a.out.now _ _ c.at.ensures c.check.ensures a.zone.now a.first.now a.second.now (areas_in a.tables) a.bytes.now small
    _ c.in_ok-check.was true c.if-server.true _ _ _ c.edit.ensures

pub returns-else-server : goal.returns-else-server
returns-else-server c small =
    let a = c.args in
    edited-batch a.server a.t a.out.now _ _ c.at.ensures c.check.ensures a.zone.now a.first.now a.second.now (areas_in a.tables) a.bytes.now small
    _ c.in_ok-check.was false c.if-server.false _ _ _ c.edit-else-server.ensures
