-- `server_batch::pushing::edit` meets its contract: a fault, or the new store and what the sessions are told. Assumes nothing.
use Rattle.std.proofs.lemmas.Result.{err_from_is_err_and}
use Rattle.server_batch.specs.Pushing.{areas_in}
use Rattle.server_batch.proofs.Pushed.{edits-faulty, edits-stored}
use Rattle.server_batch.proofs.pushing.edit.Goals as goal

pub returns-in_err-records : goal.returns-in_err-records
returns-in_err-records c =
    let a = c.args in
    let p = err_from_is_err_and c.from_residual.result c.from_residual.ensures.1 in
    edits-faulty a.server a.t a.zone.now a.old.now _ (areas_in a.tables) a.bytes.now a.out.now _ c.batch.result c.part.ensures c.batch.ensures _ c.in_err-records.was _ (rw (p.1, p.2))

pub returns : goal.returns
returns c =
    let a = c.args in
    edits-stored a.server a.t a.zone.now a.old.now _ (areas_in a.tables) a.bytes.now a.out.now _ c.batch.result c.part.ensures c.batch.ensures _ c.in_ok-records.was _ _ c.announced.ensures
