-- `views::play` meets its contract: what `proceed` says of any run, of the run that the start begins. Assumes nothing.
use mathlib.Core.Path.{refl}
use Rattle.std.proofs.lemmas.Result.{err_from_is_err_and}
use Rattle.views.proofs.Continued.{unnamed-start, begins}
use Rattle.views.proofs.play.Goals as goal

pub returns-in_err-server : goal.returns-in_err-server
returns-in_err-server c =
    let p = err_from_is_err_and c.from_residual.result c.from_residual.ensures.1 in
    rw (p.1, p.2) (unnamed-start c.args.name.now _ _ _ c.start.ensures _ c.in_err-server.was, refl, refl)

pub returns : goal.returns
returns c =
    let a = c.args in
    begins a.name.now _ _ _ c.start.ensures _ c.in_ok-server.was a.t _ _ _ _ _ _ _ _ _ _ _ _ _ _ c.proceed.ensures
