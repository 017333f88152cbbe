-- `words::words::save_session` meets its contract. Assumes nothing.
use Rattle.std.proofs.Common.{arith}
use Rattle.words.proofs.Saving.{saved-none, saved-stored}
use Rattle.words.proofs.words.save_session.Goals as goal

pub returns-then-i-lt-SESSIONS : goal.returns-then-i-lt-SESSIONS
returns-then-i-lt-SESSIONS c =
    let a = c.args in
    saved-stored a.words.now a.t a.i a.x (omega arith) _ c.place_of.ensures _ c.store_session.ensures

pub returns-else-i-lt-SESSIONS : goal.returns-else-i-lt-SESSIONS
returns-else-i-lt-SESSIONS c =
    let a = c.args in
    saved-none a.words.now a.t a.i a.x (omega arith) (omega arith)
