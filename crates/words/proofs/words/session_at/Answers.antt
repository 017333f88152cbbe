-- `words::words::session_at` meets its contract. Assumes nothing.
use native.Mathlib.Omega.{arith}
use mathlib.Core.Path.{ap, ◌∙◌}
use Rattle.server.proofs.States.{session-past}
use Rattle.words.specs.Words.{session_in}
use Rattle.words.proofs.Saving.{session-at}
use Rattle.words.proofs.words.session_at.Goals as goal

pub returns-else-i-lt-SESSIONS : goal.returns-else-i-lt-SESSIONS
returns-else-i-lt-SESSIONS c = c.vacant.ensures ∙ session-past _ _ (omega arith)

pub returns-then-i-lt-SESSIONS : goal.returns-then-i-lt-SESSIONS
returns-then-i-lt-SESSIONS c =
    let a = c.args in
    c.session_in.ensures ∙ ap (session_in a.words.now) c.place_of.ensures ∙ session-at a.words.now a.i (omega arith)
