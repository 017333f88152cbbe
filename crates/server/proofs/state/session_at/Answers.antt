-- `server::state::session_at` meets its contract. Assumes nothing.
use Rattle.std.proofs.Common.{sym, ◌∙◌, arith}
use Rattle.server.specs.Numbers.{vacancy}
use Rattle.server.proofs.States.{session-past, session-within}
use Rattle.server.proofs.state.session_at.Goals as goal

pub returns-in-Some : goal.returns-in-Some
returns-in-Some c =
    let h = c.in-Some.ensures.lookup.3 in
    h.1 vacancy ∙ sym (session-within c.args.i c.args.server (omega arith))

pub returns-in-None : goal.returns-in-None
returns-in-None c =
    let h = c.in-None.ensures.lookup.3 in
    c.vacant.ensures ∙ session-past c.args.i c.args.server (omega arith)
