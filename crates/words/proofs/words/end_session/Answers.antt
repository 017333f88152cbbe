-- `words::words::end_session` meets its contract. Assumes nothing.
use Rattle.std.proofs.Common.{arith}
use mathlib.Core.Path.{◌∙◌}
use Rattle.service.specs.State.{max_sessions}
use Rattle.server.specs.Numbers.{vacancy}
use Rattle.words.specs.Words.{server_of}
use Rattle.words.proofs.Saving.{aborted, spared, server-four, saved-none}
use Rattle.words.proofs.words.end_session.Goals as goal

pub returns-then-ended : goal.returns-then-ended
returns-then-ended c =
    let a = c.args in
    c.save_session.ensures.server ∙ aborted a.t a.i _ (server_of a.words.now) a.ended c.vacant.ensures c.if-ended.true

pub returns-else-ended : goal.returns-else-ended
returns-else-ended c =
    let a = c.args in
    let timed = saved-none a.words.now a.t max_sessions vacancy (omega arith) (omega arith) in
    timed.server ∙ spared a.t a.i _ (server_of a.words.now) a.ended (server-four a.words.now) c.if-ended.false
