-- `server::state::with_session` meets its contract. Assumes nothing.
use Rattle.std.proofs.Common.{arith}
use Rattle.server.proofs.States.{put-by, put-past}
use Rattle.server.proofs.state.with_session.Goals as goal

pub returns-then-i-lt-SESSIONS : goal.returns-then-i-lt-SESSIONS
returns-then-i-lt-SESSIONS c = put-by c.args.i c.args.s c.args.server (omega arith)

pub returns-else-i-lt-SESSIONS : goal.returns-else-i-lt-SESSIONS
returns-else-i-lt-SESSIONS c = put-past c.args.i c.args.s c.args.server (omega arith) (omega arith)
