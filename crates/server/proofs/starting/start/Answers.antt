-- `server::starting::start` meets its contract: the name decides. Assumes nothing.
use borrow.Author.Rules.{rules}
use Rattle.server.proofs.Starts.{start_named, start_unnamed}
use Rattle.server.proofs.starting.start.Goals as goal

pub returns-then-not-is_name : goal.returns-then-not-is_name
returns-then-not-is_name c = search (start_unnamed, rules)

pub returns : goal.returns
returns c = search (start_named, rules)
