-- `server::checks::is_absent` meets its contract. Assumes nothing.
use Rattle.std.proofs.Common.{rules, tests}
use Rattle.server.proofs.Refusals.{absent-by}
use Rattle.server.proofs.checks.is_absent.Goals as goal

pub returns : goal.returns
returns c = absent-by c.args.server c.args.session _ c.is_some_and.ensures (λ i h m. search (rules, tests))
