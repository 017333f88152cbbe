-- `server::ticking::ends` meets its contract. Assumes nothing.
use Rattle.std.proofs.Common.{◌∙◌}
use Rattle.server.proofs.Ticks.{ends-live, ends-dead}
use Rattle.server.proofs.ticking.ends.Goals as goal

pub returns-then-s : goal.returns-then-s
returns-then-s c = ends-live _ _ c.if-s.true _ c.expired.ensures

pub returns-else-s : goal.returns-else-s
returns-else-s c area = c.if-s.false ∙ ends-dead _ _ c.if-s.false area
