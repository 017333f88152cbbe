-- `dso::judging::judge` meets its contract: where the first TLV decides, its type is compared by its number.
-- Assumes nothing.
use Rattle.dso.proofs.Openings.{judged-primary}
use Rattle.dso.proofs.judging.judge.Goals as goal

pub returns-in-Ok : goal.returns-in-Ok
returns-in-Ok c = rw c.from.ensures (judged-primary _ _ _ c.opened.ensures c.in-Ok.is _ c.primary.ensures)
