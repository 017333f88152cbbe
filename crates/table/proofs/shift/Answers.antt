-- `table::shift` meets its contract. Assumes nothing.
use borrow.Author.Rules.{rules}
use Rattle.table.proofs.Blocks.{moved-turn}
use Rattle.table.proofs.shift.Goals as goal

pub loop-i-preserved : goal.loop-i-preserved
loop-i-preserved c = search (moved-turn, rules)
