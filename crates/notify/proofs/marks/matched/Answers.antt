-- `notify::marks::matched` meets its contract. Assumes nothing.
use Rattle.std.proofs.Common.{rules}
use Rattle.notify.proofs.Marked.{marked-by}
use Rattle.notify.proofs.marks.matched.Goals as goal

pub returns : goal.returns
returns c = marked-by _ _ _ _ (λ k h. let e = c.for_each.ensures k h in search rules)
