-- `notify::marks::visible` meets its contract. Assumes nothing.
use Rattle.std.proofs.Common.{rules}
use Rattle.notify.proofs.Marked.{marked-by_among}
use Rattle.notify.proofs.marks.visible.Goals as goal

pub returns : goal.returns
returns c = marked-by_among _ _ _ _ _ (λ k h. let e = c.for_each.ensures k h in search rules)
