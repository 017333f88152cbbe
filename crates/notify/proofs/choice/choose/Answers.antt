-- `notify::choice::choose` meets its contract. Assumes nothing.
use Rattle.std.proofs.Common.{arith}
use Rattle.std.proofs.lemmas.Grind.{common_steps}
use Rattle.notify.specs.Marks.{marked_kind}
use Rattle.notify.proofs.Choices.{choosing}
use Rattle.notify.proofs.choice.choose.Goals as goal

pub returns : goal.returns
unfolding marked_kind
returns c = choosing _ _ _ _ _ (λ k h. let e = c.for_each.ensures k h in grind (arith, common_steps))
