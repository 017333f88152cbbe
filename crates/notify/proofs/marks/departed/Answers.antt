-- `notify::marks::departed` meets its contract. Assumes nothing.
use Rattle.std.proofs.Common.{arith, rules}
use Rattle.notify.proofs.Marked.{marked-more, marked-by}
use Rattle.notify.proofs.marks.departed.Goals as goal
use Rattle.notify.proofs.marks.departed.Goals.{then-held, else-held}

pub loop-i-preserved : goal.loop-i-preserved
loop-i-preserved c = record {
  near = elim c.if-held.branch [ then-held w ↦ omega arith | else-held w ↦ omega arith ];
  long = search rules;
  done = marked-more _ _ _ _ (omega arith) (search rules) c.loop-i.invariant.done;
}

pub returns : goal.returns
returns c = marked-by _ _ _ _ (λ k h. search rules)
