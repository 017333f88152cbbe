-- `notify::message::write_each` meets its contract. The loop's invariant: the changes at the first `i` places are written. Assumes nothing.
use Rattle.notify.specs.Written.{WroteEach}
use Rattle.notify.proofs.message.write_each.Given as goal

abbrev pub invariant-loop-i : goal.invariant-loop-i
invariant-loop-i g l = WroteEach (goal.F-post g l.change) l.i l.initial.out l.fn.at l.out l.end
