-- `script::number::value` meets its contract. The loop's invariant: the digits so far stand for `x`. Assumes nothing.
use Rattle.script.proofs.Numbers.{Summed}
use Rattle.script.proofs.number.value.Given as goal

abbrev pub invariant-loop-b : goal.invariant-loop-b
invariant-loop-b l = Summed l.s l.x l.b-index
