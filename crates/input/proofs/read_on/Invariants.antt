-- What came so far leads to the line.
use Rattle.std.proofs.Common.{take}
use Rattle.input.specs.Reading.{ReadsOn}
use Rattle.input.proofs.read_on.Given as goal

abbrev pub invariant-loop : goal.invariant-loop
invariant-loop g l = ReadsOn (take l.fn.held l.initial.line) l.q l.input l.line
