-- `script::number::value` meets its contract. Assumes nothing.
use Rattle.std.proofs.Common.{arith}
use Rattle.script.proofs.Numbers.{summed-other, summed-large}
use Rattle.script.proofs.number.value.Goals as goal

pub returns-then-d-gt9 : goal.returns-then-d-gt9
returns-then-d-gt9 c = summed-other _ _ _ c.loop-b.invariant c.loop-b-test.true _ c.digit.ensures.value _ c.in_ok-d.was c.if-d-gt9.true

pub returns-in_err-checked_mul : goal.returns-in_err-checked_mul
returns-in_err-checked_mul c =
    let e = summed-large _ _ _ c.loop-b.invariant c.loop-b-test.true _ c.digit.ensures.value _ c.in_ok-d.was c.if-d-gt9.false
    (omega (arith, c.in_err-checked_mul.ensures)) in
    cc

pub returns-in_err-x : goal.returns-in_err-x
returns-in_err-x c =
    let e = summed-large _ _ _ c.loop-b.invariant c.loop-b-test.true _ c.digit.ensures.value _ c.in_ok-d.was c.if-d-gt9.false
    (omega (arith, c.in_err-x.ensures, c.in_ok-checked_mul.ensures, c.from.ensures)) in
    cc
