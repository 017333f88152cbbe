-- `script::reader::decode` meets its contract. Assumes nothing.
use Rattle.std.proofs.Common.{rules}
use Rattle.script.proofs.Bytes.{decoding-low, decoding-turn}
use Rattle.script.proofs.reader.decode.Goals as goal

pub returns-in_err-low : goal.returns-in_err-low
returns-in_err-low c =
    let e = decoding-low _ _ _ _ c.loop-i.invariant c.loop-i-test.true _ _ c.digit.ensures.value _ c.in_ok-high.was c.digit-in-loop-i.ensures.value c.in_err-low.was in
    search rules

pub loop-i-preserved : goal.loop-i-preserved
loop-i-preserved c =
    decoding-turn _ _ _ _ c.loop-i.invariant c.loop-i-test.true _ _ c.digit.ensures.value _ c.in_ok-high.was c.digit-in-loop-i.ensures.value _ c.in_ok-low.was c.requires
