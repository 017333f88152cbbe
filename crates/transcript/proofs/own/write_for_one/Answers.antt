-- `write_for_one`: the answer, its session and its bytes in one line.
use Rattle.std.proofs.Common.{arith}
use borrow.Author.Rules.{rules}
use Rattle.transcript.proofs.Telling.{one-written}
use Rattle.transcript.proofs.Fits.{printed-one}
use Rattle.transcript.proofs.own.write_for_one.Goals as goal

pub returns : goal.returns
returns c = printed-one _ _ _ _ _ _ (omega arith) (omega arith) _ (search (one-written, rules))
