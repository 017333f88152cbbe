-- `words::words::end_sessions` meets its contract. The loop's invariant: the flagged of the first `i` sessions are gone. Assumes nothing.
use Rattle.words.proofs.Saving.{Ending}
use Rattle.words.proofs.words.end_sessions.Given as goal

abbrev pub invariant-loop-i : goal.invariant-loop-i
invariant-loop-i l = Ending l.t l.flags l.fn.words l.words l.i
