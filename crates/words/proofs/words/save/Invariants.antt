-- `words::words::save` meets its contract. The loop's invariant: the server's words and those of the first `i` sessions stand. Assumes nothing.
use Rattle.words.proofs.Saving.{Writing}
use Rattle.words.proofs.words.save.Given as goal

abbrev pub invariant-loop-i : goal.invariant-loop-i
invariant-loop-i l = Writing l.server l.fn.words l.words l.i
