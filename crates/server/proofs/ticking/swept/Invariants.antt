-- `server::ticking::swept` meets its contract. The loop's invariant: the flagged of the first `i` sessions are gone. Assumes nothing.
use Rattle.server.proofs.Ticks.{swept_to}
use Rattle.std.proofs.Common.{◌≡◌}
use Rattle.server.proofs.ticking.swept.Given as goal

abbrev pub invariant-loop-i : goal.invariant-loop-i
invariant-loop-i l = l.server ≡ swept_to l.i l.flags l.fn.server
