-- The loop of `tell_all`: the sessions before i are told.
use Rattle.zone.specs.Table.{records_in}
use Rattle.service.specs.Call.{push_to}
use Rattle.server_batch.specs.Pushing.{areas_in}
use Rattle.server_batch.proofs.Pushed.{Telling}
use Rattle.server_batch.proofs.pushing.tell_all.Given as goal

abbrev pub invariant-loop-i : goal.invariant-loop-i
invariant-loop-i l =
    Telling (push_to (records_in l.change.old) (records_in l.change.new)) l.server (areas_in l.tables) l.i l.fn.out l.out l.counts
