-- `notify::choice::alike` meets its contract. The loop's invariant: none of the first `i` marked records tells the two apart. Assumes nothing.
use Rattle.zone.specs.Table.{rec_of, records_in}
use Rattle.notify.specs.Marks.{removal_at}
use Rattle.notify.proofs.Choices.{Agreed}
use Rattle.notify.proofs.choice.alike.Given as goal

abbrev pub invariant-loop-i : goal.invariant-loop-i
invariant-loop-i l = Agreed (removal_at l.narrow (rec_of l.a.octets.now)) (removal_at l.wide (rec_of l.a.octets.now)) l.gone (records_in l.old) l.i
