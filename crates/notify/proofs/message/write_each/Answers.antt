-- `notify::message::write_each` meets its contract. Assumes nothing.
use Rattle.std.proofs.Common.{◌≡◌, min, arith}
use Rattle.zone.specs.Batch.{max_records}
use Rattle.notify.proofs.Writing.{each_none, each-turn}
use Rattle.notify.proofs.message.write_each.Goals as goal

pub loop-i-init : goal.loop-i-init
loop-i-init g c = each_none _ _ _

pub write-end-requires : goal.write-end-requires
write-end-requires g c = (omega (arith, c.requires.near, c.loop-i.invariant.near), c.requires.short c.loop-i.i _ (omega arith) c.change.ensures)

pub loop-i-preserved : goal.loop-i-preserved
loop-i-preserved g c = each-turn _ _ _ _ _ _ c.loop-i.invariant _ c.change.ensures _ _ c.write-end.ensures

pub returns : goal.returns
returns g c = let e : c.loop-i.i ≡ min c.args.store.count max_records = omega arith in rw e at c.loop-i.invariant
