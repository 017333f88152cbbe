-- `notify::message::is_first` meets its contract. The loop's invariant: no removal of the first `j` records covers record `i`. Assumes nothing.
use Prim.Native.Nat.{ℕ, ◌<◌}
use mathlib.Core.Path.{◌≡◌}
use mathlib.Core.Bool.{false}
use lib.ListN.{get_or}
use Rattle.std.specs.Prelude.{None}
use Rattle.zone.specs.Table.{block_at, rec_of}
use Rattle.notify.specs.Marks.{kind_covers}
use Rattle.notify.proofs.message.is_first.Given as goal

abbrev pub invariant-loop-j : goal.invariant-loop-j
invariant-loop-j l = (k : ℕ) → k < l.j → kind_covers (get_or l.kinds k None) (rec_of (block_at l.old.area.now k)) (rec_of l.b.octets.now) ≡ false
