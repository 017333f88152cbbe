-- `notify::marks::departed` meets its contract. The loop's invariant: the first `i` records are marked as they should be. Assumes nothing.
use Prim.Native.Nat.{ℕ, ◌≤◌, ◌<◌}
use mathlib.Core.Path.{◌≡◌}
use mathlib.Core.Bool.{false, not}
use lib.ListN.{length, get_or}
use Rattle.zone.specs.Batch.{max_records}
use Rattle.zone.specs.Record.{key_of}
use Rattle.zone.specs.Store.{held}
use Rattle.zone.specs.Table.{block_at, rec_of, records_in}
use Rattle.notify.proofs.marks.departed.Given as goal

abbrev pub invariant-loop-i : goal.invariant-loop-i
invariant-loop-i l = record {
  near : l.place ≤ l.i;
  long : length l.marks ≡ max_records;
  done : (k : ℕ) → k < l.i → get_or l.marks k false ≡ not (held (key_of (rec_of (block_at l.old.area.now k))) (records_in l.new));
}
