-- `server_batch::pushing::batch` meets its contract. Assumes nothing.
use native.Mathlib.Omega.{arith}
use Rattle.server.proofs.Slices.{bytes_small}
use Rattle.server_batch.proofs.pushing.batch.Goals as goal

pub returns : goal.returns
returns c =
    record {
      serves = λ small. rw c.concluded.ensures (c.checked-r.ensures small);
      small = bytes_small c.args.bytes.now (λ i. omega (arith, c.type_inv.bytes i));
    }
