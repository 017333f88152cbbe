-- `session::subscriptions::append` meets its contract. Assumes nothing.
use native.Mathlib.Omega.{arith}
use Rattle.session.proofs.Changes.{append-written}
use Rattle.session.proofs.subscriptions.append.Goals as goal

pub returns : goal.returns
returns c =
    append-written _ _ _ _ (record { id-fits = omega arith; type-fits = omega arith; class-fits = omega arith }) (omega arith)
    (omega arith) (omega arith) c.write_block.ensures
