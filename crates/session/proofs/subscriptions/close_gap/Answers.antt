-- `session::subscriptions::close_gap` meets its contract. Assumes nothing.
use mathlib.Core.Path.{refl}
use native.Mathlib.Omega.{arith}
use Rattle.session.proofs.Changes.{gap-closed}
use Rattle.session.proofs.subscriptions.close_gap.Goals as goal

pub returns : goal.returns
returns c = (refl, gap-closed _ _ _ _ (omega arith) (omega arith) (omega arith) c.slide.ensures)
