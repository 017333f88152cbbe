-- `session::subscriptions::write_owner` meets its contract. Assumes nothing.
use mathlib.Core.Path.{◌∙◌}
use lib.ListN.{length-set}
use Rattle.session.proofs.Changes.{owner-written}
use Rattle.session.proofs.subscriptions.write_owner.Goals as goal

pub shape_of-area : goal.shape_of-area
shape_of-area c = c.write_octets.auto.out ∙ simp length-set

pub returns : goal.returns
returns c = search owner-written
