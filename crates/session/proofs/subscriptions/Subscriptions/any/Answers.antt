-- `session::subscriptions::Subscriptions::any` meets its contract. Assumes nothing.
use Rattle.std.proofs.Common.{ap, ◌∙◌, is_some}
use Rattle.session.proofs.Table.{is_some_position}
use Rattle.session.proofs.subscriptions.Subscriptions.any.Goals as goal

pub returns : goal.returns
returns g c = λ p h. c.is_some.ensures ∙ ap is_some (c.position.ensures p h) ∙ is_some_position p _
