-- `zone::editing::Draft::set_ttls` meets its contract. Assumes nothing.
use mathlib.Core.Path.{refl}
use Rattle.zone.proofs.Applies.{timed_from}
use Rattle.zone.proofs.editing.Draft.set_ttls.Goals as goal

pub loop-i-init : goal.loop-i-init
loop-i-init c = ((refl, refl), search timed_from)
