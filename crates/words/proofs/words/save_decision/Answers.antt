-- `words::words::save_decision` meets its contract. Assumes nothing.
use Rattle.words.proofs.Saving.{taken-saved, refused-saved}
use Rattle.words.proofs.words.save_decision.Goals as goal

pub returns-in-Ok : goal.returns-in-Ok
returns-in-Ok c =
    let a = c.args in
    taken-saved a.words.now a.t a.decision _ c.in-Ok.is _ c.save_change.ensures

pub returns-in_default : goal.returns-in_default
returns-in_default c = refused-saved _ _ _ _ c.in_default.is
