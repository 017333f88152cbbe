-- `dso::opening::first_tlv` meets its contract: a first TLV that is cut short is none.
-- Assumes nothing.
use mathlib.Core.Path.{sym, ◌∙◌}
use Rattle.dso.proofs.Openings.{first-cut}
use Rattle.dso.proofs.opening.first_tlv.Goals as goal

pub returns-in_err-first : goal.returns-in_err-first
returns-in_err-first c =
    let new = c.new-tlvs.ensures in
    c.from_residual-in_err-first.ensures ∙ first-cut _ _ new.message new.at _ _ c.next.ensures.steps _ c.in_ok-next.was (sym c.ok.ensures.value ∙ c.in_err-first.was)
