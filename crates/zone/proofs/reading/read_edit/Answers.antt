-- `zone::reading::read_edit` meets its contract. Assumes nothing.
use mathlib.Core.Path.{sym, ◌∙◌}
use Rattle.zone.proofs.Readings.{edit_whole}
use Rattle.zone.proofs.reading.read_edit.Goals as goal

pub returns : goal.returns
returns c =
    edit_whole c.args.bytes.now c.args.at c.in_ok-namelen.namelen (sym c.name_at.ensures ∙ c.in_ok-namelen.was) _ (c.from-rdlen.ensures ∙ c.read_field.ensures) _ _ _ _ _
    c.if-bytes-fixed.false c.part.ensures c.read_field-2.ensures c.read_field-3.ensures c.read_field-4.ensures c.part-2.ensures
