-- `write_for_all`: a line for each session, or one for all.
use Rattle.std.proofs.Common.{ap, sym, ◌∙◌, ◌≡◌, length, arith}
use Rattle.transcript.specs.Lines.{notes_of}
use Rattle.server.specs.Answers.{answer_of}
use Rattle.transcript.proofs.Telling.{all-silent, all_noted}
use Rattle.transcript.proofs.Fits.{printed-all}
use Rattle.transcript.proofs.lines.write_for_all.Goals as goal

pub returns-then-all_silent : goal.returns-then-all_silent
returns-then-all_silent c =
    let four : length (notes_of (answer_of c.args.told.answer)) ≡ 4 = ap length (sym c.noted-notes.ensures) ∙ omega arith in
    printed-all _ _ _ _ _ _ (omega arith) (omega arith) four
    (all-silent _ _ _ _ c.noted-notes.ensures _ c.all_silent.ensures _ _ _ c.if-all_silent.true _ c.answer_number.ensures c.write_line.ensures)

pub returns : goal.returns
returns c =
    let four : length (notes_of (answer_of c.args.told.answer)) ≡ 4 = ap length (sym c.noted-notes.ensures) ∙ omega arith in
    printed-all _ _ _ _ _ _ (omega arith) (omega arith) four
    (all_noted _ _ _ _ c.noted-notes.ensures _ c.all_silent.ensures _ _ _ c.if-all_silent.false c.write_notes.ensures)
