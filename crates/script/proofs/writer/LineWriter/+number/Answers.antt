-- `script::writer::LineWriter::number` meets its contract. Assumes nothing.
use Rattle.script.proofs.Writing.{digit-written, digits-written}
use Rattle.script.proofs.writer.LineWriter.+number.Goals as goal
use Rattle.script.proofs.writer.LineWriter.+number.Goals.{then-x-ge10, else-x-ge10}

pub returns-clause-written : goal.returns-clause-written
returns-clause-written t c =
    elim c.if-x-ge10.branch [
      | then-x-ge10 w ↦ digits-written _ _ _ _ c.digit_octet-last.ensures _ _ w.if-x-ge10.true c.ranges.x.fits w.number.ensures.written _ _ (rw w.self-is at c.put.ensures.written)
      | else-x-ge10 w ↦ digit-written _ _ _ _ c.digit_octet-last.ensures _ _ w.if-x-ge10.false (rw w.self-is at c.put.ensures.written)
    ]
