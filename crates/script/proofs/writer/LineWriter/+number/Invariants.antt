-- `script::writer::LineWriter::number` meets its contract. Each call is on a smaller number. Assumes nothing.
use Rattle.script.proofs.writer.LineWriter.+number.Given as goal

abbrev pub decreases-number : goal.decreases-number
decreases-number l = l.x
