-- `script::writer::LineWriter::line` meets its contract. Assumes nothing.
use Rattle.script.proofs.Writing.{field-then, line-written}
use Rattle.script.proofs.writer.LineWriter.line.Goals as goal

pub returns-clause-written : goal.returns-clause-written
returns-clause-written c =
    let verb-answer = field-then _ _ _ _ _ c.verb.ensures.written _ _ c.put.ensures.written _ _ _ c.number.ensures.written in
    let and-session = field-then _ _ _ _ _ verb-answer _ _ c.put-2.ensures.written _ _ _ c.session.ensures.written in
    let and-bytes = field-then _ _ _ _ _ and-session _ _ c.put-3.ensures.written _ _ _ c.bytes.ensures.written in
    line-written _ _ _ _ _ _ _ _ _ c.from.ensures and-bytes _ _ c.put-4.ensures.written
