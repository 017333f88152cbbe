-- `script::writer::put_hex` meets its contract. Assumes nothing.
use borrow.Author.Rules.{rules}
use Rattle.script.proofs.Writing.{hex-written}
use Rattle.script.proofs.writer.put_hex.Goals as goal

pub returns : goal.returns
returns c = search (hex-written, rules)
