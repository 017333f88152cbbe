-- `script::reader::decode` meets its contract. The loop's invariant: `i` octets are decoded. Assumes nothing.
use Rattle.script.proofs.Bytes.{Decoding}
use Rattle.script.proofs.reader.decode.Given as goal

abbrev pub invariant-loop-i : goal.invariant-loop-i
invariant-loop-i l = Decoding l.s l.initial.bytes l.bytes l.i
