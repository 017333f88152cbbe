-- `script::writer::hex` meets its contract. The loop's invariant: the first `i` octets are written. Assumes nothing.
use Rattle.std.proofs.Common.{◌≡◌, take}
use Rattle.std.proofs.lemmas.List.Edits.{sets}
use Rattle.script.specs.Hex.{hex_octets}
use Rattle.script.proofs.writer.hex.Given as goal

abbrev pub invariant-loop-i : goal.invariant-loop-i
invariant-loop-i l = l.out ≡ sets l.fn.out 0 (hex_octets (take l.i l.bytes))
