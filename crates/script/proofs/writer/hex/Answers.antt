-- `script::writer::hex` meets its contract. Assumes nothing.
use mathlib.Core.Path.{refl}
use borrow.Author.Rules.{rules}
use Rattle.script.specs.Hex.{hex_octets}
use Rattle.script.proofs.Writing.{hexed-turn, hexed-end}
use Rattle.script.proofs.writer.hex.Goals as goal

pub loop-i-init : goal.loop-i-init
unfolding hex_octets
loop-i-init c = refl

pub loop-i-preserved : goal.loop-i-preserved
loop-i-preserved c = search (hexed-turn, rules)

pub returns : goal.returns
returns c = search (hexed-end, rules)
