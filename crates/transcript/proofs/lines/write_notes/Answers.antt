-- `write_notes`: session by session.
use Rattle.std.proofs.Common.{rules, arith}
use Rattle.transcript.proofs.Telling.{lines, lines-turn, written-within}
use Rattle.transcript.proofs.lines.write_notes.Goals as goal

pub loop-s-init : goal.loop-s-init
loop-s-init c = search (lines, rules)

pub loop-s-preserved : goal.loop-s-preserved
loop-s-preserved c =
    let w = lines-turn _ _ _ _ _ _ _ c.loop-s.invariant.written (omega arith) _ (search rules) _ _ _ c.write_note-next.ensures (omega arith) in
    record { written = w; within = written-within _ _ _ _ _ w }
