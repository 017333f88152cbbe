-- The lines of the sessions so far are written, and the next free place is within the text.
use Rattle.std.proofs.Common.{◌≤◌, length, take}
use Rattle.script.specs.Code.{Written}
use Rattle.transcript.specs.Lines.{note_lines}
use Rattle.transcript.proofs.lines.write_notes.Given as goal

abbrev pub invariant-loop-s : goal.invariant-loop-s
invariant-loop-s l = record {
  written : Written l.initial.text 0 (note_lines l.verb l.out 0 (take l.s l.fn.notes)) l.text l.next;
  within : l.next ≤ length l.text;
}
