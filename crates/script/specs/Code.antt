-- What the code answers, in the words of the definitions.
use Rattle.std.specs.Prelude.{ℕ, ◌+◌, min, ◌≡◌, List, length, take, Option, Some, None}
use Rattle.std.proofs.lemmas.List.Edits.{sets}
use Rattle.script.specs.Line.{Line}
use Rattle.script.specs.declared.reader.Command.{Command}
use Rattle.script.specs.declared.reader.Command.TheVariants.{Open, Close, Message, Batch, Tick}

-- The line that a command is, its octets at the front of the lent memory; an unreadable one is no command.
abbrev pub command_line : Option Command → List ℕ → Line
command_line (Some (Open t)) o = Line.opening t
command_line (Some (Close t s)) o = Line.closing t s
command_line (Some (Message t s n)) o = Line.message t s (take n o)
command_line (Some (Batch t n)) o = Line.batch t (take n o)
command_line (Some (Tick t)) o = Line.ticking t
command_line None o = Line.unreadable

-- A command without octets is the same line whatever stands in the lent memory.
pub record Is (r : Option Command) (line : Line) : Type 0 where
  pub whatever : (o : List ℕ) → command_line r o ≡ line

-- Octets written from a place of o on gave p; the next free place is r, which is the end where they did not all fit.
pub record Written (o : List ℕ) (at : ℕ) (text p : List ℕ) (r : ℕ) : Type 0 where
  pub whole : p ≡ sets o at text
  pub next : r ≡ min (at + length text) (length o)
