-- The input as lines. 01, "The replay program": "Standard input lines"; "the last LF may be missing"; "A line over 32,768
-- bytes, LF aside, or unreadable writes ?, 19, -, -".
use Rattle.std.specs.Prelude.{ℕ, suc, ◌≤◌, ◌<◌, Bool, cond, ◌≡◌, List, [], ◌∷◌, ◌++◌, length, take, drop, eqb, ltb}
use Rattle.script.specs.Fields.{until}
use Rattle.script.specs.Line.{max_line}
use Rattle.script.specs.Output.{lf}
use Rattle.script.specs.declared.stream.Taken.{Taken}

-- One more octet in front of the lines that follow it: an LF ends an empty line, any other octet belongs to the first line.
abbrev pub before : List (List ℕ) → ℕ → List (List ℕ)
before [] b = (b ∷ []) ∷ []
before (l ∷ ls) b = (b ∷ l) ∷ ls

-- The lines of an input. Behind an LF a line begins only where an octet follows.
unfoldable pub lines_in : List ℕ → List (List ℕ)
lines_in [] = []
lines_in (b ∷ l) = cond (eqb b lf) ([] ∷ lines_in l) (before (lines_in l) b)

-- As much of a line as is held: one octet more than a line may have tells that it is too long.
abbrev pub room : ℕ
room = suc max_line

unfoldable pub kept : List ℕ → List ℕ
kept line = take room line

-- A line that is held, the input that is left, and whether the line's LF came.
pub record Piece : Type 0 where
  pub held : List ℕ
  pub rest : List ℕ
  pub ended : Bool

-- What a piece of input makes of a line that is held.
unfoldable pub piece_of : List ℕ → List ℕ → Piece
piece_of held input =
    record {
      held = kept (held ++ take (until lf input) input);
      rest = drop (suc (until lf input)) input;
      ended = ltb (until lf input) (length input);
    }

-- Code did so: the line is held at the front of memory that was `line` and is line' then.
pub record Cuts (input line : List ℕ) (held : ℕ) (line' : List ℕ) (r : Taken) : Type 0 where
  pub piece : record { held = take r.held line'; rest = drop r.used input; ended = r.ended } ≡ piece_of (take held line) input
  pub within : r.used ≤ length input
  pub onward : 0 < length input → 0 < r.used
