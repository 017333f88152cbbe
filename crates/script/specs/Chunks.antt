-- The whole input in chunks, as a program reads it: each is cut (`script::cut`) again and again.
use Rattle.std.specs.Prelude.{ℕ, true, false, ◌≡◌, List, [], ◌∷◌, ◌++◌}
use Rattle.script.specs.Stream.{piece_of}

-- A chunk of input behind a line that is held, cut again and again: the lines that end in it, and what is held behind them.
pub data Feeds : List ℕ → List ℕ → List (List ℕ) → List ℕ → Type 0 where
  used : {held input : List ℕ} → (piece_of held input).ended ≡ false → Feeds held input [] (piece_of held input).held
  ends : {held input : List ℕ} {lines : List (List ℕ)} {last : List ℕ} → (piece_of held input).ended ≡ true
      → Feeds [] (piece_of held input).rest lines last → Feeds held input ((piece_of held input).held ∷ lines) last

-- Chunk by chunk.
pub data Reads : List ℕ → List (List ℕ) → List (List ℕ) → List ℕ → Type 0 where
  over : {held : List ℕ} → Reads held [] [] held
  more : {held chunk middle last : List ℕ} {chunks lines others : List (List ℕ)} → Feeds held chunk lines middle
      → Reads middle chunks others last → Reads held (chunk ∷ chunks) (lines ++ others) last

-- Where the input ends without LF, what is held is the last line.
abbrev pub unended : List ℕ → List (List ℕ)
unended [] = []
unended (b ∷ l) = (b ∷ l) ∷ []

-- The whole input.
abbrev pub joined : List (List ℕ) → List ℕ
joined [] = []
joined (c ∷ cs) = c ++ joined cs
