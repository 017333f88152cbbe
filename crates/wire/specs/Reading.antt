-- What reading a name answers in code.
use Rattle.std.specs.Prelude.{ℕ, Option, List, drop}
use Rattle.wire.specs.Name.{name_length}

-- The length of the name that stands at a place of a slice, if one does.
abbrev pub name_at : List ℕ → ℕ → Option ℕ
name_at s at = name_length (drop at s)
