-- The part of a list that a slice of it is: n elements from a place on.
use Rattle.std.specs.Prelude.{ℕ, List, take, drop}

abbrev pub part : List ℕ → ℕ → ℕ → List ℕ
part o a n = take n (drop a o)
