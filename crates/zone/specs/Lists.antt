-- Lists by a test.
use Rattle.std.specs.Prelude.{Bool, true, false, ◌&&◌, ◌||◌, List, [], ◌∷◌}

module _ {A : Type 0} where
  abbrev pub only_if : Bool → A → List A → List A
  only_if true a l = a ∷ l
  only_if false a l = l

  -- The members that pass a test, in their order.
  abbrev pub keep : (A → Bool) → List A → List A
  keep p [] = []
  keep p (a ∷ l) = only_if (p a) a (keep p l)

  -- Whether one member passes; whether all do.
  abbrev pub any_of : (A → Bool) → List A → Bool
  any_of p [] = false
  any_of p (a ∷ l) = p a || any_of p l

  abbrev pub all_of : (A → Bool) → List A → Bool
  all_of p [] = true
  all_of p (a ∷ l) = p a && all_of p l
