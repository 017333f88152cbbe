-- 01, "The replay program": "fields parted by tabs".
use Rattle.std.specs.Prelude.{ℕ, suc, ◌≤◌, ◌<◌, Bool, true, false, cond, ◌≡◌, List, [], ◌∷◌, ◌++◌, length, eqb, Option, MatchOption}

abbrev pub tab : ℕ
tab = 9

-- One more octet in front of the fields that follow it: a tab begins a field, any other octet belongs to the first one.
abbrev pub fields_with : Bool → ℕ → List (List ℕ) → List (List ℕ)
fields_with true b fs = [] ∷ fs
fields_with false b [] = (b ∷ []) ∷ []
fields_with false b (f ∷ fs) = (b ∷ f) ∷ fs

-- The fields of a line: one more than it has tabs.
unfoldable pub fields : List ℕ → List (List ℕ)
fields [] = [] ∷ []
fields (b ∷ l) = fields_with (eqb b tab) b (fields l)

-- Fields behind one another, a tab before each but the first.
abbrev pub tabs_before : List (List ℕ) → List ℕ
tabs_before [] = []
tabs_before (f ∷ fs) = tab ∷ (f ++ tabs_before fs)

unfoldable pub tabbed : List (List ℕ) → List ℕ
tabbed [] = []
tabbed (f ∷ fs) = f ++ tabs_before fs

-- How many octets stand before the first x, all of them where there is none: for a tab, the length of the first field.
unfoldable pub until : ℕ → List ℕ → ℕ
until x [] = 0
until x (b ∷ l) = cond (eqb b x) 0 (suc (until x l))

-- Where the first x stands, if one does.
abbrev pub First : ℕ → List ℕ → Option ℕ → Type 0
First x s r = MatchOption r (length s ≤ until x s) (λ i. (i ≡ until x s) × (i < length s))
