-- Memory as blocks of one size, one behind the other, and a list without one of its members.
use Rattle.std.specs.Prelude.{ℕ, zero, suc, cond, List, [], ◌∷◌, take, drop, leb}
use Rattle.std.proofs.lemmas.List.Edits.{sets}
use Rattle.wire.specs.Field.{field}
use Rattle.wire.specs.Part.{part}

-- The first n blocks of `size` octets. Where the memory ends early the last ones are short or empty.
unfoldable pub blocks : ℕ → ℕ → List ℕ → List (List ℕ)
blocks size zero a = []
blocks size (suc n) a = take size a ∷ blocks size n (drop size a)

-- A list without the member at an index; the list itself where there is none.
unfoldable pub cut : {A : Type 0} → ℕ → List A → List A
cut i [] = []
cut zero (x ∷ l) = l
cut (suc i) (x ∷ l) = x ∷ cut i l

-- n octets moved from a place down to another, as many as there are; nothing is moved up.
unfoldable pub slid : List ℕ → ℕ → ℕ → ℕ → List ℕ
slid a to from n = cond (leb to from) (sets a to (part a from n)) a

-- The octets from a place of a block on, of which the octet at another place says how many.
abbrev pub text_at : List ℕ → ℕ → ℕ → List ℕ
text_at b counted from = part b from (field 1 (drop counted b))
