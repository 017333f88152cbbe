-- The eight values that go with an answer.
use Rattle.std.specs.Prelude.{ℕ, List, [], ◌∷◌, ◌++◌, map, take, replicate}
use Rattle.dso.specs.declared.judgment.RecordPlaces.{RecordPlaces}
use Rattle.service.specs.Answer.{Answer, done, opened, ended, sent, not_ours, aborted, reconfirm, refused}
use Rattle.words.specs.Words.{flag}

abbrev pub value_count : ℕ
value_count = 8

-- Eight values: those given, then zeros.
abbrev pub eight : List ℕ → List ℕ
eight l = take value_count (l ++ replicate value_count 0)

-- 01, answer 5: "with the places of its four parts in the message", each as start and length.
abbrev pub place_numbers : RecordPlaces → List ℕ
place_numbers p =
    p.name.start ∷ p.name.len ∷ p.rtype.start ∷ p.rtype.len ∷ p.class.start ∷ p.class.len
    ∷ p.rdata.start ∷ p.rdata.len ∷ []

-- What an answer carries: the session that was opened, a yes or no for each session, a count for each session, four places.
abbrev pub carried : Answer → List ℕ
carried done = []
carried (opened s) = s ∷ []
carried (ended flags) = map flag flags
carried (sent counts) = counts
carried not_ours = []
carried aborted = []
carried (reconfirm places) = place_numbers places
carried (refused r) = []

unfoldable pub values_of : Answer → List ℕ
values_of a = eight (carried a)
