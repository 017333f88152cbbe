-- How the observer reads the bytes that a session was sent.
use Rattle.std.specs.Prelude.{ℕ, ◌*◌, Bool, false, ◌&&◌, List, [], ◌∷◌, get_or, take, drop, eqb}
use Rattle.std.proofs.Math.Option.{Option, none, some}
use Rattle.dso.specs.Header.{is_response, rcode}
use Rattle.push.specs.Change.{Change}
use Rattle.push.specs.Frames.{frames_in, push_in}
use Rattle.service.specs.Answer.{Answer, done, opened, ended, sent, not_ours, aborted, reconfirm, refused}
use Rattle.service.specs.Checks.{output_size}

-- How many bytes an answer states for a session: "the stated count of bytes stands at each shelf's start" (answer 2).
abbrev pub count_for : Answer → ℕ → ℕ
count_for done s = 0
count_for (opened n) s = 0
count_for (ended flags) s = 0
count_for (sent counts) s = get_or counts s 0
count_for not_ours s = 0
count_for aborted s = 0
count_for (reconfirm places) s = 0
count_for (refused r) s = 0

-- The bytes stated as written for a session, in the output slice as the call left it.
unfoldable pub bytes_for : Answer → List ℕ → ℕ → List ℕ
bytes_for a output s = take (count_for a s) (drop (s * output_size) output)

-- The messages that a session was sent: the bytes without their length prefixes; none where the bytes are not whole ones.
abbrev pub or_none : Option (List (List ℕ)) → List (List ℕ)
or_none none = []
or_none (some ms) = ms

unfoldable pub messages_in : List ℕ → List (List ℕ)
messages_in bytes = or_none (frames_in 0 bytes)

-- Whether the first message is a reply with RCODE 0.
abbrev pub is_success : List (List ℕ) → Bool
is_success [] = false
is_success (m ∷ ms) = is_response m && eqb (rcode m) 0

abbrev pub also_push : Option (List Change) → Option (List (List Change)) → Option (List (List Change))
also_push none ps = none
also_push (some cs) none = none
also_push (some cs) (some ps) = some (cs ∷ ps)

abbrev pub all_pushes : List (List ℕ) → Option (List (List Change))
all_pushes [] = some []
all_pushes (m ∷ ms) = also_push (push_in m) (all_pushes ms)

abbrev pub pushes_of : Option (List (List ℕ)) → Option (List (List Change))
pushes_of none = none
pushes_of (some ms) = all_pushes ms

-- The changes of each PUSH where the bytes are PUSH messages and nothing else; none where they are not.
unfoldable pub pushes_in : List ℕ → Option (List (List Change))
pushes_in bytes = pushes_of (frames_in 0 bytes)
