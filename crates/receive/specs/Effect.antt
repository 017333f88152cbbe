-- What the code hands back for a message, as the effect that the service's definition gives.
use Rattle.std.specs.Prelude.{ℕ, List, [], ◌≡◌, length}
use Rattle.std.proofs.lemmas.List.Edits.{sets}
use Rattle.session.specs.declared.clocks.Clocks.{Clocks}
use Rattle.session.specs.Table.{subscriptions_of}
use Rattle.service.specs.State.{Session}
use Rattle.service.specs.Message.{Effect as Meant, abort, nothing, reply, others, places}
use Rattle.receive.specs.declared.effect.Received.{Received}
use Rattle.receive.specs.declared.effect.Effect.{Effect}
use Rattle.receive.specs.declared.effect.Effect.TheVariants.{Abort, Nothing, Reply, Others, Places}

-- The session that clocks, a count and memory hold.
abbrev pub session_of : Clocks → ℕ → List ℕ → Session
session_of clocks count area = record { subscriptions = subscriptions_of count area; clocks = clocks }

-- The bytes that an effect has written for its session.
abbrev pub bytes_of : Meant → List ℕ
bytes_of abort = []
bytes_of (nothing s) = []
bytes_of (reply s w) = w
bytes_of (others s) = []
bytes_of (places s p) = []

-- An effect in code, on a session and with bytes.
abbrev pub effect_on : Effect → Session → List ℕ → Meant
effect_on Abort s w = abort
effect_on Nothing s w = nothing s
effect_on (Reply n) s w = reply s w
effect_on Others s w = others s
effect_on (Places p) s w = places s p

-- How many bytes it says are written.
abbrev pub bytes_in : Effect → ℕ
bytes_in Abort = 0
bytes_in Nothing = 0
bytes_in (Reply n) = n
bytes_in Others = 0
bytes_in (Places p) = 0

abbrev pub effect_is : Received → List ℕ → List ℕ → Meant
effect_is r area w = effect_on r.effect (session_of r.clocks r.count area) w

-- What is handed back, and with a reply of these bytes.
abbrev pub handed : Clocks → ℕ → Effect → Received
handed clocks count effect = record { clocks = clocks; count = count; effect = effect }

abbrev pub replied : Clocks → ℕ → List ℕ → Received
replied clocks count w = handed clocks count (Reply (length w))

-- Bytes written from the front of the output on, and how many they are.
pub record Writes (w : List ℕ) (n : ℕ) (before after : List ℕ) : Type 0 where
  pub counted : n ≡ length w
  pub written : after ≡ sets before 0 w

-- Code does what an effect says: what it hands back, with the table of subscriptions as it is then, is the effect; the
-- effect's bytes, and they alone, are written, from the front of the output on; and they are as many as is said.
pub record Does (e : Meant) (r : Received) (area before after : List ℕ) : Type 0 where
  pub means : e ≡ effect_is r area (bytes_of e)
  pub written : after ≡ sets before 0 (bytes_of e)
  pub counted : bytes_in r.effect ≡ length (bytes_of e)
