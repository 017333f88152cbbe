-- The state of the server (01: the dock).
use Rattle.std.specs.Prelude.{ℕ, List, [], ◌∷◌, get_or, replicate, suc}
use Rattle.std.proofs.Math.Option.{Option, none, some, map}
use Rattle.zone.specs.Record.{Record}
use Rattle.zone.specs.Match.{Subscription}
use Rattle.session.specs.declared.clocks.Clocks.{Clocks}

-- 01: "four sessions (0 to 3)".
abbrev pub max_sessions : ℕ
max_sessions = 4

pub record Session : Type 0 where
  pub subscriptions : List Subscription
  pub clocks : Clocks

-- A session's place: nobody has it, or a session lives there.
pub data Slot : Type 0 where
  free : Slot
  live : Session → Slot

-- The zone's name; the latest accepted time; the records in store order; a slot for each session number.
pub record State : Type 0 where
  pub zone : List ℕ
  pub latest : ℕ
  pub store : List Record
  pub slots : List Slot

abbrev pub slot_at : State → ℕ → Slot
slot_at st s = get_or st.slots s free

-- "no session open, no record", the clock at 0.
unfoldable pub fresh : List ℕ → State
fresh zone = record { zone = zone; latest = 0; store = []; slots = replicate max_sessions free }

-- 01: "open takes the lowest free number".
unfoldable pub lowest_free : List Slot → Option ℕ
lowest_free [] = none
lowest_free (free ∷ l) = some 0
lowest_free (live s ∷ l) = map suc (lowest_free l)
