-- What is brought to the shared checks, and what they say, in the service's terms.
use Rattle.std.specs.Prelude.{ℕ, Bool, cond, not, ◌||◌, leb, ltb, Option, Some, None, Result, Ok, Err}
use Rattle.std.proofs.Math.Option.{none, some}
use Rattle.std.proofs.Math.Option as Math
use Rattle.service.specs.State.{max_sessions}
use Rattle.service.specs.Checks as Service
use Rattle.service.specs.declared.refusal.Refusal.{Refusal}
use Rattle.service.specs.declared.refusal.Refusal.TheVariants.{NoSession, TimeBackwards, OutputTooShort, MessageTooLong}
use Rattle.server.specs.declared.state.Session.{Session}
use Rattle.server.specs.declared.checks.Brought.{Brought}

-- An option of the code, in the service's terms.
abbrev pub option_of : {A : Type 0} → Option A → Math.Option A
option_of None = none
option_of (Some x) = some x

abbrev pub brought_of : Brought → Service.Brought
brought_of b =
    record { output = option_of b.output; time = b.time; session = option_of b.session; message = option_of b.message }

-- What a call brings that brings a time alone.
abbrev pub time_alone : ℕ → Brought
time_alone t = record { output = None; time = t; session = None; message = None }

abbrev pub refused_by : Result Unit Refusal → Math.Option Refusal
refused_by (Ok x) = none
refused_by (Err r) = some r

-- The first of the four that fails.
unfoldable pub first_of : Bool → Bool → Bool → Bool → Math.Option Refusal
first_of short early absent long =
    cond short (some OutputTooShort)
    (cond early (some TimeBackwards) (cond absent (some NoSession) (cond long (some MessageTooLong) none)))

-- The same of what is brought, where the latest time and whether the session is absent are known.
abbrev pub tested_of : ℕ → Bool → Service.Brought → Math.Option Refusal
tested_of latest absent b =
    first_of (Service.is_short b.output) (ltb b.time latest) absent (Service.is_long b.message)

-- 10, by the session's own numbers: "number above 3, or no open session there".
abbrev pub missing : ℕ → Session → Bool
missing i x = leb max_sessions i || not x.live

-- What a message on session i brings, by the lengths of its output slice and of its octets.
abbrev pub message_brought : ℕ → ℕ → ℕ → ℕ → Service.Brought
message_brought t i output n = record { output = some output; time = t; session = some i; message = some n }
