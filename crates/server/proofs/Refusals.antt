-- The shared checks: each answers in its turn.
use Prim.Native.Nat.{ℕ}
use mathlib.Core.Bool.{Bool, false}
use Rattle.std.specs.Prelude.{Option, Some, None, MatchOption}
use mathlib.Core.Path.{◌≡◌, sym, ap₂, ◌∙◌}
use Rattle.service.specs.State.{slot_at}
use Rattle.service.specs.Checks as Service
use Rattle.service.specs.Checks.{is_short, is_free, is_absent, is_long, refusal_of, least_output, max_message}
use Rattle.server.specs.declared.state.Server.{Server}
use Rattle.server.specs.Memory.{Memory, state_of}
use Rattle.server.specs.Checks.{option_of, first_of, tested_of}
use Rattle.server.proofs.Vacancies.{free_past}

-- ---- a number that a call has or has not

-- Past the last place there is no session. P is what the test of a number gave.
pub absent-by : (s : Server) (o : Option ℕ) (r : Bool) {P : ℕ → Type 0} → MatchOption o (r ≡ false) P
    → ((i : ℕ) → P i → (m : Memory) → r ≡ is_free (slot_at (state_of s m) i))
    → (m : Memory) → r ≡ is_absent (state_of s m) (option_of o)
absent-by s None r h k m = h
absent-by s (Some i) r h k m = k i h m ∙ sym (free_past s m i)

-- ---- the four in their order

pub tested-refusal : (s : Server) (m : Memory) (b : Service.Brought) (latest : ℕ) → latest ≡ s.latest → (absent : Bool)
    → absent ≡ is_absent (state_of s m) b.session → tested_of latest absent b ≡ refusal_of (state_of s m) b
unfolding refusal_of state_of first_of
tested-refusal s m b latest p absent q = ap₂ (λ (l : ℕ) (a : Bool). tested_of l a b) p q
