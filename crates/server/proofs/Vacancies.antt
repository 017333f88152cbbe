-- Which places are free.
use Prim.Native.Nat.{ℕ, zero, suc}
use mathlib.Core.Bool.{Bool, true, false, not, ◌||◌}
use mathlib.Core.List.{[], ◌∷◌}
use mathlib.Core.Path.{◌≡◌, refl, sym, ap, ◌∙◌}
use lib.ListN.{get_or}
use lib.Dec.{leb}
use Rattle.std.specs.Prelude.{Option}
use Rattle.std.specs.List.{find, range_with_len}
use Rattle.service.specs.State.{Slot, free, live, slot_at, lowest_free, max_sessions}
use Rattle.service.specs.Checks.{is_free}
use Rattle.server.specs.declared.state.Session.{Session}
use Rattle.server.specs.declared.state.Server.{Server}
use Rattle.server.specs.Memory.{Memory, area_at, slot_of, state_of}
use Rattle.server.specs.Numbers.{session_at}
use Rattle.server.specs.Checks.{option_of}
use Rattle.server.proofs.States.{slot-at, slot-free}

pub free_at : (s : Server) (i : ℕ) (x : Session) → x ≡ session_at i s → (m : Memory) → not x.live ≡ is_free (slot_at (state_of s m) i)
free_at s i x e m =
    sym (ap is_free (slot-at s m i) ∙ slot-free (session_at i s) (area_at i m) ∙ ap (λ (y : Session). not y.live) (sym e))

-- Above the last number every place is free.
or-true : (b : Bool) → b || true ≡ true
or-true true = refl
or-true false = refl

pub free_past : (s : Server) (m : Memory) (i : ℕ) → leb max_sessions i || is_free (slot_at (state_of s m) i) ≡ is_free (slot_at (state_of s m) i)
unfolding state_of
free_past s m zero = refl
free_past s m (suc zero) = refl
free_past s m (suc (suc zero)) = refl
free_past s m (suc (suc (suc zero))) = refl
free_past s m (suc (suc (suc (suc i)))) = or-true (leb max_sessions (suc (suc (suc (suc i)))))

-- ---- the lowest free one

lowest-of : (a b c d : Slot)
    → let l = a ∷ b ∷ c ∷ d ∷ [] in
    option_of (find (λ (i : ℕ). is_free (get_or l i free)) (range_with_len 0 max_sessions)) ≡ lowest_free l
unfolding lowest_free
lowest-of free b c d = refl
lowest-of (live x) free c d = refl
lowest-of (live x) (live y) free d = refl
lowest-of (live x) (live y) (live z) free = refl
lowest-of (live x) (live y) (live z) (live w) = refl

-- Of the first free place.
pub lowest-found : (s : Server) (m : Memory) (r : Option ℕ)
    → r ≡ find (λ (i : ℕ). is_free (slot_at (state_of s m) i)) (range_with_len 0 max_sessions)
    → option_of r ≡ lowest_free (state_of s m).slots
unfolding state_of
lowest-found s m r e =
    ap option_of e ∙ lowest-of (slot_of (session_at 0 s) m.s0) (slot_of (session_at 1 s) m.s1) (slot_of (session_at 2 s) m.s2) (slot_of (session_at 3 s) m.s3)
