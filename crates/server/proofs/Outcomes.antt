-- What the calls give, from what their parts ensure.
use Prim.Native.Nat.{ℕ}
use native.Mathlib.Omega.{arith}
use mathlib.Core.Bool.{Bool}
use mathlib.Core.List.{List, [], map}
use mathlib.Core.Option.{none, some}
use Rattle.std.specs.Prelude.{Option, Some, None, Result, Ok, Err}
use mathlib.Core.Path.{◌≡◌, refl, sym, ap, ◌∙◌}
use lib.ListN.{set}
use Rattle.session.specs.Clocks.{started}
use Rattle.service.specs.State.{State, Slot, live, lowest_free}
use Rattle.service.specs.Answer.{opened}
use Rattle.service.specs.Checks.{refusal_of}
use Rattle.service.specs.Call.{Call, brought, lent, refuse, with_slots, passed, outcome, open_outcome, close_outcome, tick_outcome, ends_at}
use Rattle.service.specs.declared.refusal.Refusal.{Refusal}
use Rattle.service.specs.declared.refusal.Refusal.TheVariants.{AllOpen}
use Rattle.server.specs.declared.state.Server.{Server}
use Rattle.server.specs.declared.answer.Outcome.{Outcome}
use Rattle.server.specs.declared.change.Change.{Change}
use Rattle.server.specs.declared.change.Change.TheVariants.{Opens, Closes, Ends}
use Rattle.server.specs.declared.checks.Brought.{Brought}
use Rattle.server.specs.Memory.{Memory, area_at, state_of}
use Rattle.server.specs.Numbers.{vacancy, newcomer}
use Rattle.server.specs.Changes.{change_answer, change_numbers, answer_by, numbers_by, decided_by}
use Rattle.server.specs.Checks.{option_of, brought_of, refused_by}
use Rattle.server.specs.Answers.{Gives, answer_of, refusing}
use Rattle.server.proofs.States.{state-put, slot-vacancy, slot-newcomer}
use Rattle.server.proofs.Ticks.{state-ticked}

-- ---- what an outcome is, where a part of it is known

outcome-refused : (st : State) (call : Call) (x : Refusal) → refusal_of st (brought call) ≡ some x → outcome st call ≡ refuse st (lent call) x
unfolding outcome
outcome-refused st call x e = rw (e, outcome)

outcome-passed : (st : State) (call : Call) → refusal_of st (brought call) ≡ none → outcome st call ≡ passed st call
unfolding outcome
outcome-passed st call e = rw (e, outcome)

open_none : (st : State) (t : ℕ) → lowest_free st.slots ≡ none → open_outcome st t ≡ refuse st [] AllOpen
unfolding open_outcome
open_none st t e = rw (e, open_outcome)

open-some : (st : State) (t i : ℕ) → lowest_free st.slots ≡ some i
    → open_outcome st t
    ≡ record {
      answer = opened i;
      next = with_slots t (set st.slots i (live (record { subscriptions = []; clocks = started t }))) st;
      output = [];
    }
unfolding open_outcome
open-some st t i e = rw (e, open_outcome)

-- ---- the checks decide first

gives-refusing : (s : Server) (x : Refusal) (m : Memory) (o : List ℕ) → Gives s (refusing s x) m o (refuse (state_of s m) o x)
unfolding answer_of
gives-refusing s x m o = record { next = refl; answer = refl; output = refl; unchanged = λ y p. refl }

-- The checks' answer k to what the call brings.
module _ (s : Server) (call : Call) (b : Brought) (e : brought_of b ≡ brought call) (k : Result Unit Refusal)
    (h : (m : Memory) → refused_by k ≡ refusal_of (state_of s m) (brought_of b)) where
  pub gives-refused : (x : Refusal) → k ≡ Err x → (r : Outcome) → r ≡ refusing s x → (m : Memory)
      → Gives s r m (lent call) (outcome (state_of s m) call)
  gives-refused x p r f m =
      rw (outcome-refused (state_of s m) call x (ap (refusal_of (state_of s m)) (sym e) ∙ sym (h m) ∙ ap refused_by p), f)
      (gives-refusing s x m (lent call))

  pub gives-passed : (u : Unit) → k ≡ Ok u → (r : Outcome) (m m' : Memory) (o : List ℕ)
      → Gives s r m' o (passed (state_of s m) call) → Gives s r m' o (outcome (state_of s m) call)
  gives-passed u p r m m' o g =
      rw (outcome-passed (state_of s m) call (ap (refusal_of (state_of s m)) (sym e) ∙ sym (h m) ∙ ap refused_by p)) g

  -- A decision passes the checks' refusal on.
  pub gives-refusal : (x : Refusal) → k ≡ Err x → (t : ℕ) (d : Result Change Refusal) → d ≡ Err x → (m : Memory)
      → Gives s (decided_by s t d) m (lent call) (outcome (state_of s m) call)
  unfolding numbers_by answer_by
  gives-refusal x p t d q m = rw q (gives-refused x p (decided_by s t (Err x)) refl m)

-- ---- open

module _ (s : Server) (t : ℕ) (v : Option ℕ) (h : (m : Memory) → option_of v ≡ lowest_free (state_of s m).slots) where
  pub gives-all-open : v ≡ None → (d : Result Change Refusal) → d ≡ Err AllOpen → (m : Memory)
      → Gives s (decided_by s t d) m [] (open_outcome (state_of s m) t)
  unfolding numbers_by answer_by
  gives-all-open e d q m = rw (open_none (state_of s m) t (sym (h m) ∙ ap option_of e), q) (gives-refusing s AllOpen m [])

  pub gives-opened : (i : ℕ) → v ≡ Some i → (m : Memory) → Gives s (decided_by s t (Ok (Opens i))) m [] (open_outcome (state_of s m) t)
  unfolding numbers_by answer_by change_numbers change_answer answer_of
  gives-opened i e m =
      rw (open-some (state_of s m) t i (sym (h m) ∙ ap option_of e))
      (record {
        next =
            state-put t i (newcomer t) s m
            ∙ ap (λ (y : Slot). with_slots t (set (state_of s m).slots i y) (state_of s m)) (slot-newcomer t (area_at i m));
        answer = refl;
        output = refl;
        unchanged = λ y p. absurd (let q : ◌≡◌ {A = ℕ} 0 1 = cc in omega arith);
      })

-- ---- close

pub gives-closed : (s : Server) (t i : ℕ) (m : Memory) → Gives s (decided_by s t (Ok (Closes i))) m [] (close_outcome (state_of s m) t i)
unfolding numbers_by answer_by change_numbers change_answer close_outcome answer_of
gives-closed s t i m =
    record {
      next =
          state-put t i vacancy s m
          ∙ ap (λ (y : Slot). with_slots t (set (state_of s m).slots i y) (state_of s m)) (slot-vacancy (area_at i m));
      answer = refl;
      output = refl;
      unchanged = λ y p. absurd (let q : ◌≡◌ {A = ℕ} 0 1 = cc in omega arith);
    }

-- ---- tick

pub gives-ticked : (s : Server) (t : ℕ) (f : List Bool) → ((m : Memory) → f ≡ map (ends_at t) (state_of s m).slots)
    → (m : Memory) → Gives s (decided_by s t (Ok (Ends f))) m [] (tick_outcome (state_of s m) t)
unfolding numbers_by answer_by change_numbers change_answer tick_outcome answer_of
gives-ticked s t f h m =
    record {
      next = state-ticked t f s m (h m);
      answer = rw (h m);
      output = refl;
      unchanged = λ y e. absurd (let n : ◌≡◌ {A = ℕ} 0 1 = cc in omega arith);
    }
