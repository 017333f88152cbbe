-- The checks that calls share, in 01's order: 12, 11, 10, 18.
use Rattle.std.specs.Prelude.{ℕ, ◌*◌, Bool, true, false, cond, ◌||◌, leb, ltb}
use Rattle.std.proofs.Math.Option.{Option, none, some}
use Rattle.service.specs.State.{State, Slot, free, live, slot_at, max_sessions}
use Rattle.service.specs.declared.refusal.Refusal.{Refusal}
use Rattle.service.specs.declared.refusal.Refusal.TheVariants.{
  NoSession,
  TimeBackwards,
  OutputTooShort,
  MessageTooLong,
}

-- 01: "The caller lends four shelves of 16,384 bytes each, one slice of 65,536; session s writes from s x 16,384."
abbrev pub output_size : ℕ
output_size = 16384

abbrev pub least_output : ℕ
least_output = max_sessions * output_size

-- 01: "Message: 65,535 bytes."
abbrev pub max_message : ℕ
max_message = 65535

-- What a call brings to be checked: its time, and the length of its output slice, its session number and the length of its
-- message, where it has them.
pub record Brought : Type 0 where
  pub output : Option ℕ
  pub time : ℕ
  pub session : Option ℕ
  pub message : Option ℕ

abbrev pub is_short : Option ℕ → Bool
is_short none = false
is_short (some n) = ltb n least_output

abbrev pub is_free : Slot → Bool
is_free free = true
is_free (live s) = false

-- 10: "number above 3, or no open session there".
abbrev pub is_absent : State → Option ℕ → Bool
is_absent st none = false
is_absent st (some s) = leb max_sessions s || is_free (slot_at st s)

abbrev pub is_long : Option ℕ → Bool
is_long none = false
is_long (some n) = ltb max_message n

unfoldable pub refusal_of : State → Brought → Option Refusal
refusal_of st b =
    cond (is_short b.output) (some OutputTooShort)
    (cond (ltb b.time st.latest) (some TimeBackwards)
    (cond (is_absent st b.session) (some NoSession) (cond (is_long b.message) (some MessageTooLong) none)))
