-- What a call gives to one session and leaves of it: a function of the zone, the store, the session itself and the call. No
-- other session has a part in it.
use Prim.Native.Nat.{ℕ, ◌≤◌}
use mathlib.Core.Bool.{true, false, cond}
use mathlib.Core.List.{List, []}
use mathlib.Core.Option.{Option, none, some}
use mathlib.Core.Path.{◌≡◌, refl}
use lib.ListN.{length}
use lib.Dec.{eqb}
use borrow.Author.Tests.{not-true, le-ltb}
use Rattle.zone.specs.Record.{Record}
use Rattle.zone.specs.Batch.{batch_of, Edited, stored, faulty}
use Rattle.zone.proofs.Lists.{clash}
use Rattle.service.specs.State.{State, Session, Slot, free, live}
use Rattle.service.specs.Answer.{Answer, done, sent, not_ours, aborted, reconfirm, refused}
use Rattle.service.specs.Checks.{Brought, is_free, is_short, is_absent, is_long, refusal_of}
use Rattle.service.specs.Message.{Effect, abort, nothing, reply, others, places, message_effect}
use Rattle.service.specs.Call.{Call, opens, closes, receives, edits, ticks, brought, ends_at, push_to}
use Rattle.service.specs.declared.refusal.Refusal.{Refusal}
use Rattle.service.specs.declared.refusal.Refusal.TheVariants.{OutputTooShort, MessageTooLong, Batch}
use Rattle.service.specs.Isolation.{is_others, Same, open-too, close-too, message-too, batch-too, tick-too, Seen}
use Rattle.service.proofs.Replies.{counts}

pub record Share : Type 0 where
  pub answer : Option Answer
  pub bytes : List ℕ
  pub slot : Slot

abbrev pub seen_of : Share → Seen
seen_of x = record { answer = x.answer; count = length x.bytes; bytes = x.bytes; ended = is_free x.slot }

-- It gets nothing, and is as it was.
abbrev pub untouched : Session → Share
untouched y = record { answer = none; bytes = []; slot = live y }

-- The share of a call under the number n: the session's own, or another's.
abbrev pub own_share : ℕ → ℕ → Session → Share → Share
own_share s n y x = cond (eqb n s) x (untouched y)

-- What the checks refuse where the time doesn't go back and the session lives.
abbrev pub lacking : Brought → Option Refusal
lacking b = cond (is_short b.output) (some OutputTooShort) (cond (is_long b.message) (some MessageTooLong) none)

pub refusal-lacking : (st : State) (b : Brought) → st.latest ≤ b.time → is_absent st b.session ≡ false
    → refusal_of st b ≡ lacking b
unfolding refusal_of
refusal-lacking st b early present = rw (le-ltb b.time st.latest early, present)

abbrev pub checked_share : Session → Option Refusal → Share → Share
checked_share y none x = x
checked_share y (some g) x = record { answer = some (refused g); bytes = []; slot = live y }

-- Of an effect on its slot.
abbrev pub effect_share : ℕ → Effect → Share
effect_share s abort = record { answer = some aborted; bytes = []; slot = free }
effect_share s (nothing x) = record { answer = some done; bytes = []; slot = live x }
effect_share s (reply x w) = record { answer = some (sent (counts s (length w))); bytes = w; slot = live x }
effect_share s (others x) = record { answer = some not_ours; bytes = []; slot = live x }
effect_share s (places x r) = record { answer = some (reconfirm r); bytes = []; slot = live x }

abbrev pub batch_share : Session → List Record → Edited → Share
batch_share y store (faulty f) = record { answer = some (refused (Batch f)); bytes = []; slot = live y }
batch_share y store (stored new) = record { answer = some done; bytes = push_to store new (live y); slot = live y }

abbrev pub share : List ℕ → List Record → Session → ℕ → Call → Share
share zone store y s (opens t) = untouched y
share zone store y s (closes t n) = own_share s n y (record { answer = some done; bytes = []; slot = free })
share zone store y s (receives t n m o) =
    own_share s n y
    (checked_share y (lacking (brought (receives t n m o))) (effect_share s (message_effect zone store t m.list y)))
share zone store y s (edits t b o) =
    checked_share y (lacking (brought (edits t b o))) (batch_share y store (batch_of zone b.list store))
share zone store y s (ticks t) = record { answer = none; bytes = []; slot = cond (ends_at t (live y)) free (live y) }

-- The same call has the same share, whatever the lent slices hold.
pub same-share : (zone : List ℕ) (store : List Record) (y : Session) (s : ℕ) {c d : Call} → Same c d
    → share zone store y s c ≡ share zone store y s d
same-share zone store y s (open-too t) = refl
same-share zone store y s (close-too t n) = refl
same-share zone store y s (message-too t n m m' o o' e k) = rw (e, k)
same-share zone store y s (batch-too t b b' o o' e k) = rw (e, k)
same-share zone store y s (tick-too t) = refl

-- Another session's message has none.
pub others-share : (zone : List ℕ) (store : List Record) (y : Session) (s : ℕ) (c : Call) → is_others (some s) c ≡ true
    → share zone store y s c ≡ untouched y
others-share zone store y s (opens t) e = refl
others-share zone store y s (closes t n) e = clash false e refl
others-share zone store y s (receives t n m o) e = rw (not-true (eqb n s) e)
others-share zone store y s (edits t b o) e = clash false e refl
others-share zone store y s (ticks t) e = clash false e refl
