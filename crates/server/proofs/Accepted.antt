-- A number above 5 is a refusal's, and no other.
use Prim.Native.Nat.{◌≤◌, ◌<◌}
use native.Mathlib.Omega.{arith}
use mathlib.Core.Path.{◌≡◌, refl}
use Rattle.service.specs.Answer.{answer_number}
use Rattle.service.specs.declared.refusal.Refusal.{Refusal}
use Rattle.service.proofs.Quiet.{refusal-above}
use Rattle.server.specs.Answers.{answer_of, last_accepted}
use Rattle.server.specs.declared.answer.Answer.{Answer}
use Rattle.server.specs.declared.answer.Answer.TheVariants.{Done, Opened, Ended, Sent, NotOurs, Aborted, Reconfirm, Refused}

pub data Kind (a : Answer) : Type 0 where
  accepted : answer_number (answer_of a) ≤ last_accepted → Kind a
  refusing : (x : Refusal) → a ≡ Refused x → Kind a

pub kind : (a : Answer) → Kind a
unfolding answer_number answer_of
kind Done = accepted (omega arith)
kind (Opened s) = accepted (omega arith)
kind (Ended f) = accepted (omega arith)
kind (Sent n) = accepted (omega arith)
kind NotOurs = accepted (omega arith)
kind Aborted = accepted (omega arith)
kind (Reconfirm p) = accepted (omega arith)
kind (Refused x) = refusing x refl

pub above : (a : Answer) (x : Refusal) → a ≡ Refused x → last_accepted < answer_number (answer_of a)
unfolding answer_number answer_of
above a x e = rw e (refusal-above x)
