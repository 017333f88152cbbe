-- Answers, with their values, and 01's number of each ("The answer numbers").
use Rattle.std.specs.Prelude.{ℕ, Bool, List}
use Rattle.dso.specs.declared.judgment.RecordPlaces.{RecordPlaces}
use Rattle.zone.specs.declared.BatchFault.{BatchFault}
use Rattle.zone.specs.declared.BatchFault.TheVariants.{TooManyEdits, Unreadable, BadValue, StoreFull}
use Rattle.service.specs.declared.refusal.Refusal.{Refusal}
use Rattle.service.specs.declared.refusal.Refusal.TheVariants.{
  NoSession,
  TimeBackwards,
  OutputTooShort,
  AllOpen,
  Batch,
  MessageTooLong,
  NotAName,
}

pub data Answer : Type 0 where
  -- Done, nothing to send.
  done : Answer
  -- Done: the number of the session that is now open.
  opened : ℕ → Answer
  -- Done: for each session, whether it was aborted.
  ended : List Bool → Answer
  -- Done: for each session, how many bytes stand at its output's start.
  sent : List ℕ → Answer
  -- The opcode is not 6.
  not_ours : Answer
  -- The session was forcibly aborted.
  aborted : Answer
  -- RECONFIRM, with the places of its four parts in the message.
  reconfirm : RecordPlaces → Answer
  refused : Refusal → Answer

unfoldable pub fault_number : BatchFault → ℕ
fault_number Unreadable = 14
fault_number BadValue = 15
fault_number TooManyEdits = 16
fault_number StoreFull = 17

unfoldable pub refusal_number : Refusal → ℕ
refusal_number NoSession = 10
refusal_number TimeBackwards = 11
refusal_number OutputTooShort = 12
refusal_number AllOpen = 13
refusal_number (Batch f) = fault_number f
refusal_number MessageTooLong = 18
refusal_number NotAName = 20

unfoldable pub answer_number : Answer → ℕ
answer_number done = 1
answer_number (opened s) = 1
answer_number (ended flags) = 1
answer_number (sent counts) = 2
answer_number not_ours = 3
answer_number aborted = 4
answer_number (reconfirm places) = 5
answer_number (refused r) = refusal_number r
