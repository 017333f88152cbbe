-- What a C host reads from a call's number and values: the answer, as the header says.
use Rattle.std.specs.Prelude.{ℕ, Bool, true, false, cond, List, map, take, get_or, eqb}
use Rattle.dso.specs.declared.judgment.RecordPlaces.{RecordPlaces}
use Rattle.zone.specs.declared.BatchFault.TheVariants.{TooManyEdits, Unreadable, BadValue, StoreFull}
use Rattle.service.specs.declared.refusal.Refusal.{Refusal}
use Rattle.service.specs.declared.refusal.Refusal.TheVariants.{
  NoSession,
  TimeBackwards,
  OutputTooShort,
  AllOpen,
  Batch,
  MessageTooLong,
  NotAName,
}
use Rattle.service.specs.State.{max_sessions}
use Rattle.service.specs.Answer.{Answer, done, opened, ended, sent, not_ours, aborted, reconfirm, refused}
use Rattle.service.specs.Call.{Call, opens, closes, receives, edits, ticks}
use Rattle.words.specs.Words.{truth}

-- 01, "The answer numbers", from 10 on.
abbrev pub refusal_from : ℕ → Refusal
refusal_from r =
    cond (eqb r 10) NoSession
    (cond (eqb r 11) TimeBackwards
    (cond (eqb r 12) OutputTooShort
    (cond (eqb r 13) AllOpen
    (cond (eqb r 14) (Batch Unreadable)
    (cond (eqb r 15) (Batch BadValue)
    (cond (eqb r 16) (Batch TooManyEdits) (cond (eqb r 17) (Batch StoreFull) (cond (eqb r 18) MessageTooLong NotAName))))))))

-- Start and length of the name, of the type, of the class and of the RDATA.
abbrev pub places_from : List ℕ → RecordPlaces
places_from v =
    record {
      name = record { start = get_or v 0 0; len = get_or v 1 0 };
      rtype = record { start = get_or v 2 0; len = get_or v 3 0 };
      class = record { start = get_or v 4 0; len = get_or v 5 0 };
      rdata = record { start = get_or v 6 0; len = get_or v 7 0 };
    }

-- What 1 says, by the call: which session was opened, which were aborted, or nothing more.
abbrev pub done_from : Call → List ℕ → Answer
done_from (opens t) v = opened (get_or v 0 0)
done_from (closes t s) v = done
done_from (receives t s m output) v = done
done_from (edits t b output) v = done
done_from (ticks t) v = ended (map truth (take max_sessions v))

unfoldable pub answer_from : Call → ℕ → List ℕ → Answer
answer_from c r v =
    cond (eqb r 1) (done_from c v)
    (cond (eqb r 2) (sent (take max_sessions v))
    (cond (eqb r 3) not_ours (cond (eqb r 4) aborted (cond (eqb r 5) (reconfirm (places_from v)) (refused (refusal_from r))))))

-- Close is lent no values.
abbrev pub has_values : Call → Bool
has_values (opens t) = true
has_values (closes t s) = false
has_values (receives t s m output) = true
has_values (edits t b output) = true
has_values (ticks t) = true
