-- Two runs that differ in other sessions' messages, by computation: they meet the premises of isolation, and session 0 gets the
-- same. Nothing here stands on demand 3's proof, so that a wrong service is refused here too.
use Prim.Native.Nat.{ℕ}
use mathlib.Core.Bool.{Bool, true, false}
use mathlib.Core.List.{List, [], ◌∷◌, ◌++◌}
use mathlib.Core.Option.{none, some}
use mathlib.Core.Path.{◌≡◌, refl, sym, ◌∙◌}
use lib.ListN.{length, length-replicate, replicate}
use Rattle.wire.specs.Field.{octets, field}
use Rattle.wire.specs.Name.{labels, name_length, is_name, lower, same_octets, same_name, ends_in, within}
use Rattle.dso.specs.Header.{message_id, flags, is_response, opcode, no_records}
use Rattle.dso.specs.Tlv.{tlvs, tlvs_from}
use Rattle.dso.specs.Judge.{form_of, opening, by_type, judgment, judged, subscribe as judge_subscribe}
use Rattle.dso.specs.Response.{header, tlv_octets, tlvs_octets, framed, response, response_octets}
use Rattle.dso.specs.Match.{asks_for, asks_type, asks_class}
use Rattle.zone.specs.Store.{find, held, put}
use Rattle.zone.specs.Layout.{size, record_octets, read_after, read_record}
use Rattle.zone.specs.Match.{matches_key}
use Rattle.zone.specs.Batch.{allowed, overfull, edit, edited, batch_of}
use Rattle.push.specs.Change.{fields_of}
use Rattle.push.specs.List.{firsts, removals, additions, changes}
use Rattle.push.specs.Octets.{changes_octets, push_message, push_octets, push_of}
use Rattle.session.specs.Clocks.{started, received, expired}
use Rattle.session.specs.Subscriptions.{uses_id, asks_already, is_full}
use Rattle.service.specs.State.{State, fresh, lowest_free}
use Rattle.service.specs.Answer.{answer_number, done, sent}
use Rattle.service.specs.Checks.{refusal_of, least_output}
use Rattle.service.specs.Message.{asked, subscribed, answered, message_effect}
use Rattle.service.specs.Call.{
  Call,
  opens,
  closes,
  receives,
  edits,
  ticks,
  running,
  start,
  written,
  open_outcome,
  effect_outcome,
  message_outcome,
  close_outcome,
  batch_outcome,
  tick_outcome,
  passed,
  outcome,
}
use Rattle.service.specs.Reader.{bytes_for}
use Rattle.service.proofs.Examples.{
  zone,
  host,
  type_a,
  address,
  bytes,
  subscribe,
  puts,
  lent,
  batch,
  after,
  server,
}
use Rattle.service.specs.Isolation.{
  Event,
  event_of,
  Trace,
  stops,
  calls,
  Step,
  onward,
  over,
  both,
  first,
  open-too,
  close-too,
  message-too,
  batch-too,
  tick-too,
  Seen,
  gets,
  Life,
  whole_of,
  Twins,
}

-- The events of calls from a state on.
unfoldable pub ran : State → List Call → List Event
ran st [] = []
ran st (c ∷ cs) = let x = outcome st c in event_of c x ∷ ran x.next cs

-- They are a run of the definitions.
ran-traced : (st : State) (cs : List Call) → Trace Step st (ran st cs)
unfolding ran
ran-traced st [] = stops
ran-traced st (c ∷ cs) = calls (record { answer = refl; output = refl; next = refl }) (ran-traced (outcome st c).next cs)

-- A run around an open at 1,000.
abbrev life : List Call → List Call → Life
life before behind =
    record { before = ran server before; after = ran (after server (before ++ (opens 1000 ∷ []))) behind }

-- Number 0 is that of a session that is gone at 600, and from 1,000 on of ours. (What is written for it stands at the front of the
-- output, which is quick to read.) In the loud run the first one is aborted by a message; session 1 subscribes with the ID that
-- ours uses, and is aborted at 20,000, so that the next open takes its number.
abbrev from : ℕ → ℕ → List ℕ → Call
from s t m = receives t s (bytes m) lent

abbrev loud_before : List Call
loud_before = opens 500 ∷ from 0 500 [] ∷ closes 600 0 ∷ []

abbrev loud_after : List Call
loud_after =
    opens 1000 ∷ from 1 1000 (subscribe 1 zone type_a) ∷ from 0 1000 (subscribe 1 host type_a) ∷ batch (puts (address ∷ []))
    ∷ from 1 20000 [] ∷ opens 20000 ∷ ticks 31000 ∷ []

-- In the silent run other sessions send nothing, and the batch is lent other bytes.
abbrev silent_before : List Call
silent_before = opens 500 ∷ closes 600 0 ∷ []

abbrev silent_after : List Call
silent_after =
    opens 1000 ∷ from 0 1000 (subscribe 1 host type_a) ∷ edits 1000 (bytes (puts (address ∷ []))) (replicate least_output 7)
    ∷ opens 20000 ∷ ticks 31000 ∷ []

-- What session 0 gets: of the opens nothing; the reply to its own message, the batch's PUSH, and its end by the tick.
abbrev unseen : Bool → Seen
unseen ends = record { answer = none; count = 0; bytes = []; ended = ends }

abbrev expected : List Seen
expected =
    unseen false
    ∷ record { answer = some (sent (14 ∷ 0 ∷ 0 ∷ 0 ∷ [])); count = 14; bytes = octets 14 0x000c0001b0000000000000000000; ended = false }
    ∷ record {
      answer = some done;
      count = 48;
      bytes = octets 48 0x002e0000300000000000000000000041001e01610473686f70076578616d706c650000010001000000780004c0000201;
      ended = false;
    }
    ∷ unseen false ∷ unseen true ∷ []

same_length : length lent ≡ length {A = ℕ} (replicate least_output 7)
same_length = length-replicate {A = ℕ} least_output 0xee ∙ sym (length-replicate {A = ℕ} least_output 7)

pub record Pair : Type 0 where
  -- Both are runs from a start, whose open at 1,000 gives session 0.
  pub starts : start zone ≡ running server
  pub loud-run : Trace Step server (whole_of 0 1000 (life loud_before loud_after))
  pub silent-run : Trace Step server (whole_of 0 1000 (life silent_before silent_after))
  -- They differ in other sessions' messages alone, and no time goes back.
  pub twins : Twins 0 1000 (life loud_before loud_after) (life silent_before silent_after)
  pub loud : gets 0 (life loud_before loud_after).after ≡ expected
  pub silent : gets 0 (life silent_before silent_after).after ≡ expected

pub pair : Pair
unfolding octets field labels name_length is_name lower same_octets same_name ends_in within message_id flags is_response opcode no_records tlvs tlvs_from form_of opening by_type judgment judged judge_subscribe header tlv_octets tlvs_octets framed response response_octets asks_for asks_type asks_class find held put size record_octets read_after read_record matches_key allowed overfull edit edited batch_of fields_of firsts removals additions changes changes_octets push_message push_octets push_of started received expired uses_id asks_already is_full fresh lowest_free refusal_of asked subscribed answered message_effect start written open_outcome effect_outcome message_outcome close_outcome batch_outcome tick_outcome passed outcome bytes_for bytes puts after answer_number onward gets ran
pair =
    record {
      starts = refl;
      loud-run = ran-traced server (loud_before ++ (opens 1000 ∷ loud_after));
      silent-run = ran-traced server (silent_before ++ (opens 1000 ∷ silent_after));
      twins = record {
        earlier = both (open-too 500) (first refl (both (close-too 600 0) over));
        later = both (open-too 1000) (first refl (both (message-too 1000 0 _ _ _ _ refl refl) (both (batch-too 1000 _ _ _ _ refl same_length) (first refl (both (open-too 20000) (both (tick-too 31000) over))))));
        times = refl;
        times-too = refl;
      };
      loud = refl;
      silent = refl;
    }
