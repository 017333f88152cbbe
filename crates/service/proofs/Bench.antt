-- The bench examples of 01, and some of its other rules, settled by one proof: each is computed with the definitions.
use Prim.Native.Nat.{ℕ}
use mathlib.Core.List.{List, [], ◌∷◌, ◌++◌, map}
use mathlib.Core.Option.{Option, some}
use mathlib.Core.Path.{◌≡◌, refl}
use lib.ListN.{length, take, drop, replicate}
use Rattle.wire.specs.Field.{octets, field}
use Rattle.wire.specs.Name.{labels, name_length, is_name, lower, same_octets, same_name, ends_in, within}
use Rattle.dso.specs.Header.{message_id, flags, is_response, opcode, no_records}
use Rattle.dso.specs.Tlv.{tlvs, tlvs_from}
use Rattle.dso.specs.Judge.{
  bad_form,
  form_of,
  opening,
  by_type,
  judgment,
  is_keepalive,
  judged,
  keepalive_type,
  reconfirm_type,
  place,
  keepalive as judge_keepalive,
  subscribe as judge_subscribe,
  unsubscribe as judge_unsubscribe,
  reconfirm as judge_reconfirm,
}
use Rattle.dso.specs.Response.{header, tlv_octets, tlvs_octets, framed, response, response_octets}
use Rattle.dso.specs.Match.{asks_for, asks_type, asks_class}
use Rattle.zone.specs.Record.{Record, same_key}
use Rattle.zone.specs.Store.{find, held, put, remove, with_ttl}
use Rattle.zone.specs.Layout.{size, record_octets, read_after, read_record}
use Rattle.zone.specs.Match.{matches_key}
use Rattle.zone.specs.Batch.{allowed, overfull, edit, edited, batch_of}
use Rattle.push.specs.Change.{
  Change,
  addition,
  removal,
  single,
  rrset,
  all_types,
  covers,
  is_true,
  fields_of,
}
use Rattle.push.specs.List.{widest, alike, chosen, firsts, removals, additions, changes}
use Rattle.push.specs.Octets.{changes_octets, push_message, push_octets, push_of, notified, changes_in}
use Rattle.push.specs.Frames.{frame_of, frames_in, is_unidirectional, push_in}
use Rattle.session.specs.Clocks.{started, received, granted, expired}
use Rattle.session.specs.Subscriptions.{uses_id, asks_already, is_full, without}
use Rattle.service.specs.State.{State, free, slot_at, fresh, lowest_free}
use Rattle.service.specs.Answer.{Answer, opened, done, sent, aborted, reconfirm, refused}
use Rattle.service.specs.Checks.{refusal_of}
use Rattle.service.specs.Message.{asked, subscribed, kept_alive, answered, message_effect}
use Rattle.service.specs.Call.{
  Bytes,
  Call,
  Outcome,
  opens,
  closes,
  receives,
  ticks,
  running,
  start,
  written,
  open_outcome,
  effect_outcome,
  message_outcome,
  close_outcome,
  batch_outcome,
  tick_outcome,
  passed,
  outcome,
}
use Rattle.service.specs.declared.refusal.Refusal.TheVariants.{
  NoSession,
  TimeBackwards,
  OutputTooShort,
  AllOpen,
  MessageTooLong,
}
use Rattle.service.specs.Reader.{bytes_for, pushes_in}
use Rattle.service.proofs.Examples.{
  zone,
  under,
  host,
  host_in_capitals,
  type_a,
  type_txt,
  type_aaaa,
  type_srv,
  type_any,
  class_in,
  address,
  service,
  text,
  address6,
  bytes,
  message_of,
  subscribe,
  keepalive,
  unsubscribe,
  puts,
  deletes,
  lent_from,
  lent,
  message_at,
  message,
  batch,
  outcomes,
  after,
  answers,
  ticked,
  stays,
  ends,
  server,
  ready,
  watched,
  bytes_in,
  sent0,
  reply_flags,
  pushed,
  subscriptions_of,
}

-- The octets of the run in 01, "The replay program".
abbrev pub paper_batch : List ℕ
paper_batch = octets 30 0x01610473686f70076578616d706c650000010001000000780004c0000201

abbrev pub paper_message : List ℕ
paper_message = octets 36 0x1234300000000000000000000040001401610473686f70076578616d706c650000010001

abbrev pub paper_reply : List ℕ
paper_reply = octets 62 0x000c1234b0000000000000000000002e0000300000000000000000000041001e01610473686f70076578616d706c650000010001000000780004c0000201

-- A name of 206 octets: three labels of 63 in front of shop.example.
abbrev pub long : List ℕ
long = under 63 (under 63 (under 63 zone))

-- The flags of the reply to a SUBSCRIBE for a name.
abbrev pub flags_for : List ℕ → ℕ
flags_for name = reply_flags (outcome ready (message (subscribe 1 name type_a)))

-- A SUBSCRIBE whose ID and type are one number, so that no two of them are the same question.
abbrev pub numbered : ℕ → Call
numbered n = message (subscribe n host n)

abbrev pub one_to17 : List ℕ
one_to17 = 1 ∷ 2 ∷ 3 ∷ 4 ∷ 5 ∷ 6 ∷ 7 ∷ 8 ∷ 9 ∷ 10 ∷ 11 ∷ 12 ∷ 13 ∷ 14 ∷ 15 ∷ 16 ∷ 17 ∷ []

-- What edits come to where records are held, and a client asked for all of a.shop.example; and what it is told.
abbrev pub edited0 : List Record → List ℕ → Outcome
edited0 stored edits = outcome (watched stored (subscribe 1 host type_any ∷ [])) (batch edits)

abbrev pub told0 : List Record → List ℕ → Option (List (List Change))
told0 stored edits = pushed (edited0 stored edits)

-- A record in capitals.
abbrev pub in_capitals : Record → Record
in_capitals r =
    record { owner = host_in_capitals; rrtype = r.rrtype; rrclass = r.rrclass; ttl = r.ttl; rdata = r.rdata }

-- What it comes to that a held record is put with a TTL in capitals, where a client asked in capitals.
abbrev pub capitals0 : ℕ → Outcome
capitals0 ttl =
    outcome (watched (address ∷ text ∷ []) (subscribe 1 host_in_capitals type_any ∷ []))
    (batch (puts (in_capitals (with_ttl ttl address) ∷ [])))

-- All sessions opened at 6, and a message of 65,536 octets.
abbrev pub answer_of : Call → Answer
answer_of c = (outcome (after server (replicate 4 (opens 6))) c).answer

abbrev pub too_long : Bytes
too_long = bytes (replicate 65536 0)

-- A session that asked for all of a.shop.example.
abbrev pub asking : State
asking = watched [] (subscribe 1 host type_any ∷ [])

-- The same after a Keepalive at 1,000.
abbrev pub granted0 : State
granted0 = after asking (message (keepalive 2) ∷ [])

-- A session without a subscription that was opened at 1,000 and got a message at 2,000.
abbrev pub heard0 : List ℕ → State
heard0 m = after ready (message_at 2000 m ∷ [])

-- A session with 16 subscriptions.
abbrev pub full : State
full = after ready (map numbered (take 16 one_to17))

-- Sessions 0 and 1.
abbrev pub both : State
both = after ready (opens 1000 ∷ [])

pub record Bench : Type 0 where
  -- "Zone shop.example."
  pub starts : start zone ≡ running server
  -- 1. "That run": the octets as they are; its answers; and all of the output slice after the message, whose count is 62: "Bytes
  -- beyond a stated count, and other shelves, keep their values."
  pub taken : ((bytes paper_batch).list ≡ paper_batch) × ((bytes paper_message).list ≡ paper_message)
  pub run-answers : answers (outcomes server (opens 1000 ∷ batch paper_batch ∷ message paper_message ∷ []))
      ≡ opened 0 ∷ done ∷ sent (62 ∷ 0 ∷ 0 ∷ 0 ∷ []) ∷ []
  pub run-octets : (outcome (after server (opens 1000 ∷ batch paper_batch ∷ [])) (message paper_message)).output
      ≡ paper_reply ++ lent_from 62
  -- 2. "Label of 63 read, 64 FORMERR."
  pub label-63 : flags_for (under 63 zone) ≡ 0xB000
  pub label-64 : flags_for (under 64 zone) ≡ 0xB001
  -- 3. "255-octet name read, 256 refused."
  pub length-255 : length (under 48 long) ≡ 255
  pub name-255 : flags_for (under 48 long) ≡ 0xB000
  pub length-256 : length (under 49 long) ≡ 256
  pub name-256 : flags_for (under 49 long) ≡ 0xB001
  -- 4. "16th subscription accepted, 17th SERVFAIL." The refused one isn't live.
  pub seventeenth : map reply_flags (outcomes ready (map numbered one_to17)) ≡ replicate 16 0xB000 ++ (0xB002 ∷ [])
  pub sixteen-live : length (subscriptions_of (slot_at (after ready (map numbered one_to17)) 0)) ≡ 16
  -- 5. "Idle from 1,000: tick 30,999 stays, 31,000 ends."
  pub idle-stays : (outcome ready (ticks 30999)).answer ≡ stays
  pub idle-ends : (outcome ready (ticks 31000)).answer ≡ ends
  pub idle-freed : slot_at (outcome ready (ticks 31000)).next 0 ≡ free
  -- 6. "SRV and TXT leave, nothing remains: one all-types notice." Its octets too: a PUSH, type 255, TTL 0xFFFFFFFE, RDLEN 0.
  pub all-types : told0 (service ∷ text ∷ []) (deletes (service ∷ text ∷ [])) ≡ some ((removal (all_types host class_in) ∷ []) ∷ [])
  pub all-types-octets : sent0 (edited0 (service ∷ text ∷ []) (deletes (service ∷ text ∷ [])))
      ≡ octets 44 0x002a0000300000000000000000000041001a01610473686f70076578616d706c650000ff0001fffffffe0000
  -- 7. "The same with A kept: two RRset notices."
  pub two-rrsets : told0 (address ∷ service ∷ text ∷ []) (deletes (service ∷ text ∷ []))
      ≡ some ((removal (rrset host type_srv class_in) ∷ removal (rrset host type_txt class_in) ∷ []) ∷ [])
  -- 8. "Three AAAA, two leave: two single notices."
  pub two-singles : told0 (address6 1 ∷ address6 2 ∷ address6 3 ∷ []) (deletes (address6 1 ∷ address6 3 ∷ []))
      ≡ some ((removal (single host type_aaaa class_in (octets 16 1)) ∷ removal (single host type_aaaa class_in (octets 16 3)) ∷ []) ∷ [])
  -- 9. "Delete and put the same record and TTL: no PUSH." With another TTL: one add.
  pub put_back : (edited0 (address ∷ []) (deletes (address ∷ []) ++ puts (address ∷ []))).answer ≡ done
  pub put-back-otherwise : told0 (address ∷ []) (deletes (address ∷ []) ++ puts (with_ttl 60 address ∷ []))
      ≡ some ((addition (with_ttl 60 address) ∷ []) ∷ [])
  -- 10. "Matched by A and by ANY: one add."
  pub one-add : pushed (outcome (watched [] (subscribe 1 host type_a ∷ subscribe 2 host type_any ∷ [])) (batch (puts (address ∷ []))))
      ≡ some ((addition address ∷ []) ∷ [])
  -- 11. "NOTAUTH flags are B009." The refused one isn't live.
  pub not-auth : flags_for (drop 5 zone) ≡ 0xB009
  pub not-auth-live : subscriptions_of (slot_at (outcome ready (message (subscribe 1 (drop 5 zone) type_a))).next 0) ≡ []
  -- 12. "Keepalive reply data 00003A98 0000EA60", whatever was asked for.
  pub keepalive-reply : sent0 (outcome ready (message (keepalive 1)))
      ≡ octets 26 0x00180001b00000000000000000000001000800003a980000ea60
  -- 13. "Time 5 after 6: answer 11." "Checks run 12, 11, 10, 18": of the faults of a call the first decides; "13 comes after 11".
  pub order : map answer_of (receives 5 9 too_long [] ∷ receives 5 9 too_long lent ∷ receives 6 9 too_long lent ∷ receives 6 0 too_long lent ∷ [])
      ≡ map refused (OutputTooShort ∷ TimeBackwards ∷ NoSession ∷ MessageTooLong ∷ [])
  pub order-13 : map answer_of (opens 5 ∷ opens 6 ∷ []) ≡ map refused (TimeBackwards ∷ AllOpen ∷ [])
  -- "Answering a unidirectional message" is an error: UNSUBSCRIBE is answer 1, and RECONFIRM 5, with the places of its parts.
  pub unsubscribed : (outcome asking (message (unsubscribe 1))).answer ≡ done
  pub reconfirmed : (outcome asking (message (message_of 0 reconfirm_type (host ++ octets 8 0x00010001c0000201)))).answer
      ≡ reconfirm
      (record {
        name = place 16 16;
        rtype = place 32 2;
        class = place 34 2;
        rdata = place 36 4;
      })
  -- "session s writes from s x 16,384": what session 1 is sent stands there.
  pub own-reply : bytes_in (outcome both (receives 1000 1 (bytes paper_message) lent)) 1 ≡ take 14 paper_reply
  -- "Freed sessions and places are used again; open takes the lowest free number." The new session has no subscription.
  pub used-again : answers (outcomes asking (opens 1000 ∷ closes 1000 0 ∷ opens 1000 ∷ batch paper_batch ∷ []))
      ≡ opened 1 ∷ done ∷ opened 0 ∷ done ∷ []
  -- "spelling is never a change": the held record put in capitals with TTL 60 keeps its place and spelling, and a client that
  -- asked in capitals is told one add; the same record and TTL in capitals is no change.
  pub spelled-store : (capitals0 60).next.store
      ≡ with_ttl 60 address ∷ text ∷ []
  pub spelled-push : pushed (capitals0 60) ≡ some ((addition (with_ttl 60 address) ∷ []) ∷ [])
  pub spelled-only : (capitals0 120).answer ≡ done
  -- ---- rules that demand 3 leaves open
  -- "reply carries 15,000 and 60,000 ms, which then hold": with a live subscription, before a Keepalive at 1,000 and after it.
  pub interval-first : ticked asking (30999 ∷ 31000 ∷ []) ≡ stays ∷ ends ∷ []
  pub interval-held : ticked granted0 (120999 ∷ 121000 ∷ []) ≡ stays ∷ ends ∷ []
  -- "A received message not ending in abort restarts both; one that reaches step 4 with type 1 restarts the keepalive clock
  -- only": an UNSUBSCRIBE, then a Keepalive and one whose data is malformed.
  pub both-restarted : ticked (heard0 (unsubscribe 9)) (31999 ∷ 32000 ∷ []) ≡ stays ∷ ends ∷ []
  pub one-restarted : ticked (heard0 (keepalive 1)) (30999 ∷ 31000 ∷ []) ≡ stays ∷ ends ∷ []
  pub one-restarted-malformed : ticked (heard0 (message_of 1 keepalive_type [])) (30999 ∷ 31000 ∷ []) ≡ stays ∷ ends ∷ []
  -- "or, with no live subscription, elapsed inactivity is at least the greater of 5,000 and twice the timeout": with one, and
  -- where it has ended.
  pub subscriber-stays : ticked granted0 (31000 ∷ []) ≡ stays ∷ []
  pub unsubscribed-ends : ticked (after granted0 (message (unsubscribe 1) ∷ [])) (30999 ∷ 31000 ∷ []) ≡ stays ∷ ends ∷ []
  -- "a type 1 or 0x0040 whose data is malformed: FORMERR. Then an ID held by one of the session's subscriptions: abort.": before
  -- NOTAUTH too.
  pub used-by-subscribe : (outcome asking (message (subscribe 1 host type_a))).answer ≡ aborted
  pub used-by-outside : (outcome asking (message (subscribe 1 (drop 5 zone) type_a))).answer ≡ aborted
  pub used-by-keepalive : (outcome asking (message (keepalive 1))).answer ≡ aborted
  pub used-and-malformed : reply_flags (outcome asking (message (message_of 1 keepalive_type []))) ≡ 0xB001
  -- "Name not at or below the zone: NOTAUTH (9). Same name, type and class as a live one: abort. 16 live already: SERVFAIL (2)."
  pub same-question : (outcome asking (message (subscribe 2 host_in_capitals type_any))).answer ≡ aborted
  pub same-question-full : (outcome full (message (subscribe 17 host 1))).answer ≡ aborted
  pub outside-full : reply_flags (outcome full (message (subscribe 17 (drop 5 zone) 1))) ≡ 0xB009
  -- "Bytes beyond a stated count, and other shelves, keep their values": all of the output slice after a batch; its PUSH is that
  -- of the run in 01.
  pub batch-octets : (edited0 [] (puts (address ∷ []))).output ≡ drop 14 paper_reply ++ lent_from 48

pub bench : Bench
unfolding octets field labels name_length is_name lower same_octets same_name ends_in within message_id flags is_response opcode no_records tlvs tlvs_from bad_form form_of opening by_type judgment is_keepalive judged judge_subscribe judge_keepalive judge_unsubscribe judge_reconfirm header tlv_octets tlvs_octets framed response response_octets asks_for asks_type asks_class same_key find held put remove size record_octets read_after read_record matches_key allowed overfull edit edited batch_of covers is_true fields_of widest alike chosen firsts removals additions changes changes_octets push_message push_octets push_of notified changes_in frame_of frames_in is_unidirectional push_in started received granted expired without uses_id asks_already is_full fresh lowest_free refusal_of asked subscribed kept_alive answered message_effect start written open_outcome effect_outcome message_outcome close_outcome batch_outcome tick_outcome passed outcome bytes_for pushes_in bytes puts outcomes after
bench =
    record {
      starts = refl;
      taken = (refl, refl);
      run-answers = refl;
      run-octets = refl;
      label-63 = refl;
      label-64 = refl;
      length-255 = refl;
      name-255 = refl;
      length-256 = refl;
      name-256 = refl;
      seventeenth = refl;
      sixteen-live = refl;
      idle-stays = refl;
      idle-ends = refl;
      idle-freed = refl;
      all-types = refl;
      all-types-octets = refl;
      two-rrsets = refl;
      two-singles = refl;
      put_back = refl;
      put-back-otherwise = refl;
      one-add = refl;
      not-auth = refl;
      not-auth-live = refl;
      keepalive-reply = refl;
      order = refl;
      order-13 = refl;
      unsubscribed = refl;
      own-reply = refl;
      used-again = refl;
      reconfirmed = refl;
      spelled-store = refl;
      spelled-push = refl;
      spelled-only = refl;
      interval-first = refl;
      interval-held = refl;
      both-restarted = refl;
      one-restarted = refl;
      one-restarted-malformed = refl;
      subscriber-stays = refl;
      unsubscribed-ends = refl;
      used-by-subscribe = refl;
      used-by-outside = refl;
      used-by-keepalive = refl;
      used-and-malformed = refl;
      same-question = refl;
      same-question-full = refl;
      outside-full = refl;
      batch-octets = refl;
    }
