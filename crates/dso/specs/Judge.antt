-- The judgment of a message from its octets alone: 01, "Judging a message", steps 1 to 5 in its order, without the tests
-- that need the session (an ID in use, the zone, the limit), which are the server's. `Abort` is the forcible abort:
-- RFC 8490, 5.3: "Where this specification says "forcibly abort", it means sending a TCP RST or the equivalent for other
-- protocols."
use Rattle.std.specs.Prelude.{ℕ, ◌+◌, ◌-◌, Bool, false, cond, not, ◌||◌, Option, Some, None, List, [], ◌∷◌, length, drop, ltb, eqb}
use Rattle.wire.specs.Field.{field}
use Rattle.wire.specs.Name.{name_length}
use Rattle.dso.specs.Header.{header_length, dso_opcode, message_id, is_response, opcode, no_records}
use Rattle.dso.specs.Tlv.{Tlv, tlvs}
use Rattle.dso.specs.declared.judgment.MessageId.{MessageId}
use Rattle.dso.specs.declared.judgment.Place.{Place}
use Rattle.dso.specs.declared.judgment.QuestionPlaces.{QuestionPlaces}
use Rattle.dso.specs.declared.judgment.RecordPlaces.{RecordPlaces}
use Rattle.dso.specs.declared.judgment.ReplyCode.TheVariants.{FormErr, DsoTypeNi}
use Rattle.dso.specs.declared.judgment.Judgment.{Judgment}
use Rattle.dso.specs.declared.judgment.Judgment.TheVariants.{NotOurs, Abort, Reply, Keepalive, Subscribe, Unsubscribe, Reconfirm}
use Rattle.dso.specs.declared.judgment.Judged.{Judged}

-- The DSO types (RFC 8490, 7; RFC 8765, 6.2 to 6.5).
abbrev pub keepalive_type : ℕ
keepalive_type = 1

abbrev pub retry_delay_type : ℕ
retry_delay_type = 2

abbrev pub subscribe_type : ℕ
subscribe_type = 0x40

abbrev pub push_type : ℕ
push_type = 0x41

abbrev pub unsubscribe_type : ℕ
unsubscribe_type = 0x42

abbrev pub reconfirm_type : ℕ
reconfirm_type = 0x43

-- The type and class that stand for all (RFC 8765, 6.2.1).
abbrev pub any : ℕ
any = 255

abbrev pub mid : ℕ → MessageId
mid id = record { 0 = id }

abbrev pub place : ℕ → ℕ → Place
place start len = record { start = start; len = len }

-- Where the first TLV's data begins: behind the header and the TLV's type and length.
abbrev pub data_start : ℕ
data_start = 16

-- Step 2, bad form: "with a nonzero message ID, reply FORMERR (1); with ID zero, abort".
-- RFC 8490, 5.4: "If a DSO message is received where any of the count fields are not zero, then a FORMERR MUST be
-- returned." 5.4.3: "When a DSO message is received where both the QR bit and the MESSAGE ID field are zero, the receiver
-- MUST NOT generate any response."
unfoldable pub bad_form : ℕ → Judgment
bad_form id = cond (eqb id 0) Abort (Reply (mid id) FormErr)

-- What steps 1 to 3 come to: they settle the judgment, or the first TLV decides.
pub data Opening : Type 0 where
  settled : Judgment → Opening
  primary : Tlv → Opening

-- Step 3, the TLVs: "no TLV, or TLVs not ending exactly at the end: bad form". Step 4: "Later TLVs are ignored."
-- RFC 8490, 5.4.2: "A DSO request message or DSO unidirectional message MUST contain at least one TLV. The first TLV ...
-- is referred to as the 'Primary TLV' and determines the nature of the operation being performed". "Unrecognized
-- Additional TLVs are silently ignored".
abbrev pub first_of : ℕ → Option (List Tlv) → Opening
first_of id None = settled (bad_form id)
first_of id (Some []) = settled (bad_form id)
first_of id (Some (t ∷ ts)) = primary t

-- Step 3: "a nonzero count field" is bad form, before the TLVs.
unfoldable pub form_of : List ℕ → Opening
form_of m = cond (no_records m) (first_of (message_id m) (tlvs (drop header_length m))) (settled (bad_form (message_id m)))

-- Step 1: "under 12 bytes: abort; opcode not 6: answer 3; QR set: abort", and then step 3.
-- RFC 8490, 5.4.1: "In a DSO request message or DSO unidirectional message, the DNS Header Query/Response (QR) bit MUST
-- be zero (QR=0)." 5.5.2: "If a client or server receives a response (QR=1) where the MESSAGE ID is zero, or is any other
-- value that does not match the MESSAGE ID of any of its outstanding operations, this is a fatal error and the recipient
-- MUST forcibly abort the connection immediately." (The server has no outstanding operation.)
unfoldable pub opening : List ℕ → Opening
opening m =
    cond (ltb (length m) header_length) (settled Abort)
    (cond (not (eqb (opcode m) dso_opcode)) (settled NotOurs)
    (cond (is_response m) (settled Abort) (form_of m)))

-- A request has a nonzero ID, a unidirectional message ID zero.
-- RFC 8490, 5.4.1: "An acknowledgment cannot be requested by including a nonzero MESSAGE ID in a message that is required
-- according to its Primary TLV to be unidirectional. Nor can an acknowledgment be prevented by sending a MESSAGE ID of
-- zero in a message that is required to be a DSO request message according to its Primary TLV. A responder that receives
-- either such malformed message MUST treat it as a fatal error and forcibly abort the connection immediately."
abbrev pub request : ℕ → Judgment → Judgment
request id j = cond (eqb id 0) Abort j

abbrev pub unidirectional : ℕ → Judgment → Judgment
unidirectional id j = cond (eqb id 0) j Abort

-- Keepalive: "8 data bytes, requested values ignored"; step 5: malformed data is FORMERR.
-- RFC 8490, 7.1: "INACTIVITY TIMEOUT (32 bits)", "KEEPALIVE INTERVAL (32 bits)"; "the server is the ultimate authority for
-- deciding what lease lifetime is actually granted".
unfoldable pub keepalive : ℕ → List ℕ → Judgment
keepalive id v = cond (eqb (length v) 8) (Keepalive (mid id)) (Reply (mid id) FormErr)

-- SUBSCRIBE: "name, type, class, no more"; step 5: malformed data is FORMERR. d is the data's length, the last argument the
-- length of the name at its front.
-- RFC 8765, 6.2.1: "The DSO-DATA for a SUBSCRIBE request MUST contain exactly one NAME, TYPE, and CLASS." 6.2.2: FORMERR,
-- "Server failed to process request due to a malformed request."
abbrev pub question : ℕ → QuestionPlaces
question n = record { name = place data_start n; rtype = place (data_start + n) 2; class = place (data_start + n + 2) 2 }

abbrev pub asks : ℕ → ℕ → Option ℕ → Judgment
asks id d None = Reply (mid id) FormErr
asks id d (Some n) = cond (eqb d (n + 4)) (Subscribe (mid id) (question n)) (Reply (mid id) FormErr)

unfoldable pub subscribe : ℕ → List ℕ → Judgment
subscribe id v = asks id (length v) (name_length v)

-- UNSUBSCRIBE: "two bytes, the ID ... Other lengths abort."
-- RFC 8765, 6.4.1: "The DSO-LENGTH field contains the value 2, the length of the 2-octet MESSAGE ID contained in the
-- DSO-DATA." "There is no server response to an UNSUBSCRIBE message."
unfoldable pub unsubscribe : List ℕ → Judgment
unsubscribe v = cond (eqb (length v) 2) (Unsubscribe (mid (field 2 v))) Abort

-- RECONFIRM: "name, type, class, RDATA to the end; anything else, or type or class 255, aborts". The end is its TLV's.
-- RFC 8765, 6.5.1: "The DSO-DATA in a RECONFIRM Primary TLV MUST contain exactly one record." "TYPE MUST NOT be the value
-- ANY (255) and CLASS MUST NOT be the value ANY (255)." "there is no RDLEN field, since the length of the RDATA can be
-- inferred from DSO-LENGTH". "There is no server response to a RECONFIRM message."
abbrev pub disputed : ℕ → ℕ → RecordPlaces
disputed n d =
    record {
      name = place data_start n;
      rtype = place (data_start + n) 2;
      class = place (data_start + n + 2) 2;
      rdata = place (data_start + n + 4) (d - (n + 4));
    }

abbrev pub disputes : List ℕ → Option ℕ → Judgment
disputes v None = Abort
disputes v (Some n) =
    cond (ltb (length v) (n + 4)) Abort
    (cond (eqb (field 2 (drop n v)) any || eqb (field 2 (drop (n + 2) v)) any) Abort
    (Reconfirm (disputed n (length v))))

unfoldable pub reconfirm : List ℕ → Judgment
reconfirm v = disputes v (name_length v)

-- Step 4, by the first TLV: "types 2 and 0x0041 abort. Types 1 and 0x0040 with ID zero abort. Types 0x0042 and 0x0043 with
-- ID nonzero abort. Other types: ID zero aborts, otherwise reply DSOTYPENI (11)." Then step 5, and the data rules of
-- 0x0042 and 0x0043.
-- RFC 8490, 7.2.1: "If a server receives a DSO message where the Primary TLV is the Retry Delay TLV, this is a fatal error
-- and the server MUST forcibly abort the connection immediately." RFC 8765, 6.3: "A client MUST NOT send a PUSH message.
-- If a client does send a PUSH message ... this is a fatal error and the receiver MUST forcibly abort the connection
-- immediately." RFC 8490, 7.1: "If a server receives a DSO Keepalive message with a zero MESSAGE ID, then this is a fatal
-- error". 5.4.5: "If a DSO request message is received containing an unrecognized Primary TLV, with a nonzero MESSAGE ID
-- ..., then the receiver MUST send an error response with a matching MESSAGE ID, and RCODE DSOTYPENI." "If a DSO
-- unidirectional message is received containing both an unrecognized Primary TLV and a zero MESSAGE ID ..., then this is
-- a fatal error and the recipient MUST forcibly abort the connection immediately."
unfoldable pub by_type : ℕ → ℕ → List ℕ → Judgment
by_type id k v =
    cond (eqb k retry_delay_type || eqb k push_type) Abort
    (cond (eqb k keepalive_type) (request id (keepalive id v))
    (cond (eqb k subscribe_type) (request id (subscribe id v))
    (cond (eqb k unsubscribe_type) (unidirectional id (unsubscribe v))
    (cond (eqb k reconfirm_type) (unidirectional id (reconfirm v))
    (request id (Reply (mid id) DsoTypeNi))))))

abbrev pub concluded : ℕ → Opening → Judgment
concluded id (settled j) = j
concluded id (primary t) = by_type id t.kind t.value

unfoldable pub judgment : List ℕ → Judgment
judgment m = concluded (message_id m) (opening m)

-- 01, "Two clocks a session": a message "that reaches step 4 with type 1 restarts the keepalive clock only".
-- RFC 8490, 7.1: "The transmission or reception of DSO Keepalive messages (i.e., messages where the Keepalive TLV is the
-- first TLV) reset only the keepalive timer, not the inactivity timer."
abbrev pub opens_keepalive : Opening → Bool
opens_keepalive (settled j) = false
opens_keepalive (primary t) = eqb t.kind keepalive_type

unfoldable pub is_keepalive : List ℕ → Bool
is_keepalive m = opens_keepalive (opening m)

unfoldable pub judged : List ℕ → Judged
judged m = record { judgment = judgment m; keepalive = is_keepalive m }
