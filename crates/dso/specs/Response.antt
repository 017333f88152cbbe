-- The responses that the server writes, octet for octet, and what is read back from one.
use Rattle.std.specs.Prelude.{ℕ, ◌+◌, true, Some, List, [], ◌∷◌, ◌++◌, ◌≡◌, length, drop}
use Rattle.wire.specs.Field.{field, octets}
use Rattle.dso.specs.Header.{header_length, dso_opcode, message_id, is_response, opcode, z_bits, rcode, no_records}
use Rattle.dso.specs.Tlv.{Tlv, tlvs}
use Rattle.dso.specs.Judge.{keepalive_type, retry_delay_type}
use Rattle.dso.specs.declared.judgment.ReplyCode.{ReplyCode}
use Rattle.dso.specs.declared.judgment.ReplyCode.TheVariants.{FormErr, ServFail, NotAuth, DsoTypeNi}
use Rattle.dso.specs.declared.response.Timeouts.{Timeouts}
use Rattle.dso.specs.declared.response.Response.{Response}
use Rattle.dso.specs.declared.response.Response.TheVariants.{Error, Keepalive, Subscribed}

-- RFC 8490, 5.4.1, and RFC 8765, 6.2.2, table 1: the RCODE values.
abbrev pub rcode_of : ReplyCode → ℕ
rcode_of FormErr = 1
rcode_of ServFail = 2
rcode_of NotAuth = 9
rcode_of DsoTypeNi = 11

-- 01: "Every reply with an error carries one Retry Delay TLV (type 2) of 300,000 ms, or 3,600,000 with DSOTYPENI".
-- RFC 8765, 6.2.2: for FORMERR "A value of five minutes is RECOMMENDED"; for NOTAUTH "By default, a value of 5 minutes is
-- RECOMMENDED"; for DSOTYPENI "the retry delay SHOULD be one hour". (SERVFAIL: the number is 01's.)
abbrev pub retry_delay : ReplyCode → ℕ
retry_delay FormErr = 300000
retry_delay ServFail = 300000
retry_delay NotAuth = 300000
retry_delay DsoTypeNi = 3600000

-- 01, Keepalive: "reply carries 15,000 and 60,000 ms".
abbrev pub granted : Timeouts
granted = record { inactivity = 15000; keepalive = 60000 }

-- A header without records: ID, flags, and four counts of zero.
unfoldable pub header : ℕ → ℕ → List ℕ
header id flags = octets 2 id ++ octets 2 flags ++ octets 8 0

-- The flags of a response: QR 1, opcode 6, Z 0, and the RCODE.
-- RFC 8490, 5.4.1: "In a DSO response message (QR=1), the MESSAGE ID field MUST NOT be zero, and MUST contain a copy of the
-- value of the (nonzero) MESSAGE ID field in the DSO request message being responded to."
abbrev pub response_flags : ℕ → ℕ
response_flags code = 0xB000 + code

unfoldable pub tlv_octets : Tlv → List ℕ
tlv_octets t = octets 2 t.kind ++ octets 2 (length t.value) ++ t.value

unfoldable pub tlvs_octets : List Tlv → List ℕ
tlvs_octets [] = []
tlvs_octets (t ∷ ts) = tlv_octets t ++ tlvs_octets ts

-- A message with its two-octet length prefix (RFC 1035, 4.2.2).
unfoldable pub framed : List ℕ → List ℕ
framed m = octets 2 (length m) ++ m

abbrev pub response_code : Response → ℕ
response_code (Error c) = rcode_of c
response_code (Keepalive t) = 0
response_code Subscribed = 0

-- RFC 8490, 7.2.2: "In the case of a DSO request message that results in a nonzero RCODE value, the responder MAY append a
-- Retry Delay TLV to the response". 7.2: "RETRY DELAY: A time value, specified as a 32-bit unsigned integer in network
-- (big endian) byte order, in units of milliseconds". 7.1: "In DSO Keepalive response messages, exactly one instance of
-- the Keepalive TLV MUST be present". RFC 8765, 6.2.2: "A SUBSCRIBE response message MUST NOT include a SUBSCRIBE TLV."
abbrev pub response_tlvs : Response → List Tlv
response_tlvs (Error c) = record { kind = retry_delay_type; value = octets 4 (retry_delay c) } ∷ []
response_tlvs (Keepalive t) =
    record { kind = keepalive_type; value = octets 4 t.inactivity ++ octets 4 t.keepalive } ∷ []
response_tlvs Subscribed = []

-- A response, and the octets that stand for it in the stream.
unfoldable pub response : ℕ → Response → List ℕ
response id r = header id (response_flags (response_code r)) ++ tlvs_octets (response_tlvs r)

unfoldable pub response_octets : ℕ → Response → List ℕ
response_octets id r = framed (response id r)

-- What reading a message by the definitions of a header and of TLVs gives, where it is the response to an ID: the ID, QR,
-- the opcode, Z, the RCODE and the counts, and exactly the TLVs that were meant.
pub record ReadsMessage (id : ℕ) (r : Response) (m : List ℕ) : Type 0 where
  pub same_id : message_id m ≡ id
  pub is_answer : is_response m ≡ true
  pub of_dso : opcode m ≡ dso_opcode
  pub no_z : z_bits m ≡ 0
  pub code : rcode m ≡ response_code r
  pub no_counts : no_records m ≡ true
  pub carried : tlvs (drop header_length m) ≡ Some (response_tlvs r)

-- The same of a frame: its prefix is the message's length.
pub record ReadsAs (id : ℕ) (r : Response) (frame : List ℕ) : Type 0 where
  pub prefix : field 2 frame ≡ length (drop 2 frame)
  pub message : ReadsMessage id r (drop 2 frame)
