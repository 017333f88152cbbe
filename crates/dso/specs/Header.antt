-- The header of a DNS message as DSO reads it (01, "Judging a message": QR, opcode, Z and RCODE; RFC 8490, 5.4).
-- 5.4: "A DSO message begins with the standard twelve-byte DNS message header [RFC1035] with the OPCODE field set to the
-- DSO OPCODE (6)."
use Rattle.std.specs.Prelude.{ℕ, ◌/◌, ◌%◌, Bool, ◌&&◌, List, drop, leb, eqb}
use Rattle.wire.specs.Field.{field}

abbrev pub header_length : ℕ
header_length = 12

abbrev pub dso_opcode : ℕ
dso_opcode = 6

-- The first 16 bits: MESSAGE ID.
unfoldable pub message_id : List ℕ → ℕ
message_id m = field 2 m

-- The next 16: QR (1 bit), OPCODE (4), Z (7), RCODE (4), from the most significant bit down.
unfoldable pub flags : List ℕ → ℕ
flags m = field 2 (drop 2 m)

-- 5.4.1: "In a DSO response message, the DNS Header QR bit MUST be one (QR=1)."
unfoldable pub is_response : List ℕ → Bool
is_response m = leb 32768 (flags m)

-- 5.4.1: "The DNS Header OPCODE field holds the DSO OPCODE value (6)."
unfoldable pub opcode : List ℕ → ℕ
opcode m = flags m / 2048 % 16

-- 5.4.1: "the Z bits MUST be set to zero (0) on transmission and MUST be ignored on reception". No judgment reads them.
unfoldable pub z_bits : List ℕ → ℕ
z_bits m = flags m / 16 % 128

-- 5.4.1: "in most DSO request messages (QR=0), except where clearly specified otherwise, the RCODE is set to zero on
-- transmission, and silently ignored on reception". No judgment reads it; the responses carry it.
unfoldable pub rcode : List ℕ → ℕ
rcode m = flags m % 16

-- 5.4: "The corresponding count fields (QDCOUNT, ANCOUNT, NSCOUNT, ARCOUNT) MUST be set to zero on transmission."
unfoldable pub no_records : List ℕ → Bool
no_records m = eqb (field 2 (drop 4 m)) 0 && eqb (field 2 (drop 6 m)) 0 && eqb (field 2 (drop 8 m)) 0 && eqb (field 2 (drop 10 m)) 0
