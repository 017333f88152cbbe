-- Reading what stands on a stream: messages behind their lengths, and PUSH messages. Written from RFC 8490 and RFC 8765; what
-- the server writes has no part in it.
use Rattle.std.specs.Prelude.{ℕ, zero, suc, ◌+◌, Bool, cond, not, ◌&&◌, List, [], ◌∷◌, length, take, drop, leb, eqb}
use Rattle.std.specs.Prelude as std
use Rattle.std.specs.Prelude.{None, Some}
use Rattle.std.proofs.Math.Option.{Option, none, some}
use Rattle.wire.specs.Field.{field}
use Rattle.dso.specs.Header.{header_length, dso_opcode, message_id, is_response, opcode, no_records}
use Rattle.dso.specs.Tlv.{Tlv, tlvs}
use Rattle.dso.specs.Judge.{push_type}
use Rattle.push.specs.Change.{Change}
use Rattle.push.specs.Octets.{changes_in}

-- ---- messages behind their lengths

-- The message at the front of a list, behind a length of two octets (RFC 1035, 4.2.2, which RFC 8490, section 5, keeps); none
-- where the octets run out. It takes two octets and its own.
unfoldable pub frame_of : List ℕ → Option (List ℕ)
frame_of l = cond (leb (2 + field 2 l) (length l)) (some (take (field 2 l) (drop 2 l))) none

abbrev pub one_more : List ℕ → Option (List (List ℕ)) → Option (List (List ℕ))
one_more m none = none
one_more m (some ms) = some (m ∷ ms)

-- All messages of a list; k octets of one that was read are still to be passed. None where the octets run out.
unfoldable pub frames_in : ℕ → List ℕ → Option (List (List ℕ))
frames_in zero [] = some []
frames_in (suc k) [] = none
frames_in (suc k) (b ∷ l) = frames_in k l
frames_in zero (b ∷ l) =
    elim (frame_of (b ∷ l)) [ none ↦ none | some m ↦ one_more m (frames_in (suc (length m)) l) ]

-- ---- a PUSH message (RFC 8765, 6.3.1)

-- RFC 8490, 5.4.1: "In a DSO unidirectional message, the MESSAGE ID field MUST be set to zero"; QR is 0, the opcode 6, the
-- counts are zero. Z and RCODE are "ignored on reception".
unfoldable pub is_unidirectional : List ℕ → Bool
is_unidirectional m =
    leb header_length (length m) && eqb (message_id m) 0 && not (is_response m) && eqb (opcode m) dso_opcode && no_records m

-- "A PUSH Message MUST contain at least one change notification."
abbrev pub one_at_least : Option (List Change) → Option (List Change)
one_at_least none = none
one_at_least (some []) = none
one_at_least (some (c ∷ cs)) = some (c ∷ cs)

-- "The DSO-TYPE is PUSH (0x0041)", of the first TLV; later ones are ignored.
abbrev pub changes_of : std.Option (List Tlv) → Option (List Change)
changes_of None = none
changes_of (Some []) = none
changes_of (Some (t ∷ ts)) = cond (eqb t.kind push_type) (one_at_least (changes_in 0 t.value)) none

-- The changes of a PUSH message; none where it is no such message, or is malformed.
unfoldable pub push_in : List ℕ → Option (List Change)
push_in m = cond (is_unidirectional m) (changes_of (tlvs (drop header_length m))) none
