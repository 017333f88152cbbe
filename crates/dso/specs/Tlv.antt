-- TLVs (01: type 16 bits, length 16 bits, data; RFC 8490, 5.4.4).
-- 5.4.4: "DSO-TYPE: A 16-bit unsigned integer, in network (big endian) byte order", "DSO-LENGTH: A 16-bit unsigned
-- integer, in network (big endian) byte order, giving the size in bytes of the DSO-DATA."
use Rattle.std.specs.Prelude.{ℕ, zero, suc, ◌+◌, ◌≡◌, Bool, cond, Option, Some, None, is_some, Result, Ok, Err, List, [], ◌∷◌, length, take, drop, ltb}
use Rattle.wire.specs.Field.{field}
use Rattle.dso.specs.declared.reader.CutShort.{CutShort}
use Rattle.dso.specs.declared.reader.Reader.{Reader}
use Rattle.dso.specs.declared.reader.TlvPlace.{TlvPlace}

pub record Tlv : Type 0 where
  pub kind : ℕ
  pub value : List ℕ

-- The TLV at the front of a list: 4 octets of type and length, then as many octets of data as the length says.
abbrev pub tlv_front : List ℕ → Tlv
tlv_front l = record { kind = field 2 l; value = take (field 2 (drop 2 l)) (drop 4 l) }

abbrev pub also : Tlv → Option (List Tlv) → Option (List Tlv)
also t None = None
also t (Some ts) = Some (t ∷ ts)

-- The TLVs that fill a list exactly, once k octets of the TLV that is being read are passed; none where the list ends
-- inside a TLV. Of the 4 octets of type and length 3 are still to be passed after the first.
unfoldable pub tlvs_from : ℕ → List ℕ → Option (List Tlv)
tlvs_from zero [] = Some []
tlvs_from (suc k) [] = None
tlvs_from zero (b ∷ l) = also (tlv_front (b ∷ l)) (tlvs_from (3 + field 2 (drop 1 l)) l)
tlvs_from (suc k) (b ∷ l) = tlvs_from k l

unfoldable pub tlvs : List ℕ → Option (List Tlv)
tlvs l = tlvs_from 0 l

-- Whether TLVs end exactly at the end of a list.
unfoldable pub filled : List ℕ → Bool
filled l = is_some (tlvs l)

-- The same step by step, as code reads a message. A TLV of type k and n octets of data at a place: its data stands behind 4
-- octets of type and length, and the next TLV behind its data.
abbrev pub tlv_place : ℕ → ℕ → ℕ → TlvPlace
tlv_place k n at = record { kind = k; value = record { start = at + 4; len = n }; next = at + 4 + n }

-- What stands at a place of a message: a whole TLV, one that the message's end cuts short, or nothing more.
abbrev pub TlvStep : Type 0
TlvStep = Option (Result TlvPlace CutShort)

abbrev pub cut_short : CutShort
cut_short = record {}

unfoldable pub tlv_at : List ℕ → ℕ → TlvStep
tlv_at m at =
    let n : ℕ = field 2 (drop (at + 2) m) in
    cond (ltb at (length m))
    (cond (ltb (length m) (at + 4 + n)) (Some (Err cut_short)) (Some (Ok (tlv_place (field 2 (drop at m)) n at))))
    None

-- The TLVs from a place on, by what stands there: where it is a whole TLV, it and those from the next place on.
abbrev pub placed : List ℕ → TlvPlace → Tlv
placed m t = record { kind = t.kind; value = take t.value.len (drop t.value.start m) }

abbrev pub stepped : List ℕ → TlvStep → Option (List Tlv)
stepped m (Some (Ok t)) = also (placed m t) (tlvs (drop t.next m))
stepped m None = Some []
stepped m (Some (Err e)) = None

-- Where a reader goes on: behind a whole TLV, and at the message's end where it was cut short.
abbrev pub place_behind : List ℕ → ℕ → TlvStep → ℕ
place_behind m at (Some (Ok t)) = t.next
place_behind m at None = at
place_behind m at (Some (Err e)) = length m

-- A reader is stepped on: it gives what stood at its place, and holds the same message at the place behind.
pub record ReadsNext (r : Reader) (read : TlvStep) (s : Reader) : Type 0 where
  pub reads : read ≡ tlv_at r.message.now r.at
  pub same : s.message.now ≡ r.message.now
  pub goes : s.at ≡ place_behind r.message.now r.at read
