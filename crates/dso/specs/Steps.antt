-- What the judgment's parts promise in code.
use Rattle.std.specs.Prelude.{Option, Some, None, Result, Ok, Err, List, [], ◌∷◌, length}
use Rattle.dso.specs.Header.{header_length}
use Rattle.dso.specs.Tlv.{Tlv, tlv_place}
use Rattle.dso.specs.Judge.{Opening, Opening.settled, Opening.primary}
use Rattle.dso.specs.declared.judgment.Judgment.{Judgment}
use Rattle.dso.specs.declared.reader.TlvPlace.{TlvPlace}

-- The first TLV, behind the header, as code holds it: by its place.
abbrev pub first_at : Tlv → TlvPlace
first_at t = tlv_place t.kind (length t.value) header_length

-- The first of the TLVs that fill a message behind its header.
abbrev pub first_place : Option (List Tlv) → Option TlvPlace
first_place None = None
first_place (Some []) = None
first_place (Some (t ∷ ts)) = Some (first_at t)

-- An opening as code holds it. (The definitions of the judgment keep words of their own for its two outcomes, since they are
-- read beside the rules.)
abbrev pub start_of : Opening → Result TlvPlace Judgment
start_of (settled j) = Err j
start_of (primary t) = Ok (first_at t)
