-- PUSH messages in octets, and reading them (RFC 8765, 6.3.1).
use Rattle.std.specs.Prelude.{ℕ, zero, suc, pred, cond, ◌||◌, List, [], ◌∷◌, ◌++◌, length, leb, eqb, None, Some}
use Rattle.std.proofs.Math.Option.{Option, none, some}
use Rattle.dso.specs.Judge.{push_type}
use Rattle.dso.specs.Response.{header, tlvs_octets, framed}
use Rattle.zone.specs.Record.{Record}
use Rattle.dso.specs.Judge.{any}
use Rattle.zone.specs.Layout.{record_octets, read_record, size}
use Rattle.zone.specs.Batch.{max_ttl, remove_ttl}
use Rattle.push.specs.Change.{
  Removal,
  single,
  rrset,
  all_types,
  all_classes,
  Change,
  addition,
  removal,
  fields_of,
  collective_ttl,
}

unfoldable pub changes_octets : List Change → List ℕ
changes_octets [] = []
changes_octets (c ∷ cs) = record_octets (fields_of c) ++ changes_octets cs

-- The flags of a unidirectional DSO message (RFC 8490, 5.4.1): QR 0, opcode 6, Z and RCODE 0. Its ID is 0.
abbrev pub unidirectional_flags : ℕ
unidirectional_flags = 0x3000

-- A PUSH message: the header, and the one TLV with the changes.
unfoldable pub push_message : List Change → List ℕ
push_message cs = header 0 unidirectional_flags ++ tlvs_octets (record { kind = push_type; value = changes_octets cs } ∷ [])

-- Behind its length prefix.
unfoldable pub push_octets : List Change → List ℕ
push_octets cs = framed (push_message cs)

-- "An empty list sends no PUSH."
unfoldable pub push_of : List Change → List ℕ
push_of [] = []
push_of (c ∷ cs) = push_octets (c ∷ cs)

-- What a client makes of one change notification's fields: a change, nothing, or a fatal error.
pub data Notified : Type 0 where
  change : Change → Notified
  ignored : Notified
  fatal : Notified

abbrev pub collective : Record → Removal
collective r =
    cond (eqb r.rrclass any) (all_classes r.owner)
    (cond (eqb r.rrtype any) (all_types r.owner r.rrclass) (rrset r.owner r.rrtype r.rrclass))

abbrev pub unless_any : Record → Change → Notified
unless_any r c = cond (eqb r.rrtype any || eqb r.rrclass any) fatal (change c)

-- By TTL: an add, the removal of one record (of both: "Type and class MUST NOT be 255"), a collective removal ("RDLEN MUST
-- be zero"); "any value other than [these] ... SHOULD silently ignore".
unfoldable pub notified : Record → Notified
notified r =
    cond (leb r.ttl max_ttl) (unless_any r (addition r))
    (cond (eqb r.ttl remove_ttl) (unless_any r (removal (single r.owner r.rrtype r.rrclass r.rdata)))
    (cond (eqb r.ttl collective_ttl) (cond (eqb (length r.rdata) 0) (change (removal (collective r))) fatal) ignored))

abbrev pub joined : Notified → Option (List Change) → Option (List Change)
joined n none = none
joined (change c) (some cs) = some (c ∷ cs)
joined ignored (some cs) = some cs
joined fatal (some cs) = none

-- The changes that a PUSH's data holds; k octets of one that was read are still to be passed. None where the octets run out
-- or hold a fatal error.
unfoldable pub changes_in : ℕ → List ℕ → Option (List Change)
changes_in zero [] = some []
changes_in (suc k) [] = none
changes_in (suc k) (b ∷ l) = changes_in k l
changes_in zero (b ∷ l) =
    elim (read_record (b ∷ l)) [ None ↦ none | Some r ↦ joined (notified r) (changes_in (pred (size r)) l) ]
