-- The rules of change notifications that the theorem on the list leaves open, each settled by computation: which of several
-- equally short collective removals, the order, the spelling, the octets; and what a reader of a PUSH refuses.
use Prim.Native.Nat.{ℕ}
use mathlib.Core.List.{List, [], ◌∷◌, ◌++◌}
use mathlib.Core.Option.{none, some}
use mathlib.Core.Path.{◌≡◌, refl}
use Rattle.wire.specs.Field.{octets, field}
use Rattle.wire.specs.Name.{labels, name_length, lower, same_octets}
use Rattle.dso.specs.Header.{message_id, flags, is_response, opcode, no_records}
use Rattle.dso.specs.Tlv.{tlvs, tlvs_from}
use Rattle.dso.specs.Judge.{push_type}
use Rattle.dso.specs.Response.{header, tlv_octets, tlvs_octets}
use Rattle.zone.specs.Record.{Record, same_key}
use Rattle.zone.specs.Store.{find, held, with_ttl}
use Rattle.zone.specs.Layout.{size, record_octets, read_after, read_record}
use Rattle.push.specs.Change.{
  Change,
  addition,
  removal,
  single,
  rrset,
  all_types,
  all_classes,
  covers,
  is_true,
  fields_of,
  collective_ttl,
}
use Rattle.push.specs.List.{widest, alike, chosen, firsts, removals, additions, changes}
use Rattle.push.specs.Octets.{changes_octets, push_message, unidirectional_flags, notified, changes_in}
use Rattle.push.specs.Frames.{is_unidirectional, push_in}

-- ---- names and records

-- The names a. and b., and a. as A.
abbrev pub host : List ℕ
host = 1 ∷ 97 ∷ 0 ∷ []

abbrev pub host_in_capitals : List ℕ
host_in_capitals = 1 ∷ 65 ∷ 0 ∷ []

abbrev pub other : List ℕ
other = 1 ∷ 98 ∷ 0 ∷ []

abbrev pub type_txt : ℕ
type_txt = 16

abbrev pub type_srv : ℕ
type_srv = 33

abbrev pub class_in : ℕ
class_in = 1

abbrev pub class_chaos : ℕ
class_chaos = 3

-- A record with TTL 120 and one octet of RDATA.
abbrev pub rr : List ℕ → ℕ → ℕ → ℕ → Record
rr owner rrtype rrclass octet =
    record { owner = owner; rrtype = rrtype; rrclass = rrclass; ttl = 120; rdata = octet ∷ [] }

abbrev pub text : List ℕ → ℕ → Record
text owner octet = rr owner type_txt class_in octet

abbrev pub service : List ℕ → Record
service owner = rr owner type_srv class_in 0

abbrev pub chaos : List ℕ → Record
chaos owner = rr owner type_txt class_chaos 0

-- What is told where a view of the whole store changes; and where all of it leaves.
abbrev pub told : List Record → List Record → List Change
told old new = changes new old new

abbrev pub gone : List Record → List Change
gone old = told old []

-- ---- octets

-- The octets of a collective removal of a. with RDATA.
abbrev pub collective_with : List ℕ → List ℕ
collective_with rdata =
    record_octets (record { owner = host; rrtype = type_txt; rrclass = class_in; ttl = collective_ttl; rdata = rdata })

-- A PUSH message with this data.
abbrev pub push_with : List ℕ → List ℕ
push_with value = header 0 unidirectional_flags ++ tlvs_octets (record { kind = push_type; value = value } ∷ [])

pub record Bench : Type 0 where
  -- "take the widest true removal holding each, then the narrowest collective one covering the same leaving records": an RRset
  -- alone; two types; two classes; two types where the new store has a third, though the view doesn't.
  pub narrowest-rrset : gone (text host 1 ∷ text host 2 ∷ []) ≡ removal (rrset host type_txt class_in) ∷ []
  pub narrowest-types : gone (text host 1 ∷ service host ∷ []) ≡ removal (all_types host class_in) ∷ []
  pub narrowest-classes : gone (text host 1 ∷ chaos host ∷ []) ≡ removal (all_classes host) ∷ []
  pub widest-true : changes (rr host 1 class_in 0 ∷ []) (text host 1 ∷ service host ∷ []) []
      ≡ removal (rrset host type_txt class_in) ∷ removal (rrset host type_srv class_in) ∷ []
  -- "one record alone only where its RRset isn't gone"
  pub rrset-of-one : gone (text host 1 ∷ []) ≡ removal (rrset host type_txt class_in) ∷ []
  pub one-alone : told (text host 1 ∷ text host 2 ∷ []) (text host 2 ∷ [])
      ≡ removal (single host type_txt class_in (1 ∷ [])) ∷ []
  -- "Removals come first": a record leaves and another enters.
  pub removals-first : told (text host 1 ∷ []) (text other 1 ∷ [])
      ≡ removal (rrset host type_txt class_in) ∷ addition (text other 1) ∷ []
  -- "by the first leaving record each covers, in old store order": a. has two that one removal covers, and b. stands between.
  pub in-old-order : gone (service host ∷ text other 1 ∷ text host 1 ∷ [])
      ≡ removal (all_types host class_in) ∷ removal (rrset other type_txt class_in) ∷ []
  -- "and with its spelling": each kind of removal; of two spellings the first.
  pub spelled-single : told (text host_in_capitals 1 ∷ text host 2 ∷ []) (text host 2 ∷ [])
      ≡ removal (single host_in_capitals type_txt class_in (1 ∷ [])) ∷ []
  pub spelled-rrset : gone (text host_in_capitals 1 ∷ text host 2 ∷ []) ≡ removal (rrset host_in_capitals type_txt class_in) ∷ []
  pub spelled-types : gone (text host_in_capitals 1 ∷ service host ∷ []) ≡ removal (all_types host_in_capitals class_in) ∷ []
  pub spelled-classes : gone (text host_in_capitals 1 ∷ chaos host ∷ []) ≡ removal (all_classes host_in_capitals) ∷ []
  pub spelled-by-first : gone (text host 1 ∷ service host_in_capitals ∷ []) ≡ removal (all_types host class_in) ∷ []
  -- "then one add for each record entering the view or with a new TTL, in new store order and spelling."
  pub adds-in-order : told (text host 1 ∷ text host 2 ∷ []) (text host 2 ∷ with_ttl 60 (text host_in_capitals 1) ∷ service other ∷ [])
      ≡ addition (with_ttl 60 (text host_in_capitals 1)) ∷ addition (service other) ∷ []
  -- "Removal notices: one record (TTL 0xFFFFFFFF with RDATA); one RRset (TTL 0xFFFFFFFE, RDLEN 0); all types in a class (type
  -- 255); all classes (class 255, type written 0)."
  pub single-octets : changes_octets (removal (single host type_txt class_in (9 ∷ [])) ∷ []) ≡ octets 14 0x01610000100001ffffffff000109
  pub rrset-octets : changes_octets (removal (rrset host type_txt class_in) ∷ []) ≡ octets 13 0x01610000100001fffffffe0000
  pub types-octets : changes_octets (removal (all_types host class_in) ∷ []) ≡ octets 13 0x01610000ff0001fffffffe0000
  pub classes-octets : changes_octets (removal (all_classes host) ∷ []) ≡ octets 13 0x016100000000fffffffffe0000
  -- RFC 8765, 6.3.1: "A PUSH Message MUST contain at least one change notification." (01: "An empty list sends no PUSH.")
  pub no-notice : push_in (push_message []) ≡ none
  pub one-notice : push_in (push_message (addition (text host 1) ∷ [])) ≡ some (addition (text host 1) ∷ [])
  -- The same section, of a collective removal: "RDLEN MUST be zero". (01: "one RRset (TTL 0xFFFFFFFE, RDLEN 0)".)
  pub collective-with-rdata : push_in (push_with (collective_with (9 ∷ []))) ≡ none
  pub collective-without : push_in (push_with (collective_with [])) ≡ some (removal (rrset host type_txt class_in) ∷ [])

pub bench : Bench
unfolding octets field labels name_length lower same_octets message_id flags is_response opcode no_records tlvs tlvs_from header tlv_octets tlvs_octets same_key find held size record_octets read_after read_record covers is_true fields_of widest alike chosen firsts removals additions changes changes_octets push_message notified changes_in is_unidirectional push_in
bench =
    record {
      narrowest-rrset = refl;
      narrowest-types = refl;
      narrowest-classes = refl;
      widest-true = refl;
      rrset-of-one = refl;
      one-alone = refl;
      removals-first = refl;
      in-old-order = refl;
      spelled-single = refl;
      spelled-rrset = refl;
      spelled-types = refl;
      spelled-classes = refl;
      spelled-by-first = refl;
      adds-in-order = refl;
      single-octets = refl;
      rrset-octets = refl;
      types-octets = refl;
      classes-octets = refl;
      no-notice = refl;
      one-notice = refl;
      collective-with-rdata = refl;
      collective-without = refl;
    }
