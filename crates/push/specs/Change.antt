-- Change notifications (01: notices), what a removal covers, and how a client applies them.
use Rattle.std.specs.Prelude.{ℕ, Bool, not, ◌&&◌, List, [], ◌∷◌, eqb}
use Rattle.wire.specs.Name.{lowered, same_octets}
use Rattle.zone.specs.Lists.{keep, any_of}
use Rattle.zone.specs.Record.{Record, Key, key_of, same_key}
use Rattle.zone.specs.Store.{put}
use Rattle.dso.specs.Judge.{any}
use Rattle.zone.specs.Batch.{remove_ttl}

-- The four removals of RFC 8765, 6.3.1: one record; one RRset; all types in a class; all classes.
pub data Removal : Type 0 where
  single : (owner : List ℕ) (rrtype rrclass : ℕ) (rdata : List ℕ) → Removal
  rrset : (owner : List ℕ) (rrtype rrclass : ℕ) → Removal
  all_types : (owner : List ℕ) (rrclass : ℕ) → Removal
  all_classes : (owner : List ℕ) → Removal

pub data Change : Type 0 where
  addition : Record → Change
  removal : Removal → Change

-- The records that a removal drops: those of its name and, by kind, its type, class and RDATA; its type and class; its
-- class; any class.
unfoldable pub covers : Removal → Key → Bool
covers (single owner rrtype rrclass rdata) k =
    same_key (record { owner = lowered owner; rrtype = rrtype; rrclass = rrclass; rdata = rdata }) k
covers (rrset owner rrtype rrclass) k =
    same_octets (lowered owner) k.owner && eqb rrtype k.rrtype && eqb rrclass k.rrclass
covers (all_types owner rrclass) k = same_octets (lowered owner) k.owner && eqb rrclass k.rrclass
covers (all_classes owner) k = same_octets (lowered owner) k.owner

-- 01: "True means: covers no record of the new store."
unfoldable pub is_true : List Record → Removal → Bool
is_true store m = not (any_of (λ (r : Record). covers m (key_of r)) store)

-- How a client applies a change: "A removal drops what it covers. An add sets the TTL of a record the client has, or adds
-- it."
unfoldable pub applied : Change → List Record → List Record
applied (addition r) client = put r client
applied (removal m) client = keep (λ (r : Record). not (covers m (key_of r))) client

unfoldable pub applied_all : List Change → List Record → List Record
applied_all [] client = client
applied_all (c ∷ cs) client = applied_all cs (applied c client)

-- The TTL of a collective removal.
abbrev pub collective_ttl : ℕ
collective_ttl = 0xffff_fffe

-- The fields in which a change is written (RFC 8765, 6.3.1, "Summary of change notification types"). For all classes the
-- type is written 0.
unfoldable pub fields_of : Change → Record
fields_of (addition r) = r
fields_of (removal (single owner rrtype rrclass rdata)) =
    record { owner = owner; rrtype = rrtype; rrclass = rrclass; ttl = remove_ttl; rdata = rdata }
fields_of (removal (rrset owner rrtype rrclass)) =
    record { owner = owner; rrtype = rrtype; rrclass = rrclass; ttl = collective_ttl; rdata = [] }
fields_of (removal (all_types owner rrclass)) =
    record { owner = owner; rrtype = any; rrclass = rrclass; ttl = collective_ttl; rdata = [] }
fields_of (removal (all_classes owner)) =
    record { owner = owner; rrtype = 0; rrclass = any; ttl = collective_ttl; rdata = [] }
