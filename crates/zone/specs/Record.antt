-- Resource records, and what tells one from another.
use Rattle.std.specs.Prelude.{ℕ, Bool, ◌&&◌, List, eqb}
use Rattle.wire.specs.Name.{lowered, same_octets}

pub record Record : Type 0 where
  pub owner : List ℕ
  pub rrtype : ℕ
  pub rrclass : ℕ
  pub ttl : ℕ
  pub rdata : List ℕ

-- What a record is known by: name without case, type, class, RDATA (01, "What the dock can hold", and "a held record").
-- The TTL and the spelling are no part of it.
pub record Key : Type 0 where
  pub owner : List ℕ
  pub rrtype : ℕ
  pub rrclass : ℕ
  pub rdata : List ℕ

abbrev pub key_of : Record → Key
key_of r = record { owner = lowered r.owner; rrtype = r.rrtype; rrclass = r.rrclass; rdata = r.rdata }

unfoldable pub same_key : Key → Key → Bool
same_key a b =
    same_octets a.owner b.owner && eqb a.rrtype b.rrtype && eqb a.rrclass b.rrclass
    && same_octets a.rdata b.rdata
