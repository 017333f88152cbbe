-- The store: a list of records, in the order in which they came. A client's records are such a list too.
use Rattle.std.specs.Prelude.{ℕ, Bool, true, false, cond, not, List, [], ◌∷◌, ◌++◌, map}
use Rattle.std.proofs.Math.Option.{Option, none, some}
use Rattle.zone.specs.Lists.{keep}
use Rattle.zone.specs.Record.{Record, Key, key_of, same_key}

-- The TTL of the record with a key, if the list holds it.
unfoldable pub find : Key → List Record → Option ℕ
find k [] = none
find k (r ∷ l) = cond (same_key (key_of r) k) (some r.ttl) (find k l)

abbrev pub is_some : Option ℕ → Bool
is_some none = false
is_some (some n) = true

unfoldable pub held : Key → List Record → Bool
held k l = is_some (find k l)

abbrev pub with_ttl : ℕ → Record → Record
with_ttl t r = record { owner = r.owner; rrtype = r.rrtype; rrclass = r.rrclass; ttl = t; rdata = r.rdata }

abbrev pub set_if : Key → ℕ → Record → Record
set_if k t r = cond (same_key (key_of r) k) (with_ttl t r) r

-- 01: "A put of a held record (name, type, class, RDATA) sets its TTL in place and keeps the spelling; a new one goes to
-- the end." A client applies an add so too.
unfoldable pub put : Record → List Record → List Record
put r l = cond (held (key_of r) l) (map (set_if (key_of r) r.ttl) l) (l ++ (r ∷ []))

-- 01: "Deleting closes the gap; deleting an absent one is harmless."
unfoldable pub remove : Key → List Record → List Record
remove k l = keep (λ (r : Record). not (same_key (key_of r) k)) l
