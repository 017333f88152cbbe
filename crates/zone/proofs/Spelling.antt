-- "spelling is never a change" (01): a record in another spelling has the same key, so that putting it sets the TTL of the
-- held one, which keeps its place and its spelling; and a subscription matches in any spelling.
use Prim.Native.Nat.{ℕ}
use mathlib.Core.Bool.{Bool, true, false, cond}
use mathlib.Core.List.{List, [], ◌∷◌, map}
use mathlib.Core.Path.{◌≡◌, refl, ap, ap₂}
use Rattle.wire.specs.Name.{lowered}
use Rattle.zone.specs.Record.{Record, Key, key_of, same_key}
use Rattle.zone.specs.Store.{held, put, with_ttl, set_if}
use Rattle.zone.specs.Match.{Subscription, matches_key, matches}

abbrev pub respelled : List ℕ → Record → Record
respelled name r = record { owner = name; rrtype = r.rrtype; rrclass = r.rrclass; ttl = r.ttl; rdata = r.rdata }

module _ (name : List ℕ) (r : Record) (same : lowered name ≡ lowered r.owner) where
  pub key-respelled : key_of (respelled name r) ≡ key_of r
  key-respelled =
      ap (λ (o : List ℕ). record { owner = o; rrtype = r.rrtype; rrclass = r.rrclass; rdata = r.rdata }) same

  pub matches-respelled : (s : Subscription) → matches s (respelled name r) ≡ matches s r
  matches-respelled s = ap (matches_key s) key-respelled

  pub put-respelled : (l : List Record) → held (key_of r) l ≡ true → put (respelled name r) l ≡ map (set_if (key_of r) r.ttl) l
  unfolding put
  put-respelled l h = rw (same, h)

-- The spellings that a list shows.
abbrev pub spellings : List Record → List (List ℕ)
spellings l = map (λ (r : Record). r.owner) l

owner-set_if : (k : Key) (t : ℕ) (r : Record) → (set_if k t r).owner ≡ r.owner
owner-set_if k t r = go (same_key (key_of r) k)
  where
    go : (b : Bool) → (cond b (with_ttl t r) r).owner ≡ r.owner
    go true = refl
    go false = refl

pub spellings-set : (k : Key) (t : ℕ) (l : List Record) → spellings (map (set_if k t) l) ≡ spellings l
spellings-set k t [] = refl
spellings-set k t (r ∷ l) =
    ap₂ (λ (o : List ℕ) (os : List (List ℕ)). o ∷ os) (owner-set_if k t r) (spellings-set k t l)
