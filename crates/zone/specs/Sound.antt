-- What holds of every store that a run from start has, and when a client has just a view.
use Rattle.std.specs.Prelude.{ℕ, ◌≤◌, Bool, true, not, ◌&&◌, List, [], ◌∷◌, ◌≡◌, length, ltb}
use Rattle.std.proofs.Math.Pow.{are_bytes}
use Rattle.wire.specs.Name.{is_name}
use Rattle.zone.specs.Lists.{all_of}
use Rattle.zone.specs.Record.{Record, Key, key_of}
use Rattle.zone.specs.Store.{find, held}
use Rattle.zone.specs.Batch.{allowed, is_put, max_records}

-- No key stands twice.
unfoldable pub distinct : List Record → Bool
distinct [] = true
distinct (r ∷ l) = not (held (key_of r) l) && distinct l

-- 01, "Demand 3": a client has just its view: "names (case aside), type, class, RDATA, TTL, each once, in any order".
pub record Exactly (client view : List Record) : Type 0 where
  pub once : distinct client ≡ true
  pub same : (k : Key) → find k client ≡ find k view

-- A record that a store may hold: octets are octets, its name is a name, numbers fit their fields, values are allowed.
unfoldable pub good : List ℕ → Record → Bool
good zone r =
    are_bytes r.owner && is_name r.owner && ltb r.rrtype 65536 && ltb r.rrclass 65536 && is_put r
    && are_bytes r.rdata
    && allowed zone r

pub record Sound (zone : List ℕ) (store : List Record) : Type 0 where
  pub once : distinct store ≡ true
  pub all : all_of (good zone) store ≡ true
  pub few : length store ≤ max_records
