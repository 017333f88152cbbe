-- What one step of the code makes of the memory and the count.
use Rattle.std.specs.Prelude.{ℕ, ◌+◌, ◌≤◌, ◌<◌, ◌≡◌, Bool, true, cond, Result, Ok, Err, List, set}
use Rattle.std.proofs.lemmas.List.Edits.{sets}
use Rattle.wire.specs.Field.{octets}
use Rattle.zone.specs.Record.{Record, Key, key_of, same_key}
use Rattle.zone.specs.Store.{with_ttl}
use Rattle.zone.specs.Batch.{max_records, overfull, edit}
use Rattle.zone.specs.Table.{block_at, rec_of, records_of}
use Rattle.zone.specs.declared.BatchFault.{BatchFault}
use Rattle.zone.specs.declared.BatchFault.TheVariants.{StoreFull}

-- Whether the record in a block has a key.
abbrev pub keyed : List ℕ → ℕ → Key → Bool
keyed area i k = same_key (key_of (rec_of (block_at area i))) k

-- A quick test of two lists, which equal ones pass.
pub record Passes (a b : List ℕ) (passed : Bool) : Type 0 where
  pub equal : a ≡ b → passed ≡ true

-- A TTL set in a block.
pub record TtlSet (t : ℕ) (area : List ℕ) (i : ℕ) (after : List ℕ) : Type 0 where
  pub store : (n : ℕ) → n ≤ max_records → i < n → records_of n after ≡ set (records_of n area) i (with_ttl t (rec_of (block_at area i)))

-- Type, class and TTL written behind the two lengths of a block that begins at a place.
abbrev pub numbered : List ℕ → ℕ → ℕ → ℕ → ℕ → List ℕ
numbered area at t c ttl = sets (sets (sets area (at + 2) (octets 2 t)) (at + 4) (octets 2 c)) (at + 6) (octets 4 ttl)

-- The store after an edit; refused where a put finds 40 others.
unfoldable pub applied : List Record → Record → Result (List Record) BatchFault
applied store r = cond (overfull store r) (Err StoreFull) (Ok (edit store r))
