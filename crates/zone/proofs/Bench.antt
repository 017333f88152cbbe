-- 01, "Records, matches and notices", the faults of a batch by computation: "Edits are read left to right, the first fault
-- decides: 16, then 14, then 15, then 17."
use Prim.Native.Nat.{ℕ, zero, suc}
use mathlib.Core.List.{List, [], ◌∷◌, ◌++◌}
use mathlib.Core.Path.{◌≡◌, refl}
use lib.ListN.{take, replicate}
use Rattle.wire.specs.Field.{octets, field}
use Rattle.wire.specs.Name.{labels, name_length, lower, same_octets, same_name, ends_in, within}
use Rattle.zone.specs.Record.{Record, same_key}
use Rattle.zone.specs.Store.{find, held, put, remove}
use Rattle.zone.specs.Layout.{size, record_octets, read_after, read_record}
use Rattle.zone.specs.Batch.{
  max_edits,
  max_records,
  remove_ttl,
  allowed,
  overfull,
  edit,
  Edited,
  stored,
  faulty,
  edited,
  batch_of,
}
use Rattle.zone.specs.declared.BatchFault.TheVariants.{TooManyEdits, Unreadable, BadValue, StoreFull}

-- The zone b., and a record of a.b. with n octets of RDATA.
abbrev pub zone : List ℕ
zone = 1 ∷ 98 ∷ 0 ∷ []

abbrev pub rr : ℕ → ℕ → ℕ → Record
rr rrtype ttl n =
    record { owner = 1 ∷ 97 ∷ zone; rrtype = rrtype; rrclass = 1; ttl = ttl; rdata = replicate n 7 }

-- Edits: one that is allowed, which removes a record that no store here has; one of type 0; one cut short, also of type 0.
abbrev pub good : List ℕ
good = record_octets (rr 1 remove_ttl 0)

abbrev pub bad : List ℕ
bad = record_octets (rr 0 120 0)

abbrev pub short : List ℕ
short = take 14 bad

-- n edits that are allowed, and what stands behind them.
abbrev pub goods : ℕ → List ℕ → List ℕ
goods zero l = l
goods (suc n) l = good ++ goods n l

-- A store of 40 records: one record in 40 places, none of which has the key of another example.
abbrev pub full : List Record
full = replicate max_records (rr 2 120 1)

abbrev pub onto : List Record → List ℕ → Edited
onto store bytes = batch_of zone bytes store

pub record Bench : Type 0 where
  -- 14, though the type, which is there, is 15; whole it is 15.
  pub unreadable-first : onto [] short ≡ faulty Unreadable
  pub bad-value : onto [] bad ≡ faulty BadValue
  -- "RDATA over 128": 15 where it is all there, 14 where one octet is missing; 128 octets are stored.
  pub rdata-129 : onto [] (record_octets (rr 1 120 129)) ≡ faulty BadValue
  pub rdata-129-cut : onto [] (take 143 (record_octets (rr 1 120 129))) ≡ faulty Unreadable
  pub rdata-128 : onto [] (record_octets (rr 1 120 128)) ≡ stored (rr 1 120 128 ∷ [])
  -- 15 before 17, and 17: "a put finds 40 other records".
  pub bad-value-first : onto full bad ≡ faulty BadValue
  pub store-full : onto full (record_octets (rr 1 120 0)) ≡ faulty StoreFull
  -- "read left to right, the first fault decides": the earlier edit's.
  pub left-to-right : onto [] (bad ++ short) ≡ faulty BadValue
  pub left-to-right-full : onto full (record_octets (rr 1 120 0) ++ short) ≡ faulty StoreFull
  -- 16 before 14: a 33rd edit begins; 32 are taken.
  pub edits-32 : onto [] (goods max_edits []) ≡ stored []
  pub edits-33 : onto [] (goods max_edits short) ≡ faulty TooManyEdits

pub bench : Bench
unfolding octets field labels name_length lower same_octets same_name ends_in within same_key find held put remove size record_octets read_after read_record allowed overfull edit edited batch_of
bench =
    record {
      unreadable-first = refl;
      bad-value = refl;
      rdata-129 = refl;
      rdata-129-cut = refl;
      rdata-128 = refl;
      bad-value-first = refl;
      store-full = refl;
      left-to-right = refl;
      left-to-right-full = refl;
      edits-32 = refl;
      edits-33 = refl;
    }
