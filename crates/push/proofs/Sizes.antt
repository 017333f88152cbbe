-- Sizes of changes: no true removal of a record is shorter than the chosen one, and adds of one key are equally long.
use Prim.Native.Nat.{◌+◌, ◌≤◌}
use mathlib.Core.Path.{◌≡◌, refl, sym, ap, ◌∙◌}
use mathlib.Core.Bool.{Bool, true, false, ◌&&◌}
use mathlib.Core.List.{List}
use native.Mathlib.Omega.{arith}
use lib.ListN.{length}
use lib.Dec.{eqb}
use Rattle.wire.specs.Name.{lowered, same_octets}
use Rattle.wire.proofs.Names.{same_octets-true, length-case}
use Rattle.zone.specs.Record.{Record, Key, key_of}
use Rattle.zone.specs.Layout.{size}
use Rattle.zone.proofs.Lists.{and_left, clash}
use Rattle.zone.proofs.Keys.{same_key-true}
use Rattle.push.specs.Change.{Removal, single, rrset, all_types, all_classes, removal, covers, is_true, fields_of}
use Rattle.push.specs.List.{rrset_at, chosen}
use Rattle.push.proofs.Covers.{at, grade, covers_at, is_true-within, is_true-at}
use Rattle.push.proofs.Chosen.{chosen-single, chosen-size}

pub size-key : (r s : Record) → key_of r ≡ key_of s → size r ≡ size s
unfolding size
size-key r s e =
    let h : length r.owner ≡ length s.owner = length-case r.owner s.owner (ap (λ (k : Key). k.owner) e) in
    let g : length r.rdata ≡ length s.rdata = ap (λ (k : Key). length k.rdata) e in
    omega arith

-- A removal holds at least the name of a record that it covers.
pub size-name : (m : Removal) (r : Record) → covers m (key_of r) ≡ true → length r.owner + 10 + 0 ≤ size (fields_of (removal m))
unfolding covers size fields_of
size-name (single o t c d) r e =
    let h : length o ≡ length r.owner = length-case o r.owner (ap (λ (k : Key). k.owner) (same_key-true (record { owner = lowered o; rrtype = t; rrclass = c; rdata = d }) (key_of r) e)) in
    omega arith
size-name (rrset o t c) r e =
    let x : Bool = same_octets (lowered o) (lowered r.owner) in
    let y : Bool = eqb t r.rrtype in
    let h : length o ≡ length r.owner = length-case o r.owner (same_octets-true (lowered o) (lowered r.owner) (and_left x y (and_left (x && y) (eqb c r.rrclass) e))) in
    omega arith
size-name (all_types o c) r e =
    let h : length o ≡ length r.owner = length-case o r.owner (same_octets-true (lowered o) (lowered r.owner) (and_left (same_octets (lowered o) (lowered r.owner)) (eqb c r.rrclass) e)) in
    omega arith
size-name (all_classes o) r e =
    let h : length o ≡ length r.owner = length-case o r.owner (same_octets-true (lowered o) (lowered r.owner) e) in
    omega arith

pub size-chosen : (store gone : List Record) (r : Record) (m : Removal) → is_true store m ≡ true → covers m (key_of r) ≡ true
    → size (fields_of (removal (chosen store gone r))) ≤ size (fields_of (removal m))
size-chosen store gone r m e c = go (is_true store (rrset_at r)) refl
  where
    -- any other true removal than a single one would make the RRset's true
    alone : is_true store (rrset_at r) ≡ false → (m : Removal) → is_true store (at (grade m) r) ≡ true → covers m (key_of r) ≡ true
        → size r ≡ size (fields_of (removal m))
    alone f (single o t k d) h c =
        size-key r (record { owner = o; rrtype = t; rrclass = k; ttl = 0; rdata = d }) (sym (same_key-true (record { owner = lowered o; rrtype = t; rrclass = k; rdata = d }) (key_of r) (unfold covers in c)))
        ∙ unfold size fields_of in refl
    alone f (rrset o t k) h c = clash (is_true store (rrset_at r)) (is_true-at store 2 2 r (omega arith) h) f
    alone f (all_types o k) h c = clash (is_true store (rrset_at r)) (is_true-at store 1 2 r (omega arith) h) f
    alone f (all_classes o) h c = clash (is_true store (rrset_at r)) (is_true-at store 0 2 r (omega arith) h) f

    go : (b : Bool) → is_true store (rrset_at r) ≡ b → size (fields_of (removal (chosen store gone r))) ≤ size (fields_of (removal m))
    go true h = let n = size-name m r c in let q = chosen-size store gone r h in omega arith
    go false h =
        let q = alone h m (is_true-within store (at (grade m) r) m (λ j g. covers_at m r j c ∙ g) e) c in
        let p : size (fields_of (removal (chosen store gone r))) ≡ size r = rw (chosen-single store gone r h) (unfold size fields_of in refl) in
        omega arith
