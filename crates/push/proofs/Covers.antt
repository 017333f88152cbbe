-- Laws of removals: what they cover and when they are true.
use Prim.Native.Nat.{ℕ, zero, suc, ◌+◌, ◌-◌, ◌≤◌}
use mathlib.Core.Path.{◌≡◌, refl, ap, ◌∙◌}
use mathlib.Core.Bool.{Bool, true, false, not, ◌&&◌}
use mathlib.Core.List.{List}
use native.Mathlib.Omega.{arith}
use lib.Dec.{eqb}
use borrow.Author.Tests.{eqb-true, eq-eqb, not-true}
use Rattle.wire.specs.Name.{lowered, same_octets}
use Rattle.wire.proofs.Names.{same_octets-true, same_octets-refl}
use Rattle.zone.specs.Lists.{any_of}
use Rattle.zone.specs.Record.{Record, Key, key_of, same_key}
use Rattle.zone.specs.Store.{held}
use Rattle.zone.proofs.Lists.{and_left, and_right, and_both, any_of-map, clash, never}
use Rattle.zone.proofs.Keys.{same_key-true, same_key-refl, same_key-sym}
use Rattle.zone.proofs.Stores.{held-any_of, any_of-held}
use Rattle.push.specs.Change.{Removal, single, rrset, all_types, all_classes, covers, is_true}
use Rattle.push.specs.List.{single_at, rrset_at, all_types_at, all_classes_at}

-- The four removals that hold a record, from the widest to the narrowest, and which of them a removal is.
abbrev pub at : ℕ → Record → Removal
at zero r = all_classes_at r
at (suc zero) r = all_types_at r
at (suc (suc zero)) r = rrset_at r
at (suc (suc (suc n))) r = single_at r

abbrev pub grade : Removal → ℕ
grade (single owner rrtype rrclass rdata) = 3
grade (rrset owner rrtype rrclass) = 2
grade (all_types owner rrclass) = 1
grade (all_classes owner) = 0

pub at_own : (n : ℕ) (r : Record) → covers (at n r) (key_of r) ≡ true
unfolding covers
at_own zero r = same_octets-refl (lowered r.owner)
at_own (suc zero) r = and_both (same_octets-refl (lowered r.owner)) (eq-eqb r.rrclass r.rrclass refl)
at_own (suc (suc zero)) r =
    and_both (and_both (same_octets-refl (lowered r.owner)) (eq-eqb r.rrtype r.rrtype refl))
    (eq-eqb r.rrclass r.rrclass refl)
at_own (suc (suc (suc n))) r = same_key-refl (key_of r)

-- A removal that covers a record is one of the four at that record, but for spelling.
pub covers_at : (m : Removal) (r : Record) (k : Key) → covers m (key_of r) ≡ true → covers m k ≡ covers (at (grade m) r) k
unfolding covers
covers_at (single o t c d) r k e =
    ap (λ (j : Key). same_key j k)
    (same_key-true (record { owner = lowered o; rrtype = t; rrclass = c; rdata = d }) (key_of r) e)
covers_at (rrset o t c) r k e =
    let x : Bool = same_octets (lowered o) (lowered r.owner) in
    let y : Bool = eqb t r.rrtype in
    let xy : (x && y) ≡ true = and_left (x && y) (eqb c r.rrclass) e in
    rw (
      same_octets-true (lowered o) (lowered r.owner) (and_left x y xy),
      eqb-true t r.rrtype (and_right x y xy),
      eqb-true c r.rrclass (and_right (x && y) (eqb c r.rrclass) e),
    )
covers_at (all_types o c) r k e =
    let x : Bool = same_octets (lowered o) (lowered r.owner) in
    rw (
      same_octets-true (lowered o) (lowered r.owner) (and_left x (eqb c r.rrclass) e),
      eqb-true c r.rrclass (and_right x (eqb c r.rrclass) e),
    )
covers_at (all_classes o) r k e = rw (same_octets-true (lowered o) (lowered r.owner) e)

-- A narrower one covers no more.
pub at-step : (n : ℕ) (r : Record) (k : Key) → covers (at (suc n) r) k ≡ true → covers (at n r) k ≡ true
unfolding covers same_key
at-step zero r k e = and_left (same_octets (lowered r.owner) k.owner) (eqb r.rrclass k.rrclass) e
at-step (suc zero) r k e =
    let x : Bool = same_octets (lowered r.owner) k.owner in
    let y : Bool = eqb r.rrtype k.rrtype in
    let z : Bool = eqb r.rrclass k.rrclass in
    and_both (and_left x y (and_left (x && y) z e)) (and_right (x && y) z e)
at-step (suc (suc zero)) r k e =
    and_left
    (same_octets (lowered r.owner) k.owner && eqb r.rrtype k.rrtype && eqb r.rrclass k.rrclass)
    (same_octets r.rdata k.rdata)
    e
at-step (suc (suc (suc n))) r k e = e

pub at-within : (i j : ℕ) (r : Record) (k : Key) → i ≤ j → covers (at j r) k ≡ true → covers (at i r) k ≡ true
at-within i j r k h e = down (j - i) i (omega arith)
  where
    down : (d i : ℕ) → i + d ≡ j → covers (at i r) k ≡ true
    down zero i q = let z : i ≡ j = omega arith in rw z e
    down (suc d) i q = at-step i r k (down d (suc i) (omega arith))

-- ---- truth

pub is_true-within : (store : List Record) (m w : Removal) → ((k : Key) → covers m k ≡ true → covers w k ≡ true)
    → is_true store w ≡ true → is_true store m ≡ true
unfolding is_true
is_true-within store m w f e =
    ap not
    (never (any_of (λ (r : Record). covers m (key_of r)) store)
    (λ h. clash (any_of (λ (r : Record). covers w (key_of r)) store)
    (any_of-map (λ (r : Record). covers m (key_of r)) (λ (r : Record). covers w (key_of r)) store (λ r. f (key_of r)) h)
    (not-true (any_of (λ (r : Record). covers w (key_of r)) store) e)))

pub is_true-at : (store : List Record) (i j : ℕ) (r : Record) → i ≤ j → is_true store (at i r) ≡ true → is_true store (at j r) ≡ true
is_true-at store i j r h e = is_true-within store (at j r) (at i r) (λ k. at-within i j r k h) e

-- A true removal covers no key of the store.
pub is_true-uncovered : (store : List Record) (m : Removal) (k : Key) → is_true store m ≡ true → held k store ≡ true → covers m k ≡ false
unfolding is_true
is_true-uncovered store m k e h =
    never (covers m k)
    (λ c. clash (any_of (λ (r : Record). covers m (key_of r)) store)
    (any_of-held (λ (r : Record). covers m (key_of r)) k store (λ r q. ap (covers m) q ∙ c) h)
    (not-true (any_of (λ (r : Record). covers m (key_of r)) store) e))

-- The removal of one record is true where the store doesn't hold it.
pub is_true-single : (store : List Record) (r : Record) → held (key_of r) store ≡ false → is_true store (single_at r) ≡ true
unfolding is_true covers
is_true-single store r h =
    ap not
    (never (any_of (λ (e : Record). same_key (key_of r) (key_of e)) store)
    (λ a. clash (held (key_of r) store)
    (rw (held-any_of (key_of r) store)
    (any_of-map (λ (e : Record). same_key (key_of r) (key_of e)) (λ (e : Record). same_key (key_of e) (key_of r)) store
    (λ e q. same_key-sym (key_of e) (key_of r) ∙ q) a))
    h))
