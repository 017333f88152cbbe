-- Laws of keys: the test of two keys is their equality.
use mathlib.Core.Path.{◌≡◌, refl, sym, subst}
use mathlib.Core.Logic.{inl, inr}
use mathlib.Core.Bool.{Bool, true, false, ◌&&◌}
use lib.Dec.{eqb}
use borrow.Author.Tests.{eqb-true, eq-eqb}
use Rattle.wire.specs.Name.{same_octets}
use Rattle.wire.proofs.Names.{same_octets-true, same_octets-refl}
use Rattle.zone.specs.Record.{Key, same_key}
use Rattle.zone.proofs.Lists.{and_left, and_right, and_both, clash, decided, same_test}

pub same_key-true : (a b : Key) → same_key a b ≡ true → a ≡ b
unfolding same_key
same_key-true a b e =
    let x : Bool = same_octets a.owner b.owner in
    let y : Bool = eqb a.rrtype b.rrtype in
    let z : Bool = eqb a.rrclass b.rrclass in
    let w : Bool = same_octets a.rdata b.rdata in
    let xyz : (x && y && z) ≡ true = and_left (x && y && z) w e in
    let xy : (x && y) ≡ true = and_left (x && y) z xyz in
    let p : a.owner ≡ b.owner = same_octets-true a.owner b.owner (and_left x y xy) in
    let q : a.rrtype ≡ b.rrtype = eqb-true a.rrtype b.rrtype (and_right x y xy) in
    let r : a.rrclass ≡ b.rrclass = eqb-true a.rrclass b.rrclass (and_right (x && y) z xyz) in
    let s : a.rdata ≡ b.rdata = same_octets-true a.rdata b.rdata (and_right (x && y && z) w e) in
    λ i. record { owner = p i; rrtype = q i; rrclass = r i; rdata = s i }

pub same_key-refl : (a : Key) → same_key a a ≡ true
unfolding same_key
same_key-refl a =
    and_both
    (and_both (and_both (same_octets-refl a.owner) (eq-eqb a.rrtype a.rrtype refl))
    (eq-eqb a.rrclass a.rrclass refl))
    (same_octets-refl a.rdata)

pub same_key-of : (a b : Key) → a ≡ b → same_key a b ≡ true
same_key-of a b p = subst (λ (c : Key). same_key a c ≡ true) p (same_key-refl a)

pub same_key-sym : (a b : Key) → same_key a b ≡ same_key b a
same_key-sym a b =
    same_test (same_key a b) (same_key b a) (λ e. same_key-of b a (sym (same_key-true a b e)))
    (λ e. same_key-of a b (sym (same_key-true b a e)))

pub same_key-false : (a b : Key) → same_key a b ≡ false → a ≡ b → ⊥
same_key-false a b e p = clash (same_key a b) (same_key-of a b p) e

-- Two keys are equal or they aren't, with the test's value.
pub data Keys (a b : Key) : Type 0 where
  alike : a ≡ b → same_key a b ≡ true → Keys a b
  apart : same_key a b ≡ false → Keys a b

pub keys : (a b : Key) → Keys a b
keys a b = elim (decided (same_key a b)) [ inl e ↦ alike (same_key-true a b e) e | inr e ↦ apart e ]

pub key-discrete : (a b : Key) → Dec (a ≡ b)
key-discrete a b = elim (keys a b) [ alike p e ↦ yes p | apart e ↦ no (same_key-false a b e) ]
