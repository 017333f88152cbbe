-- What a record that a store may hold is like, part by part, and that one is made by a put that was read and allowed.
use Prim.Native.Nat.{ℕ, ◌≤◌, ◌<◌}
use mathlib.Core.Path.{◌≡◌}
use mathlib.Core.Bool.{true, not, ◌||◌}
use mathlib.Core.List.{List}
use native.Mathlib.Omega.{arith}
use lib.ListN.{length}
use lib.Dec.{eqb}
use borrow.Author.Tests.{leb-true, le-leb, ltb-true, lt-ltb}
use Rattle.wire.specs.Name.{is_name, within}
use Rattle.wire.proofs.Names.{is_name-max}
use Rattle.zone.specs.Record.{Record}
use Rattle.zone.specs.Layout.{size}
use Rattle.dso.specs.Judge.{any}
use Rattle.zone.specs.Batch.{allowed, is_put, is_plain, max_ttl, remove_ttl, max_rdata}
use Rattle.zone.specs.Sound.{good}
use Rattle.zone.specs.Fits.{fits, max_size}
use Rattle.zone.proofs.Lists.{and_left, and_right}
use Rattle.zone.proofs.Layouts.{fitting, fits-of}

-- ---- an allowed edit

pub record Allowed (zone : List ℕ) (r : Record) : Type 0 where
  pub ttl : (is_put r || eqb r.ttl remove_ttl) ≡ true
  pub rrtype : is_plain r.rrtype ≡ true
  pub rrclass : is_plain r.rrclass ≡ true
  pub rdata : length r.rdata ≤ max_rdata
  pub inside : within zone r.owner ≡ true

pub allowed-parts : (zone : List ℕ) (r : Record) → allowed zone r ≡ true → Allowed zone r
unfolding allowed
allowed-parts zone r h = record {
  ttl = search (and_left, and_right);
  rrtype = search (and_left, and_right);
  rrclass = search (and_left, and_right);
  rdata = leb-true (length r.rdata) max_rdata (search (and_left, and_right));
  inside = search (and_left, and_right);
}

pub allowed_of : (zone : List ℕ) (r : Record) → Allowed zone r → allowed zone r ≡ true
unfolding allowed
allowed_of zone r a =
    let d = le-leb (length r.rdata) max_rdata a.rdata in
    cc

-- A type or class that a record may have isn't the one that asks for any.
pub plain-not-any : (x : ℕ) → is_plain x ≡ true → not (eqb x any) ≡ true
plain-not-any x h = and_right (not (eqb x 0)) (not (eqb x any)) h

-- ---- a good record

pub record Good (zone : List ℕ) (r : Record) : Type 0 where
  pub fit : fits r ≡ true
  pub ttl : is_put r ≡ true
  pub values : allowed zone r ≡ true

ttl-fits : (r : Record) → is_put r ≡ true → r.ttl < 0x1_0000_0000
ttl-fits r h = omega (arith, leb-true r.ttl max_ttl h)

pub good-parts : (zone : List ℕ) (r : Record) → good zone r ≡ true → Good zone r
unfolding good
good-parts zone r h =
    let put : is_put r ≡ true = search (and_left, and_right) in
    let a : allowed zone r ≡ true = search (and_left, and_right) in
    record {
      fit = fits-of r (record {
        name = search (and_left, and_right);
        owner_octets = search (and_left, and_right);
        type16 = ltb-true r.rrtype 65536 (search (and_left, and_right));
        class16 = ltb-true r.rrclass 65536 (search (and_left, and_right));
        ttl32 = ttl-fits r put;
        rdata16 = omega (arith, (allowed-parts zone r a).rdata);
        rdata_octets = search (and_left, and_right);
      });
      ttl = put;
      values = a;
    }

pub good_of : (zone : List ℕ) (r : Record) → Good zone r → good zone r ≡ true
unfolding good
good_of zone r g =
    let f = fitting r g.fit in
    let t = lt-ltb r.rrtype 65536 f.type16 in
    let c = lt-ltb r.rrclass 65536 f.class16 in
    let p = g.ttl in
    let a = g.values in
    cc

pub good-fits : (zone : List ℕ) (r : Record) → good zone r ≡ true → fits r ≡ true
good-fits zone r h = (good-parts zone r h).fit

-- ---- sizes

pub size-max : (r : Record) → is_name r.owner ≡ true → length r.rdata ≤ max_rdata → size r ≤ max_size
unfolding size
size-max r h k = omega (arith, is_name-max r.owner h)

pub good-size : (zone : List ℕ) (r : Record) → good zone r ≡ true → size r ≤ max_size
good-size zone r h =
    let g = good-parts zone r h in
    size-max r (fitting r g.fit).name (allowed-parts zone r g.values).rdata
