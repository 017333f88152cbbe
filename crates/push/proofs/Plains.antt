-- The changes between views of sound stores: all of them plain, none over 393 octets.
use Prim.Native.Nat.{ℕ, ◌+◌, ◌*◌, ◌≤◌, ◌<◌}
use mathlib.Core.Path.{◌≡◌, refl, ap, ◌∙◌}
use mathlib.Core.Bool.{Bool, true, false, cond, not, ◌&&◌}
use mathlib.Core.List.{List, [], ◌∷◌}
use native.Mathlib.Omega.{arith}
use lib.ListN.{length, length-map}
use lib.Dec.{leb, lit<, lit≤}
use borrow.Author.Tests.{leb-true, le-leb}
use Rattle.zone.specs.Lists.{all_of}
use Rattle.zone.specs.Record.{Record, key_of}
use Rattle.zone.specs.Store.{find, held}
use Rattle.dso.specs.Judge.{any}
use Rattle.zone.specs.Match.{Subscription, wanted, view}
use Rattle.zone.specs.Layout.{size}
use Rattle.zone.specs.Batch.{max_rdata, max_records}
use Rattle.zone.specs.Fits.{max_size}
use Rattle.zone.specs.Sound.{good, Sound}
use Rattle.zone.proofs.Lists.{and_left, and_right, and_both, all_of-append, all_of-map, all_of-keep, all_of-of-map, length-keep}
use Rattle.zone.proofs.Layouts.{Fitting, fitting, fits-of}
use Rattle.zone.proofs.Goods.{good-parts, Allowed, allowed-parts, plain-not-any, size-max}
use Rattle.push.specs.Change.{Removal, Change, addition, removal, is_true, collective_ttl, fields_of}
use Rattle.push.specs.List.{single_at, rrset_at, all_types_at, all_classes_at, widest, alike, chosen, firsts, leaving, has_ttl, entering, removals, additions, changes}
use Rattle.push.specs.Octets.{push_octets, push_of}
use Rattle.push.specs.Plain.{not_any, plain_values, plain_change, max_push}
use Rattle.push.specs.Measure.{bytes}
use Rattle.push.proofs.Firsts.{all_of-firsts}
use Rattle.push.proofs.Framing.{Sendable, length-push_octets, push_of-nil, push_of-cons}

-- ---- what holds of every change at a record

-- A test that passes at the addition of each record that passes p, and at its four removals.
pub record AtEach (p : Record → Bool) (q : Change → Bool) : Type 0 where
  pub adding : (r : Record) → p r ≡ true → q (addition r) ≡ true
  pub one : (r : Record) → p r ≡ true → q (removal (single_at r)) ≡ true
  pub set : (r : Record) → p r ≡ true → q (removal (rrset_at r)) ≡ true
  pub types : (r : Record) → p r ≡ true → q (removal (all_types_at r)) ≡ true
  pub classes : (r : Record) → p r ≡ true → q (removal (all_classes_at r)) ≡ true

-- Whatever is chosen is one of the four.
pub chosen-cases : (P : Removal → Type 0) (store gone : List Record) (r : Record) → P (single_at r) → P (rrset_at r) → P (all_types_at r)
    → P (all_classes_at r) → P (chosen store gone r)
unfolding chosen
chosen-cases P store gone r a b c d =
    pick (is_true store (rrset_at r)) (alike gone (rrset_at r) (widest store r)) (alike gone (all_types_at r) (widest store r))
  where
    pick : (s t u : Bool) → P (cond s (cond t (rrset_at r) (cond u (all_types_at r) (all_classes_at r))) (single_at r))
    pick true true u = b
    pick true false true = c
    pick true false false = d
    pick false t u = a

module _ (p : Record → Bool) (q : Change → Bool) (each : AtEach p q) where
  pub removals-all : (store gone : List Record) → all_of p gone ≡ true → all_of q (removals store gone) ≡ true
  unfolding removals
  removals-all store gone h =
      let f : Record → Change = λ r. removal (chosen store gone r) in
      let l = firsts (chosen store gone) [] gone in
      all_of-of-map f q l
      ∙ all_of-map p (λ r. q (f r)) l (λ r e. chosen-cases (λ m. q (removal m) ≡ true) store gone r
      (each.one r e) (each.set r e) (each.types r e) (each.classes r e))
      (all_of-firsts (chosen store gone) p [] gone h)

  pub additions-all : (l : List Record) → all_of p l ≡ true → all_of q (additions l) ≡ true
  unfolding additions
  additions-all l h = all_of-of-map addition q l ∙ all_of-map p (λ r. q (addition r)) l each.adding h

  pub changes-all : (store old new : List Record) → all_of p old ≡ true → all_of p new ≡ true → all_of q (changes store old new) ≡ true
  unfolding changes
  changes-all store old new h k =
      all_of-append q (removals store (leaving old new)) (additions (entering old new))
      ∙ and_both (removals-all store (leaving old new) (all_of-keep p (λ (r : Record). not (held (key_of r) new)) old h))
      (additions-all (entering old new) (all_of-keep p (λ (r : Record). not (has_ttl (find (key_of r) old) r.ttl)) new k))

-- ---- plain changes of at most 393 octets

abbrev pub plain_short : Change → Bool
plain_short c = plain_change c && leb (size (fields_of c)) max_size

plain-short : (c : Change) → Fitting (fields_of c) → plain_values c ≡ true → length (fields_of c).rdata ≤ max_rdata → plain_short c ≡ true
unfolding plain_change
plain-short c f v d =
    and_both (and_both (fits-of (fields_of c) f) v) (le-leb (size (fields_of c)) max_size (size-max (fields_of c) f.name d))

module _ (zone : List ℕ) (r : Record) (h : good zone r ≡ true) where
  whole : Fitting r
  whole = fitting r (good-parts zone r h).fit

  values : Allowed zone r
  values = allowed-parts zone r (good-parts zone r h).values

  not-any-type : not_any r.rrtype ≡ true
  not-any-type = plain-not-any r.rrtype values.rrtype

  not-any-class : not_any r.rrclass ≡ true
  not-any-class = plain-not-any r.rrclass values.rrclass

  -- The record's fields with another type, class and TTL, and no RDATA.
  bare : (t c : ℕ) → t < 65536 → c < 65536 → Fitting (record { owner = r.owner; rrtype = t; rrclass = c; ttl = collective_ttl; rdata = [] })
  bare t c p q = record {
    name = whole.name;
    owner_octets = whole.owner_octets;
    type16 = p;
    class16 = q;
    ttl32 = lit< tt;
    rdata16 = lit< tt;
    rdata_octets = refl;
  }

  at-addition : plain_short (addition r) ≡ true
  unfolding fields_of plain_values
  at-addition = plain-short (addition r) whole (and_both (and_both (good-parts zone r h).ttl not-any-type) not-any-class) values.rdata

  at-single : plain_short (removal (single_at r)) ≡ true
  unfolding fields_of plain_values
  at-single =
      plain-short (removal (single_at r))
      (record {
        name = whole.name;
        owner_octets = whole.owner_octets;
        type16 = whole.type16;
        class16 = whole.class16;
        ttl32 = lit< tt;
        rdata16 = whole.rdata16;
        rdata_octets = whole.rdata_octets;
      })
      (and_both not-any-type not-any-class) values.rdata

  at-rrset : plain_short (removal (rrset_at r)) ≡ true
  unfolding fields_of plain_values
  at-rrset =
      plain-short (removal (rrset_at r)) (bare r.rrtype r.rrclass whole.type16 whole.class16)
      (and_both not-any-type not-any-class) (lit≤ tt)

  at-all_types : plain_short (removal (all_types_at r)) ≡ true
  unfolding fields_of plain_values
  at-all_types =
      plain-short (removal (all_types_at r)) (bare any r.rrclass (lit< tt) whole.class16)
      not-any-class (lit≤ tt)

  at-all_classes : plain_short (removal (all_classes_at r)) ≡ true
  unfolding fields_of plain_values
  at-all_classes = plain-short (removal (all_classes_at r)) (bare 0 any (lit< tt) (lit< tt)) refl (lit≤ tt)

pub plain_at : (zone : List ℕ) → AtEach (good zone) plain_short
plain_at zone = record {
  adding = at-addition zone;
  one = at-single zone;
  set = at-rrset zone;
  types = at-all_types zone;
  classes = at-all_classes zone;
}

-- ---- how long

-- So many octets at most take changes that are not over the limit.
pub bytes_le : (cs : List Change) → all_of plain_short cs ≡ true → bytes cs ≤ max_size * length cs
bytes_le [] h = lit≤ tt
bytes_le (c ∷ cs) h =
    let k : size (fields_of c) ≤ max_size =
    leb-true (size (fields_of c)) max_size
    (and_right (plain_change c) (leb (size (fields_of c)) max_size) (and_left (plain_short c) (all_of plain_short cs) h)) in
    omega (arith, k, bytes_le cs (and_right (plain_short c) (all_of plain_short cs) h))

pub all_plain : (cs : List Change) → all_of plain_short cs ≡ true → all_of plain_change cs ≡ true
all_plain cs h = all_of-map plain_short plain_change cs (λ c e. and_left (plain_change c) (leb (size (fields_of c)) max_size) e) h

pub length-push_octets-le : (cs : List Change) → all_of plain_short cs ≡ true → length (push_octets cs) ≤ 18 + max_size * length cs
length-push_octets-le cs h = omega (arith, length-push_octets cs, bytes_le cs h)

-- 01: "The largest PUSH is 12 + 4 + 40 x 393 = 15,736 bytes", with its length prefix before it.
module _ (cs : List Change) (h : all_of plain_short cs ≡ true) (few : length cs ≤ max_records) where
  pub length-push_of-le : length (push_of cs) ≤ 2 + max_push
  length-push_of-le = go cs h few
    where
      go : (cs : List Change) → all_of plain_short cs ≡ true → length cs ≤ max_records → length (push_of cs) ≤ 2 + max_push
      go [] h few = omega (arith, ap length push_of-nil)
      go (c ∷ cs) h few = omega (arith, ap length (push_of-cons c cs), length-push_octets-le (c ∷ cs) h)

  pub sendable : Sendable cs
  sendable = record { plain = all_plain cs h; short = omega (arith, bytes_le cs h) }

-- ---- sound stores

module _ (zone : List ℕ) (subs : List Subscription) where
  view-good : (store : List Record) → Sound zone store → all_of (good zone) (view subs store) ≡ true
  view-good store s = all_of-keep (good zone) (wanted subs) store s.all

  -- What leads from the view of one sound store to that of another.
  pub changes-plain : (before store : List Record) → Sound zone before → Sound zone store
      → all_of plain_short (changes store (view subs before) (view subs store)) ≡ true
  changes-plain before store s t =
      changes-all (good zone) plain_short (plain_at zone) store (view subs before) (view subs store) (view-good before s)
      (view-good store t)

  -- What a new subscription is told: the records of a sound store that it matches.
  module _ (store : List Record) (s : Sound zone store) where
    pub first_plain : all_of plain_short (additions (view subs store)) ≡ true
    first_plain = additions-all (good zone) plain_short (plain_at zone) (view subs store) (view-good store s)

    pub first-few : length (additions (view subs store)) ≤ max_records
    unfolding additions
    first-few = omega (arith, length-map (view subs store) addition, length-keep (wanted subs) store, s.few)

    pub first-sendable : Sendable (additions (view subs store))
    first-sendable = sendable (additions (view subs store)) first_plain first-few

    -- With the reply's 14 octets before it, it stays within a session's output of 16,384.
    pub first-room : 14 + length (push_of (additions (view subs store))) ≤ 16384
    first-room = omega (arith, length-push_of-le (additions (view subs store)) first_plain first-few)
