-- Laws of a record's layout: what is written is read back, what is read is what stands there.
use Prim.Native.Nat.{ℕ, ◌+◌, ◌≤◌, ◌<◌}
use mathlib.Core.Path.{◌≡◌, refl, sym, ap, ◌∙◌, subst}
use mathlib.Core.Bool.{Bool, true, false}
use mathlib.Core.List.{List, ◌++◌, append_assoc}
use Rattle.std.specs.Prelude.{Option, None, Some}
use native.Mathlib.Omega.{arith}
use lib.ListN.{length, take, drop, length-append, length-drop}
use lib.Seq.{take-append_seam, drop-append_seam, length-take-le, take-add, drop-drop}
use lib.Dec.{leb, lit≤}
use lib.Pow.{are_bytes}
use borrow.Author.Tests.{leb-true, leb-false, le-leb, lt-leb, ltb-true, lt-ltb}
use Rattle.wire.specs.Field.{field, octets}
use Rattle.wire.specs.Name.{name_length, is_name}
use Rattle.wire.proofs.Fields.{octets-are_bytes, field-octets, field_lt, octets-field, are_bytes-append, are_bytes-take, are_bytes-drop}
use Rattle.wire.proofs.Names.{name_length-append, name_length-le, is_name-take}
use Rattle.zone.specs.Record.{Record}
use Rattle.zone.specs.Layout.{fixed_size, size, record_octets, read_after, read_record}
use Rattle.zone.specs.Fits.{fits}
use Rattle.zone.proofs.Lists.{and_left, and_right}

-- ---- fields that fit, one by one

pub record Fitting (r : Record) : Type 0 where
  pub name : is_name r.owner ≡ true
  pub owner_octets : are_bytes r.owner ≡ true
  pub type16 : r.rrtype < 65536
  pub class16 : r.rrclass < 65536
  pub ttl32 : r.ttl < 0x1_0000_0000
  pub rdata16 : length r.rdata < 65536
  pub rdata_octets : are_bytes r.rdata ≡ true

pub fitting : (r : Record) → fits r ≡ true → Fitting r
unfolding fits
fitting r h = record {
  name = search (and_left, and_right);
  owner_octets = search (and_left, and_right);
  type16 = ltb-true r.rrtype 65536 (search (and_left, and_right));
  class16 = ltb-true r.rrclass 65536 (search (and_left, and_right));
  ttl32 = ltb-true r.ttl 0x1_0000_0000 (search (and_left, and_right));
  rdata16 = ltb-true (length r.rdata) 65536 (search (and_left, and_right));
  rdata_octets = search (and_left, and_right);
}

pub fits-of : (r : Record) → Fitting r → fits r ≡ true
unfolding fits
fits-of r f =
    let n = f.name in
    let o = f.owner_octets in
    let t = lt-ltb r.rrtype 65536 f.type16 in
    let c = lt-ltb r.rrclass 65536 f.class16 in
    let x = lt-ltb r.ttl 0x1_0000_0000 f.ttl32 in
    let d = lt-ltb (length r.rdata) 65536 f.rdata16 in
    let b = f.rdata_octets in
    cc

-- ---- the ten octets of type, class, TTL and RDLEN, with what follows them

abbrev fixed_octets : ℕ → ℕ → ℕ → ℕ → List ℕ → List ℕ
fixed_octets t c x n more = octets 2 t ++ (octets 2 c ++ (octets 4 x ++ (octets 2 n ++ more)))

module _ (t c x n : ℕ) (more : List ℕ) where
  fixed-length : length (fixed_octets t c x n more) ≡ fixed_size + length more
  unfolding octets
  fixed-length = omega arith

  fixed-rest : drop fixed_size (fixed_octets t c x n more) ≡ more
  unfolding octets
  fixed-rest = refl

  fixed-are_bytes : are_bytes more ≡ true → are_bytes (fixed_octets t c x n more) ≡ true
  fixed-are_bytes h =
      are_bytes-append (octets 2 t) (octets 2 c ++ (octets 4 x ++ (octets 2 n ++ more))) (octets-are_bytes 2 t)
      (are_bytes-append (octets 2 c) (octets 4 x ++ (octets 2 n ++ more)) (octets-are_bytes 2 c)
      (are_bytes-append (octets 4 x) (octets 2 n ++ more) (octets-are_bytes 4 x)
      (are_bytes-append (octets 2 n) more (octets-are_bytes 2 n) h)))

  fixed-class : c < 65536 → field 2 (drop 2 (fixed_octets t c x n more)) ≡ c
  unfolding octets
  fixed-class h = field-octets 2 c (octets 4 x ++ (octets 2 n ++ more)) h

  fixed-ttl : x < 0x1_0000_0000 → field 4 (drop 4 (fixed_octets t c x n more)) ≡ x
  unfolding octets
  fixed-ttl h = field-octets 4 x (octets 2 n ++ more) h

  fixed-rdlen : n < 65536 → field 2 (drop 8 (fixed_octets t c x n more)) ≡ n
  unfolding octets
  fixed-rdlen h = field-octets 2 n more h

  fixed-type : t < 65536 → field 2 (fixed_octets t c x n more) ≡ t
  fixed-type h = field-octets 2 t (octets 2 c ++ (octets 4 x ++ (octets 2 n ++ more))) h

-- ---- stepping a reading

-- The length of the RDATA in what follows a name.
abbrev pub rdlen_of : List ℕ → ℕ
rdlen_of p = field 2 (drop 8 p)

-- The record with a name in front of a list; and the one whose name is the first n octets of a list.
abbrev pub record_after : List ℕ → List ℕ → Record
record_after owner p =
    record {
      owner = owner;
      rrtype = field 2 p;
      rrclass = field 2 (drop 2 p);
      ttl = field 4 (drop 4 p);
      rdata = take (rdlen_of p) (drop fixed_size p);
    }

abbrev pub record_in : List ℕ → ℕ → Record
record_in l n = record_after (take n l) (drop n l)

pub read_after-some : (owner l : List ℕ) → fixed_size + rdlen_of l ≤ length l → read_after owner l ≡ Some (record_after owner l)
unfolding read_after
read_after-some owner l h = rw (le-leb (fixed_size + rdlen_of l) (length l) h)

pub read_after-none : (owner l : List ℕ) → length l < fixed_size + rdlen_of l → read_after owner l ≡ None
unfolding read_after
read_after-none owner l h = rw (lt-leb (fixed_size + rdlen_of l) (length l) h)

pub read_record-nameless : (l : List ℕ) → name_length l ≡ None → read_record l ≡ None
unfolding read_record
read_record-nameless l h = rw (h, read_record)

pub read_record-named : (l : List ℕ) (n : ℕ) → name_length l ≡ Some n → read_record l ≡ read_after (take n l) (drop n l)
unfolding read_record
read_record-named l n h = rw (h, read_record)

pub read_record-some : (l : List ℕ) (n : ℕ) → name_length l ≡ Some n → fixed_size + rdlen_of (drop n l) ≤ length (drop n l)
    → read_record l ≡ Some (record_in l n)
read_record-some l n h k = read_record-named l n h ∙ read_after-some (take n l) (drop n l) k

pub read_record-none : (l : List ℕ) (n : ℕ) → name_length l ≡ Some n → length (drop n l) < fixed_size + rdlen_of (drop n l)
    → read_record l ≡ None
read_record-none l n h k = read_record-named l n h ∙ read_after-none (take n l) (drop n l) k

-- ---- what is written is read back, whatever follows

pub record_octets-split : (r : Record) (rest : List ℕ)
    → record_octets r ++ rest ≡ r.owner ++ fixed_octets r.rrtype r.rrclass r.ttl (length r.rdata) (r.rdata ++ rest)
unfolding record_octets
record_octets-split r rest = simp append_assoc

pub length-record_octets : (r : Record) → length (record_octets r) ≡ size r
unfolding record_octets size
length-record_octets r =
    length-append r.owner (fixed_octets r.rrtype r.rrclass r.ttl (length r.rdata) r.rdata)
    ∙ omega (arith, fixed-length r.rrtype r.rrclass r.ttl (length r.rdata) r.rdata)

pub record_octets-are_bytes : (r : Record) → are_bytes r.owner ≡ true → are_bytes r.rdata ≡ true → are_bytes (record_octets r) ≡ true
unfolding record_octets
record_octets-are_bytes r p q =
    are_bytes-append r.owner (fixed_octets r.rrtype r.rrclass r.ttl (length r.rdata) r.rdata) p
    (fixed-are_bytes r.rrtype r.rrclass r.ttl (length r.rdata) r.rdata q)

-- A list from whose front on a record's fields stand.
record Fields (r : Record) (l : List ℕ) : Type 0 where
  rrtype : field 2 l ≡ r.rrtype
  rrclass : field 2 (drop 2 l) ≡ r.rrclass
  ttl : field 4 (drop 4 l) ≡ r.ttl
  rdlen : rdlen_of l ≡ length r.rdata
  rdata : take (length r.rdata) (drop fixed_size l) ≡ r.rdata
  enough : fixed_size + length r.rdata ≤ length l

fields_read : (r : Record) (l : List ℕ) → Fields r l → read_after r.owner l ≡ Some r
fields_read r l f =
    let d : take (rdlen_of l) (drop fixed_size l) ≡ r.rdata =
    ap (λ (k : ℕ). take k (drop fixed_size l)) f.rdlen ∙ f.rdata in
    let e : fixed_size + rdlen_of l ≤ length l = omega (arith, f.rdlen, f.enough) in
    read_after-some r.owner l e
    ∙ (λ i. Some (record { owner = r.owner; rrtype = f.rrtype i; rrclass = f.rrclass i; ttl = f.ttl i; rdata = d i }))

fields-stand : (r : Record) → Fitting r → (rest : List ℕ)
    → Fields r (fixed_octets r.rrtype r.rrclass r.ttl (length r.rdata) (r.rdata ++ rest))
fields-stand r f rest =
    let t = r.rrtype in
    let c = r.rrclass in
    let x = r.ttl in
    let n = length r.rdata in
    let more = r.rdata ++ rest in
    record {
      rrtype = fixed-type t c x n more f.type16;
      rrclass = fixed-class t c x n more f.class16;
      ttl = fixed-ttl t c x n more f.ttl32;
      rdlen = fixed-rdlen t c x n more f.rdata16;
      rdata = ap (take n) (fixed-rest t c x n more) ∙ take-append_seam r.rdata rest;
      enough = omega (arith, fixed-length t c x n more, length-append r.rdata rest);
    }

pub read_record-octets : (r : Record) (rest : List ℕ) → fits r ≡ true → read_record (record_octets r ++ rest) ≡ Some r
read_record-octets r rest h =
    let f = fitting r h in
    let a = fixed_octets r.rrtype r.rrclass r.ttl (length r.rdata) (r.rdata ++ rest) in
    ap read_record (record_octets-split r rest)
    ∙ read_record-named (r.owner ++ a) (length r.owner) (name_length-append r.owner a f.name)
    ∙ ap (λ (o : List ℕ). read_after o (drop (length r.owner) (r.owner ++ a))) (take-append_seam r.owner a)
    ∙ ap (λ (l : List ℕ). read_after r.owner l) (drop-append_seam r.owner a)
    ∙ fields_read r a (fields-stand r f rest)

-- ---- what is read stands there

-- A record that was read, by its name's length n.
pub record Stands (l : List ℕ) (r : Record) (n : ℕ) : Type 0 where
  pub named : name_length l ≡ Some n
  pub enough : fixed_size + rdlen_of (drop n l) ≤ length (drop n l)
  pub is : r ≡ record_in l n

pub read_record-stands : (l : List ℕ) (r : Record) → read_record l ≡ Some r → (n : ℕ) × Stands l r n
read_record-stands l r h = go (name_length l) refl
  where
    inner : (n : ℕ) → name_length l ≡ Some n → (t : Bool) → leb (fixed_size + rdlen_of (drop n l)) (length (drop n l)) ≡ t
        → (n : ℕ) × Stands l r n
    inner n e true q =
        let k = leb-true (fixed_size + rdlen_of (drop n l)) (length (drop n l)) q in
        let g : Some r ≡ Some (record_in l n) = sym h ∙ read_record-some l n e k in
        (n, record { named = e; enough = k; is = cc })
    inner n e false q =
        let g : Some r ≡ None = sym h ∙ read_record-none l n e (leb-false (fixed_size + rdlen_of (drop n l)) (length (drop n l)) q) in
        let z : ◌≡◌ {A = ℕ} 0 1 = cc in absurd (omega arith)

    go : (o : Option ℕ) → name_length l ≡ o → (n : ℕ) × Stands l r n
    go None e =
        let g : Some r ≡ None = sym h ∙ read_record-nameless l e in
        let z : ◌≡◌ {A = ℕ} 0 1 = cc in absurd (omega arith)
    go (Some n) e = inner n e (leb (fixed_size + rdlen_of (drop n l)) (length (drop n l))) refl

take_step : (i a m : ℕ) (p : List ℕ) → take (a + m) (drop i p) ≡ take a (drop i p) ++ take m (drop (i + a) p)
take_step i a m p = take-add a m (drop i p) ∙ ap (λ (q : List ℕ). take a (drop i p) ++ take m q) (drop-drop a i p)

fixed-parts : (k : ℕ) (p : List ℕ)
    → take (fixed_size + k) p ≡ take 2 p ++ (take 2 (drop 2 p) ++ (take 4 (drop 4 p) ++ (take 2 (drop 8 p) ++ take k (drop fixed_size p))))
fixed-parts k p =
    let e : fixed_size + k ≡ 2 + (2 + (4 + (2 + k))) = omega arith in
    ap (λ (m : ℕ). take m p) e
    ∙ take_step 0 2 (2 + (4 + (2 + k))) p
    ∙ ap (λ (q : List ℕ). take 2 p ++ q) (take_step 2 2 (4 + (2 + k)) p
    ∙ ap (λ (q : List ℕ). take 2 (drop 2 p) ++ q) (take_step 4 4 (2 + k) p
    ∙ ap (λ (q : List ℕ). take 4 (drop 4 p) ++ q) (take_step 8 2 k p)))

module _ (l : List ℕ) (n : ℕ) (named : name_length l ≡ Some n) (enough : fixed_size + rdlen_of (drop n l) ≤ length (drop n l)) where
  owner-length : length (take n l) ≡ n
  owner-length = length-take-le n l (name_length-le l n named)

  rdata-length : length (record_in l n).rdata ≡ rdlen_of (drop n l)
  rdata-length =
      length-take-le (rdlen_of (drop n l)) (drop fixed_size (drop n l)) (omega (arith, length-drop fixed_size (drop n l)))

  in_size : size (record_in l n) ≡ n + (fixed_size + rdlen_of (drop n l))
  unfolding size
  in_size = omega (arith, owner-length, rdata-length)

  in-size-le : size (record_in l n) ≤ length l
  in-size-le = omega (arith, in_size, length-drop n l, name_length-le l n named)

  module _ (b : are_bytes l ≡ true) where
    in-fitting : Fitting (record_in l n)
    in-fitting =
        let d = are_bytes-drop n l b in
        record {
          name = is_name-take l n named;
          owner_octets = are_bytes-take n l b;
          type16 = field_lt 2 (drop n l) d;
          class16 = field_lt 2 (drop 2 (drop n l)) (are_bytes-drop 2 (drop n l) d);
          ttl32 = field_lt 4 (drop 4 (drop n l)) (are_bytes-drop 4 (drop n l) d);
          rdata16 = omega (arith, rdata-length, field_lt 2 (drop 8 (drop n l)) (are_bytes-drop 8 (drop n l) d));
          rdata_octets = are_bytes-take (rdlen_of (drop n l)) (drop fixed_size (drop n l)) (are_bytes-drop fixed_size (drop n l) d);
        }

    -- k octets at a place of what follows the name.
    field-there : (k i : ℕ) → i + k ≤ fixed_size → octets k (field k (drop i (drop n l))) ≡ take k (drop i (drop n l))
    field-there k i h =
        octets-field k (drop i (drop n l)) (are_bytes-drop i (drop n l) (are_bytes-drop n l b)) (omega (arith, length-drop i (drop n l)))

    in-octets : record_octets (record_in l n) ≡ take (size (record_in l n)) l
    unfolding record_octets
    in-octets =
        let p = drop n l in
        let k = rdlen_of p in
        let tail = (record_in l n).rdata in
        let f2 : octets 2 (length tail) ≡ take 2 (drop 8 p) = ap (octets 2) rdata-length ∙ field-there 2 8 (lit≤ tt) in
        let e : take (fixed_size + k) p ≡ fixed_octets (field 2 p) (field 2 (drop 2 p)) (field 4 (drop 4 p)) (length tail) tail =
        fixed-parts k p ∙ cc (field-there 2 0 (lit≤ tt), field-there 2 2 (lit≤ tt), field-there 4 4 (lit≤ tt)) in
        sym (ap (λ (m : ℕ). take m l) in_size ∙ take-add n (fixed_size + k) l ∙ ap (λ (q : List ℕ). take n l ++ q) e)

-- The lengths of what was read.
module _ (l : List ℕ) (r : Record) (n : ℕ) (s : Stands l r n) where
  pub stands-owner : length r.owner ≡ n
  stands-owner = ap (λ (q : Record). length q.owner) s.is ∙ owner-length l n s.named s.enough

  pub stands-rdata : length r.rdata ≡ rdlen_of (drop n l)
  stands-rdata = ap (λ (q : Record). length q.rdata) s.is ∙ rdata-length l n s.named s.enough

  pub stands-size : size r ≡ n + (fixed_size + rdlen_of (drop n l))
  stands-size = ap size s.is ∙ in_size l n s.named s.enough

-- What was read from octets fits, lies within them, and is what stands at their front.
pub size-le : (l : List ℕ) (r : Record) → read_record l ≡ Some r → size r ≤ length l
size-le l r h =
    let (n, s) = read_record-stands l r h in
    subst (λ (q : Record). size q ≤ length l) (sym s.is) (in-size-le l n s.named s.enough)

pub read_record-fits : (l : List ℕ) (r : Record) → are_bytes l ≡ true → read_record l ≡ Some r → fits r ≡ true
read_record-fits l r b h =
    let (n, s) = read_record-stands l r h in
    subst (λ (q : Record). fits q ≡ true) (sym s.is) (fits-of (record_in l n) (in-fitting l n s.named s.enough b))

pub read_record-front : (l : List ℕ) (r : Record) → are_bytes l ≡ true → read_record l ≡ Some r → take (size r) l ≡ record_octets r
read_record-front l r b h =
    let (n, s) = read_record-stands l r h in
    subst (λ (q : Record). take (size q) l ≡ record_octets q) (sym s.is) (sym (in-octets l n s.named s.enough b))

-- Nothing after a record changes its reading.
pub read_record-only : (l : List ℕ) (r : Record) (rest : List ℕ) → are_bytes l ≡ true → read_record l ≡ Some r
    → read_record (take (size r) l ++ rest) ≡ Some r
read_record-only l r rest b h =
    ap (λ (q : List ℕ). read_record (q ++ rest)) (read_record-front l r b h)
    ∙ read_record-octets r rest (read_record-fits l r b h)

-- A record takes octets, at least the ten.
pub size-pos : (r : Record) → fixed_size ≤ size r
unfolding size
size-pos r = omega arith
