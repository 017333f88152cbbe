-- Reading back what was written: one change, a list of them.
use Prim.Native.Nat.{ℕ, zero, suc, pred, ◌+◌, ◌≤◌}
use mathlib.Core.Path.{◌≡◌, refl, sym, ap, ap₂, ◌∙◌}
use mathlib.Core.Bool.{true, false, ◌&&◌}
use mathlib.Core.List.{List, [], ◌∷◌, ◌++◌}
use mathlib.Core.Option.{some}
use Rattle.std.specs.Prelude.{Some}
use native.Mathlib.Nat.{le_of_suc-le-suc, not-suc-le-zero}
use native.Mathlib.Omega.{arith}
use lib.ListN.{length, drop, length-append}
use lib.Seq.{drop-append_seam}
use lib.Dec.{leb, eqb}
use lib.Pow.{are_bytes}
use borrow.Author.Tests.{not-true}
use Rattle.wire.proofs.Fields.{are_bytes-append}
use Rattle.zone.specs.Lists.{all_of}
use Rattle.zone.specs.Record.{Record}
use Rattle.dso.specs.Judge.{any}
use Rattle.zone.specs.Layout.{size, record_octets, read_record}
use Rattle.zone.specs.Batch.{max_ttl}
use Rattle.zone.specs.Fits.{fits}
use Rattle.zone.proofs.Lists.{and_left, and_right}
use Rattle.zone.proofs.Layouts.{read_record-octets, length-record_octets, record_octets-are_bytes, size-le, size-pos, fitting}
use Rattle.push.specs.Change.{single, rrset, all_types, all_classes, Change, addition, removal, fields_of}
use Rattle.push.specs.Octets.{changes_octets, change, unless_any, notified, joined, changes_in}
use Rattle.push.specs.Plain.{not_any, plain_values, plain_change}
use Rattle.push.specs.Measure.{bytes}

-- ---- one change

not-any : (t c : ℕ) → not_any t && not_any c ≡ true → (eqb t any ≡ false) × (eqb c any ≡ false)
not-any t c h =
    (not-true (eqb t any) (and_left (not_any t) (not_any c) h), not-true (eqb c any) (and_right (not_any t) (not_any c) h))

unless_not : (r : Record) (c : Change) → eqb r.rrtype any ≡ false → eqb r.rrclass any ≡ false → unless_any r c ≡ change c
unless_not r c p q = rw (p, q)

pub notified-fields : (c : Change) → plain_values c ≡ true → notified (fields_of c) ≡ change c
unfolding plain_values fields_of notified
notified-fields (addition r) h =
    let t : leb r.ttl max_ttl ≡ true = search (and_left, and_right) in
    let p : not_any r.rrtype ≡ true = search (and_left, and_right) in
    let q : not_any r.rrclass ≡ true = search (and_left, and_right) in
    rw (t, notified) (unless_not r (addition r) (not-true (eqb r.rrtype any) p) (not-true (eqb r.rrclass any) q))
notified-fields (removal (single owner rrtype rrclass rdata)) h =
    let (p, q) = not-any rrtype rrclass h in
    rw (p, q)
notified-fields (removal (rrset owner rrtype rrclass)) h =
    let (p, q) = not-any rrtype rrclass h in
    rw (q, p)
notified-fields (removal (all_types owner rrclass)) h = rw (not-true (eqb rrclass any) h)
notified-fields (removal (all_classes owner)) h = refl

-- ---- the changes in a list of octets

-- What is still to be passed is passed.
pub changes_in-drop : (k : ℕ) (l : List ℕ) → k ≤ length l → changes_in k l ≡ changes_in 0 (drop k l)
unfolding changes_in
changes_in-drop zero l h = refl
changes_in-drop (suc k) [] h = absurd (not-suc-le-zero h)
changes_in-drop (suc k) (b ∷ l) h = changes_in-drop k l (le_of_suc-le-suc h)

pub changes_in-nil : changes_in 0 [] ≡ some []
unfolding changes_in
changes_in-nil = refl

front : (b : ℕ) (l : List ℕ) (r : Record) → read_record (b ∷ l) ≡ Some r
    → changes_in 0 (b ∷ l) ≡ joined (notified r) (changes_in (pred (size r)) l)
unfolding changes_in
front b l r h = rw (h, changes_in)

-- A record at the front is one change, and the others follow it.
pub changes_in-read : (l : List ℕ) (r : Record) → read_record l ≡ Some r → changes_in 0 l ≡ joined (notified r) (changes_in 0 (drop (size r) l))
changes_in-read [] r h = absurd (omega (arith, size-pos r, size-le [] r h))
changes_in-read (b ∷ l) r h = go (size r) refl
  where
    go : (n : ℕ) → size r ≡ n → changes_in 0 (b ∷ l) ≡ joined (notified r) (changes_in 0 (drop (size r) (b ∷ l)))
    go zero e = absurd (omega (arith, size-pos r))
    go (suc k) e =
        let s : changes_in k l ≡ changes_in 0 (drop k l) = changes_in-drop k l (omega (arith, size-le (b ∷ l) r h)) in
        front b l r h ∙ rw e (ap (joined (notified r)) s)

pub changes_in-octets : (r : Record) (rest : List ℕ) → fits r ≡ true → changes_in 0 (record_octets r ++ rest) ≡ joined (notified r) (changes_in 0 rest)
changes_in-octets r rest h =
    changes_in-read (record_octets r ++ rest) r (read_record-octets r rest h)
    ∙ ap (λ (l : List ℕ). joined (notified r) (changes_in 0 l))
    (ap (λ (n : ℕ). drop n (record_octets r ++ rest)) (sym (length-record_octets r)) ∙ drop-append_seam (record_octets r) rest)

-- Plain changes are read back, and nothing else is read.
pub changes_in-changes : (cs : List Change) → all_of plain_change cs ≡ true → changes_in 0 (changes_octets cs) ≡ some cs
unfolding changes_octets plain_change
changes_in-changes [] h = changes_in-nil
changes_in-changes (c ∷ cs) h =
    let p : plain_change c ≡ true = and_left (plain_change c) (all_of plain_change cs) h in
    changes_in-octets (fields_of c) (changes_octets cs) (and_left (fits (fields_of c)) (plain_values c) p)
    ∙ ap₂ joined (notified-fields c (and_right (fits (fields_of c)) (plain_values c) p))
    (changes_in-changes cs (and_right (plain_change c) (all_of plain_change cs) h))

pub length-changes_octets : (cs : List Change) → length (changes_octets cs) ≡ bytes cs
unfolding changes_octets
length-changes_octets [] = refl
length-changes_octets (c ∷ cs) =
    length-append (record_octets (fields_of c)) (changes_octets cs)
    ∙ ap₂ ◌+◌ (length-record_octets (fields_of c)) (length-changes_octets cs)

pub changes_octets-are_bytes : (cs : List Change) → all_of plain_change cs ≡ true → are_bytes (changes_octets cs) ≡ true
unfolding changes_octets plain_change
changes_octets-are_bytes [] h = refl
changes_octets-are_bytes (c ∷ cs) h =
    let p : plain_change c ≡ true = and_left (plain_change c) (all_of plain_change cs) h in
    let f = fitting (fields_of c) (and_left (fits (fields_of c)) (plain_values c) p) in
    are_bytes-append (record_octets (fields_of c)) (changes_octets cs)
    (record_octets-are_bytes (fields_of c) f.owner_octets f.rdata_octets)
    (changes_octets-are_bytes cs (and_right (plain_change c) (all_of plain_change cs) h))
