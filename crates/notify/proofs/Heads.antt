-- Laws of what is sent: the removals of records that no earlier removal covers, and the additions.
use Prim.Native.Nat.{ℕ, zero, suc, min, ◌+◌, ◌*◌, ◌≤◌, ◌<◌}
use mathlib.Core.Path.{◌≡◌, refl, sym, ap, ap₂, subst, ◌∙◌}
use mathlib.Core.Bool.{Bool, true, false, not, ◌||◌}
use mathlib.Core.List.{List, [], ◌∷◌, ◌++◌, map, append_assoc, append-nil}
use native.Mathlib.Omega.{arith}
use lib.ListN.{length, take, get_or}
use lib.Seq.{sets, get_or-take, length-take-le}
use borrow.Author.Count.{below_more}
use Rattle.std.specs.Prelude.{Option, Some, None}
use Rattle.zone.specs.Lists.{only_if, any_of}
use Rattle.zone.specs.Record.{Record, key_of}
use Rattle.zone.specs.Layout.{record_octets}
use Rattle.zone.specs.Batch.{max_records}
use Rattle.zone.specs.Table.{block_at, rec_of, records_of}
use Rattle.zone.proofs.Memory.{no_record, length-records, records-at}
use Rattle.push.specs.Change.{Removal, Change, addition, removal, covers, fields_of}
use Rattle.push.specs.List.{additions}
use Rattle.push.specs.Octets.{changes_octets}
use Rattle.notify.specs.declared.removal.RemovalKind.{RemovalKind}
use Rattle.notify.specs.declared.removal.RemovalKind.TheVariants.{Single, Rrset, AllTypes, AllClasses}
use Rattle.notify.specs.declared.fields.Fields.{Fields}
use Rattle.notify.specs.Marks.{removal_at, marked, removals_of, is_head, heads, kind_covers, head_at, addition_at}
use Rattle.notify.specs.Written.{Gives, Short, Step, WroteEach, given_octets, all_octets, record_in, room}
use Rattle.notify.proofs.Writing.{short-block}

-- ---- the removals of earlier records

is_head-all : (ks : List (Option RemovalKind)) (l : List Record) (r : Record)
    → ((k : ℕ) → k < length l → kind_covers (get_or ks k None) (get_or l k no_record) r ≡ false) → is_head (removals_of ks l) r ≡ true
unfolding is_head removals_of kind_covers
is_head-all [] l r h = refl
is_head-all (k ∷ ks) [] r h = refl
is_head-all (None ∷ ks) (e ∷ l) r h = is_head-all ks l r (λ k j. h (suc k) (omega arith))
is_head-all (Some kind ∷ ks) (e ∷ l) r h =
    ap (λ (b : Bool). not (b || any_of (λ (m : Removal). covers m (key_of r)) (removals_of ks l))) (h 0 (omega arith))
    ∙ is_head-all ks l r (λ k j. h (suc k) (omega arith))

is_head-not : (ks : List (Option RemovalKind)) (l : List Record) (r : Record) (k : ℕ) → k < length l
    → kind_covers (get_or ks k None) (get_or l k no_record) r ≡ true → is_head (removals_of ks l) r ≡ false
unfolding is_head removals_of kind_covers
is_head-not [] l r k j h = absurd (cc)
is_head-not (k' ∷ ks) [] r k j h = absurd (omega arith)
is_head-not (None ∷ ks) (e ∷ l) r zero j h = absurd (cc)
is_head-not (None ∷ ks) (e ∷ l) r (suc k) j h = is_head-not ks l r k (omega arith) h
is_head-not (Some kind ∷ ks) (e ∷ l) r zero j h =
    ap (λ (b : Bool). not (b || any_of (λ (m : Removal). covers m (key_of r)) (removals_of ks l))) h
is_head-not (Some kind ∷ ks) (e ∷ l) r (suc k) j h = go (covers (removal_at kind e) (key_of r)) (is_head-not ks l r k (omega arith) h)
  where
    go : (b : Bool) → not (any_of (λ (m : Removal). covers m (key_of r)) (removals_of ks l)) ≡ false
        → not (b || any_of (λ (m : Removal). covers m (key_of r)) (removals_of ks l)) ≡ false
    go true p = refl
    go false p = p

module _ (ks : List (Option RemovalKind)) (count : ℕ) (a : List ℕ) (i : ℕ) (h : i < min count max_records) where
  at : (k : ℕ) → k < i → get_or (take i (records_of count a)) k no_record ≡ rec_of (block_at a k)
  at k j = get_or-take i (records_of count a) k no_record j ∙ records-at count a k (omega arith)

  long : length (take i (records_of count a)) ≡ i
  long = length-take-le i (records_of count a) (omega (arith, length-records count a))

  module _ (b : List ℕ) (z : b ≡ block_at a i) where
    shown : is_head (removals_of ks (take i (records_of count a))) (rec_of b) ≡ is_head (removals_of ks (take i (records_of count a))) (rec_of (block_at a i))
    shown = ap (λ (x : List ℕ). is_head (removals_of ks (take i (records_of count a))) (rec_of x)) z

    pub first-all : (n : ℕ) → i ≤ n → ((k : ℕ) → k < n → kind_covers (get_or ks k None) (rec_of (block_at a k)) (rec_of b) ≡ false)
        → true ≡ is_head (removals_of ks (take i (records_of count a))) (rec_of (block_at a i))
    first-all n m g = sym (sym shown ∙ is_head-all ks (take i (records_of count a)) (rec_of b)
        (λ k j. let k' : k < i = omega (arith, long) in ap (λ (e : Record). kind_covers (get_or ks k None) e (rec_of b)) (at k k') ∙ g k (omega arith)))

    pub first-not : (k : ℕ) → k < i → (e : List ℕ) → e ≡ block_at a k → (t : Bool) → t ≡ kind_covers (get_or ks k None) (rec_of e) (rec_of b) → t ≡ true
        → false ≡ is_head (removals_of ks (take i (records_of count a))) (rec_of (block_at a i))
    first-not k j e y t g q = sym (sym shown ∙ is_head-not ks (take i (records_of count a)) (rec_of b) k (omega (arith, long))
        (ap (λ (r : Record). kind_covers (get_or ks k None) r (rec_of b)) (at k j ∙ ap rec_of (sym y)) ∙ sym g ∙ q))

    pub first-turn : (n : ℕ) → ((k : ℕ) → k < n → kind_covers (get_or ks k None) (rec_of (block_at a k)) (rec_of b) ≡ false)
        → (e : List ℕ) → e ≡ block_at a n → (t : Bool) → t ≡ kind_covers (get_or ks n None) (rec_of e) (rec_of b) → t ≡ false
        → (k : ℕ) → k < n + 1 → kind_covers (get_or ks k None) (rec_of (block_at a k)) (rec_of b) ≡ false
    first-turn n g e y t f q = below_more (λ (k : ℕ). kind_covers (get_or ks k None) (rec_of (block_at a k)) (rec_of b) ≡ false) n g
        (ap (λ (x : List ℕ). kind_covers (get_or ks n None) (rec_of x) (rec_of b)) (sym y) ∙ sym f ∙ q)

-- ---- one change

short-removal : (kind : RemovalKind) (r : Record) → Short r → Short (fields_of (removal (removal_at kind r)))
unfolding fields_of removal_at
short-removal Single r s = record { owner = s.owner; rdata = s.rdata }
short-removal Rrset r s = record { owner = s.owner; rdata = omega arith }
short-removal AllTypes r s = record { owner = s.owner; rdata = omega arith }
short-removal AllClasses r s = record { owner = s.owner; rdata = omega arith }

module _ (earlier : List Removal) (k : Option RemovalKind) (a : List ℕ) (i : ℕ) where
  pub gives-none : k ≡ None → Gives (head_at earlier k (rec_of (block_at a i))) None
  unfolding head_at changes_octets
  gives-none h = rw h (record { octets = refl; short = tt })

  module _ (kind : RemovalKind) (h : k ≡ Some kind) (t : Bool) (e : t ≡ is_head earlier (rec_of (block_at a i))) where
    pub gives-covered : t ≡ false → Gives (head_at earlier k (rec_of (block_at a i))) None
    unfolding head_at changes_octets
    gives-covered g = rw (h, sym e ∙ g) (record { octets = refl; short = tt })

    pub gives-head : t ≡ true → (b : List ℕ) → b ≡ block_at a i → (f : Fields) → record_in f ≡ fields_of (removal (removal_at kind (rec_of b)))
        → Gives (head_at earlier k (rec_of (block_at a i))) (Some f)
    unfolding head_at changes_octets
    gives-head g b p f q =
        let z : record_in f ≡ fields_of (removal (removal_at kind (rec_of (block_at a i)))) =
        q ∙ ap (λ (x : List ℕ). fields_of (removal (removal_at kind (rec_of x)))) p in
        rw (h, sym e ∙ g) (record {
          octets = ap record_octets z ∙ sym (append-nil (record_octets (fields_of (removal (removal_at kind (rec_of (block_at a i)))))));
          short = subst Short (sym z) (short-removal kind (rec_of (block_at a i)) (short-block a i));
        })

module _ (mark : Bool) (a : List ℕ) (i : ℕ) where
  pub gives-unmarked : mark ≡ false → Gives (addition_at mark (rec_of (block_at a i))) None
  unfolding addition_at changes_octets
  gives-unmarked h = rw h (record { octets = refl; short = tt })

  pub gives-marked : mark ≡ true → (b : List ℕ) → b ≡ block_at a i → (f : Fields) → record_in f ≡ rec_of b
      → Gives (addition_at mark (rec_of (block_at a i))) (Some f)
  unfolding addition_at changes_octets fields_of
  gives-marked h b p f q =
      let z : record_in f ≡ rec_of (block_at a i) = q ∙ ap rec_of p in
      rw h (record { octets = ap record_octets z ∙ sym (append-nil (record_octets (rec_of (block_at a i)))); short = subst Short (sym z) (short-block a i) })

-- ---- all of them

pub changes-append : (a b : List Change) → changes_octets (a ++ b) ≡ changes_octets a ++ changes_octets b
unfolding changes_octets
changes-append [] b = refl
changes-append (c ∷ a) b =
    ap (λ (l : List ℕ). record_octets (fields_of c) ++ l) (changes-append a b)
    ∙ sym (append_assoc (record_octets (fields_of c)) (changes_octets a) (changes_octets b))

-- One more at the front, where a test holds.
one_more : {A : Type 0} (f : A → Change) (b : Bool) (x : A) (l : List A)
    → changes_octets (map f (only_if b x l)) ≡ changes_octets (only_if b (f x) []) ++ changes_octets (map f l)
one_more f true x l = changes-append (f x ∷ []) (map f l)
one_more f false x l = unfold changes_octets in refl

heads-octets : (os : List (Option Fields)) (ks : List (Option RemovalKind)) (earlier : List Removal) (l : List Record) → length os ≡ length l
    → ((i : ℕ) → i < length l → given_octets (get_or os i None)
    ≡ changes_octets (head_at (earlier ++ removals_of ks (take i l)) (get_or ks i None) (get_or l i no_record)))
    → all_octets os ≡ changes_octets (map removal (heads earlier ks l))
unfolding heads removals_of head_at changes_octets
heads-octets [] [] earlier [] e h = refl
heads-octets [] (k ∷ ks) earlier [] e h = refl
heads-octets [] ks earlier (r ∷ l) e h = absurd (omega arith)
heads-octets (o ∷ os) ks earlier [] e h = absurd (omega arith)
heads-octets (o ∷ os) [] earlier (r ∷ l) e h =
    ap₂ (λ (x y : List ℕ). x ++ y) (h 0 (omega arith)) (heads-octets os [] earlier l (omega arith) (λ i j. h (suc i) (omega arith)))
heads-octets (o ∷ os) (None ∷ ks) earlier (r ∷ l) e h =
    ap₂ (λ (x y : List ℕ). x ++ y) (h 0 (omega arith)) (heads-octets os ks earlier l (omega arith) (λ i j. h (suc i) (omega arith)))
heads-octets (o ∷ os) (Some kind ∷ ks) earlier (r ∷ l) e h =
    let m : Removal = removal_at kind r in
    ap₂ (λ (x y : List ℕ). x ++ y) (h 0 (omega arith) ∙ ap (λ (x : List Removal). changes_octets (head_at x (Some kind) r)) (append-nil earlier))
    (heads-octets os ks (earlier ++ (m ∷ [])) l (omega arith)
    (λ i j. h (suc i) (omega arith) ∙ ap (λ (x : List Removal). changes_octets (head_at x (get_or ks i None) (get_or l i no_record)))
    (sym (append_assoc earlier (m ∷ []) (removals_of ks (take i l))))))
    ∙ sym (one_more removal (is_head earlier r) m (heads (earlier ++ (m ∷ [])) ks l))

additions-octets : (os : List (Option Fields)) (ms : List Bool) (l : List Record) → length os ≡ length l
    → ((i : ℕ) → i < length l → given_octets (get_or os i None) ≡ changes_octets (addition_at (get_or ms i false) (get_or l i no_record)))
    → all_octets os ≡ changes_octets (additions (marked ms l))
unfolding marked additions addition_at changes_octets
additions-octets [] [] [] e h = refl
additions-octets [] (m ∷ ms) [] e h = refl
additions-octets [] ms (r ∷ l) e h = absurd (omega arith)
additions-octets (o ∷ os) ms [] e h = absurd (omega arith)
additions-octets (o ∷ os) [] (r ∷ l) e h =
    ap₂ (λ (x y : List ℕ). x ++ y) (h 0 (omega arith)) (additions-octets os [] l (omega arith) (λ i j. h (suc i) (omega arith)))
additions-octets (o ∷ os) (m ∷ ms) (r ∷ l) e h =
    ap₂ (λ (x y : List ℕ). x ++ y) (h 0 (omega arith)) (additions-octets os ms l (omega arith) (λ i j. h (suc i) (omega arith)))
    ∙ sym (one_more addition m r (marked ms l))

module _ (count : ℕ) (a o : List ℕ) (from : ℕ) (p : List ℕ) (t : ℕ) where
  -- What was written for each record of a store.
  each-written : (says : ℕ → Option Fields → Type 0) (w : WroteEach says (min count max_records) o from p t) (x : List ℕ) → all_octets w.changes ≡ x
      → Step (room * max_records) o from x p t
  each-written says w x e = record {
    wrote = record { written = w.wrote.written ∙ ap (sets o from) e; place = w.wrote.place ∙ ap (λ (y : List ℕ). from + length y) e };
    near = omega (arith, w.near);
  }

  abbrev gives_head : List (Option RemovalKind) → ℕ → Option Fields → Type 0
  gives_head ks i c = Gives (head_at (removals_of ks (take i (records_of count a))) (get_or ks i None) (rec_of (block_at a i))) c

  pub removals-written : (ks : List (Option RemovalKind)) (says : ℕ → Option Fields → Type 0)
      → ((i : ℕ) (c : Option Fields) → i < min count max_records → says i c → gives_head ks i c)
      → WroteEach says (min count max_records) o from p t
      → Step (room * max_records) o from (changes_octets (map removal (heads [] ks (records_of count a)))) p t
  removals-written ks says h w = each-written says w (changes_octets (map removal (heads [] ks (records_of count a))))
      (heads-octets w.changes ks [] (records_of count a) (w.many ∙ sym (length-records count a))
      (λ i j.
      let k : i < min count max_records = omega (arith, length-records count a) in
      (h i (get_or w.changes i None) k (w.each i k)).octets
      ∙ ap (λ (r : Record). changes_octets (head_at (removals_of ks (take i (records_of count a))) (get_or ks i None) r)) (sym (records-at count a i k))))

  pub additions-written : (ms : List Bool) (says : ℕ → Option Fields → Type 0)
      → ((i : ℕ) (c : Option Fields) → i < min count max_records → says i c → Gives (addition_at (get_or ms i false) (rec_of (block_at a i))) c)
      → WroteEach says (min count max_records) o from p t
      → Step (room * max_records) o from (changes_octets (additions (marked ms (records_of count a)))) p t
  additions-written ms says h w = each-written says w (changes_octets (additions (marked ms (records_of count a))))
      (additions-octets w.changes ms (records_of count a) (w.many ∙ sym (length-records count a))
      (λ i j.
      let k : i < min count max_records = omega (arith, length-records count a) in
      (h i (get_or w.changes i None) k (w.each i k)).octets
      ∙ ap (λ (r : Record). changes_octets (addition_at (get_or ms i false) r)) (sym (records-at count a i k))))

pub ruleset first_removal = (first-not, first-turn, first-all)
