-- Laws of the table's changes: a block written and read back, one subscription more, those of an ID gone.
use Prim.Native.Nat.{ℕ, suc, ◌+◌, ◌-◌, ◌*◌, min, ◌≤◌, ◌<◌, ◌^◌}
use mathlib.Core.Path.{◌≡◌, refl, sym, ap, ap₂, ◌∙◌}
use mathlib.Core.Bool.{Bool, true, false, cond, not, ◌||◌}
use mathlib.Core.List.{List, [], ◌∷◌, ◌++◌, map, append_assoc, map-append}
use native.Mathlib.Nat.{add-zero}
use native.Mathlib.Numerals.{add-one}
use native.Mathlib.Omega.{arith}
use lib.ListN.{length, take, drop, get_or, set, length-append, length-take, length-drop, drop_of_length-le}
use lib.Seq.{sets, take_at, take-take, drop_at, drop-drop, drop-cons, length-take-le}
use lib.Dec.{eqb}
use borrow.Author.Tests.{le-ltb, lt-leb}
use Rattle.std.proofs.lemmas.List.{get_or-take}
use Rattle.wire.specs.Field.{field, octets}
use Rattle.wire.specs.Name.{max_name}
use Rattle.wire.specs.Part.{part}
use Rattle.wire.proofs.Fields.{length-octets, field-octets, field-one}
use Rattle.wire.proofs.Writes.{sets-append, sets-front, take-sets, drop-sets-add}
use Rattle.table.specs.Blocks.{blocks, cut, slid, text_at}
use Rattle.table.proofs.Blocks.{blocks-suc, blocks-past, blocks-slid, take-cut, drop-cut, map-cut}
use Rattle.zone.specs.Lists.{only_if}
use Rattle.zone.specs.Match.{Subscription}
use Rattle.session.specs.Subscriptions.{max_subscriptions, is_full, without}
use Rattle.session.specs.Table.{block_size, area_size, sub_of, sub_octets, subscriptions_of, subscription, appended}
use Rattle.session.proofs.Table.{length_subscriptions_of, subscriptions_of-at, subscriptions_of-few, is_full-count}

-- ---- writes in a row

-- What is written behind what was written.
pub written_then : (o p q : List ℕ) (at b : ℕ) (u v : List ℕ) → p ≡ sets o at u → q ≡ sets p b v → at + length u ≡ b
    → q ≡ sets o at (u ++ v)
written_then o p q at b u v e f h =
    f ∙ ap₂ (λ (l : List ℕ) (k : ℕ). sets l k v) e (sym h) ∙ sym (sets-append o at u v)

pub numbers-written : (o p q r : List ℕ) (at id rrtype rrclass : ℕ) → p ≡ sets o at (octets 2 id)
    → q ≡ sets p (at + 2) (octets 2 rrtype) → r ≡ sets q (at + 4) (octets 2 rrclass)
    → r ≡ sets o at (octets 2 id ++ (octets 2 rrtype ++ octets 2 rrclass))
numbers-written o p q r at id rrtype rrclass e f g =
    written_then o p r at (at + 2) (octets 2 id) (octets 2 rrtype ++ octets 2 rrclass) e
    (written_then p q r (at + 2) (at + 4) (octets 2 rrtype) (octets 2 rrclass) f g (omega (arith, length-octets 2 rrtype)))
    (omega (arith, length-octets 2 id))

pub owner-written : (o q name : List ℕ) (at : ℕ) → q ≡ sets (set o at (length name)) (at + 1) name
    → q ≡ sets o at (length name ∷ name)
owner-written o q name at e = e ∙ ap (λ (k : ℕ). sets (set o at (length name)) k name) (add-one at)

pub block_written : (o p q name : List ℕ) (at id rrtype rrclass : ℕ)
    → p ≡ sets o at (octets 2 id ++ (octets 2 rrtype ++ octets 2 rrclass)) → q ≡ sets p (at + 6) (length name ∷ name)
    → q ≡ sets o at (sub_octets (subscription id name rrtype rrclass))
unfolding sub_octets
block_written o p q name at id rrtype rrclass e f =
    let i : List ℕ = octets 2 id in
    let t : List ℕ = octets 2 rrtype in
    let c : List ℕ = octets 2 rrclass in
    let n : length (i ++ (t ++ c)) ≡ 6 =
    length-append i (t ++ c) ∙ ap₂ ◌+◌ (length-octets 2 id) (length-append t c ∙ ap₂ ◌+◌ (length-octets 2 rrtype) (length-octets 2 rrclass)) in
    written_then o p q at (at + 6) (i ++ (t ++ c)) (length name ∷ name) e f (omega arith)
    ∙ ap (sets o at) (append_assoc i (t ++ c) (length name ∷ name) ∙ ap (λ (l : List ℕ). i ++ l) (append_assoc t c (length name ∷ name)))

-- ---- a block read back

same : (s : Subscription) (id : ℕ) (owner : List ℕ) (rrtype rrclass : ℕ) → id ≡ s.id → owner ≡ s.owner
    → rrtype ≡ s.rrtype → rrclass ≡ s.rrclass → subscription id owner rrtype rrclass ≡ s
same s id owner rrtype rrclass e f g h =
    ap₂ (λ (x : ℕ) (y : List ℕ). subscription x y rrtype rrclass) e f ∙ ap₂ (λ (x y : ℕ). subscription s.id s.owner x y) g h

pub length-sub_octets : (s : Subscription) → length (sub_octets s) ≡ 7 + length s.owner
unfolding sub_octets
length-sub_octets s =
    let i : List ℕ = octets 2 s.id in
    let t : List ℕ = octets 2 s.rrtype in
    let c : List ℕ = octets 2 s.rrclass in
    let o : List ℕ = length s.owner ∷ s.owner in
    omega (arith, length-append i (t ++ (c ++ o)), length-append t (c ++ o), length-append c o, length-octets 2 s.id, length-octets 2 s.rrtype, length-octets 2 s.rrclass)

-- The numbers of a subscription fit their fields.
pub record Fit (s : Subscription) : Type 0 where
  pub id-fits : s.id < 256 ^ 2
  pub type-fits : s.rrtype < 256 ^ 2
  pub class-fits : s.rrclass < 256 ^ 2

pub sub_of-octets : (s : Subscription) → Fit s → (rest : List ℕ) → sub_of (sub_octets s ++ rest) ≡ s
unfolding sub_of sub_octets
sub_of-octets s h rest =
    let i : List ℕ = octets 2 s.id in
    let t : List ℕ = octets 2 s.rrtype in
    let c : List ℕ = octets 2 s.rrclass in
    let o : List ℕ = length s.owner ∷ (s.owner ++ rest) in
    let b : List ℕ = (i ++ (t ++ (c ++ (length s.owner ∷ s.owner)))) ++ rest in
    let e : b ≡ i ++ (t ++ (c ++ o)) = append_assoc i (t ++ (c ++ (length s.owner ∷ s.owner))) rest
    ∙ ap (λ (l : List ℕ). i ++ l) (append_assoc t (c ++ (length s.owner ∷ s.owner)) rest
    ∙ ap (λ (l : List ℕ). t ++ l) (append_assoc c (length s.owner ∷ s.owner) rest)) in
    let d2 : drop 2 b ≡ t ++ (c ++ o) = ap (drop 2) e ∙ drop_at i (t ++ (c ++ o)) 2 (length-octets 2 s.id) in
    let d4 : drop 4 b ≡ c ++ o = sym (drop-drop 2 2 b) ∙ ap (drop 2) d2 ∙ drop_at t (c ++ o) 2 (length-octets 2 s.rrtype) in
    let d6 : drop 6 b ≡ o = sym (drop-drop 2 4 b) ∙ ap (drop 2) d4 ∙ drop_at c o 2 (length-octets 2 s.rrclass) in
    let d7 : drop 7 b ≡ s.owner ++ rest = sym (drop-drop 1 6 b) ∙ ap (drop 1) d6 in
    let n : field 1 (drop 6 b) ≡ length s.owner = ap (field 1) d6 ∙ field-one o 0 in
    same s (field 2 b) (text_at b 6 7) (field 2 (drop 2 b)) (field 2 (drop 4 b))
    (ap (field 2) e ∙ field-octets 2 s.id (t ++ (c ++ o)) h.id-fits)
    (ap₂ (λ (k : ℕ) (l : List ℕ). take k l) n d7 ∙ take_at s.owner rest (length s.owner) refl)
    (ap (field 2) d2 ∙ field-octets 2 s.rrtype (c ++ o) h.type-fits)
    (ap (field 2) d4 ∙ field-octets 2 s.rrclass o h.class-fits)

-- ---- one more

module _ (s : Subscription) (subs : List Subscription) where
  abbrev when : Bool → Bool → List Subscription
  when full long = cond (full || long) subs (subs ++ (s ∷ []))

  pub appended_one : is_full subs ≡ false → length s.owner ≤ max_name → appended s subs ≡ subs ++ (s ∷ [])
  unfolding appended
  appended_one h k = ap₂ when h (le-ltb max_name (length s.owner) k)

-- The block behind the last one, written.
pub append-written : (s : Subscription) (count : ℕ) (a b : List ℕ) → Fit s → length a ≡ area_size → count < max_subscriptions
    → length s.owner ≤ max_name → b ≡ sets a (count * block_size) (sub_octets s)
    → subscriptions_of (count + 1) b ≡ appended s (subscriptions_of count a)
append-written s count a b f l h k e =
    let at : ℕ = count * block_size in
    let v : List ℕ = sub_octets s in
    let z : at + 0 ≡ at = add-zero at in
    let old : blocks block_size count b ≡ blocks block_size count a =
    ap (blocks block_size count) e ∙ blocks-past block_size count a at v (omega arith) in
    let m : length (part a at block_size) ≡ block_size = length-take-le block_size (drop at a) (omega (arith, length-drop at a)) in
    let n : length v ≤ block_size = omega (arith, length-sub_octets s) in
    let new : part b at block_size ≡ sets (part a at block_size) 0 v =
    ap (λ (o : List ℕ). part o at block_size) (e ∙ ap (λ (j : ℕ). sets a j v) (sym z))
    ∙ ap (take block_size) (drop-sets-add at a 0 v) ∙ take-sets block_size (drop at a) 0 v in
    let read : sub_of (part b at block_size) ≡ s =
    ap sub_of (new ∙ sets-front (length v) (part a at block_size) v (sym (length-take-le (length v) (part a at block_size) (omega arith))))
    ∙ sub_of-octets s f (drop (length v) (part a at block_size)) in
    subscriptions_of-few (count + 1) b (omega arith)
    ∙ ap (map sub_of) (ap (λ (j : ℕ). blocks block_size j b) (add-one count) ∙ blocks-suc block_size count b)
    ∙ map-append sub_of (blocks block_size count b) (part b at block_size ∷ [])
    ∙ ap₂ (λ (x : List (List ℕ)) (y : Subscription). map sub_of x ++ (y ∷ [])) old read
    ∙ ap (λ (x : List Subscription). x ++ (s ∷ [])) (sym (subscriptions_of-few count a (omega arith)))
    ∙ sym (appended_one s (subscriptions_of count a) (sym (is_full-count count a) ∙ lt-leb max_subscriptions count h) k)

-- ---- those of an ID gone

pub gap-closed : (n : ℕ) (a b : List ℕ) (i : ℕ) → i < n → n ≤ max_subscriptions → length a ≡ area_size
    → b ≡ slid a (i * block_size) (i * block_size + block_size) ((n - 1 - i) * block_size)
    → blocks block_size (n - 1) b ≡ cut i (blocks block_size n a)
gap-closed n a b i h k l e = ap (blocks block_size (n - 1)) e ∙ blocks-slid block_size n a i h (omega arith)

live : (count : ℕ) (a : List ℕ) (n : ℕ) → n ≡ min count max_subscriptions → subscriptions_of n a ≡ subscriptions_of count a
unfolding subscriptions_of
live count a n e =
    let m : min n max_subscriptions ≡ min count max_subscriptions = omega arith in
    ap (λ (k : ℕ). map sub_of (blocks block_size k a)) m

-- The loop: the first i are as they were, and those behind them are without the ones of the ID.
pub record Swept (id : ℕ) (all : List Subscription) (n : ℕ) (a : List ℕ) (i : ℕ) : Type 0 where
  pub few : i ≤ n
  pub many : n ≤ max_subscriptions
  pub front : take i (subscriptions_of n a) ≡ take i all
  pub rest : drop i (subscriptions_of n a) ≡ without id (drop i all)

pub swept_none : (id count n : ℕ) (a : List ℕ) → n ≡ min count max_subscriptions → Swept id (subscriptions_of count a) n a n
unfolding without
swept_none id count n a e =
    let none : (k : ℕ) → min k max_subscriptions ≤ n → drop n (subscriptions_of k a) ≡ [] =
    λ k h. drop_of_length-le (subscriptions_of k a) {i = n} (omega (arith, length_subscriptions_of k a, h)) in
    record {
      few = omega arith;
      many = omega arith;
      front = ap (take n) (live count a n e);
      rest = none n (omega arith) ∙ sym (ap (without id) (none count (omega arith)));
    }

module _ (id : ℕ) (all : List Subscription) (n : ℕ) (a : List ℕ) (j : ℕ) (d : Swept id all n a j) (i : ℕ) (q : suc i ≡ j)
    (o : List ℕ) (p : o ≡ part a (i * block_size) block_size) (r : Bool) (f : r ≡ eqb (sub_of o).id id) where
  abbrev now : List Subscription
  now = subscriptions_of n a

  abbrev here : Subscription
  here = get_or now i (sub_of [])

  inside : i < length now
  inside = omega (arith, d.few, d.many, length_subscriptions_of n a)

  -- The front, a member shorter, and that member.
  before : take i now ≡ take i all
  before = sym (take-take i j now (omega arith)) ∙ ap (take i) d.front ∙ take-take i j all (omega arith)

  there : get_or all i (sub_of []) ≡ here
  there =
      sym (get_or-take j all i (sub_of []) (omega arith)) ∙ ap (λ (l : List Subscription). get_or l i (sub_of [])) (sym d.front)
      ∙ get_or-take j now i (sub_of []) (omega arith)

  -- Whether it keeps its place.
  next : without id (drop i all) ≡ only_if (not r) here (drop (suc i) now)
  unfolding without
  next =
      let e : sub_of o ≡ here = ap sub_of p ∙ sym (subscriptions_of-at n a i (omega (arith, d.few, d.many))) in
      let long : i < length all = omega (arith, inside, ap length d.front, length-take j now, length-take j all) in
      ap (without id) (drop-cons all i (sub_of []) long)
      ∙ ap (λ (s : Subscription). only_if (not (eqb s.id id)) s (without id (drop (suc i) all))) there
      ∙ ap (λ (b : Bool). only_if (not b) here (without id (drop (suc i) all))) (ap (λ (s : Subscription). eqb s.id id) (sym e) ∙ sym f)
      ∙ ap (only_if (not r) here) (ap (λ (k : ℕ). without id (drop k all)) q ∙ sym d.rest ∙ ap (λ (k : ℕ). drop k now) (sym q))

  pub swept-kept : r ≡ false → Swept id all n a i
  swept-kept g = record {
    few = omega (arith, d.few);
    many = d.many;
    front = before;
    rest = drop-cons now i (sub_of []) inside ∙ sym (next ∙ ap (λ (b : Bool). only_if (not b) here (drop (suc i) now)) g);
  }

  pub swept-gone : r ≡ true → (m : ℕ) (b : List ℕ) → m ≡ n - 1 → blocks block_size (n - 1) b ≡ cut i (blocks block_size n a)
      → Swept id all m b i
  swept-gone g m b e k =
      let left : subscriptions_of m b ≡ cut i now =
      subscriptions_of-few m b (omega (arith, d.many)) ∙ ap (λ (j : ℕ). map sub_of (blocks block_size j b)) e ∙ ap (map sub_of) k
      ∙ map-cut sub_of i (blocks block_size n a) ∙ ap (cut i) (sym (subscriptions_of-few n a d.many)) in
      record {
        few = omega (arith, d.few);
        many = omega (arith, d.many);
        front = ap (take i) left ∙ take-cut i now ∙ before;
        rest = ap (drop i) left ∙ drop-cut i now ∙ sym (next ∙ ap (λ (b : Bool). only_if (not b) here (drop (suc i) now)) g);
      }
