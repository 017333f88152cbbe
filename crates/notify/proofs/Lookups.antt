-- Laws of a record looked up in the other store, in the subscriptions, and in one subscription.
use Prim.Native.Nat.{ℕ, suc, min, ◌+◌, ◌≤◌, ◌<◌}
use mathlib.Core.Path.{◌≡◌, refl, sym, ap, ap₂, ◌∙◌}
use mathlib.Core.Bool.{Bool, true, false, cond, ◌&&◌, ◌||◌, and_comm, or-true, or-false}
use mathlib.Core.List.{List, [], ◌∷◌}
use mathlib.Core.Option.{Option, none, some}
use Rattle.std.specs.Prelude.{Option as Maybe, None, Some}
use Rattle.std.specs.Option.{is_some as is_found}
use native.Mathlib.Numerals.{one-add}
use native.Mathlib.Omega.{arith}
use lib.ListN.{length, take, drop, get_or, take-append-drop}
use lib.Dec.{eqb, ltb}
use borrow.Author.Tests.{le-ltb}
use Rattle.wire.specs.Name.{lowered, same_octets, same_name, after}
use Rattle.dso.specs.Match.{asks_for}
use Rattle.zone.specs.Lists.{any_of}
use Rattle.zone.specs.Record.{Record, Key, key_of, same_key}
use Rattle.zone.specs.Store.{find, held, is_some}
use Rattle.zone.specs.Match.{Subscription, matches_key, matches, wanted}
use Rattle.zone.specs.Batch.{max_records}
use Rattle.zone.specs.Table.{block_at, rec_of, records_of, index_of}
use Rattle.zone.proofs.Lists.{any_of-append}
use Rattle.zone.proofs.Stores.{none-held, held_cons, held-any_of}
use Rattle.zone.proofs.Memory.{no_record, length-records, records-at}
use Rattle.session.specs.Table.{subscription, record_asked}
use Rattle.push.specs.List.{has_ttl}
use Rattle.notify.proofs.Records.{records-end, records-next}

-- ---- in a store

held-nil : (k : Key) → held k [] ≡ false
held-nil k = none-held k [] (unfold find in refl)

-- A record that a part of a store has.
held-part : (k : Key) (n i : ℕ) (l : List Record) → held k (take n (drop i l)) ≡ true → held k l ≡ true
held-part k n i l e =
    let p : Record → Bool = λ r. same_key (key_of r) k in
    let h : any_of p (take n (drop i l)) ≡ true = sym (held-any_of k (take n (drop i l))) ∙ e in
    let g : any_of p (drop i l) ≡ true =
    ap (any_of p) (sym (take-append-drop n (drop i l))) ∙ any_of-append p (take n (drop i l)) (drop n (drop i l)) ∙ ap (λ (b : Bool). b || any_of p (drop n (drop i l))) h in
    held-any_of k l ∙ ap (any_of p) (sym (take-append-drop i l)) ∙ any_of-append p (take i l) (drop i l)
    ∙ ap (λ (b : Bool). any_of p (take i l) || b) g ∙ or-true (any_of p (take i l))

module _ (k : Key) (count : ℕ) (a : List ℕ) (i n : ℕ) (e : n ≡ min count max_records) where
  pub stands-past : n ≤ i → ltb i n ≡ held k (take 1 (drop i (records_of count a)))
  stands-past h = le-ltb i n h ∙ sym (ap (λ (l : List Record). held k (take 1 l)) (records-end count a i n e h) ∙ held-nil k)

  pub stands_here : i < n → (b : List ℕ) → b ≡ block_at a i → (x : Key) → x ≡ k → (t : Bool) → t ≡ same_key (key_of (rec_of b)) x
      → t ≡ held k (take 1 (drop i (records_of count a)))
  stands_here h b f x p t g =
      g ∙ ap (same_key (key_of (rec_of b))) p
      ∙ sym (ap (λ (l : List Record). held k (take 1 l)) (records-next count a i n e h b f) ∙ held_cons k (rec_of b) []
      ∙ ap (λ (y : Bool). same_key (key_of (rec_of b)) k || y) (held-nil k) ∙ or-false (same_key (key_of (rec_of b)) k))

pub held-there : (k : Key) (i : ℕ) (l : List Record) (t : Bool) → t ≡ held k (take 1 (drop i l)) → t ≡ true → t ≡ held k l
held-there k i l t e h = h ∙ sym (held-part k 1 i l (sym e ∙ h))

ttl_at : Maybe ℕ → List Record → Option ℕ
ttl_at None l = none
ttl_at (Some i) l = some (get_or l i no_record).ttl

-- What is found is the TTL of the first record with the key.
find-index : (k : Key) (l : List Record) → find k l ≡ ttl_at (index_of k l) l
unfolding find index_of ttl_at
find-index k [] = refl
find-index k (r ∷ l) = go (same_key (key_of r) k) (index_of k l) (find-index k l)
  where
    go : (b : Bool) (o : Maybe ℕ) → find k l ≡ ttl_at o l
        → cond b (some r.ttl) (find k l) ≡ ttl_at (cond b (Some 0) (after 1 o)) (r ∷ l)
    go true o h = refl
    go false None h = h
    go false (Some i) h = h ∙ sym (ap (λ (j : ℕ). some (get_or (r ∷ l) j no_record).ttl) (one-add i))

index-lt : (k : Key) (l : List Record) (i : ℕ) → index_of k l ≡ Some i → i < length l
unfolding index_of
index-lt k [] i h = absurd (cc)
index-lt k (r ∷ l) i h = go (same_key (key_of r) k) (index_of k l) (λ j. index-lt k l j) h
  where
    go : (b : Bool) (o : Maybe ℕ) → ((j : ℕ) → o ≡ Some j → j < length l) → cond b (Some 0) (after 1 o) ≡ Some i → i < suc (length l)
    go true o e h = let z : 0 ≡ i = cc in omega arith
    go false None e h = absurd (cc)
    go false (Some j) e h = let z : 1 + j ≡ i = cc in omega (arith, e j refl)

module _ (k : Key) (count : ℕ) (a : List ℕ) (x : Key) (p : x ≡ k) (o : Maybe ℕ) (e : o ≡ index_of x (records_of count a)) where
  at-index : o ≡ index_of k (records_of count a)
  at-index = e ∙ ap (λ (y : Key). index_of y (records_of count a)) p

  none_found : o ≡ None → find k (records_of count a) ≡ none
  unfolding ttl_at
  none_found h = find-index k (records_of count a) ∙ ap (λ (j : Maybe ℕ). ttl_at j (records_of count a)) (sym at-index ∙ h)

  some-found : (i : ℕ) → o ≡ Some i → find k (records_of count a) ≡ some (rec_of (block_at a i)).ttl
  unfolding ttl_at
  some-found i h =
      let l : List Record = records_of count a in
      let b : i < min count max_records = omega (arith, index-lt k l i (sym at-index ∙ h), length-records count a) in
      find-index k l ∙ ap (λ (j : Maybe ℕ). ttl_at j l) (sym at-index ∙ h) ∙ ap (λ (r : Record). some r.ttl) (records-at count a i b)

  pub held-found : (t : Bool) → t ≡ is_found o → t ≡ held k (records_of count a)
  unfolding held
  held-found t h = h ∙ go o refl
    where
      go : (j : Maybe ℕ) → o ≡ j → is_found j ≡ is_some (find k (records_of count a))
      go None g = sym (ap is_some (none_found g))
      go (Some i) g = sym (ap is_some (some-found i g))

  pub ttl-nothing : o ≡ None → (t : ℕ) → false ≡ has_ttl (find k (records_of count a)) t
  ttl-nothing h t = sym (ap (λ (j : Option ℕ). has_ttl j t) (none_found h))

  pub ttl-found : (i : ℕ) → o ≡ Some i → (b : List ℕ) → b ≡ block_at a i → (x t u : ℕ) → x ≡ (rec_of b).ttl → u ≡ t → eqb x u ≡ has_ttl (find k (records_of count a)) t
  ttl-found i h b g x t u p q =
      ap₂ eqb (p ∙ ap (λ (c : List ℕ). (rec_of c).ttl) g) q ∙ sym (ap (λ (j : Option ℕ). has_ttl j t) (some-found i h))

-- ---- in the subscriptions, and in one

pub is-wanted : (subs : List Subscription) (r : Record) (o : List ℕ) (t c : ℕ) (w : Bool) → o ≡ r.owner → t ≡ r.rrtype → c ≡ r.rrclass
    → w ≡ wanted subs (record_asked o t c) → w ≡ wanted subs r
is-wanted subs r o t c w p q u e =
    let v : record_asked o t c ≡ record_asked r.owner r.rrtype r.rrclass =
    λ i. record_asked (p i) (q i) (u i) in
    e ∙ ap (wanted subs) v ∙ same
  where
    same : wanted subs (record_asked r.owner r.rrtype r.rrclass) ≡ wanted subs r
    same = unfold matches_key in refl

pub match-split : (s : Subscription) (r : Record)
    → matches s r ≡ (asks_for s.rrtype s.rrclass r.rrtype r.rrclass && same_name s.owner r.owner)
unfolding matches_key same_name
match-split s r =
    and_comm (same_octets (lowered s.owner) (lowered r.owner)) (asks_for s.rrtype s.rrclass r.rrtype r.rrclass)

-- The ID of a subscription has no part in what it matches.
pub matches-id : (id : ℕ) (name : List ℕ) (t c : ℕ) (r : Record) → matches (subscription id name t c) r ≡ matches (subscription 0 name t c) r
unfolding matches_key
matches-id id name t c r = refl

pub ruleset ttl_held = (ttl-found, ttl-nothing)

pub ruleset record_held = (held-there, held-found)

pub ruleset record_wanted = (is-wanted)

pub ruleset record_matched = (match-split)

pub ruleset standing = (stands_here, stands-past)
