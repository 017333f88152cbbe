-- Laws of the table of subscriptions: what a block asks for, how many there are, and how a search goes through them.
use Prim.Native.Nat.{ℕ, ◌+◌, ◌*◌, min, ◌≤◌, ◌<◌}
use mathlib.Core.Path.{◌≡◌, refl, sym, ap, ◌∙◌}
use mathlib.Core.Bool.{Bool, true, false, cond, ◌&&◌, ◌||◌, and_comm}
use mathlib.Core.List.{List, [], ◌∷◌, map}
use native.Mathlib.Omega.{arith}
use lib.ListN.{length, drop, get_or, length-map, get_or-map}
use lib.Seq.{drop-cons}
use lib.Dec.{leb, ltb}
use borrow.Author.Count.{below_more}
use borrow.Author.Tests.{lt-ltb, le-ltb}
use Rattle.std.specs.Prelude.{Some, None, is_some, position}
use Rattle.std.specs.List.{position_from, position_or_len}
use Rattle.std.proofs.lemmas.List.Sums.{position_or_len_is}
use Rattle.std.proofs.lemmas.Iterator.Adapters.{position_from-zero}
use Rattle.wire.specs.Name.{same_name, same_octets, lowered}
use Rattle.wire.specs.Part.{part}
use Rattle.table.specs.Blocks.{blocks}
use Rattle.table.proofs.Blocks.{length-blocks, blocks_at}
use Rattle.zone.specs.Lists.{any_of}
use Rattle.dso.specs.Match.{asks_for}
use Rattle.zone.specs.Match.{Subscription, matches_key, matches}
use Rattle.session.specs.Subscriptions.{max_subscriptions, is_full}
use Rattle.session.specs.Table.{block_size, sub_of, subscriptions_of, record_asked}

-- ---- what a block asks for

-- Matching is the names being the same and the type and class being asked for.
pub matches_split : (s : Subscription) (name : List ℕ) (rrtype rrclass : ℕ)
    → matches s (record_asked name rrtype rrclass) ≡ asks_for s.rrtype s.rrclass rrtype rrclass && same_name s.owner name
unfolding matches_key same_name
matches_split s name rrtype rrclass =
    and_comm (same_octets (lowered s.owner) (lowered name)) (asks_for s.rrtype s.rrclass rrtype rrclass)

-- ---- how many there are, and one of them

pub length_subscriptions_of : (count : ℕ) (a : List ℕ) → length (subscriptions_of count a) ≡ min count max_subscriptions
unfolding subscriptions_of
length_subscriptions_of count a =
    length-map (blocks block_size (min count max_subscriptions) a) sub_of ∙ length-blocks block_size (min count max_subscriptions) a

pub subscriptions_of-at : (count : ℕ) (a : List ℕ) (i : ℕ) → i < min count max_subscriptions
    → get_or (subscriptions_of count a) i (sub_of []) ≡ sub_of (part a (i * block_size) block_size)
unfolding subscriptions_of
subscriptions_of-at count a i h =
    get_or-map sub_of (blocks block_size (min count max_subscriptions) a) i []
    ∙ ap sub_of (blocks_at block_size (min count max_subscriptions) a i h)

pub subscriptions_of-few : (n : ℕ) (a : List ℕ) → n ≤ max_subscriptions → subscriptions_of n a ≡ map sub_of (blocks block_size n a)
unfolding subscriptions_of
subscriptions_of-few n a h = let e : min n max_subscriptions ≡ n = omega arith in ap (λ (k : ℕ). map sub_of (blocks block_size k a)) e

-- None at first, and some as soon as one is counted.
pub subscriptions_of-none : (a : List ℕ) → subscriptions_of 0 a ≡ []
unfolding subscriptions_of blocks
subscriptions_of-none a = refl

pub subscriptions_of-some : (count : ℕ) (a : List ℕ) → 0 < count
    → subscriptions_of count a ≡ get_or (subscriptions_of count a) 0 (sub_of []) ∷ drop 1 (subscriptions_of count a)
subscriptions_of-some count a h = drop-cons (subscriptions_of count a) 0 (sub_of []) (omega (arith, length_subscriptions_of count a))

pub is_full-count : (count : ℕ) (a : List ℕ) → leb max_subscriptions count ≡ is_full (subscriptions_of count a)
unfolding is_full
is_full-count count a = grind (arith, length_subscriptions_of count a)

-- ---- a search through them

-- None of the first i passes a test.
abbrev pub NoneBefore : (Subscription → Bool) → List Subscription → ℕ → Type 0
NoneBefore p subs i = (k : ℕ) → k < i → p (get_or subs k (sub_of [])) ≡ false

module _ (p : Subscription → Bool) (count : ℕ) (a : List ℕ) (i n : ℕ) (before : NoneBefore p (subscriptions_of count a) i)
    (e : n ≡ length (subscriptions_of count a)) where
  abbrev subs : List Subscription
  subs = subscriptions_of count a

  pub position-none : i ≤ n → n ≤ i → None ≡ position p subs
  position-none l h =
      let j : position_or_len p subs ≡ i = position_or_len_is p subs i (sub_of []) (omega arith) before (λ k. absurd (omega (arith, k))) in
      sym (ap (λ (k : ℕ). cond (ltb k (length subs)) (Some k) None) j ∙ ap (λ (b : Bool). cond b (Some i) None) (le-ltb i (length subs) (omega arith)))

  module _ (h : i < n) (b : List ℕ) (g : b ≡ part a (i * block_size) block_size) (r : Bool) (f : r ≡ p (sub_of b)) where
    here : p (get_or subs i (sub_of [])) ≡ r
    here = ap p (subscriptions_of-at count a i (omega (arith, length_subscriptions_of count a)) ∙ ap sub_of (sym g)) ∙ sym f

    pub position-first : r ≡ true → Some i ≡ position p subs
    position-first t =
        let j : position_or_len p subs ≡ i = position_or_len_is p subs i (sub_of []) (omega arith) before (λ _. here ∙ t) in
        sym (ap (λ (k : ℕ). cond (ltb k (length subs)) (Some k) None) j ∙ ap (λ (b : Bool). cond b (Some i) None) (lt-ltb i (length subs) (omega arith)))

    pub none_before-turn : r ≡ false → NoneBefore p subs (i + 1)
    none_before-turn t = below_more (λ (k : ℕ). p (get_or subs k (sub_of [])) ≡ false) i before (here ∙ t)

any_from : (p : Subscription → Bool) (i : ℕ) (subs : List Subscription) → is_some (position_from p i subs) ≡ any_of p subs
any_from p i [] = refl
any_from p i (s ∷ subs) = go (p s) (any_from p (i + 1) subs)
  where
    go : (b : Bool) → is_some (position_from p (i + 1) subs) ≡ any_of p subs
        → is_some (cond b (Some i) (position_from p (i + 1) subs)) ≡ b || any_of p subs
    go true h = refl
    go false h = h

pub is_some_position : (p : Subscription → Bool) (subs : List Subscription) → is_some (position p subs) ≡ any_of p subs
is_some_position p subs = ap is_some (position_from-zero p subs) ∙ any_from p 0 subs
