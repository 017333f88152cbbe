-- Octets as hexadecimal digits: how the loops go, and that octets written are read back.
use Prim.Native.Nat.{ℕ, suc, ◌+◌, ◌*◌, ◌-◌, ◌/◌, ◌%◌, ◌≤◌, ◌<◌}
use mathlib.Core.Path.{◌≡◌, refl, sym, ap, ap₂, ◌∙◌}
use mathlib.Core.Bool.{Bool, true, false, ◌&&◌}
use mathlib.Core.List.{List, [], ◌∷◌, ◌++◌, append-nil, append_assoc}
use native.Mathlib.Numerals.{add-one}
use native.Mathlib.Omega.{arith}
use lib.ListN.{length, take, drop, get_or, set, length-set, drop_of_length-le}
use lib.Seq.{drop-cons, take-suc-set}
use lib.Dec.{ltb}
use lib.Pow.{are_bytes}
use borrow.Author.Tests.{le-leb, lt-leb, ltb-true}
use Rattle.std.specs.Prelude.{Option, Some, None, option_map, option_and_then}
use Rattle.script.specs.Digit.{digit_value, digit_octet}
use Rattle.script.specs.Hex.{hex_bytes, hex_bytes_in, hex_octets}
use Rattle.script.proofs.Digits.{digit-read}

-- Octets, and those before them, if there are any to speak of.
abbrev behind : List ℕ → Option (List ℕ) → Option (List ℕ)
behind p o = option_map (λ l. p ++ l) o

behind-none : (o : Option (List ℕ)) → o ≡ behind [] o
behind-none None = refl
behind-none (Some l) = refl

behind-more : (p : List ℕ) (x : ℕ) (o : Option (List ℕ)) → behind p (option_map (λ r. x ∷ r) o) ≡ behind (p ++ (x ∷ [])) o
behind-more p x None = refl
behind-more p x (Some l) = ap (λ (r : List ℕ). Some r) (sym (append_assoc p (x ∷ []) l))

-- ---- reading

-- An odd number of digits is no whole octets.
pub hex-odd : (s : List ℕ) → (length s % 2 ≡ 0 → ⊥) → None ≡ hex_bytes s
unfolding hex_bytes
hex-odd [] h = absurd (h refl)
hex-odd (a ∷ []) h = refl
hex-odd (a ∷ b ∷ s) h = by-digits (digit_value a) (digit_value b) (hex_bytes s) (hex-odd s (λ e. h (omega arith)))
  where
    by-digits : (o p : Option ℕ) (r : Option (List ℕ)) → None ≡ r → None ≡ option_and_then (λ high. option_and_then (λ low. option_map (λ l. (high * 16 + low) ∷ l) r) p) o
    by-digits None p r e = refl
    by-digits (Some x) None r e = refl
    by-digits (Some x) (Some y) r e = rw (← e)

-- i octets are decoded, and stand at the front of o, which is as long as it was at first.
pub record Decoding (s first o : List ℕ) (i : ℕ) : Type 0 where
  pub rest : hex_bytes s ≡ behind (take i o) (hex_bytes (drop (2 * i) s))
  pub long : length o ≡ length first

pub decoding-none : (s o : List ℕ) → Decoding s o o 0
decoding-none s o = record { rest = behind-none (hex_bytes s); long = refl }

module _ (s first o : List ℕ) (i : ℕ) (r : Decoding s first o i) where
  pub decoding-end : (n : ℕ) → n ≡ length s / 2 → length s % 2 ≡ 0 → n ≡ i → Some (take n o) ≡ hex_bytes s
  unfolding hex_bytes
  decoding-end n e h m =
      let z : drop (2 * i) s ≡ [] = drop_of_length-le s {i = 2 * i} (omega arith) in
      rw (r.rest, z, m) (ap (λ (l : List ℕ). Some l) (sym (append-nil (take i o))))

  module _ (h : i < length s / 2) (a b : Option ℕ) (e : a ≡ digit_value (get_or s (2 * i) 0)) where
    next : drop (2 * i) s ≡ get_or s (2 * i) 0 ∷ get_or s (2 * i + 1) 0 ∷ drop (2 * (i + 1)) s
    next =
        let a : suc (2 * i) ≡ 2 * i + 1 = omega arith in
        let b : suc (suc (2 * i)) ≡ 2 * (i + 1) = omega arith in
        drop-cons s (2 * i) 0 (omega arith) ∙ ap (λ (l : List ℕ). get_or s (2 * i) 0 ∷ l) (drop-cons s (suc (2 * i)) 0 (omega arith))
        ∙ ap₂ (λ (x y : ℕ). get_or s (2 * i) 0 ∷ get_or s x 0 ∷ drop y s) a b

    two : hex_bytes s ≡ behind (take i o) (option_and_then (λ high.
        option_and_then (λ low. option_map (λ l. (high * 16 + low) ∷ l) (hex_bytes (drop (2 * (i + 1)) s))) (digit_value (get_or s (2 * i + 1) 0))) a)
    unfolding hex_bytes
    two = r.rest ∙ rw (next, ← e)

    pub decoding-high : a ≡ None → None ≡ hex_bytes s
    decoding-high k = rw (two, k)

    module _ (hi : ℕ) (g : a ≡ Some hi) (f : b ≡ digit_value (get_or s (2 * i + 1) 0)) where
      pub decoding-low : b ≡ None → None ≡ hex_bytes s
      decoding-low k = rw (two, g, ← f, k)

      pub decoding-turn : (lo : ℕ) → b ≡ Some lo → length s ≤ 2 * length first → Decoding s first (set o i (hi * 16 + lo)) (i + 1)
      decoding-turn lo k m =
          let t : take (i + 1) (set o i (hi * 16 + lo)) ≡ take i o ++ ((hi * 16 + lo) ∷ []) =
          rw (add-one i) (take-suc-set o i (hi * 16 + lo) (omega (arith, r.long))) in
          record {
            rest = rw (two, g, ← f, k, t) (behind-more (take i o) (hi * 16 + lo) (hex_bytes (drop (2 * (i + 1)) s)));
            long = length-set o i (hi * 16 + lo) ∙ r.long;
          }

-- Memory that has no room for the octets, and memory that has.
module _ (s first : List ℕ) where
  pub bytes-many : length first < length s - length s / 2 → None ≡ hex_bytes_in (length first) s
  unfolding hex_bytes_in
  bytes-many h = rw (lt-leb (length s) (2 * length first) (omega arith))

  pub bytes-few : (r : Option (List ℕ)) → length s - length s / 2 ≤ length first → r ≡ hex_bytes s → r ≡ hex_bytes_in (length first) s
  unfolding hex_bytes_in
  bytes-few r h e = rw (le-leb (length s) (2 * length first) (omega arith)) e

-- ---- writing

pub hex-append : (a b : List ℕ) → hex_octets (a ++ b) ≡ hex_octets a ++ hex_octets b
unfolding hex_octets
hex-append [] b = refl
hex-append (x ∷ a) b = ap (λ (l : List ℕ). digit_octet (x / 16) ∷ digit_octet (x % 16) ∷ l) (hex-append a b)

pub length-hex : (l : List ℕ) → length (hex_octets l) ≡ 2 * length l
unfolding hex_octets
length-hex [] = refl
length-hex (x ∷ l) = let h = length-hex l in omega arith

-- Octets that were written are read back.
byte-read : (b : ℕ) (l : List ℕ) → b < 256 → hex_bytes (hex_octets l) ≡ Some l → hex_bytes (hex_octets (b ∷ l)) ≡ Some (b ∷ l)
unfolding hex_bytes hex_octets
byte-read b l h e =
    rw (digit-read (b / 16) (omega arith), digit-read (b % 16) (omega arith), e)
    (ap (λ (x : ℕ). Some (x ∷ l)) (omega arith))

pub bytes_read : (l : List ℕ) → are_bytes l ≡ true → hex_bytes (hex_octets l) ≡ Some l
unfolding hex_bytes hex_octets
bytes_read [] h = refl
bytes_read (b ∷ l) h = by-test (ltb b 256) refl (λ e. bytes_read l e) h
  where
    by-test : (t : Bool) → ltb b 256 ≡ t → (are_bytes l ≡ true → hex_bytes (hex_octets l) ≡ Some l) → t && are_bytes l ≡ true
        → hex_bytes (hex_octets (b ∷ l)) ≡ Some (b ∷ l)
    by-test true e ih h = byte-read b l (ltb-true b 256 e) (ih h)
    by-test false e ih h = let z : ◌≡◌ {A = ℕ} 0 1 = cc in absurd (omega arith)

pub ruleset decoding = (decoding-none, decoding-end, decoding-high, decoding-low, decoding-turn, hex-odd)

pub ruleset room = (bytes-many, bytes-few)
