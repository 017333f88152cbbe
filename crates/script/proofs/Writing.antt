-- Writing: one text behind another, digits from the last one on, octets in hexadecimal digits.
use Prim.Native.Nat.{ℕ, zero, suc, ◌+◌, ◌-◌, ◌*◌, ◌/◌, ◌%◌, ◌^◌, ◌≤◌, ◌<◌, min}
use mathlib.Core.Path.{◌≡◌, refl, sym, ap, ap₂, ◌∙◌, subst}
use mathlib.Core.Bool.{Bool, true, false, cond}
use mathlib.Core.List.{List, [], ◌∷◌, ◌++◌, append_assoc, append-nil}
use native.Mathlib.Nat.{pow-suc}
use native.Mathlib.Numerals.{add-one}
use native.Mathlib.Omega.{arith}
use lib.ListN.{length, take, drop, get_or, length-append}
use lib.Seq.{sets, length-sets, length-take-le, take-suc, take_all}
use lib.Dec.{ltb, lit≤}
use borrow.Author.Tests.{lt-ltb, le-ltb, ltb-true, ltb-false}
use Rattle.std.specs.Prelude.{Option, Some, None, unwrap_or}
use Rattle.wire.proofs.Writes.{sets-append, sets-lent-rest, sets-out, take-written}
use Rattle.script.specs.Digit.{digit_octet}
use Rattle.script.specs.Number.{decimal_in, max_digits, decimal}
use Rattle.script.specs.Hex.{hex_octets}
use Rattle.script.specs.Fields.{tab, tabs_before, tabbed}
use Rattle.script.specs.Verb.{verb_text}
use Rattle.script.specs.Output.{lf, verb_octets, session_octets, bytes_octets, line_octets}
use Rattle.script.specs.Code.{Written}
use Rattle.script.specs.declared.verb.Verb.{Verb}
use Rattle.script.specs.declared.verb.Verb.TheVariants.{Open, Close, Message, Batch, Tick}
use Rattle.script.proofs.Bytes.{hex-append, length-hex}

-- ---- one text behind another

-- A write from the next free place on is one from behind the text on: where that is the end, both write nothing.
sets-place : (o p b : List ℕ) (n : ℕ) → length p ≡ length o → sets p (min n (length o)) b ≡ sets p n b
sets-place o p b n h = by-test (ltb (length o) n) refl
  where
    by-test : (t : Bool) → ltb (length o) n ≡ t → sets p (min n (length o)) b ≡ sets p n b
    by-test true e =
        let k : length o < n = ltb-true (length o) n e in
        sets-out p (min n (length o)) b (omega arith) ∙ sym (sets-out p n b (omega arith))
    by-test false e =
        let k : n ≤ length o = ltb-false (length o) n e in
        let m : min n (length o) ≡ n = omega arith in
        ap (λ (j : ℕ). sets p j b) m

pub written_then : (o : List ℕ) (at : ℕ) (a p : List ℕ) (r : ℕ) → Written o at a p r → (b q : List ℕ) (t : ℕ) → Written p r b q t
    → Written o at (a ++ b) q t
written_then o at a p r w b q t v =
    let l : length p ≡ length o = ap length w.whole ∙ length-sets o at a in
    let n : length (a ++ b) ≡ length a + length b = length-append a b in
    record {
      whole = v.whole ∙ ap (λ (j : ℕ). sets p j b) w.next ∙ sets-place o p b (at + length a) l
          ∙ ap (λ (x : List ℕ). sets x (at + length a) b) w.whole ∙ sym (sets-append o at a b);
      next = omega (arith, v.next, w.next);
    }

-- ---- a number: the digits before the last one, and the last one

pub decimal_in-one : (n x : ℕ) → x ≤ 9 → decimal_in (suc n) x ≡ digit_octet x ∷ []
unfolding decimal_in
decimal_in-one n x h = rw (lt-ltb x 10 (omega arith))

pub decimal_in-more : (n x : ℕ) → 9 < x → decimal_in (suc n) x ≡ decimal_in n (x / 10) ++ (digit_octet (x % 10) ∷ [])
unfolding decimal_in
decimal_in-more n x h = rw (le-ltb x 10 (omega arith))

-- Room for one digit more makes no difference.
decimal_in-roomy : (n x : ℕ) → x < 10 ^ suc n → decimal_in (suc (suc n)) x ≡ decimal_in (suc n) x
decimal_in-roomy zero x h = decimal_in-one 1 x (omega arith) ∙ sym (decimal_in-one 0 x (omega arith))
decimal_in-roomy (suc n) x h = by-test (ltb 9 x) refl (λ k. decimal_in-roomy n (x / 10) k)
  where
    by-test : (t : Bool) → ltb 9 x ≡ t → (x / 10 < 10 ^ suc n → decimal_in (suc (suc n)) (x / 10) ≡ decimal_in (suc n) (x / 10))
        → decimal_in (suc (suc (suc n))) x ≡ decimal_in (suc (suc n)) x
    by-test true e rest =
        let k : 9 < x = ltb-true 9 x e in
        decimal_in-more (suc (suc n)) x k
        ∙ ap (λ (l : List ℕ). l ++ (digit_octet (x % 10) ∷ [])) (rest (omega (arith, pow-suc 10 (suc n))))
        ∙ sym (decimal_in-more (suc n) x k)
    by-test false e rest =
        let k : x ≤ 9 = ltb-false 9 x e in
        decimal_in-one (suc (suc n)) x k ∙ sym (decimal_in-one (suc n) x k)

module _ (o : List ℕ) (at x v : ℕ) (e : v ≡ digit_octet (x % 10)) (p : List ℕ) (r : ℕ) where
  pub digit-written : x < 10 → Written o at (v ∷ []) p r → Written o at (decimal x) p r
  unfolding decimal
  digit-written h w =
      let m : x % 10 ≡ x = omega arith in
      subst (λ (l : List ℕ). Written o at l p r) (ap (λ (y : ℕ). y ∷ []) (e ∙ ap digit_octet m) ∙ sym (decimal_in-one 19 x (omega arith))) w

  pub digits-written : 10 ≤ x → x < 2 ^ 64 → Written o at (decimal (x / 10)) p r → (q : List ℕ) (t : ℕ) → Written p r (v ∷ []) q t → Written o at (decimal x) q t
  unfolding decimal
  digits-written h k w q t y =
      let same : decimal (x / 10) ++ (v ∷ []) ≡ decimal x =
      ap₂ (λ (l : List ℕ) (y : ℕ). l ++ (y ∷ [])) (decimal_in-roomy 18 (x / 10) (omega arith)) e ∙ sym (decimal_in-more 19 x (omega arith)) in
      subst (λ (l : List ℕ). Written o at l q t) same (written_then o at (decimal (x / 10)) p r w (v ∷ []) q t y)

-- ---- octets

module _ (o bytes p : List ℕ) (i : ℕ) (r : p ≡ sets o 0 (hex_octets (take i bytes))) where
  -- The octets so far are written, and one more.
  pub hexed-turn : i < length bytes → (a b : ℕ) → a ≡ digit_octet (get_or bytes i 0 / 16) → b ≡ digit_octet (get_or bytes i 0 % 16) → (q : List ℕ)
      → q ≡ sets p (2 * i) (a ∷ b ∷ []) → q ≡ sets o 0 (hex_octets (take (i + 1) bytes))
  unfolding hex_octets
  hexed-turn h a b ea eb q e =
      let x : ℕ = get_or bytes i 0 in
      let A : List ℕ = hex_octets (take i bytes) in
      let B : List ℕ = digit_octet (x / 16) ∷ digit_octet (x % 16) ∷ [] in
      let two : a ∷ b ∷ [] ≡ B = ap₂ (λ (u v : ℕ). u ∷ v ∷ []) ea eb in
      let place : 2 * i ≡ 0 + length A = omega (arith, length-hex (take i bytes), length-take-le i bytes (omega arith)) in
      e ∙ ap₂ (λ (l m : List ℕ). sets l (2 * i) m) r two ∙ ap (λ (j : ℕ). sets (sets o 0 A) j B) place
      ∙ sym (sets-append o 0 A B)
      ∙ ap (λ (l : List ℕ). sets o 0 l) (sym (hex-append (take i bytes) (x ∷ [])) ∙ ap hex_octets (sym (take-suc bytes i 0 h) ∙ ap (λ (j : ℕ). take j bytes) (sym (add-one i))))

  pub hexed-end : length bytes ≤ i → p ≡ sets o 0 (hex_octets bytes)
  hexed-end h = r ∙ ap (λ (l : List ℕ). sets o 0 (hex_octets l)) (take_all i bytes h)

module _ (o : List ℕ) (at : ℕ) (bytes : List ℕ) where
  pub hex_past : length o ≤ at → Written o at (hex_octets bytes) o (length o)
  hex_past h = record { whole = sym (sets-out o at (hex_octets bytes) h); next = omega arith }

  pub hex-written : (p : List ℕ) → p ≡ sets (take (length o - at) (drop at o)) 0 (hex_octets bytes) → (m t : ℕ) → t ≡ min (at + 2 * length bytes) m → m ≡ length o
      → Written o at (hex_octets bytes) (take at o ++ (p ++ drop (length o - at) (drop at o))) t
  hex-written p e m t f g =
      record { whole = sets-lent-rest o p (hex_octets bytes) at e; next = omega (arith, length-hex bytes) }

-- ---- the whole line: its fields, a tab between

module _ (o : List ℕ) (at : ℕ) (l : List ℕ) (p : List ℕ) (r : ℕ) (w : Written o at l p r) (q : List ℕ) (t : ℕ) (x : Written p r (tab ∷ []) q t) where
  pub field-then : (m : List ℕ) (z : List ℕ) (u : ℕ) → Written q t m z u → Written o at (l ++ (tab ∷ m)) z u
  field-then m z u y = written_then o at l p r w (tab ∷ m) z u (written_then p r (tab ∷ []) q t x m z u y)

pub line-written : (o : List ℕ) (at : ℕ) (v : Option Verb) (n : ℕ) (s : Option ℕ) (c : Option (List ℕ)) (p : List ℕ) (r : ℕ)
    → (k : ℕ) → k ≡ n → Written o at (((verb_octets v ++ (tab ∷ decimal k)) ++ (tab ∷ session_octets s)) ++ (tab ∷ bytes_octets c)) p r
    → (z : List ℕ) (t : ℕ) → Written p r (lf ∷ []) z t → Written o at (line_octets v n s c) z t
unfolding line_octets tabbed
line-written o at v n s c p r k e w z t x =
    let all = written_then o at (((verb_octets v ++ (tab ∷ decimal k)) ++ (tab ∷ session_octets s)) ++ (tab ∷ bytes_octets c)) p r w (lf ∷ []) z t x in
    let same : (((verb_octets v ++ (tab ∷ decimal k)) ++ (tab ∷ session_octets s)) ++ (tab ∷ bytes_octets c)) ++ (lf ∷ [])
    ≡ (verb_octets v ++ tabs_before (decimal n ∷ session_octets s ∷ bytes_octets c ∷ [])) ++ (lf ∷ []) = rw e (simp (append_assoc, append-nil)) in
    subst (λ (l : List ℕ). Written o at l z t) same all

-- ---- for who lends the memory

-- Where it is long enough, what stands at its front is the text.
pub written-taken : (o text p : List ℕ) (r : ℕ) → Written o 0 text p r → length text ≤ length o → take r p ≡ text
written-taken o text p r w h =
    let n : r ≡ length text = omega (arith, w.next) in
    ap₂ (λ (k : ℕ) (l : List ℕ). take k l) n w.whole ∙ take-written o text h

length-decimal_in : (n x : ℕ) → length (decimal_in n x) ≤ n
unfolding decimal_in
length-decimal_in zero x = omega arith
length-decimal_in (suc n) x = by-test (ltb x 10) (length-decimal_in n (x / 10))
  where
    by-test : (t : Bool) → length (decimal_in n (x / 10)) ≤ n
        → length (cond t (digit_octet x ∷ []) (decimal_in n (x / 10) ++ (digit_octet (x % 10) ∷ []))) ≤ suc n
    by-test true h = omega arith
    by-test false h = omega (arith, length-append (decimal_in n (x / 10)) (digit_octet (x % 10) ∷ []))

length-decimal : (x : ℕ) → length (decimal x) ≤ max_digits
unfolding decimal
length-decimal x = length-decimal_in max_digits x

length-verb : (v : Option Verb) → length (verb_octets v) ≤ 5
unfolding verb_text verb_octets
length-verb (Some Open) = lit≤ tt
length-verb (Some Close) = lit≤ tt
length-verb (Some Message) = lit≤ tt
length-verb (Some Batch) = lit≤ tt
length-verb (Some Tick) = lit≤ tt
length-verb None = lit≤ tt

length-session : (s : Option ℕ) → length (session_octets s) ≤ max_digits
unfolding session_octets
length-session None = lit≤ tt
length-session (Some s) = length-decimal s

length-bytes : (c : Option (List ℕ)) → length (bytes_octets c) ≤ 1 + 2 * length (unwrap_or c [])
unfolding bytes_octets
length-bytes None = omega arith
length-bytes (Some l) = omega (arith, length-hex l)

-- The most octets that a line has.
pub length-line : (v : Option Verb) (n : ℕ) (s : Option ℕ) (c : Option (List ℕ)) → length (line_octets v n s c) ≤ 50 + 2 * length (unwrap_or c [])
unfolding line_octets tabbed
length-line v n s c =
    let a = length-verb v in
    let b = length-decimal n in
    let d = length-session s in
    let e = length-bytes c in
    simp length-append (omega arith)
