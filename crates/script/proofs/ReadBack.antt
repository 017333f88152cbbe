-- What is written in the format is read back: a number, and a whole line, one theorem over its kind.
use Prim.Native.Nat.{ℕ, zero, suc, ◌+◌, ◌*◌, ◌/◌, ◌%◌, ◌^◌, ◌≤◌, ◌<◌}
use mathlib.Core.Path.{◌≡◌, refl, sym, ap, ◌∙◌}
use mathlib.Core.Bool.{Bool, true, false, cond}
use mathlib.Core.List.{List, [], ◌∷◌, ◌++◌, append_assoc, append-nil}
use native.Mathlib.Nat.{pow-suc}
use native.Mathlib.Omega.{arith}
use lib.ListN.{length}
use lib.Dec.{ltb, lit≤}
use lib.Pow.{are_bytes}
use borrow.Author.Tests.{lt-ltb, ltb-true, ltb-false, le-leb, ne_eqb}
use Rattle.std.specs.Prelude.{Some, None}
use Rattle.std.proofs.lemmas.Option.{option_and_then_some}
use Rattle.script.specs.Digit.{digit_value, digit_octet}
use Rattle.script.specs.Number.{digits, in64, value_of, plain, number, decimal_in, max_digits, decimal}
use Rattle.script.specs.Hex.{hex_octets}
use Rattle.script.specs.Fields.{tabbed, until}
use Rattle.script.specs.Verb.{verb_text}
use Rattle.script.specs.Line.{Line, max_line, timed, spoken, line_of_fields, line_of, line_fields, line_text, Fitting}
use Rattle.script.specs.declared.verb.Verb.{Verb}
use Rattle.script.specs.declared.verb.Verb.TheVariants.{Open, Close, Message, Batch, Tick}
use Rattle.script.proofs.Digits.{digit-read}
use Rattle.script.proofs.Bytes.{bytes_read}
use Rattle.script.proofs.Parting.{Field, AllFields, fields-tabbed}
use Rattle.script.proofs.Tabless.{cond-some, number-tabless, bytes-tabless}
use Rattle.script.proofs.Verbs.{verb-read}
use Rattle.script.proofs.Writing.{decimal_in-one, decimal_in-more}

-- ---- a number

digits_append : (x : ℕ) (a b : List ℕ) (y : ℕ) → digits x a ≡ Some y → digits x (a ++ b) ≡ digits y b
unfolding digits
digits_append x [] b y e = let z : x ≡ y = cc in ap (λ (w : ℕ). digits w b) z
digits_append x (c ∷ a) b y e =
    option_and_then_some (λ d. cond (ltb d 10) (digits (x * 10 + d) a) None) (digit_value c) y e (λ d f g.
    let p = cond-some (ltb d 10) (digits (x * 10 + d) a) y g in
    rw (f, p.0) (digits_append (x * 10 + d) a b y p.1))

digit-last : (y d : ℕ) → d < 10 → digits y (digit_octet d ∷ []) ≡ Some (y * 10 + d)
unfolding digits
digit-last y d h = rw (digit-read d (omega arith), lt-ltb d 10 h)

decimal-single : (n x : ℕ) → x ≤ 9 → digits 0 (decimal_in (suc n) x) ≡ Some x
decimal-single n x h =
    let z : 0 * 10 + x ≡ x = omega arith in
    ap (digits 0) (decimal_in-one n x h) ∙ digit-last 0 x (omega arith) ∙ ap (λ (k : ℕ). Some k) z

decimal-digits : (n x : ℕ) → x < 10 ^ suc n → digits 0 (decimal_in (suc n) x) ≡ Some x
decimal-digits zero x h = decimal-single 0 x (omega arith)
decimal-digits (suc n) x h = by-test (ltb 9 x) refl (λ k. decimal-digits n (x / 10) k)
  where
    by-test : (t : Bool) → ltb 9 x ≡ t → (x / 10 < 10 ^ suc n → digits 0 (decimal_in (suc n) (x / 10)) ≡ Some (x / 10))
        → digits 0 (decimal_in (suc (suc n)) x) ≡ Some x
    by-test true e rest =
        let k : 9 < x = ltb-true 9 x e in
        let z : x / 10 * 10 + x % 10 ≡ x = omega arith in
        ap (digits 0) (decimal_in-more (suc n) x k)
        ∙ digits_append 0 (decimal_in (suc n) (x / 10)) (digit_octet (x % 10) ∷ []) (x / 10) (rest (omega (arith, pow-suc 10 (suc n))))
        ∙ digit-last (x / 10) (x % 10) (omega arith) ∙ ap (λ (k : ℕ). Some k) z
    by-test false e rest = decimal-single (suc n) x (ltb-false 9 x e)

plain-first : (x : ℕ) (t : List ℕ) → 0 < x → x ≤ 9 → plain (digit_octet x ∷ t) ≡ true
unfolding plain digit_octet
plain-first x [] h k = refl
plain-first x (c ∷ t) h k = rw (lt-ltb x 10 (omega arith), ne_eqb (48 + x) 48 (λ e. omega arith))

plain-single : (n x : ℕ) (t : List ℕ) → 0 < x → x ≤ 9 → plain (decimal_in (suc n) x ++ t) ≡ true
plain-single n x t h k = ap (λ (l : List ℕ). plain (l ++ t)) (decimal_in-one n x k) ∙ plain-first x t h k

decimal-plain : (n x : ℕ) (t : List ℕ) → 0 < x → x < 10 ^ suc n → plain (decimal_in (suc n) x ++ t) ≡ true
decimal-plain zero x t h k = plain-single 0 x t h (omega arith)
decimal-plain (suc n) x t h k =
    by-test (ltb 9 x) refl (λ a b. decimal-plain n (x / 10) ((digit_octet (x % 10) ∷ []) ++ t) a b)
  where
    by-test : (u : Bool) → ltb 9 x ≡ u
        → (0 < x / 10 → x / 10 < 10 ^ suc n → plain (decimal_in (suc n) (x / 10) ++ ((digit_octet (x % 10) ∷ []) ++ t)) ≡ true)
        → plain (decimal_in (suc (suc n)) x ++ t) ≡ true
    by-test true e rest =
        let j : 9 < x = ltb-true 9 x e in
        ap (λ (l : List ℕ). plain (l ++ t)) (decimal_in-more (suc n) x j)
        ∙ ap plain (append_assoc (decimal_in (suc n) (x / 10)) (digit_octet (x % 10) ∷ []) t)
        ∙ rest (omega arith) (omega (arith, pow-suc 10 (suc n)))
    by-test false e rest = plain-single (suc n) x t h (ltb-false 9 x e)

decimal-first : (x : ℕ) → x < 2 ^ 64 → plain (decimal x) ≡ true
unfolding decimal plain decimal_in digit_octet
decimal-first zero h = refl
decimal-first (suc x) h = ap plain (sym (append-nil (decimal_in max_digits (suc x)))) ∙ decimal-plain 19 (suc x) [] (omega arith) (omega arith)

decimal-value : (x : ℕ) → x < 2 ^ 64 → digits 0 (decimal x) ≡ Some x
unfolding decimal
decimal-value x h = decimal-digits 19 x (omega arith)

-- A number that was written is read back.
pub number_read_back : (x : ℕ) → x < 2 ^ 64 → number (decimal x) ≡ Some x
unfolding number value_of in64
number_read_back x h = rw (decimal-first x h, decimal-value x h, lt-ltb x (2 ^ 64) h)

-- ---- a line

verb-field : (v : Verb) → Field (verb_text v)
unfolding verb_text until
verb-field Open = record { tabless = lit≤ tt }
verb-field Close = record { tabless = lit≤ tt }
verb-field Message = record { tabless = lit≤ tt }
verb-field Batch = record { tabless = lit≤ tt }
verb-field Tick = record { tabless = lit≤ tt }

number-field : (x : ℕ) → x < 2 ^ 64 → Field (decimal x)
number-field x h = number-tabless (decimal x) x (number_read_back x h)

bytes-field : (l : List ℕ) → are_bytes l ≡ true → Field (hex_octets l)
bytes-field l h = bytes-tabless (hex_octets l) l (bytes_read l h)

joined : (v : Verb) (fs : List (List ℕ)) → AllFields fs → length (tabbed (verb_text v ∷ fs)) ≤ max_line → line_of (tabbed (verb_text v ∷ fs)) ≡ spoken v fs
unfolding line_of line_of_fields
joined v fs h k = rw (le-leb (length (tabbed (verb_text v ∷ fs))) max_line k, fields-tabbed (verb_text v) fs (verb-field v, h), verb-read v)

-- The text of a line, whatever its kind, is read back as the line.
pub line_read : (line : Line) → Fitting line → length (line_text line) ≤ max_line → line_of (line_text line) ≡ line
unfolding line_text line_fields spoken timed
line_read (Line.opening t) h k = joined Open (decimal t ∷ []) (number-field t h, tt) k ∙ rw (number_read_back t h)
line_read (Line.closing t s) h k =
    joined Close (decimal t ∷ decimal s ∷ []) (number-field t h.0, (number-field s h.1, tt)) k
    ∙ rw (number_read_back t h.0, number_read_back s h.1)
line_read (Line.message t s l) h k =
    joined Message (decimal t ∷ decimal s ∷ hex_octets l ∷ []) (number-field t h.0, (number-field s h.1.0, (bytes-field l h.1.1, tt))) k
    ∙ rw (number_read_back t h.0, number_read_back s h.1.0, bytes_read l h.1.1)
line_read (Line.batch t l) h k =
    joined Batch (decimal t ∷ hex_octets l ∷ []) (number-field t h.0, (bytes-field l h.1, tt)) k
    ∙ rw (number_read_back t h.0, bytes_read l h.1)
line_read (Line.ticking t) h k = joined Tick (decimal t ∷ []) (number-field t h, tt) k ∙ rw (number_read_back t h)
line_read Line.unreadable h k = absurd h
