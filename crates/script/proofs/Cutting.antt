-- However the input comes in chunks, cutting gives its lines, each as far as it is kept.
use Prim.Native.Nat.{ℕ, zero, suc, ◌+◌, ◌≤◌, ◌<◌}
use mathlib.Core.Path.{◌≡◌, refl, sym, ap, ap₂, ◌∙◌, subst⁻¹}
use mathlib.Core.Bool.{Bool, true, false, cond}
use mathlib.Core.List.{List, [], ◌∷◌, ◌++◌, map, append-nil, append_assoc}
use native.Mathlib.Omega.{arith}
use lib.ListN.{length, take, drop, length-append, length-take}
use lib.Seq.{take_all}
use lib.Dec.{eqb, ltb}
use borrow.Author.Tests.{ltb-true, ltb-false, lt-ltb, le-ltb, lt-leb}
use Rattle.script.specs.Fields.{until}
use Rattle.script.specs.Line.{Line, max_line, line_of}
use Rattle.script.specs.Output.{lf}
use Rattle.script.specs.Stream.{before, lines_in, room, kept, piece_of}
use Rattle.script.specs.Chunks.{Feeds, used, ends, Reads, over, more, unended, joined}
use Rattle.script.proofs.Streaming.{piece-same}

-- A list without LF.
pub record Free (l : List ℕ) : Type 0 where
  pub free : length l ≤ until lf l

lines-parted : (l : List ℕ) → until lf l < length l → lines_in l ≡ take (until lf l) l ∷ lines_in (drop (suc (until lf l)) l)
unfolding lines_in until
lines-parted [] h = absurd (omega arith)
lines-parted (b ∷ l) h = by-test (eqb b lf) (λ k. lines-parted l k) h
  where
    by-test : (t : Bool) → (until lf l < length l → lines_in l ≡ take (until lf l) l ∷ lines_in (drop (suc (until lf l)) l)) → cond t 0 (suc (until lf l)) < suc (length l)
        → cond t ([] ∷ lines_in l) (before (lines_in l) b) ≡ take (cond t 0 (suc (until lf l))) (b ∷ l) ∷ lines_in (drop (suc (cond t 0 (suc (until lf l)))) (b ∷ l))
    by-test true ih k = refl
    by-test false ih k = ap (λ (ls : List (List ℕ)). before ls b) (ih (omega arith))

before-unended : (l : List ℕ) (b : ℕ) → before (unended l) b ≡ (b ∷ l) ∷ []
before-unended [] b = refl
before-unended (c ∷ l) b = refl

lines-free : (l : List ℕ) → length l ≤ until lf l → lines_in l ≡ unended l
unfolding lines_in until
lines-free [] h = refl
lines-free (b ∷ l) h = by-test (eqb b lf) (λ k. lines-free l k) h
  where
    by-test : (t : Bool) → (length l ≤ until lf l → lines_in l ≡ unended l) → suc (length l) ≤ cond t 0 (suc (until lf l))
        → cond t ([] ∷ lines_in l) (before (lines_in l) b) ≡ (b ∷ l) ∷ []
    by-test true ih k = absurd (omega arith)
    by-test false ih k = ap (λ (ls : List (List ℕ)). before ls b) (ih (omega arith)) ∙ before-unended l b

until-behind : (a x : List ℕ) → length a ≤ until lf a → until lf (a ++ x) ≡ length a + until lf x
unfolding until
until-behind [] x h = omega arith
until-behind (b ∷ a) x h = by-test (eqb b lf) (λ k. until-behind a x k) h
  where
    by-test : (t : Bool) → (length a ≤ until lf a → until lf (a ++ x) ≡ length a + until lf x) → suc (length a) ≤ cond t 0 (suc (until lf a))
        → cond t 0 (suc (until lf (a ++ x))) ≡ suc (length a) + until lf x
    by-test true ih k = absurd (omega arith)
    by-test false ih k = let e = ih (omega arith) in omega arith

take_behind : (a x : List ℕ) (n : ℕ) → take (length a + n) (a ++ x) ≡ a ++ take n x
take_behind [] x n = let e : 0 + n ≡ n = omega arith in ap (λ (k : ℕ). take k x) e
take_behind (b ∷ a) x n = let e : suc (length a) + n ≡ suc (length a + n) = omega arith in
    ap (λ (k : ℕ). take k (b ∷ (a ++ x))) e ∙ ap (λ (l : List ℕ). b ∷ l) (take_behind a x n)

drop-behind : (a x : List ℕ) (n : ℕ) → drop (suc (length a + n)) (a ++ x) ≡ drop (suc n) x
drop-behind [] x n = let e : 0 + n ≡ n = omega arith in ap (λ (k : ℕ). drop (suc k) x) e
drop-behind (b ∷ a) x n = let e : suc (length a) + n ≡ suc (length a + n) = omega arith in
    ap (λ (k : ℕ). drop k (a ++ x)) e ∙ drop-behind a x n

take-taken : (n : ℕ) (a b : List ℕ) → take n (take n a ++ b) ≡ take n (a ++ b)
take-taken zero a b = refl
take-taken (suc n) [] b = refl
take-taken (suc n) (x ∷ a) b = ap (λ (l : List ℕ). x ∷ l) (take-taken n a b)

until_front : (x y : List ℕ) → until lf x < length x → until lf (x ++ y) ≡ until lf x
unfolding until
until_front [] y h = absurd (omega arith)
until_front (b ∷ x) y h = by-test (eqb b lf) (λ k. until_front x y k) h
  where
    by-test : (t : Bool) → (until lf x < length x → until lf (x ++ y) ≡ until lf x) → cond t 0 (suc (until lf x)) < suc (length x)
        → cond t 0 (suc (until lf (x ++ y))) ≡ cond t 0 (suc (until lf x))
    by-test true ih k = refl
    by-test false ih k = ap suc (ih (omega arith))

take-front : (n : ℕ) (x y : List ℕ) → n ≤ length x → take n (x ++ y) ≡ take n x
take-front zero x y h = refl
take-front (suc n) [] y h = absurd (omega arith)
take-front (suc n) (b ∷ x) y h = ap (λ (l : List ℕ). b ∷ l) (take-front n x y (omega arith))

drop-front : (n : ℕ) (x y : List ℕ) → n ≤ length x → drop n (x ++ y) ≡ drop n x ++ y
drop-front zero x y h = refl
drop-front (suc n) [] y h = absurd (omega arith)
drop-front (suc n) (b ∷ x) y h = drop-front n x y (omega arith)

-- The line that is held is kept of octets without LF, and the rest of the input goes on behind these.
pub record Fed (raw input : List ℕ) (lines : List (List ℕ)) (last : List ℕ) : Type 0 where
  pub octets : List ℕ
  pub free : Free octets
  pub held : last ≡ kept octets
  pub onward : (rest : List ℕ) → map kept (lines_in (raw ++ (input ++ rest))) ≡ lines ++ map kept (lines_in (octets ++ rest))

kept-behind : (a b : List ℕ) → kept (kept a ++ b) ≡ kept (a ++ b)
unfolding kept
kept-behind a b = take-taken room a b

kept-nil : ◌≡◌ {A = List ℕ} (kept []) []
unfolding kept
kept-nil = refl

-- A line that goes on behind a piece of input is cut from that piece and the next one together.
pub pieces-joined : (h a b : List ℕ) → (piece_of h a).ended ≡ false → piece_of (piece_of h a).held b ≡ piece_of h (a ++ b)
unfolding piece_of
pieces-joined h a b e =
    let free : length a ≤ until lf a = ltb-false (until lf a) (length a) e in
    let u : until lf (a ++ b) ≡ length a + until lf b = until-behind a b free in
    let line : take (until lf a) a ++ take (until lf b) b ≡ take (until lf (a ++ b)) (a ++ b) =
    ap (λ (l : List ℕ). l ++ take (until lf b) b) (take_all (until lf a) a free) ∙ sym (take_behind a b (until lf b))
    ∙ ap (λ (k : ℕ). take k (a ++ b)) (sym u) in
    piece-same
    (kept-behind (h ++ take (until lf a) a) (take (until lf b) b)
    ∙ ap kept (append_assoc h (take (until lf a) a) (take (until lf b) b) ∙ ap (λ (l : List ℕ). h ++ l) line))
    (sym (ap (λ (k : ℕ). drop (suc k) (a ++ b)) u ∙ drop-behind a b (until lf b)))
    (sym (by-test u (ltb (until lf b) (length b)) refl))
  where
    by-test : until lf (a ++ b) ≡ length a + until lf b → (t : Bool) → ltb (until lf b) (length b) ≡ t → ltb (until lf (a ++ b)) (length (a ++ b)) ≡ t
    by-test u true k = lt-ltb (until lf (a ++ b)) (length (a ++ b)) (omega (arith, u, length-append a b, ltb-true (until lf b) (length b) k))
    by-test u false k = le-ltb (until lf (a ++ b)) (length (a ++ b)) (omega (arith, u, length-append a b, ltb-false (until lf b) (length b) k))

module _ (raw : List ℕ) (f : Free raw) (input : List ℕ) where
  held-used : until lf input < length input → (rest : List ℕ)
      → lines_in (raw ++ (input ++ rest)) ≡ (raw ++ take (until lf input) input) ∷ lines_in (drop (suc (until lf input)) input ++ rest)
  held-used h rest =
      let u : until lf (raw ++ (input ++ rest)) ≡ length raw + until lf input =
      until-behind raw (input ++ rest) f.free ∙ ap (λ (k : ℕ). length raw + k) (until_front input rest h) in
      let long : until lf (raw ++ (input ++ rest)) < length (raw ++ (input ++ rest)) =
      omega (arith, u, length-append raw (input ++ rest), length-append input rest) in
      let a : take (until lf (raw ++ (input ++ rest))) (raw ++ (input ++ rest)) ≡ raw ++ take (until lf input) input =
      ap (λ (k : ℕ). take k (raw ++ (input ++ rest))) u ∙ take_behind raw (input ++ rest) (until lf input)
      ∙ ap (λ (l : List ℕ). raw ++ l) (take-front (until lf input) input rest (omega arith)) in
      let b : drop (suc (until lf (raw ++ (input ++ rest)))) (raw ++ (input ++ rest)) ≡ drop (suc (until lf input)) input ++ rest =
      ap (λ (k : ℕ). drop (suc k) (raw ++ (input ++ rest))) u ∙ drop-behind raw (input ++ rest) (until lf input)
      ∙ drop-front (suc (until lf input)) input rest (omega arith) in
      lines-parted (raw ++ (input ++ rest)) long ∙ ap₂ (λ (x y : List ℕ). x ∷ lines_in y) a b

fed-used : (raw : List ℕ) → Free raw → (input : List ℕ) → length input ≤ until lf input → Fed raw input [] (kept (kept raw ++ take (until lf input) input))
fed-used raw f input h =
    let e : take (until lf input) input ≡ input = take_all (until lf input) input h in
    record {
      octets = raw ++ input;
      free = record { free = omega (arith, until-behind raw input f.free, length-append raw input) };
      held = kept-behind raw (take (until lf input) input) ∙ ap (λ (l : List ℕ). kept (raw ++ l)) e;
      onward = λ rest. ap (λ (l : List ℕ). map kept (lines_in l)) (sym (append_assoc raw input rest));
    }

pub feeds-fed : (raw : List ℕ) → Free raw → (held : List ℕ) → held ≡ kept raw → (input : List ℕ) (lines : List (List ℕ)) (last : List ℕ)
    → Feeds held input lines last → Fed raw input lines last
unfolding piece_of
feeds-fed raw f held e input lines last (used h) =
    subst⁻¹ (λ (l : List ℕ). Fed raw input [] (kept (l ++ take (until lf input) input))) e (fed-used raw f input (ltb-false (until lf input) (length input) h))
feeds-fed raw f held e input lines last (ends {lines = ls} h r) =
    let g = feeds-fed [] (record { free = omega arith }) [] (sym kept-nil) (drop (suc (until lf input)) input) ls last r in
    let k : kept (held ++ take (until lf input) input) ≡ kept (raw ++ take (until lf input) input) =
    ap (λ (l : List ℕ). kept (l ++ take (until lf input) input)) e ∙ kept-behind raw (take (until lf input) input) in
    record {
      octets = g.octets;
      free = g.free;
      held = g.held;
      onward = λ rest.
          ap (map kept) (held-used raw f input (ltb-true (until lf input) (length input) h) rest)
          ∙ ap₂ (λ (x : List ℕ) (y : List (List ℕ)). x ∷ y) (sym k) (g.onward rest);
    }

unended-kept : (l : List ℕ) → unended (kept l) ≡ map kept (unended l)
unfolding kept
unended-kept [] = refl
unended-kept (b ∷ l) = refl

reads-fed : (raw : List ℕ) → Free raw → (held : List ℕ) → held ≡ kept raw → (chunks lines : List (List ℕ)) (last : List ℕ)
    → Reads held chunks lines last → lines ++ unended last ≡ map kept (lines_in (raw ++ joined chunks))
reads-fed raw f held e chunks lines last over =
    ap unended e ∙ unended-kept raw
    ∙ ap (map kept) (sym (lines-free raw f.free) ∙ ap lines_in (sym (append-nil raw)))
reads-fed raw f held e chunks lines last (more {chunk = c} {middle = m} {chunks = cs} {lines = ls} {others = os} x r) =
    let g = feeds-fed raw f held e c ls m x in
    let i = reads-fed g.octets g.free m g.held cs os last r in
    append_assoc ls os (unended last) ∙ ap (λ (l : List (List ℕ)). ls ++ l) i ∙ sym (g.onward (joined cs))

-- Every input, in whatever chunks.
pub cut-lines : (chunks lines : List (List ℕ)) (last : List ℕ) → Reads [] chunks lines last
    → lines ++ unended last ≡ map kept (lines_in (joined chunks))
cut-lines chunks lines last r = reads-fed [] (record { free = omega arith }) [] (sym kept-nil) chunks lines last r

-- What is not kept makes no difference: the line is unreadable either way.
long-unread : (l : List ℕ) → max_line < length l → line_of l ≡ Line.unreadable
unfolding line_of
long-unread l h = rw (lt-leb (length l) max_line h)

pub kept_read : (l : List ℕ) → line_of (kept l) ≡ line_of l
unfolding kept
kept_read l = by-test (ltb max_line (length l)) refl
  where
    by-test : (t : Bool) → ltb max_line (length l) ≡ t → line_of (take room l) ≡ line_of l
    by-test true e =
        let h : max_line < length l = ltb-true max_line (length l) e in
        let k : max_line < length (take room l) = simp length-take (omega arith) in
        long-unread (take room l) k ∙ sym (long-unread l h)
    by-test false e = let h : length l ≤ max_line = ltb-false max_line (length l) e in ap line_of (take_all room l (omega arith))
