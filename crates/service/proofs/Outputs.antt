-- What is written for a session is what the observer reads for it, and no other byte of the output changes.
use Prim.Native.Nat.{ℕ, zero, suc, ◌+◌, ◌*◌, ◌≤◌, ◌<◌}
use native.Mathlib.Nat.{add-suc, suc-add, add-zero, zero-add}
use native.Mathlib.Omega.{arith}
use mathlib.Core.Bool.{Bool, true, false, cond}
use mathlib.Core.List.{List, [], ◌∷◌, map}
use mathlib.Core.Path.{◌≡◌, refl, sym, ap, ◌∙◌}
use lib.ListN.{length, get_or, set, take, drop, get_or-map, get_or-eq_default}
use lib.Seq.{sets, length-sets, get_or-set_other}
use lib.Dec.{eqb}
use borrow.Author.Tests.{eqb-true}
use Rattle.wire.specs.Part.{part}
use Rattle.wire.proofs.Writes.{part-before, part-written}
use Rattle.zone.specs.Lists.{all_of}
use Rattle.zone.proofs.Lists.{and_left, and_right}
use Rattle.service.specs.State.{max_sessions}
use Rattle.service.specs.Answer.{Answer, done, sent}
use Rattle.service.specs.Checks.{output_size}
use Rattle.service.specs.Call.{written, told}
use Rattle.service.specs.Reader.{count_for, bytes_for}
use Rattle.service.specs.Demand.{Kept}

pub length-written : (s : ℕ) (ws : List (List ℕ)) (o : List ℕ) → length (written s ws o) ≡ length o
unfolding written
length-written s [] o = refl
length-written s (w ∷ ws) o = length-written (suc s) ws (sets o (s * output_size) w) ∙ length-sets o (s * output_size) w

-- What stands before the first session's output is kept.
before : (s : ℕ) (ws : List (List ℕ)) (o : List ℕ) (a n : ℕ) → a + n ≤ s * output_size → part (written s ws o) a n ≡ part o a n
unfolding written
before s [] o a n h = refl
before s (w ∷ ws) o a n h =
    before (suc s) ws (sets o (s * output_size) w) a n (omega arith) ∙ part-before o (s * output_size) w a n h

-- Each session's output holds what was written for it, where the outputs are no larger than their parts of the slice.
each : (s : ℕ) (ws : List (List ℕ)) (o : List ℕ) (i : ℕ) → ((j : ℕ) → length (get_or ws j []) ≤ output_size)
    → (s + length ws) * output_size ≤ length o
    → part (written s ws o) ((s + i) * output_size) (length (get_or ws i [])) ≡ get_or ws i []
unfolding written
each s [] o i fit room = refl
each s (w ∷ ws) o zero fit room =
    let small : length w ≤ output_size = fit 0 in
    ap (λ (k : ℕ). part (written (suc s) ws (sets o (s * output_size) w)) (k * output_size) (length w)) (add-zero s)
    ∙ before (suc s) ws (sets o (s * output_size) w) (s * output_size) (length w) (omega arith)
    ∙ part-written o (s * output_size) w (omega arith)
each s (w ∷ ws) o (suc i) fit room =
    ap (λ (k : ℕ). part (written (suc s) ws (sets o (s * output_size) w)) (k * output_size) (length (get_or ws i [])))
    (add-suc s i ∙ sym (suc-add s i))
    ∙ each (suc s) ws (sets o (s * output_size) w) i (λ (j : ℕ). fit (suc j))
    (omega (arith, length-sets o (s * output_size) w))

none_written : (ws : List (List ℕ)) (i : ℕ) → all_of (λ (w : List ℕ). eqb (length w) 0) ws ≡ true → 0 ≡ length (get_or ws i [])
none_written [] i h = refl
none_written (w ∷ ws) zero h = sym (eqb-true (length w) 0 (and_left _ _ h))
none_written (w ∷ ws) (suc i) h = none_written ws i (and_right (eqb (length w) 0) _ h)

-- A batch's answer states for each session how many bytes were written for it.
pub count-told : (ws : List (List ℕ)) (s : ℕ) → count_for (told ws) s ≡ length (get_or ws s [])
count-told ws s = go (all_of (λ (w : List ℕ). eqb (length w) 0) ws) refl
  where
    go : (b : Bool) → all_of (λ (w : List ℕ). eqb (length w) 0) ws ≡ b
        → count_for (cond b done (sent (map length ws))) s ≡ length (get_or ws s [])
    go true e = none_written ws s e
    go false e = get_or-map length ws s []

-- The bytes that a batch's answer states for a session are those written for it.
pub bytes-told : (ws : List (List ℕ)) (o : List ℕ) (s : ℕ) → ((j : ℕ) → length (get_or ws j []) ≤ output_size)
    → length ws * output_size ≤ length o → bytes_for (told ws) (written 0 ws o) s ≡ get_or ws s []
unfolding bytes_for
bytes-told ws o s fit room =
    ap (λ (n : ℕ). take n (drop (s * output_size) (written 0 ws o))) (count-told ws s)
    ∙ ap (λ (k : ℕ). part (written 0 ws o) (k * output_size) (length (get_or ws s []))) (sym (zero-add s))
    ∙ each 0 ws o s fit (omega arith)

-- ---- what keeps its value

-- A byte that is not among those that are set.
pub sets-elsewhere : (o : List ℕ) (i : ℕ) (w : List ℕ) (j : ℕ) → ((k : ℕ) → k < length w → j ≡ i + k → ⊥)
    → get_or (sets o i w) j 0 ≡ get_or o j 0
sets-elsewhere o i [] j h = refl
sets-elsewhere o i (v ∷ w) j h =
    sets-elsewhere (set o i v) (suc i) w j (λ (k : ℕ) (l : k < length w) (e : j ≡ suc i + k). h (suc k) (omega arith) (omega arith))
    ∙ get_or-set_other o i j v 0 (λ (e : j ≡ i). h 0 (omega arith) (omega arith))

-- Byte k of session i, which is beyond what is written for it.
written-beyond : (s : ℕ) (ws : List (List ℕ)) (o : List ℕ) (i k : ℕ) → k < output_size
    → ((j : ℕ) → length (get_or ws j []) ≤ output_size) → ((j : ℕ) → i ≡ s + j → length (get_or ws j []) ≤ k)
    → get_or (written s ws o) (i * output_size + k) 0 ≡ get_or o (i * output_size + k) 0
unfolding written
written-beyond s [] o i k small fit beyond = refl
written-beyond s (w ∷ ws) o i k small fit beyond =
    written-beyond (suc s) ws (sets o (s * output_size) w) i k small (λ (j : ℕ). fit (suc j))
    (λ (j : ℕ) (e : i ≡ suc s + j). beyond (suc j) (omega arith))
    ∙ sets-elsewhere o (s * output_size) w (i * output_size + k) (λ (j : ℕ) (l : j < length w) (e : i * output_size + k ≡ s * output_size + j).
    let fits : length w ≤ output_size = fit 0 in
    let own : length w ≤ k = beyond 0 (omega arith) in omega arith)

-- An answer that states just what is written for the four sessions, for none more than its part holds.
pub written-kept : (a : Answer) (ws : List (List ℕ)) (o : List ℕ) → ((s : ℕ) → count_for a s ≡ length (get_or ws s []))
    → ((s : ℕ) → length (get_or ws s []) ≤ output_size) → length ws ≡ max_sessions → Kept a o (written 0 ws o)
written-kept a ws o stated fit four =
    record {
      size = length-written 0 ws o;
      fits = λ (s : ℕ). omega (arith, stated s, fit s);
      four = λ (s : ℕ) (h : max_sessions ≤ s). stated s ∙ ap length (get_or-eq_default ws [] (omega arith));
      beyond = λ (s k : ℕ) (h : count_for a s ≤ k) (small : k < output_size).
          written-beyond 0 ws o s k small fit (λ (j : ℕ) (e : s ≡ 0 + j). omega (arith, stated s, ap (λ (n : ℕ). length (get_or ws n [])) (e ∙ zero-add j)));
    }

-- An answer that states no bytes.
pub nothing-kept : (a : Answer) (o : List ℕ) → ((s : ℕ) → count_for a s ≡ 0) → Kept a o o
nothing-kept a o stated =
    record {
      size = refl;
      fits = λ (s : ℕ). omega (arith, stated s);
      four = λ (s : ℕ) (h : max_sessions ≤ s). stated s;
      beyond = λ (s k : ℕ) (h : count_for a s ≤ k) (small : k < output_size). refl;
    }
