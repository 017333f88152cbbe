-- A message that is answered: one place changes, and what is written for that session only its client hears.
use Prim.Native.Nat.{ℕ, zero, suc, ◌+◌, ◌*◌, ◌≤◌, ◌<◌}
use native.Mathlib.Nat.{zero-add}
use native.Mathlib.Omega.{arith}
use mathlib.Core.Bool.{true, false}
use mathlib.Core.List.{List, []}
use mathlib.Core.Option.{Option, none, map}
use mathlib.Core.Path.{◌≡◌, refl, sym, ap, ◌∙◌}
use mathlib.Core.Logic.{⊎_elim}
use lib.ListN.{length, get_or, set, take, drop, replicate, length-set, length-replicate}
use lib.Seq.{sets, length-sets, get_or-set_same, get_or-set_other, ext_get_or}
use lib.Dec.{eqb}
use borrow.Author.Tests.{eqb-true, eqb-false}
use Rattle.wire.proofs.Writes.{part-written}
use Rattle.zone.proofs.Lists.{decided}
use Rattle.service.specs.State.{max_sessions}
use Rattle.service.specs.Answer.{Answer, sent}
use Rattle.service.specs.Checks.{output_size, least_output}
use Rattle.service.specs.Reader.{count_for, bytes_for}
use Rattle.service.specs.Observer.{Client, hearing, heard}
use Rattle.service.specs.Demand.{Kept}
use Rattle.service.proofs.Outputs.{sets-elsewhere}
use Rattle.service.proofs.Related.{length-heard, heard-at}
use Rattle.service.proofs.Quiet.{hearing-nothing}

zeros : (n i : ℕ) → ◌≡◌ {A = ℕ} (get_or (replicate n 0) i 0) 0
zeros zero i = refl
zeros (suc n) zero = refl
zeros (suc n) (suc i) = zeros n i

-- The counts that a message's answer states: some for its own session, none for the others.
abbrev pub counts : ℕ → ℕ → List ℕ
counts s n = set (replicate max_sessions 0) s n

-- What it states for its own session and for another.
pub count-own : (s : ℕ) (w : List ℕ) → s < max_sessions → count_for (sent (counts s (length w))) s ≡ length w
count-own s w inside =
    get_or-set_same (replicate max_sessions 0) s (length w) 0 (omega (arith, length-replicate {A = ℕ} max_sessions 0))

pub count-other : (s : ℕ) (w : List ℕ) (i : ℕ) → (i ≡ s → ⊥) → count_for (sent (counts s (length w))) i ≡ 0
count-other s w i other = get_or-set_other (replicate max_sessions 0) s i (length w) 0 other ∙ zeros max_sessions i

module _ (s : ℕ) (inside : s < max_sessions) (w output : List ℕ) (fits : length w ≤ output_size)
    (room : least_output ≤ length output) where
  abbrev answer : Answer
  answer = sent (counts s (length w))

  abbrev after : List ℕ
  after = sets output (s * output_size) w

  pub bytes-own : bytes_for answer after s ≡ w
  unfolding bytes_for
  bytes-own =
      ap (λ (n : ℕ). take n (drop (s * output_size) after)) (count-own s w inside)
      ∙ part-written output (s * output_size) w (omega arith)

  pub bytes-other : (i : ℕ) → (i ≡ s → ⊥) → bytes_for answer after i ≡ []
  unfolding bytes_for
  bytes-other i other = ap (λ (n : ℕ). take n (drop (i * output_size) after)) (count-other s w i other)

  -- Only the stated bytes change.
  pub own-kept : Kept answer output after
  own-kept =
      record {
        size = length-sets output (s * output_size) w;
        fits = λ (i : ℕ).
            ⊎_elim (λ (e : eqb i s ≡ true). omega (arith, count-own s w inside, ap (count_for answer) (eqb-true i s e)))
            (λ (e : eqb i s ≡ false). omega (arith, count-other s w i (eqb-false i s e))) (decided (eqb i s));
        four = λ (i : ℕ) (h : max_sessions ≤ i). count-other s w i (λ (e : i ≡ s). omega arith);
        beyond = λ (i k : ℕ) (h : count_for answer i ≤ k) (small : k < output_size).
            sets-elsewhere output (s * output_size) w (i * output_size + k)
            (λ (j : ℕ) (l : j < length w) (e : i * output_size + k ≡ s * output_size + j).
            let same : i ≡ s = omega arith in omega (arith, count-own s w inside, ap (count_for answer) same));
      }

  -- Only the client of the session hears something.
  pub heard-own : (cl : List (Option Client)) → length cl ≡ max_sessions
      → heard 0 answer after cl ≡ set cl s (map (hearing w) (get_or cl s none))
  heard-own cl four =
      ext_get_or none (heard 0 answer after cl) (set cl s (map (hearing w) (get_or cl s none)))
      (length-heard 0 answer after cl ∙ sym (length-set cl s (map (hearing w) (get_or cl s none))))
      (λ (i : ℕ) (h : i < length (heard 0 answer after cl)). heard-at 0 answer after cl i
      ∙ ap (λ (k : ℕ). map (hearing (bytes_for answer after k)) (get_or cl i none)) (zero-add i)
      ∙ ⊎_elim (own i) (other i) (decided (eqb i s)))
    where
      own : (i : ℕ) → eqb i s ≡ true
          → map (hearing (bytes_for answer after i)) (get_or cl i none) ≡ get_or (set cl s (map (hearing w) (get_or cl s none))) i none
      own i e =
          rw (eqb-true i s e, bytes-own, get_or-set_same cl s (map (hearing w) (get_or cl s none)) none (omega arith))

      other : (i : ℕ) → eqb i s ≡ false
          → map (hearing (bytes_for answer after i)) (get_or cl i none) ≡ get_or (set cl s (map (hearing w) (get_or cl s none))) i none
      other i e =
          hearing-nothing (bytes_for answer after i) (get_or cl i none) (bytes-other i (eqb-false i s e))
          ∙ sym (get_or-set_other cl s i (map (hearing w) (get_or cl s none)) none (eqb-false i s e))
