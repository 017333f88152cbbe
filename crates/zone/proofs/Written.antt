-- Laws of octets that were written, in a row and at places: what a field is, and what they leave as it was.
use Prim.Native.Nat.{ℕ, ◌+◌, ◌≤◌}
use mathlib.Core.Path.{◌≡◌, refl, sym, ap, ◌∙◌}
use mathlib.Core.Bool.{Bool, true}
use mathlib.Core.List.{List, [], ◌∷◌}
use native.Mathlib.Nat.{zero-add}
use native.Mathlib.Omega.{arith}
use lib.ListN.{length, take, drop}
use lib.Seq.{sets}
use lib.Dec.{leb}
use borrow.Author.Tests.{leb-true}
use Rattle.wire.specs.Field.{field}
use Rattle.wire.specs.Part.{part}
use Rattle.wire.proofs.Fields.{field-take-le}
use Rattle.wire.proofs.Writes.{take-sets-before, part-written}
use Rattle.table.proofs.Blocks.{part-part}
use Rattle.zone.specs.Lists.{all_of}
use Rattle.zone.proofs.Lists.{and_left, and_right}

-- ---- a field that was written, whatever its octets

pub field-here : (o : List ℕ) (i : ℕ) (vs : List ℕ) (n : ℕ) → length vs ≡ n → i + n ≤ length o → field n (drop i (sets o i vs)) ≡ field n vs
field-here o i vs n e h =
    sym (field-take-le n n (drop i (sets o i vs)) (omega arith))
    ∙ ap (λ (m : ℕ). field n (part (sets o i vs) i m)) (sym e) ∙ ap (field n) (part-written o i vs (omega arith))

pub octet-field : (x : ℕ) → field 1 (x ∷ []) ≡ x
unfolding field
octet-field x = omega arith

-- Writes in a row, each at a place; those that lie behind the first m octets leave them as they are.
pub record Write : Type 0 where
  pub at : ℕ
  pub octets : List ℕ

abbrev pub writes : List Write → List ℕ → List ℕ
writes [] b = b
writes (w ∷ ws) b = writes ws (sets b w.at w.octets)

abbrev pub behind : ℕ → List Write → Bool
behind m ws = all_of (λ (w : Write). leb m w.at) ws

module _ (m : ℕ) where
  pub front_kept : (ws : List Write) (b : List ℕ) → behind m ws ≡ true → take m (writes ws b) ≡ take m b
  front_kept [] b h = refl
  front_kept (w ∷ ws) b h =
      front_kept ws (sets b w.at w.octets) (and_right (leb m w.at) (behind m ws) h)
      ∙ take-sets-before m b w.at w.octets (leb-true m w.at (and_left (leb m w.at) (behind m ws) h))

  pub part-kept : (ws : List Write) (b : List ℕ) (k n : ℕ) → behind m ws ≡ true → k + n ≤ m → part (writes ws b) k n ≡ part b k n
  part-kept ws b k n h g =
      sym (part-part (writes ws b) 0 m k n g ∙ at_zero (writes ws b)) ∙ ap (λ (l : List ℕ). part l k n) (front_kept ws b h)
      ∙ part-part b 0 m k n g ∙ at_zero b
    where
      at_zero : (l : List ℕ) → part l (0 + k) n ≡ part l k n
      at_zero l = ap (λ (j : ℕ). part l j n) (zero-add k)

  pub field-kept : (ws : List Write) (b : List ℕ) (k n : ℕ) → behind m ws ≡ true → k + n ≤ m → field n (drop k (writes ws b)) ≡ field n (drop k b)
  field-kept ws b k n h g =
      sym (field-take-le n n (drop k (writes ws b)) (omega arith)) ∙ ap (field n) (part-kept ws b k n h g)
      ∙ field-take-le n n (drop k b) (omega arith)
