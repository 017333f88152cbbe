-- Laws of TLVs: reading them one after the other.
-- Assumes nothing.
use Prim.Native.Nat.{ℕ, zero, suc, ◌+◌, ◌-◌, ◌<◌, ◌≤◌}
use native.Mathlib.Nat.{le_of_suc-le-suc, not-suc-le-zero}
use native.Mathlib.Omega.{arith}
use mathlib.Core.Path.{◌≡◌, refl, sym, ap, subst, ◌∙◌}
use mathlib.Core.Bool.{Bool, true, false, cond, true≢false, false≢true}
use mathlib.Core.List.{List, [], ◌∷◌}
use lib.ListN.{length, drop, length-drop, drop_of_length-le}
use lib.Seq.{drop-drop}
use Rattle.wire.specs.Field.{field}
use lib.Dec.{ltb}
use borrow.Author.Tests.{le-ltb, ltb-true, ltb-false}
use denote.Param.Members.{Mut, Called}
use Rattle.std.specs.Iterator.{Yields}
use Rattle.std.specs.List.{FoldsTo}
use Rattle.std.specs.Option.{MatchOption}
use Rattle.std.specs.Result.{is_ok}
use Rattle.dso.specs.declared.reader.Reader.{Reader}
use Rattle.std.specs.Prelude.{Option, Some, None, is_some, Result, Ok, Err}
use Rattle.dso.specs.Tlv.{Tlv, tlv_front, also, tlvs_from, tlvs, filled, tlv_place, TlvStep, cut_short, tlv_at, placed, stepped, place_behind, ReadsNext}
use Rattle.dso.specs.declared.reader.CutShort.{CutShort}
use Rattle.dso.specs.declared.reader.TlvPlace.{TlvPlace}

-- The octets that are still to come of a TLV are passed, where the list has them.
pub tlvs_from-drop : (k : ℕ) (l : List ℕ) → k ≤ length l → tlvs_from k l ≡ tlvs_from 0 (drop k l)
unfolding tlvs_from
tlvs_from-drop zero l h = refl
tlvs_from-drop (suc k) [] h = absurd (not-suc-le-zero h)
tlvs_from-drop (suc k) (b ∷ l) h = tlvs_from-drop k l (le_of_suc-le-suc h)

pub tlvs_from-short : (k : ℕ) (l : List ℕ) → length l < k → tlvs_from k l ≡ None
unfolding tlvs_from
tlvs_from-short zero l h = absurd (not-suc-le-zero h)
tlvs_from-short (suc k) [] h = refl
tlvs_from-short (suc k) (b ∷ l) h = tlvs_from-short k l (le_of_suc-le-suc h)

-- A whole TLV at the front: it, and then the TLVs behind it.
pub tlvs-step : (l : List ℕ) → 4 + field 2 (drop 2 l) ≤ length l → tlvs l ≡ also (tlv_front l) (tlvs (drop (4 + field 2 (drop 2 l)) l))
unfolding tlvs tlvs_from
tlvs-step [] h = absurd (omega arith)
tlvs-step (b ∷ l) h =
    let n : ℕ = field 2 (drop 1 l) in
    let back : suc (3 + n) ≡ 4 + n = omega arith in
    ap (also (tlv_front (b ∷ l))) (tlvs_from-drop (3 + n) l (omega arith) ∙ ap (λ (k : ℕ). tlvs_from 0 (drop k (b ∷ l))) back)

also-some : (t : Tlv) (o : Option (List Tlv)) → is_some (also t o) ≡ is_some o
also-some t None = refl
also-some t (Some ts) = refl

-- A list that ends inside its first TLV.
pub tlvs-cut : (l : List ℕ) → 0 < length l → length l < 4 + field 2 (drop 2 l) → tlvs l ≡ None
unfolding tlvs tlvs_from
tlvs-cut [] p h = absurd (not-suc-le-zero p)
tlvs-cut (b ∷ l) p h = ap (also (tlv_front (b ∷ l))) (tlvs_from-short (3 + field 2 (drop 1 l)) l (omega arith))

-- The cases of what stands at a place of a message.
module _ (m : List ℕ) (at : ℕ) where
  abbrev size : ℕ
  size = field 2 (drop (at + 2) m)

  abbrev pub here : TlvPlace
  here = tlv_place (field 2 (drop at m)) size at

  pub tlv_at-end : length m ≤ at → tlv_at m at ≡ None
  unfolding tlv_at
  tlv_at-end h = rw (le-ltb at (length m) h)

  -- A whole TLV lies in the message.
  pub whole_here : (t : TlvPlace) → tlv_at m at ≡ Some (Ok t) → (t ≡ here) × (at + 4 + size ≤ length m)
  unfolding tlv_at
  whole_here t e = go (ltb at (length m)) (ltb (length m) (at + 4 + size)) refl e
    where
      go : (a b : Bool) → ltb (length m) (at + 4 + size) ≡ b → cond a (cond b (Some (Err cut_short)) (Some (Ok here))) None ≡ Some (Ok t) → (t ≡ here) × (at + 4 + size ≤ length m)
      go false b q d = let z : ◌≡◌ {A = ℕ} 0 1 = cc in absurd (omega arith)
      go true true q d = let z : ◌≡◌ {A = ℕ} 0 1 = cc in absurd (omega arith)
      go true false q d = (cc, ltb-false (length m) (at + 4 + size) q)

  size_at : field 2 (drop 2 (drop at m)) ≡ size
  size_at = ap (field 2) (drop-drop 2 at m)

  tlvs-whole : at + 4 + size ≤ length m → tlvs (drop at m) ≡ stepped m (Some (Ok here))
  tlvs-whole h =
      let fits : 4 + field 2 (drop 2 (drop at m)) ≤ length (drop at m) = simp (size_at, length-drop) (omega arith) in
      let front : tlv_front (drop at m) ≡ placed m here = cc (size_at, drop-drop 4 at m) in
      let next : at + (4 + size) ≡ at + 4 + size = omega arith in
      let there : drop (4 + field 2 (drop 2 (drop at m))) (drop at m) ≡ drop (at + 4 + size) m = rw size_at (drop-drop (4 + size) at m ∙ ap (λ (k : ℕ). drop k m) next) in
      cc (tlvs-step (drop at m) fits)

  tlvs-short : at < length m → length m < at + 4 + size → tlvs (drop at m) ≡ None
  tlvs-short p h =
      let left : 0 < length (drop at m) = simp length-drop (omega arith) in
      let short : length (drop at m) < 4 + field 2 (drop 2 (drop at m)) = simp (size_at, length-drop) (omega arith) in
      tlvs-cut (drop at m) left short

  tlvs-none : length m ≤ at → tlvs (drop at m) ≡ Some []
  unfolding tlvs tlvs_from
  tlvs-none h = ap (tlvs_from 0) (drop_of_length-le m h)

  -- Walking by `tlv_at` gives exactly the TLVs from a place on, and so says exactly whether they fill the message.
  pub tlvs-at : tlvs (drop at m) ≡ stepped m (tlv_at m at)
  unfolding tlv_at
  tlvs-at = go (ltb at (length m)) (ltb (length m) (at + 4 + size)) refl refl
    where
      go : (a b : Bool) → ltb at (length m) ≡ a → ltb (length m) (at + 4 + size) ≡ b → tlvs (drop at m) ≡ stepped m (cond a (cond b (Some (Err cut_short)) (Some (Ok here))) None)
      go false b p q = tlvs-none (ltb-false at (length m) p)
      go true true p q = tlvs-short (ltb-true at (length m) p) (ltb-true (length m) (at + 4 + size) q)
      go true false p q = tlvs-whole (ltb-false (length m) (at + 4 + size) q)

  module _ (s : TlvStep) (e : s ≡ tlv_at m at) where
    module _ (t : TlvPlace) (d : s ≡ Some (Ok t)) where
      pub next-after : at + 4 ≤ t.next
      next-after =
          let h : t ≡ here = (whole_here t (sym e ∙ d)).0 in
          rw h (omega arith)

      pub next-in : t.next ≤ length m
      next-in = rw (whole_here t (sym e ∙ d)).0 (whole_here t (sym e ∙ d)).1

    -- Behind what was read a reader is nearer to the message's end.
    pub nearer-end : (x : Result TlvPlace CutShort) (next : ℕ) → s ≡ Some x → next ≡ place_behind m at (Some x) → length m - next < length m - at
    nearer-end (Ok t) next d n = omega (arith, next-after t d, next-in t d)
    nearer-end (Err y) next d n = omega (arith, inside (ltb at (length m)) refl (sym e ∙ d))
      where
        inside : (a : Bool) → ltb at (length m) ≡ a → tlv_at m at ≡ Some (Err y) → at < length m
        inside true p q = ltb-true at (length m) p
        inside false p q = let z : ◌≡◌ {A = ℕ} 0 1 = cc (tlv_at-end (ltb-false at (length m) p)) in absurd (omega arith)

-- A step of a reader, and whether TLVs fill its message from its place on.
abbrev pub fills : Reader → Bool
fills r = filled (drop r.at r.message.now)

module _ (r : Reader) (x : TlvStep) (s : Reader) (step : ReadsNext r x s) where
  filled_by : fills r ≡ is_some (stepped r.message.now x)
  unfolding filled
  filled_by = ap is_some (tlvs-at r.message.now r.at ∙ ap (stepped r.message.now) (sym step.reads))

  pub fills-next : (y : Result TlvPlace CutShort) → x ≡ Some y → is_ok y ≡ true → fills r ≡ fills s
  unfolding filled
  fills-next (Ok t) e h = let goes = step.goes in let same = step.same in filled_by ∙ rw e (also-some (placed r.message.now t) (tlvs (drop t.next r.message.now)) ∙ rw (goes, same, e))
  fills-next (Err c) e h = absurd (false≢true h)

  pub fills-cut : (y : Result TlvPlace CutShort) → x ≡ Some y → is_ok y ≡ false → fills r ≡ false
  fills-cut (Ok t) e h = absurd (true≢false h)
  fills-cut (Err c) e h = filled_by ∙ rw e

  pub fills-end : x ≡ None → fills r ≡ true
  fills-end e = filled_by ∙ rw e

-- `all` over a reader, whose closure says of each step whether it read a whole TLV: whether TLVs fill the message.
module _ {F : Type 0} (g : Mut F (Result TlvPlace CutShort × Unit {0}) Bool) (f : F)
    (tests : (x : Result TlvPlace CutShort) (b : Bool) (q : F) → Called g f (x, tt) b q → (q ≡ f) × (b ≡ is_ok x))
    (r : Bool) (o : TlvStep) (j : F) (t u : Reader) (last : ReadsNext t o u) (stops : MatchOption o (r ≡ true) (λ x. (r ≡ false) × ((h : F) × Called g j (x, tt) false h))) where
  at-last : j ≡ f → (p : TlvStep) → o ≡ p → r ≡ fills t
  at-last e None d = (rw d at stops) ∙ sym (fills-end t o u last d)
  at-last e (Some x) d =
      let s = rw d at stops in
      s.0 ∙ sym (fills-cut t o u last x d (sym (tests x false s.1.0 (subst (λ (z : F). Called g z (x, tt) false s.1.0) e s.1.1)).1))

  pub all-fill : (xs : List (Result TlvPlace CutShort)) (s : Reader) (p : F) → p ≡ f → Yields ReadsNext s xs t → FoldsTo (λ (a : F) (x : Result TlvPlace CutShort) (b : F). Called g a (x, tt) true b) p xs j → r ≡ fills s
  all-fill [] s p e y c = at-last (sym c ∙ e) o refl ∙ ap fills (sym y)
  all-fill (x ∷ xs) s p e y c =
      let told = tests x true c.0 (subst (λ (z : F). Called g z (x, tt) true c.0) e c.1) in
      all-fill xs y.0 c.0 told.0 y.2 c.2 ∙ sym (fills-next s (Some x) y.0 y.1 x refl (sym told.1))
