-- Laws of steps 1 to 3: when the first TLV decides, and where its data stands.
-- Assumes nothing.
use Prim.Native.Nat.{ℕ, ◌+◌, ◌≤◌}
use native.Mathlib.Omega.{arith}
use mathlib.Core.Path.{◌≡◌, refl, sym, ap, ap₂, ◌∙◌}
use mathlib.Core.Bool.{Bool, true, false, cond, not, true≢false, false≢true}
use mathlib.Core.List.{List, [], ◌∷◌}
use lib.ListN.{length, take, drop, length-drop}
use lib.Seq.{length-take-le}
use lib.Dec.{ltb, eqb}
use Rattle.std.specs.Prelude.{Option, Some, None, is_some, Result, Ok, Err}
use Rattle.wire.specs.Field.{field}
use Rattle.dso.specs.Header.{message_id, no_records, opcode, is_response}
use Rattle.dso.specs.Tlv.{Tlv, also, tlvs, filled, tlv_place, TlvStep, tlv_at, placed, stepped, ReadsNext}
use Rattle.dso.specs.Judge.{Opening, Opening.settled, Opening.primary, bad_form, first_of, form_of, opening, by_type, judgment, is_keepalive, judged}
use Rattle.std.specs.Result.{result_ok}
use Rattle.std.specs.Bool.{then_some}
use Rattle.std.specs.Option.{ok_or}
use Rattle.dso.specs.Steps.{first_at, first_place, start_of}
use Rattle.dso.specs.declared.reader.CutShort.{CutShort}
use Rattle.dso.specs.declared.reader.Reader.{Reader}
use Rattle.dso.specs.declared.judgment.Judgment.{Judgment}
use Rattle.dso.specs.declared.judgment.Judgment.TheVariants.{NotOurs, Abort}
use Rattle.dso.specs.declared.judgment.Judged.{Judged}
use Rattle.dso.specs.declared.reader.TlvPlace.{TlvPlace}
use Rattle.dso.proofs.Tlvs.{fills, here, whole_here, tlvs-at}

-- Step 3 by the first TLV, and the TLVs behind it.
module _ (id : ℕ) (t : Tlv) where
  first_some : (o : Option (List Tlv)) → is_some o ≡ true → first_of id (also t o) ≡ primary t
  first_some None f = absurd (false≢true f)
  first_some (Some ts) f = refl

  first-none : (o : Option (List Tlv)) → is_some o ≡ false → first_of id (also t o) ≡ settled (bad_form id)
  first-none None f = refl
  first-none (Some ts) f = absurd (true≢false f)

module _ (m : List ℕ) where
  abbrev bad : Opening
  bad = settled (bad_form (message_id m))

  -- The opening by what stands behind the header.
  abbrev opens : TlvStep → Opening
  opens s = first_of (message_id m) (stepped m s)

  counted : no_records m ≡ false → form_of m ≡ bad
  unfolding form_of
  counted w = rw w

  form-at : no_records m ≡ true → form_of m ≡ opens (tlv_at m 12)
  unfolding form_of
  form-at w = rw w (ap (first_of (message_id m)) (tlvs-at m 12))

  opens-primary : (t : TlvPlace) → filled (drop t.next m) ≡ true → opens (Some (Ok t)) ≡ primary (placed m t)
  unfolding filled
  opens-primary t f = first_some (message_id m) (placed m t) (tlvs (drop t.next m)) f

  opens-bad : (t : TlvPlace) → filled (drop t.next m) ≡ false → opens (Some (Ok t)) ≡ bad
  unfolding filled
  opens-bad t f = first-none (message_id m) (placed m t) (tlvs (drop t.next m)) f

-- What step 3 comes to: bad form, or a whole first TLV decides.
pub data Formed (m : List ℕ) : Type 0 where
  ill : form_of m ≡ settled (bad_form (message_id m)) → Formed m
  well : (t : TlvPlace) → tlv_at m 12 ≡ Some (Ok t) → form_of m ≡ primary (placed m t) → Formed m

pub formed : (m : List ℕ) → Formed m
formed m = go (no_records m) refl
  where
    behind : no_records m ≡ true → (t : TlvPlace) → tlv_at m 12 ≡ Some (Ok t) → (f : Bool) → filled (drop t.next m) ≡ f → Formed m
    behind w t e true f = well t e (form-at m w ∙ ap (opens m) e ∙ opens-primary m t f)
    behind w t e false f = ill (form-at m w ∙ ap (opens m) e ∙ opens-bad m t f)

    first : no_records m ≡ true → (s : TlvStep) → tlv_at m 12 ≡ s → Formed m
    first w (Some (Ok t)) e = behind w t e (filled (drop t.next m)) refl
    first w None e = ill (form-at m w ∙ ap (opens m) e)
    first w (Some (Err x)) e = ill (form-at m w ∙ ap (opens m) e)

    go : (a : Bool) → no_records m ≡ a → Formed m
    go true w = first w (tlv_at m 12) refl
    go false w = ill (counted m w)

-- The first TLV as it stands in the message.
module _ (m : List ℕ) (t : TlvPlace) (e : tlv_at m 12 ≡ Some (Ok t)) where
  pub first-here : t ≡ here m 12
  first-here = (whole_here m 12 t e).0

  pub first_fits : t.value.start + t.value.len ≤ length m
  first_fits = rw first-here (whole_here m 12 t e).1

  pub first_kind : t.kind ≡ field 2 (drop 12 m)
  first_kind = rw first-here

  pub first-data : (placed m t).value ≡ take (field 2 (drop 14 m)) (drop 16 m)
  first-data = rw first-here

  -- Its place is told by its type and the length of its data.
  first-place : tlv_place t.kind (length (placed m t).value) 12 ≡ t
  first-place =
      let size : length (placed m t).value ≡ t.value.len = length-take-le t.value.len (drop t.value.start m) (simp length-drop (omega (arith, first_fits))) in
      rw (size, first-here)

-- The same, as code holds it.
filled-first : (t : Tlv) (o : Option (List Tlv)) → then_some (is_some o) (first_at t) ≡ first_place (also t o)
filled-first t None = refl
filled-first t (Some ts) = refl

-- A reader's first step behind the header.
module _ (m : List ℕ) (r : Reader) (message : r.message.now ≡ m) (at : r.at ≡ 12) (x : TlvStep) (s : Reader) (step : ReadsNext r x s) where
  read : x ≡ tlv_at m 12
  read = step.reads ∙ ap₂ tlv_at message at

  behind : first_place (tlvs (drop 12 m)) ≡ first_place (stepped m x)
  behind = ap first_place (tlvs-at m 12 ∙ ap (stepped m) (sym read))

  onward : (t : TlvPlace) → x ≡ Some (Ok t) → fills s ≡ filled (drop t.next m)
  onward t e = let goes = step.goes in let same = step.same in rw (goes, same, message, e)

  pub first-end : x ≡ None → None ≡ first_place (tlvs (drop 12 m))
  first-end e = rw (behind, e)

  pub first-cut : (y : Result TlvPlace CutShort) → x ≡ Some y → result_ok y ≡ None → None ≡ first_place (tlvs (drop 12 m))
  first-cut (Ok t) e h = let z : ◌≡◌ {A = ℕ} 0 1 = cc in absurd (omega arith)
  first-cut (Err c) e h = rw (behind, e)

  pub first-whole : (y : Result TlvPlace CutShort) (t : TlvPlace) → x ≡ Some y → result_ok y ≡ Some t → then_some (fills s) t ≡ first_place (tlvs (drop 12 m))
  unfolding filled
  first-whole (Ok t) u e h =
      let same : u ≡ t = cc in
      ap₂ then_some (onward t e) (same ∙ sym (first-place m t (sym read ∙ e)))
      ∙ filled-first (placed m t) (tlvs (drop t.next m))
      ∙ sym (behind ∙ ap (λ (y : TlvStep). first_place (stepped m y)) e)
  first-whole (Err c) u e h = let z : ◌≡◌ {A = ℕ} 0 1 = cc in absurd (omega arith)

-- Step 3 by the counts alone.
pub form-counted : (m : List ℕ) → no_records m ≡ false → Err (bad_form (message_id m)) ≡ start_of (form_of m)
unfolding form_of
form-counted m w = rw w

-- Step 3 from the first TLV, where there is one.
module _ (m : List ℕ) (o : Option TlvPlace) (first : o ≡ first_place (tlvs (drop 12 m))) where
  start-by : (id : ℕ) (ts : Option (List Tlv)) → start_of (first_of id ts) ≡ ok_or (first_place ts) (bad_form id)
  start-by id None = refl
  start-by id (Some []) = refl
  start-by id (Some (t ∷ ts)) = refl

  pub form-first : (t : TlvPlace) → o ≡ Some t → no_records m ≡ true → Ok t ≡ start_of (form_of m)
  unfolding form_of
  form-first t e w = sym (rw w (start-by (message_id m) (tlvs (drop 12 m)) ∙ ap (λ (x : Option TlvPlace). ok_or x (bad_form (message_id m))) (sym first ∙ e)))

  pub form-bad : o ≡ None → Err (bad_form (message_id m)) ≡ start_of (form_of m)
  unfolding form_of
  form-bad e = go (no_records m) refl
    where
      go : (b : Bool) → no_records m ≡ b → Err (bad_form (message_id m)) ≡ start_of (form_of m)
      go true w = sym (rw w (start-by (message_id m) (tlvs (drop 12 m)) ∙ ap (λ (x : Option TlvPlace). ok_or x (bad_form (message_id m))) (sym first ∙ e)))
      go false w = form-counted m w

-- No whole TLV stands behind the header: the end does, or one that is cut short.
module _ (m : List ℕ) (s : TlvStep) (w : no_records m ≡ true) (e : s ≡ tlv_at m 12) where
  pub start_none : (j : Judgment) → j ≡ bad_form (message_id m) → ((t : TlvPlace) → s ≡ Some (Ok t) → ⊥) → Err j ≡ start_of (form_of m)
  start_none j p k = rw (form-at m w ∙ ap (opens m) (sym e) ∙ not-whole s k) (ap Err p)
    where
      not-whole : (x : TlvStep) → ((t : TlvPlace) → x ≡ Some (Ok t) → ⊥) → opens m x ≡ settled (bad_form (message_id m))
      not-whole (Some (Ok t)) z = absurd (z t refl)
      not-whole None z = refl
      not-whole (Some (Err e)) z = refl

-- Where steps 1 to 3 leave the first TLV to decide, it stands whole behind the header.
module _ (m : List ℕ) (x : Tlv) (o : opening m ≡ primary x) where
  past : (a b d : Bool) (f : Opening) → cond a (settled Abort) (cond b (settled NotOurs) (cond d (settled Abort) f)) ≡ primary x → f ≡ primary x
  past true b d f e = let z : ◌≡◌ {A = ℕ} 0 1 = cc in absurd (omega arith)
  past false true d f e = let z : ◌≡◌ {A = ℕ} 0 1 = cc in absurd (omega arith)
  past false false true f e = let z : ◌≡◌ {A = ℕ} 0 1 = cc in absurd (omega arith)
  past false false false f e = e

  form-is : form_of m ≡ primary x
  unfolding opening
  form-is = past (ltb (length m) 12) (not (eqb (opcode m) 6)) (is_response m) (form_of m) o

  pub opening-first : (t : TlvPlace) × (tlv_at m 12 ≡ Some (Ok t)) × (x ≡ placed m t)
  opening-first = go (formed m)
    where
      go : Formed m → (t : TlvPlace) × (tlv_at m 12 ≡ Some (Ok t)) × (x ≡ placed m t)
      go (ill f) = let z : ◌≡◌ {A = ℕ} 0 1 = cc (form-is) in absurd (omega arith)
      go (well t e f) = (t, e, cc (form-is))

primary-of : (o : Opening) (r : Result TlvPlace Judgment) (t : TlvPlace) → r ≡ start_of o → r ≡ Ok t → (x : Tlv) × (o ≡ primary x) × (tlv_place x.kind (length x.value) 12 ≡ t)
primary-of (settled j) r t e p = let z : ◌≡◌ {A = ℕ} 0 1 = cc in absurd (omega arith)
primary-of (primary x) r t e p = (x, refl, cc)

settled-of : (o : Opening) (r : Result TlvPlace Judgment) (j : Judgment) → r ≡ start_of o → r ≡ Err j → o ≡ settled j
settled-of (settled i) r j e p = cc
settled-of (primary t) r j e p = let z : ◌≡◌ {A = ℕ} 0 1 = cc in absurd (omega arith)

-- The whole judgment from the opening, as code holds it.
pub judged-settled : (m : List ℕ) (r : Result TlvPlace Judgment) (j : Judgment) → r ≡ start_of (opening m) → r ≡ Err j → ◌≡◌ {A = Judged} (record { judgment = j; keepalive = false }) (judged m)
unfolding judged judgment is_keepalive
judged-settled m r j e p = rw (settled-of (opening m) r j e p)

module _ (m : List ℕ) (r : Result TlvPlace Judgment) (t : TlvPlace) (e : r ≡ start_of (opening m)) (p : r ≡ Ok t) where
  found : (tlv_at m 12 ≡ Some (Ok t)) × (opening m ≡ primary (placed m t))
  found =
      let here = primary-of (opening m) r t e p in
      let first = opening-first m here.0 here.1 in
      let same : first.0 ≡ t = sym (first-place m first.0 first.1) ∙ ap (λ (y : Tlv). tlv_place y.kind (length y.value) 12) (sym first.2) ∙ here.2 in
      (first.1 ∙ ap (λ (x : TlvPlace). Some (Ok x)) same, here.1 ∙ ap primary (first.2 ∙ ap (placed m) same))

  pub primary-fits : t.value.start + t.value.len ≤ length m
  primary-fits = first_fits m t found.0

  pub judged-primary : (j : Judgment) → j ≡ by_type (message_id m) t.kind (placed m t).value → ◌≡◌ {A = Judged} (record { judgment = j; keepalive = eqb t.kind 1 }) (judged m)
  unfolding judged judgment is_keepalive
  judged-primary j h = rw (found.1, h)

-- What `first_tlv`, `form` and `judge` are proved by.
pub ruleset reading = (first-end, first-whole)

pub ruleset forming = (form-first, form-counted, form-bad)

pub ruleset judging = (primary-fits, judged-settled)
