-- Laws of batches: stepping one, what its edits are, and that a sound store stays sound.
use Prim.Native.Nat.{ℕ, zero, suc, ◌≤◌, ◌<◌}
use mathlib.Core.Path.{◌≡◌, refl, sym, ap, ap₂, ◌∙◌, subst}
use mathlib.Core.Bool.{Bool, true, false, cond, not, ◌&&◌, ◌||◌}
use mathlib.Core.List.{List, [], ◌∷◌, ◌++◌, map}
use Rattle.std.specs.Prelude.{Option, None, Some}
use native.Mathlib.Omega.{arith}
use lib.ListN.{length, drop}
use lib.Dec.{leb, eqb}
use lib.Pow.{are_bytes}
use borrow.Author.Tests.{leb-true, leb-false, le-leb}
use Rattle.wire.proofs.Fields.{are_bytes-drop}
use Rattle.zone.specs.Lists.{all_of}
use Rattle.zone.specs.Record.{Record, Key, key_of, same_key}
use Rattle.zone.specs.Store.{held, with_ttl, set_if, put, remove}
use Rattle.zone.specs.Layout.{size, read_record}
use Rattle.zone.specs.Batch.{max_records, max_edits, max_ttl, remove_ttl, is_put, allowed, overfull, edit, Edited, stored, faulty, edited, batch_of}
use Rattle.zone.specs.declared.BatchFault.{BatchFault}
use Rattle.zone.specs.declared.BatchFault.TheVariants.{TooManyEdits, Unreadable, BadValue, StoreFull}
use Rattle.zone.specs.Fits.{fits}
use Rattle.zone.specs.Sound.{distinct, good, Sound}
use Rattle.zone.proofs.Lists.{and_left, and_right, and_both, all_of-append, all_of-map, all_of-keep, all_of-of-map, length-keep}
use Rattle.zone.proofs.Stores.{distinct-put, distinct_remove, length-put}
use Rattle.zone.proofs.Layouts.{fitting, fits-of, size-le, size-pos, read_record-fits}
use Rattle.zone.proofs.Goods.{good-parts, good_of, allowed-parts, allowed_of}

-- ---- stepping a batch

pub edited-end : (n : ℕ) (zone : List ℕ) (store : List Record) → edited n zone [] store ≡ stored store
unfolding edited
edited-end zero zone store = refl
edited-end (suc n) zone store = refl

pub edited-more : (zone l : List ℕ) (store : List Record) → 0 < length l → edited 0 zone l store ≡ faulty TooManyEdits
unfolding edited
edited-more zone [] store h = absurd (omega arith)
edited-more zone (b ∷ l) store h = refl

-- What becomes of an edit that was read, by the two tests that follow, and of what was read.
abbrev judged : Bool → Bool → Edited → Edited
judged a f rest =
    elim a as (λ x. Edited) [
      | false ↦ faulty BadValue
      | true ↦ elim f as (λ x. Edited) [ true ↦ faulty StoreFull | false ↦ rest ]
    ]

abbrev read : ℕ → List ℕ → List ℕ → List Record → Option Record → Edited
read n zone l store o =
    elim o as (λ x. Edited) [
      | None ↦ faulty Unreadable
      | Some r ↦ judged (allowed zone r) (overfull store r) (edited n zone (drop (size r) l) (edit store r))
    ]

edited-front : (n : ℕ) (zone : List ℕ) (b : ℕ) (l : List ℕ) (store : List Record) (o : Option Record) → read_record (b ∷ l) ≡ o
    → edited (suc n) zone (b ∷ l) store ≡ read n zone (b ∷ l) store o
unfolding edited
edited-front n zone b l store o h = ap (read n zone (b ∷ l) store) h

pub edited-unreadable : (n : ℕ) (zone l : List ℕ) (store : List Record) → 0 < length l → read_record l ≡ None
    → edited (suc n) zone l store ≡ faulty Unreadable
edited-unreadable n zone [] store h k = absurd (omega arith)
edited-unreadable n zone (b ∷ l) store h k = edited-front n zone b l store None k

edited-read : (n : ℕ) (zone l : List ℕ) (store : List Record) (r : Record) → read_record l ≡ Some r
    → edited (suc n) zone l store ≡ read n zone l store (Some r)
edited-read n zone [] store r h = absurd (omega (arith, size-pos r, size-le [] r h))
edited-read n zone (b ∷ l) store r h = edited-front n zone b l store (Some r) h

module _ (n : ℕ) (zone l : List ℕ) (store : List Record) (r : Record) (h : read_record l ≡ Some r) where
  rest : Edited
  rest = edited n zone (drop (size r) l) (edit store r)

  judged-by : (a f : Bool) → allowed zone r ≡ a → overfull store r ≡ f → edited (suc n) zone l store ≡ judged a f rest
  unfolding rest
  judged-by a f p q = edited-read n zone l store r h ∙ ap₂ (λ (a f : Bool). judged a f rest) p q

  pub edited-bad : allowed zone r ≡ false → edited (suc n) zone l store ≡ faulty BadValue
  edited-bad p = judged-by false (overfull store r) p refl

  pub edited-full : allowed zone r ≡ true → overfull store r ≡ true → edited (suc n) zone l store ≡ faulty StoreFull
  edited-full p q = judged-by true true p q

  pub edited-step : allowed zone r ≡ true → overfull store r ≡ false
      → edited (suc n) zone l store ≡ edited n zone (drop (size r) l) (edit store r)
  unfolding rest
  edited-step p q = judged-by true false p q

-- ---- a batch that was taken, edit by edit

pub data Editing (zone : List ℕ) : ℕ → List ℕ → List Record → List Record → Type 0 where
  done : {n : ℕ} {store : List Record} → Editing zone n [] store store
  next : {n : ℕ} {l : List ℕ} {store after : List Record} (r : Record) → read_record l ≡ Some r → allowed zone r ≡ true
      → overfull store r ≡ false → Editing zone n (drop (size r) l) (edit store r) after → Editing zone (suc n) l store after

never : {X : Type 0} (f : BatchFault) (s : List Record) → faulty f ≡ stored s → X
never f s e = let z : ◌≡◌ {A = ℕ} 0 1 = cc in absurd (omega arith)

same : {s t : List Record} → stored s ≡ stored t → s ≡ t
same e = cc

pub editing : (zone : List ℕ) (n : ℕ) (l : List ℕ) (store after : List Record) → edited n zone l store ≡ stored after
    → Editing zone n l store after
editing zone zero [] store after h = subst (Editing zone zero [] store) (same (sym (edited-end zero zone store) ∙ h)) done
editing zone (suc n) [] store after h = subst (Editing zone (suc n) [] store) (same (sym (edited-end (suc n) zone store) ∙ h)) done
editing zone zero (b ∷ l) store after h = never TooManyEdits after (sym (edited-more zone (b ∷ l) store (omega arith)) ∙ h)
editing zone (suc n) (b ∷ l) store after h = go (λ m s. editing zone n m s after) (read_record (b ∷ l)) refl
  where
    Rest : Type 0
    Rest = (m : List ℕ) (s : List Record) → edited n zone m s ≡ stored after → Editing zone n m s after

    full : Rest → (r : Record) → read_record (b ∷ l) ≡ Some r → allowed zone r ≡ true → (t : Bool) → overfull store r ≡ t
        → Editing zone (suc n) (b ∷ l) store after
    full ih r e a true f = never StoreFull after (sym (edited-full n zone (b ∷ l) store r e a f) ∙ h)
    full ih r e a false f = next r e a f (ih (drop (size r) (b ∷ l)) (edit store r) (sym (edited-step n zone (b ∷ l) store r e a f) ∙ h))

    value : Rest → (r : Record) → read_record (b ∷ l) ≡ Some r → (t : Bool) → allowed zone r ≡ t
        → Editing zone (suc n) (b ∷ l) store after
    value ih r e true a = full ih r e a (overfull store r) refl
    value ih r e false a = never BadValue after (sym (edited-bad n zone (b ∷ l) store r e a) ∙ h)

    go : Rest → (o : Option Record) → read_record (b ∷ l) ≡ o → Editing zone (suc n) (b ∷ l) store after
    go ih None e = never Unreadable after (sym (edited-unreadable n zone (b ∷ l) store (omega arith) e) ∙ h)
    go ih (Some r) e = value ih r e (allowed zone r) refl

-- ---- one edit

pub edit-put : (store : List Record) (r : Record) → is_put r ≡ true → edit store r ≡ put r store
unfolding edit
edit-put store r h = rw h

pub edit-remove : (store : List Record) (r : Record) → is_put r ≡ false → edit store r ≡ remove (key_of r) store
unfolding edit
edit-remove store r h = rw h

-- Every record after an edit is one from before, perhaps with the edit's TTL, or the edit's: what holds of those holds of all.
module _ (p : Record → Bool) where
  pub put_all : (r : Record) (store : List Record) → ((e : Record) → p e ≡ true → p (with_ttl r.ttl e) ≡ true) → p r ≡ true
      → all_of p store ≡ true → all_of p (put r store) ≡ true
  unfolding put
  put_all r store stable new h = go (held (key_of r) store)
    where
      set : (e : Record) → p e ≡ true → p (set_if (key_of r) r.ttl e) ≡ true
      set e g = pick (same_key (key_of e) (key_of r))
        where
          pick : (b : Bool) → p (cond b (with_ttl r.ttl e) e) ≡ true
          pick true = stable e g
          pick false = g

      go : (b : Bool) → all_of p (cond b (map (set_if (key_of r) r.ttl) store) (store ++ (r ∷ []))) ≡ true
      go true = all_of-of-map (set_if (key_of r) r.ttl) p store ∙ all_of-map p (λ (e : Record). p (set_if (key_of r) r.ttl e)) store set h
      go false = all_of-append p store (r ∷ []) ∙ and_both h (and_both new refl)

  pub remove-all : (k : Key) (store : List Record) → all_of p store ≡ true → all_of p (remove k store) ≡ true
  unfolding remove
  remove-all k store h = all_of-keep p (λ (r : Record). not (same_key (key_of r) k)) store h

  pub edit-all : (r : Record) (store : List Record) → (is_put r ≡ true → (e : Record) → p e ≡ true → p (with_ttl r.ttl e) ≡ true)
      → (is_put r ≡ true → p r ≡ true) → all_of p store ≡ true → all_of p (edit store r) ≡ true
  edit-all r store stable new h = go (is_put r) refl
    where
      go : (b : Bool) → is_put r ≡ b → all_of p (edit store r) ≡ true
      go true e = ap (all_of p) (edit-put store r e) ∙ put_all r store (stable e) (new e) h
      go false e = ap (all_of p) (edit-remove store r e) ∙ remove-all (key_of r) store h

-- ---- a sound store stays sound

pub good-with_ttl : (zone : List ℕ) (e : Record) (t : ℕ) → t ≤ max_ttl → good zone e ≡ true → good zone (with_ttl t e) ≡ true
good-with_ttl zone e t h k =
    let g = good-parts zone e k in
    let f = fitting e g.fit in
    let put : leb t max_ttl ≡ true = le-leb t max_ttl h in
    let a = allowed-parts zone e g.values in
    good_of zone (with_ttl t e) (record {
      fit = fits-of (with_ttl t e) (record {
        name = f.name;
        owner_octets = f.owner_octets;
        type16 = f.type16;
        class16 = f.class16;
        ttl32 = omega arith;
        rdata16 = f.rdata16;
        rdata_octets = f.rdata_octets;
      });
      ttl = put;
      values = allowed_of zone (with_ttl t e) (record {
        ttl = ap (λ (b : Bool). b || eqb t remove_ttl) put;
        rrtype = a.rrtype;
        rrclass = a.rrclass;
        rdata = a.rdata;
        inside = a.inside;
      });
    })

module _ (zone : List ℕ) (store : List Record) (s : Sound zone store) where
  pub sound-remove : (k : Key) → Sound zone (remove k store)
  unfolding remove
  sound-remove k = record {
    once = distinct_remove k store s.once;
    all = remove-all (good zone) k store s.all;
    few = omega (arith, s.few, length-keep (λ (r : Record). not (same_key (key_of r) k)) store);
  }

  room : (r : Record) → is_put r ≡ true → overfull store r ≡ false → length (put r store) ≤ max_records
  unfolding overfull
  room r p f = go (held (key_of r) store) refl (length-put r store)
    where
      go : (b : Bool) → held (key_of r) store ≡ b → length (put r store) ≡ cond b (length store) (suc (length store))
          → length (put r store) ≤ max_records
      go true e l = omega (arith, s.few)
      go false e l =
          let q : leb max_records (length store) ≡ false =
          sym (ap₂ (λ (x y : Bool). x && not y && leb max_records (length store)) p e) ∙ f in
          omega (arith, leb-false max_records (length store) q)

  pub sound-put : (r : Record) → good zone r ≡ true → overfull store r ≡ false → Sound zone (put r store)
  sound-put r g f =
      let p : is_put r ≡ true = (good-parts zone r g).ttl in
      record {
        once = distinct-put r store s.once;
        all = put_all (good zone) r store (λ e h. good-with_ttl zone e r.ttl (leb-true r.ttl max_ttl p) h) g s.all;
        few = room r p f;
      }

  -- An edit that was read from octets, and allowed.
  pub sound-edit : (r : Record) → fits r ≡ true → allowed zone r ≡ true → overfull store r ≡ false → Sound zone (edit store r)
  sound-edit r h a f = go (is_put r) refl
    where
      go : (b : Bool) → is_put r ≡ b → Sound zone (edit store r)
      go true e =
          subst (Sound zone) (sym (edit-put store r e))
          (sound-put r (good_of zone r (record { fit = h; ttl = e; values = a })) f)
      go false e = subst (Sound zone) (sym (edit-remove store r e)) (sound-remove (key_of r))

pub sound-editing : {zone : List ℕ} {n : ℕ} {l : List ℕ} {store after : List Record} → Editing zone n l store after → are_bytes l ≡ true
    → Sound zone store → Sound zone after
sound-editing done b s = s
sound-editing {zone} {l = l} {store} (next r e a f g) b s =
    sound-editing g (are_bytes-drop (size r) l b) (sound-edit zone store s r (read_record-fits l r b e) a f)

pub sound-batch : (zone bytes : List ℕ) (store after : List Record) → Sound zone store → are_bytes bytes ≡ true
    → batch_of zone bytes store ≡ stored after → Sound zone after
unfolding batch_of
sound-batch zone bytes store after s b h = sound-editing (editing zone max_edits bytes store after h) b s

pub sound_empty : (zone : List ℕ) → Sound zone []
unfolding distinct
sound_empty zone = record { once = refl; all = refl; few = omega arith }

-- ---- the edits of a batch, as a list of records

abbrev pub edited_by : List Record → List Record → List Record
edited_by [] store = store
edited_by (r ∷ rs) store = edited_by rs (edit store r)

pub record Edits (n : ℕ) (store after : List Record) : Type 0 where
  pub edits : List Record
  pub few : length edits ≤ n
  pub gives : edited_by edits store ≡ after

edits-of : {zone : List ℕ} {n : ℕ} {l : List ℕ} {store after : List Record} → Editing zone n l store after → Edits n store after
edits-of done = record { edits = []; few = omega arith; gives = refl }
edits-of (next r e a f g) =
    let x = edits-of g in
    record { edits = r ∷ x.edits; few = omega (arith, x.few); gives = x.gives }

pub batch-edits : (zone bytes : List ℕ) (store after : List Record) → batch_of zone bytes store ≡ stored after → Edits max_edits store after
unfolding batch_of
batch-edits zone bytes store after h = edits-of (editing zone max_edits bytes store after h)

-- Every record of the new store is of the old one or an edit's, perhaps with another TTL: what holds of those whatever their
-- TTL holds of all.
pub edited_by-all : (p : Record → Bool) → ((e : Record) (t : ℕ) → p e ≡ true → p (with_ttl t e) ≡ true) → (rs store : List Record)
    → all_of p rs ≡ true → all_of p store ≡ true → all_of p (edited_by rs store) ≡ true
edited_by-all p stable [] store h k = k
edited_by-all p stable (r ∷ rs) store h k =
    edited_by-all p stable rs (edit store r) (and_right (p r) (all_of p rs) h)
    (edit-all p r store (λ u e g. stable e r.ttl g) (λ u. and_left (p r) (all_of p rs) h) k)
