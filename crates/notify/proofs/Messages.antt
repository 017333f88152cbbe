-- Laws of whole PUSH messages: the front written last, the list of changes by the marks, and views.
use Prim.Native.Nat.{ℕ, min, ◌+◌, ◌-◌, ◌≤◌, ◌<◌}
use mathlib.Core.Path.{◌≡◌, refl, sym, ap, ap₂, ◌∙◌}
use mathlib.Core.Bool.{Bool, true, false, cond, not, ◌&&◌, and_comm}
use mathlib.Core.List.{List, [], ◌∷◌, ◌++◌, map, append_assoc, append-nil}
use mathlib.Core.Option.{Option}
use native.Mathlib.Omega.{arith}
use lib.ListN.{length, take, drop, length-append}
use lib.Seq.{sets}
use borrow.Author.Tests.{eq-eqb, ne_eqb}
use Rattle.wire.specs.Field.{octets}
use Rattle.wire.proofs.Writes.{sets-append, sets-front-last, sets-lent-rest, sets-out}
use Rattle.dso.specs.Judge.{push_type}
use Rattle.dso.specs.Response.{header, tlv_octets, tlvs_octets, framed}
use Rattle.dso.proofs.Responses.{sets_then}
use Rattle.zone.specs.Lists.{only_if, keep}
use Rattle.zone.specs.Record.{Record, key_of}
use Rattle.zone.specs.Store.{find, held, is_some}
use Rattle.zone.specs.Match.{Subscription, wanted, view}
use Rattle.zone.specs.Layout.{size}
use Rattle.zone.proofs.Lists.{keep_same}
use Rattle.zone.proofs.Views.{find-view}
use Rattle.push.specs.Change.{Removal, Change, removal}
use Rattle.push.specs.List.{leaving, entering, has_ttl, chosen, firsts, removals, additions, changes}
use Rattle.push.specs.Measure.{bytes}
use Rattle.push.specs.Octets.{changes_octets, unidirectional_flags, push_message, push_octets, push_of}
use Rattle.push.proofs.ReadBack.{length-changes_octets}
use Rattle.push.proofs.Framing.{length-push_message, length-push_octets, push_of-nil, push_of-cons}
use Rattle.std.specs.Prelude.{Option as Maybe}
use Rattle.notify.specs.declared.removal.RemovalKind.{RemovalKind}
use Rattle.notify.specs.Marks.{marked, heads, sent, changes_for}
use Rattle.notify.specs.Written.{Wrote, front_length, front, fronted, counted, Fronted, Step, Pushed}
use Rattle.notify.proofs.Heads.{changes-append}

-- ---- the front

pub finish-none : (o : List ℕ) (end : ℕ) → end ≡ front_length → Fronted o end o 0
unfolding fronted counted
finish-none o end h =
    record {
      written = sym (ap (λ (b : Bool). sets o 0 (cond b [] (front (end - front_length)))) (eq-eqb end front_length h));
      count = sym (ap (λ (b : Bool). cond b 0 end) (eq-eqb end front_length h));
    }

prefix-length : (n id flags : ℕ) → length (octets 2 n ++ header id flags) ≡ 14
unfolding header octets
prefix-length n id flags = refl

pub finish-some : (o p q : List ℕ) (end : ℕ) → front_length ≤ end → (end ≡ front_length → ⊥)
    → p ≡ sets o 0 (octets 2 (end - 2) ++ header 0 unidirectional_flags)
    → (kind : ℕ) → kind ≡ push_type → q ≡ sets p 14 (octets 2 kind ++ octets 2 (end - front_length))
    → Fronted o end q end
unfolding fronted counted front
finish-some o p q end h k e kind t f =
    let n : ℕ = end - front_length in
    let m : end - 2 ≡ 16 + n = omega arith in
    let x : List ℕ = octets 2 (16 + n) ++ header 0 unidirectional_flags in
    let y' : List ℕ = octets 2 n in
    let y : List ℕ = octets 2 push_type ++ y' in
    record {
      written = sets_then o p q 0 14 x y (prefix-length (16 + n) 0 unidirectional_flags) (e ∙ ap (λ (j : ℕ). sets o 0 (octets 2 j ++ header 0 unidirectional_flags)) m)
          (f ∙ ap (λ (j : ℕ). sets p 14 (octets 2 j ++ y')) t)
          ∙ sym (ap (λ (b : Bool). sets o 0 (cond b [] (front n))) (ne_eqb end front_length k));
      count = sym (ap (λ (b : Bool). cond b 0 end) (ne_eqb end front_length k));
    }

length-front : (n : ℕ) → length (front n) ≡ front_length
unfolding front header octets
length-front n = refl

front-push : (cs : List Change) → front (length (changes_octets cs)) ++ changes_octets cs ≡ push_octets cs
unfolding front push_octets framed push_message tlvs_octets tlv_octets
front-push cs =
    let n : length (push_message cs) ≡ 16 + length (changes_octets cs) = omega (arith, length-push_message cs, length-changes_octets cs) in
    rw n (simp (append_assoc, append-nil))

no-changes : changes_octets [] ≡ []
unfolding changes_octets
no-changes = refl

some-changes : (c : Change) (cs : List Change) → 0 < length (changes_octets (c ∷ cs))
unfolding size
some-changes c cs = omega (arith, length-changes_octets (c ∷ cs))

-- A PUSH is there once its front is.
module _ (o : List ℕ) (p : List ℕ) (end : ℕ) (q : List ℕ) (r : ℕ) (f : Fronted p end q r) where
  push-none : Wrote o front_length [] p end → Pushed o [] q r
  push-none w =
      let z = finish-none p end w.place in
      record {
        written = f.written ∙ sym z.written ∙ w.written ∙ ap (sets o 0) (sym push_of-nil);
        count = f.count ∙ sym z.count ∙ ap length (sym push_of-nil);
      }

  module _ (c : Change) (cs : List Change) (w : Wrote o front_length (changes_octets (c ∷ cs)) p end) where
    abbrev body : List ℕ
    body = changes_octets (c ∷ cs)

    later : end ≡ front_length → ⊥
    later e = omega (arith, w.place, some-changes c cs)

    there : fronted end ≡ front (length body)
    unfolding fronted
    there =
        let n : end - front_length ≡ length body = omega (arith, w.place) in
        ap (λ (b : Bool). cond b [] (front (end - front_length))) (ne_eqb end front_length later) ∙ ap front n

    number : counted end ≡ 18 + bytes (c ∷ cs)
    unfolding counted
    number =
        ap (λ (b : Bool). cond b 0 end) (ne_eqb end front_length later) ∙ omega (arith, w.place, length-changes_octets (c ∷ cs))

    place : front_length ≡ 0 + length (front (length body))
    place = omega (arith, length-front (length body))

    push-some : Pushed o (c ∷ cs) q r
    push-some = record {
      written = f.written ∙ ap₂ (λ (x y : List ℕ). sets x 0 y) w.written there
          ∙ ap (λ (k : ℕ). sets (sets o k body) 0 (front (length body))) place
          ∙ sets-front-last o 0 (front (length body)) body
          ∙ ap (sets o 0) (front-push (c ∷ cs) ∙ sym (push_of-cons c cs));
      count = f.count ∙ number ∙ sym (ap length (push_of-cons c cs) ∙ length-push_octets (c ∷ cs));
    }

pub push-written : (o : List ℕ) (cs : List Change) (p : List ℕ) (end : ℕ) → Wrote o front_length (changes_octets cs) p end
    → (q : List ℕ) (r : ℕ) → Fronted p end q r → Pushed o cs q r
push-written o [] p end w q r f = push-none o p end q r f (rw no-changes at w)
push-written o (c ∷ cs) p end w q r f = push-some o p end q r f c cs w

module _ (most : ℕ) (o : List ℕ) (a b : List Change) (p q : List ℕ) (m end : ℕ) (w : Step most o front_length (changes_octets a) p m) (v : Wrote p m (changes_octets b) q end) where
  both-written : Wrote o front_length (changes_octets (a ++ b)) q end
  both-written = record {
    written = v.written ∙ ap₂ (λ (l : List ℕ) (k : ℕ). sets l k (changes_octets b)) w.wrote.written w.wrote.place
        ∙ sym (ap (sets o front_length) (changes-append a b) ∙ sets-append o front_length (changes_octets a) (changes_octets b));
    place = omega (arith, w.wrote.place, v.place, length-append (changes_octets a) (changes_octets b), ap length (changes-append a b));
  }

  pub changes-written : (x : List ℕ) (r : ℕ) → Fronted q end x r → Pushed o (a ++ b) x r
  changes-written x r f = push-written o (a ++ b) q end both-written x r f

-- ---- views

keep-keep : (p q : Record → Bool) (l : List Record) → keep q (keep p l) ≡ keep (λ (r : Record). p r && q r) l
keep-keep p q [] = refl
keep-keep p q (r ∷ l) = go (p r) ∙ ap (only_if (p r && q r) r) (keep-keep p q l)
  where
    go : (b : Bool) → keep q (only_if b r (keep p l)) ≡ only_if (b && q r) r (keep q (keep p l))
    go true = refl
    go false = refl

-- What a test gives of a record and of what another store has of it, it gives of a view of that store, if the record is in the view.
keep-view : (q : Option ℕ → Record → Bool) (subs : List Subscription) (other l : List Record)
    → view subs (keep (λ (r : Record). q (find (key_of r) other) r) l) ≡ keep (λ (r : Record). q (find (key_of r) (view subs other)) r) (view subs l)
keep-view q subs other l =
    keep-keep (λ (r : Record). q (find (key_of r) other) r) (wanted subs) l
    ∙ keep_same (λ (r : Record). q (find (key_of r) other) r && wanted subs r) (λ (r : Record). wanted subs r && q (find (key_of r) (view subs other)) r) l same
    ∙ sym (keep-keep (wanted subs) (λ (r : Record). q (find (key_of r) (view subs other)) r) l)
  where
    same : (r : Record) → (q (find (key_of r) other) r && wanted subs r) ≡ (wanted subs r && q (find (key_of r) (view subs other)) r)
    same r =
        and_comm (q (find (key_of r) other) r) (wanted subs r)
        ∙ go (wanted subs r) (find-view (key_of r) subs other)
      where
        go : (b : Bool) → find (key_of r) (view subs other) ≡ cond b (find (key_of r) other) Option.none
            → (b && q (find (key_of r) other) r) ≡ (b && q (find (key_of r) (view subs other)) r)
        go true h = sym (ap (λ (o : Option ℕ). q o r) h)
        go false h = refl

-- The records that left the store and those that are fresh in it, as a session sees them, are those of its view.
pub changes-for : (subs : List Subscription) (old new : List Record)
    → changes_for subs new (leaving old new) (entering old new) ≡ changes new (view subs old) (view subs new)
unfolding changes_for changes held
changes-for subs old new =
    ap₂ (λ (x y : List Record). removals new x ++ additions y)
    (keep-view (λ (o : Option ℕ) (r : Record). not (is_some o)) subs new old)
    (keep-view (λ (o : Option ℕ) (r : Record). not (has_ttl o r.ttl)) subs old new)

map-map : (f : Record → Removal) (l : List Record) → map removal (map f l) ≡ map (λ (r : Record). removal (f r)) l
map-map f [] = refl
map-map f (r ∷ l) = ap (λ (m : List Change). removal (f r) ∷ m) (map-map f l)

sent-removals : (store gone : List Record) → map removal (sent store gone) ≡ removals store gone
unfolding removals
sent-removals store gone = map-map (chosen store gone) (firsts (chosen store gone) [] gone)

pub push-sent : (subs : List Subscription) (old new : List Record) (gone fresh : List Bool) (kinds : List (Maybe RemovalKind)) (added : List Bool) (o p : List ℕ) (r : ℕ)
    → heads [] kinds old ≡ sent new (view subs (marked gone old)) → marked added new ≡ view subs (marked fresh new)
    → Pushed o (map removal (heads [] kinds old) ++ additions (marked added new)) p r
    → Pushed o (changes_for subs new (marked gone old) (marked fresh new)) p r
unfolding changes_for
push-sent subs old new gone fresh kinds added o p r e f w =
    let z : map removal (heads [] kinds old) ++ additions (marked added new) ≡ removals new (view subs (marked gone old)) ++ additions (view subs (marked fresh new)) =
    ap₂ (λ (x : List Change) (y : List Record). x ++ additions y) (ap (map removal) e ∙ sent-removals new (view subs (marked gone old))) f in
    rw z at w

-- ---- from a place on

lesser-place : (o : List ℕ) (at from : ℕ) (vs : List ℕ) → from ≡ min at (length o) → sets o from vs ≡ sets o at vs
lesser-place o at from vs e = go (lib.Dec.leb (length o) at) refl
  where
    go : (b : Bool) → lib.Dec.leb (length o) at ≡ b → sets o from vs ≡ sets o at vs
    go true h = let k : length o ≤ at = borrow.Author.Tests.leb-true (length o) at h in
        sets-out o from vs (omega arith) ∙ sym (sets-out o at vs k)
    go false h = let k : at < length o = borrow.Author.Tests.leb-false (length o) at h in
        let z : from ≡ at = omega arith in ap (λ (j : ℕ). sets o j vs) z

pub first-sent : (marks : List Bool) (l : List Record) (p : Record → Bool) (o : List ℕ) (at from : ℕ) (q : List ℕ) (r : ℕ)
    → marked marks l ≡ keep p l → from ≡ min at (length o)
    → Pushed (take (length o - from) (drop from o)) (additions (marked marks l)) q r
    → (take from o ++ (q ++ drop (length o - from) (drop from o)) ≡ sets o at (push_of (additions (keep p l)))) × (r ≡ length (push_of (additions (keep p l))))
first-sent marks l p o at from q r e f w = (
  sets-lent-rest o q (push_of (additions (keep p l))) from (w.written ∙ ap (λ (x : List Record). sets (take (length o - from) (drop from o)) 0 (push_of (additions x))) e)
      ∙ lesser-place o at from (push_of (additions (keep p l))) f,
  w.count ∙ ap (λ (x : List Record). length (push_of (additions x))) e,
)
