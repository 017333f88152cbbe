-- Laws of writing: one part behind another, a record, the fields of a change.
use Prim.Native.Nat.{ℕ, ◌+◌, ◌*◌, ◌≤◌}
use mathlib.Core.Path.{◌≡◌, refl, sym, ap, ap₂, subst, ◌∙◌}
use Rattle.std.specs.Prelude.{Option, Some, None}
use mathlib.Core.List.{List, [], ◌∷◌, ◌++◌, append_assoc, append-nil}
use native.Mathlib.Nat.{add-zero}
use native.Mathlib.Omega.{arith}
use lib.ListN.{length, drop, get_or, get_or-append, length-append, length-take, length-drop}
use lib.Seq.{sets, get_or-append_seam}
use borrow.Author.Count.{below_more}
use Rattle.wire.specs.Field.{field, octets}
use Rattle.wire.proofs.Fields.{length-octets}
use Rattle.wire.proofs.Writes.{sets-append}
use Rattle.zone.specs.Layout.{record_octets, size}
use Rattle.zone.specs.Table.{block_size, block_at, rec_of, record_from}
use Rattle.zone.proofs.Layouts.{length-record_octets}
use Rattle.session.proofs.Changes.{written_then}
use Rattle.notify.specs.declared.fields.Fields.{Fields}
use Rattle.notify.specs.Written.{Short, AllShort, Wrote, Step, WroteEach, given_octets, all_octets, room}

-- ---- a record

pub fixed-written : (o p q r s : List ℕ) (at t c ttl n : ℕ) → p ≡ sets o at (octets 2 t) → q ≡ sets p (at + 2) (octets 2 c)
    → r ≡ sets q (at + 4) (octets 4 ttl) → s ≡ sets r (at + 8) (octets 2 n)
    → s ≡ sets o at (octets 2 t ++ (octets 2 c ++ (octets 4 ttl ++ octets 2 n)))
fixed-written o p q r s at t c ttl n e f g h =
    written_then o p s at (at + 2) (octets 2 t) (octets 2 c ++ (octets 4 ttl ++ octets 2 n)) e
    (written_then p q s (at + 2) (at + 4) (octets 2 c) (octets 4 ttl ++ octets 2 n) f
    (written_then q r s (at + 4) (at + 8) (octets 4 ttl) (octets 2 n) g h (omega (arith, length-octets 4 ttl)))
    (omega (arith, length-octets 2 c)))
    (omega (arith, length-octets 2 t))

pub record-written : (o p q r name : List ℕ) (at t c ttl : ℕ) (rdata : List ℕ) → p ≡ sets o at name
    → q ≡ sets p (at + length name) (octets 2 t ++ (octets 2 c ++ (octets 4 ttl ++ octets 2 (length rdata))))
    → r ≡ sets q (at + length name + 10) rdata
    → Wrote o at (record_octets (record_from name t c ttl rdata)) r (at + length name + 10 + length rdata)
unfolding record_octets size
record-written o p q r name at t c ttl rdata e f g =
    let x : List ℕ = octets 2 t in
    let y : List ℕ = octets 2 c in
    let z : List ℕ = octets 4 ttl in
    let w : List ℕ = octets 2 (length rdata) in
    let n : length (x ++ (y ++ (z ++ w))) ≡ 10 =
    simp (length-append, length-octets) in
    let same : (x ++ (y ++ (z ++ w))) ++ rdata ≡ x ++ (y ++ (z ++ (w ++ rdata))) = simp append_assoc in
    record {
      written = written_then o p r at (at + length name) name ((x ++ (y ++ (z ++ w))) ++ rdata) e
          (written_then p q r (at + length name) (at + length name + 10) (x ++ (y ++ (z ++ w))) rdata f g (omega arith)) refl
          ∙ ap (λ (v : List ℕ). sets o at (name ++ v)) same;
      place = omega (arith, length-record_octets (record_from name t c ttl rdata));
    }

-- One that is short.
pub record-step : (o p q r name : List ℕ) (at t c ttl : ℕ) (rdata : List ℕ) → Short (record_from name t c ttl rdata) → p ≡ sets o at name
    → q ≡ sets p (at + length name) (octets 2 t ++ (octets 2 c ++ (octets 4 ttl ++ octets 2 (length rdata))))
    → r ≡ sets q (at + length name + 10) rdata
    → Step room o at (record_octets (record_from name t c ttl rdata)) r (at + length name + 10 + length rdata)
record-step o p q r name at t c ttl rdata s e f g = record {
  wrote = record-written o p q r name at t c ttl rdata e f g;
  near = omega (arith, s.owner, s.rdata);
}

-- ---- how long the parts of a block are

pub short-block : (a : List ℕ) (i : ℕ) → Short (rec_of (block_at a i))
unfolding rec_of
short-block a i =
    let b : List ℕ = block_at a i in
    let n : length b ≤ block_size = omega (arith, length-take block_size (drop (i * block_size) a)) in
    record {
      owner = omega (arith, length-take (field 1 (drop 0 b)) (drop 10 b), length-drop 10 b);
      rdata = omega (arith, length-take (field 1 (drop 1 b)) (drop 265 b), length-drop 265 b);
    }

-- ---- a change, if there is one

pub change-written : (o p q r : List ℕ) (at : ℕ) (c : Option Fields) (f : Fields) → c ≡ Some f → AllShort c → p ≡ sets o at f.name.now
    → q ≡ sets p (at + length f.name.now) (octets 2 f.rrtype ++ (octets 2 f.rrclass ++ (octets 4 f.ttl ++ octets 2 (length f.rdata.now))))
    → r ≡ sets q (at + length f.name.now + 10) f.rdata.now
    → Step room o at (given_octets c) r (at + length f.name.now + 10 + length f.rdata.now)
change-written o p q r at c f h s e g i =
    rw h (record-step o p q r f.name.now at f.rrtype f.rrclass f.ttl f.rdata.now (rw h at s) e g i)

-- ---- one behind another

all-append : (cs ds : List (Option Fields)) → all_octets (cs ++ ds) ≡ all_octets cs ++ all_octets ds
all-append [] ds = refl
all-append (c ∷ cs) ds = ap (λ (l : List ℕ). given_octets c ++ l) (all-append cs ds) ∙ sym (append_assoc (given_octets c) (all_octets cs) (all_octets ds))

module _ (says : ℕ → Option Fields → Type 0) (o : List ℕ) (at : ℕ) where
  pub each_none : WroteEach says 0 o at o at
  each_none = record {
    changes = [];
    many = refl;
    each = λ i h. absurd (omega arith);
    wrote = record { written = refl; place = sym (add-zero at) };
    near = omega arith;
  }

  pub each-turn : (n : ℕ) (p : List ℕ) (t : ℕ) → WroteEach says n o at p t → (c : Option Fields) → says n c → (q : List ℕ) (u : ℕ)
      → Step room p t (given_octets c) q u → WroteEach says (n + 1) o at q u
  each-turn n p t w c h q u s = record {
    changes = w.changes ++ (c ∷ []);
    many = omega (arith, length-append w.changes (c ∷ []), w.many);
    each = below_more (λ (i : ℕ). says i (get_or (w.changes ++ (c ∷ [])) i None)) n
        (λ i j. subst (says i) (sym (get_or-append w.changes (c ∷ []) None i (omega (arith, w.many)))) (w.each i j))
        (subst (says n) (sym (ap (λ (i : ℕ). get_or (w.changes ++ (c ∷ [])) i None) (sym w.many) ∙ get_or-append_seam w.changes c [] None)) h);
    wrote = record {
      written = s.wrote.written ∙ ap₂ (λ (l : List ℕ) (i : ℕ). sets l i (given_octets c)) w.wrote.written w.wrote.place
          ∙ sym (sets-append o at (all_octets w.changes) (given_octets c)) ∙ ap (sets o at) (sym more);
      place = omega (arith, s.wrote.place, w.wrote.place, length-append (all_octets w.changes) (given_octets c), ap length more);
    };
    near = omega (arith, w.near, s.near);
  }
    where
      more : all_octets (w.changes ++ (c ∷ [])) ≡ all_octets w.changes ++ given_octets c
      more = all-append w.changes (c ∷ []) ∙ ap (λ (l : List ℕ). all_octets w.changes ++ l) (append-nil (given_octets c))

pub ruleset fixed_part = (fixed-written)
