-- Laws of one edit: reading it, the values that it may have.
use Prim.Native.Nat.{ℕ, ◌+◌, ◌-◌, ◌≤◌, ◌<◌}
use mathlib.Core.Path.{◌≡◌, refl, sym, ap, ap₂, ◌∙◌}
use mathlib.Core.Bool.{Bool, true, false, ◌&&◌}
use mathlib.Core.List.{List}
use native.Mathlib.Omega.{arith}
use lib.ListN.{length, take, drop, length-drop}
use lib.Seq.{drop-drop}
use lib.Dec.{leb}
use Rattle.std.specs.Prelude.{None, Some}
use Rattle.wire.specs.Field.{field}
use Rattle.wire.specs.Part.{part}
use Rattle.wire.specs.Name.{max_name, within}
use Rattle.wire.specs.Reading.{name_at}
use Rattle.wire.proofs.Names.{name_length-pos, name_length-le, name_length-max}
use Rattle.zone.specs.Record.{Record}
use Rattle.zone.specs.Layout.{fixed_size, size, read_record}
use Rattle.zone.specs.Batch.{max_rdata, is_plain, allowed}
use Rattle.zone.specs.Table.{record_from}
use Rattle.zone.specs.Edit.{record_of, FitsBlock, ttl_may}
use Rattle.zone.specs.declared.reading.Edit.{Edit}
use Rattle.zone.proofs.Goods.{allowed-parts}
use Rattle.zone.proofs.Layouts.{rdlen_of, record_in, read_record-nameless, read_record-some, read_record-none, read_record-stands, stands-owner, size-le, size-pos}

-- ---- values, in the order in which the code asks them

pub allowed_turned : (zone : List ℕ) (r : Record) → allowed zone r
    ≡ (leb (length r.rdata) max_rdata && (ttl_may r.ttl && (is_plain r.rrtype && (is_plain r.rrclass && within zone r.owner))))
unfolding allowed
allowed_turned zone r = turned (ttl_may r.ttl) (is_plain r.rrtype) (is_plain r.rrclass) (leb (length r.rdata) max_rdata) (within zone r.owner)
  where
    turned : (t x c d o : Bool) → (t && x && c && d && o) ≡ (d && (t && (x && (c && o))))
    turned true true true true o = refl
    turned true true true false o = refl
    turned true true false true o = refl
    turned true true false false o = refl
    turned true false c true o = refl
    turned true false c false o = refl
    turned false x c true o = refl
    turned false x c false o = refl

-- ---- reading

module _ (s : List ℕ) (at : ℕ) where
  pub edit_nameless : name_at s at ≡ None → None ≡ read_record (drop at s)
  edit_nameless f = sym (read_record-nameless (drop at s) f)

  module _ (n : ℕ) (f : name_at s at ≡ Some n) where
    -- The name lies within the octets.
    pub name_within : at + n ≤ length s
    name_within = omega (arith, name_length-pos (drop at s) n f, name_length-le (drop at s) n f, length-drop at s)

    place : (w j : ℕ) → field w (drop j (drop n (drop at s))) ≡ field w (drop (at + n + j) s)
    place w j = ap (λ (l : List ℕ). field w (drop j l)) (drop-drop n at s) ∙ ap (field w) (drop-drop j (at + n) s)

    long : length (drop n (drop at s)) ≡ length s - (at + n)
    long = ap length (drop-drop n at s) ∙ length-drop (at + n) s

    module _ (k : ℕ) (g : k ≡ field 2 (drop (at + n + 8) s)) where
      pub edit_short : length s - (at + n) < fixed_size + k → None ≡ read_record (drop at s)
      edit_short h = sym (read_record-none (drop at s) n f (omega (arith, long, place 2 8)))

      pub edit_whole : (o : List ℕ) (t c x : ℕ) (d : List ℕ) → fixed_size + k ≤ length s - (at + n) → o ≡ part s at n
          → t ≡ field 2 (drop (at + n) s) → c ≡ field 2 (drop (at + n + 2) s) → x ≡ field 4 (drop (at + n + 4) s)
          → d ≡ part s (at + n + fixed_size) k → Some (record_from o t c x d) ≡ read_record (drop at s)
      edit_whole o t c x d h q u v z w =
          let p : drop n (drop at s) ≡ drop (at + n) s = drop-drop n at s in
          let y : d ≡ take (rdlen_of (drop n (drop at s))) (drop fixed_size (drop n (drop at s))) =
          w ∙ ap₂ (λ (i : ℕ) (l : List ℕ). take i l) (g ∙ sym (place 2 8)) (sym (ap (drop fixed_size) p ∙ drop-drop fixed_size (at + n) s)) in
          let e : record_from o t c x d ≡ record_in (drop at s) n =
          λ i. record {
            owner = q i;
            rrtype = (u ∙ sym (ap (field 2) p)) i;
            rrclass = (v ∙ sym (place 2 2)) i;
            ttl = (z ∙ sym (place 4 4)) i;
            rdata = y i;
          } in
          ap Some e ∙ sym (read_record-some (drop at s) n f (omega (arith, long, place 2 8)))

pub ruleset of_reading = (edit_nameless, name_within, edit_short, edit_whole)

name-max : (l : List ℕ) (r : Record) → read_record l ≡ Some r → length r.owner ≤ max_name
name-max l r h =
    let (n, t) = read_record-stands l r h in
    omega (arith, stands-owner l r n t, name_length-max l n t.named)

-- An edit that was read lies within the octets; and one whose values are allowed has room in a block.
module _ (bytes : List ℕ) (at : ℕ) (e : Edit) (h : Some (record_of e) ≡ read_record (drop at bytes)) where
  pub read_within : at + size (record_of e) ≤ length bytes
  read_within = omega (arith, size-le (drop at bytes) (record_of e) (sym h), size-pos (record_of e), length-drop at bytes)

  pub read_fits : (zone : List ℕ) → allowed zone (record_of e) ≡ true → FitsBlock e
  read_fits zone v = (name-max (drop at bytes) (record_of e) (sym h), (allowed-parts zone (record_of e) v).rdata)

pub ruleset read_room = (read_within, read_fits)
