-- A record added to the store in lent memory: its block is filled, and nothing before it changes.
use Prim.Native.Nat.{ℕ, ◌+◌, ◌*◌, ◌^◌, ◌≤◌, ◌<◌}
use mathlib.Core.Path.{◌≡◌, refl, sym, ap, ap₂, ◌∙◌}
use mathlib.Core.List.{List, [], ◌∷◌, ◌++◌, map, map-append}
use native.Mathlib.Nat.{add-zero}
use native.Mathlib.Numerals.{add-one}
use native.Mathlib.Omega.{arith}
use lib.ListN.{length, take, drop}
use lib.Seq.{sets, length-sets}
use Rattle.wire.specs.Field.{field, octets}
use Rattle.wire.specs.Part.{part}
use Rattle.wire.proofs.Fields.{length-octets}
use Rattle.wire.proofs.Writes.{take-sets, drop-sets-add, part-written, field-written}
use Rattle.table.specs.Blocks.{blocks, text_at}
use Rattle.table.proofs.Blocks.{blocks-suc, blocks-past}
use Rattle.zone.specs.Record.{Record}
use Rattle.zone.specs.Batch.{max_records}
use Rattle.zone.specs.Table.{block_size, area_size, block_at, rec_of, records_of, record_from}
use Rattle.zone.specs.Update.{numbered}
use Rattle.zone.proofs.Written.{Write, field-kept, part-kept, field-here, octet-field}
use Rattle.zone.proofs.Updates.{records-plain, length-block}

-- Nothing before block n has changed, and that block is b.
record Only (n : ℕ) (a c b : List ℕ) : Type 0 where
  before : blocks block_size n c ≡ blocks block_size n a
  block : block_at c n ≡ b

only_none : (n : ℕ) (a : List ℕ) → Only n a a (block_at a n)
only_none n a = record { before = refl; block = refl }

step : (n : ℕ) (a : List ℕ) {c b : List ℕ} (k : ℕ) (vs : List ℕ) → k + length vs ≤ block_size → Only n a c b
    → Only n a (sets c (n * block_size + k) vs) (sets b k vs)
step n a {c} {b} k vs h o = record {
  before = blocks-past block_size n c (n * block_size + k) vs (omega arith) ∙ o.before;
  block = ap (take block_size) (drop-sets-add (n * block_size) c k vs) ∙ take-sets block_size (drop (n * block_size) c) k vs
      ∙ ap (λ (b : List ℕ). sets b k vs) o.block;
}

only-records : (n : ℕ) (a c b : List ℕ) → n < max_records → Only n a c b → records_of (n + 1) c ≡ records_of n a ++ (rec_of b ∷ [])
only-records n a c b h o =
    records-plain (n + 1) c (omega arith)
    ∙ ap (λ (m : ℕ). map rec_of (blocks block_size m c)) (add-one n) ∙ ap (map rec_of) (blocks-suc block_size n c)
    ∙ ap₂ (λ (l : List (List ℕ)) (b : List ℕ). map rec_of (l ++ (b ∷ []))) o.before o.block
    ∙ map-append rec_of (blocks block_size n a) (b ∷ [])
    ∙ ap (λ (l : List Record). l ++ (rec_of b ∷ [])) (sym (records-plain n a (omega arith)))

-- A block with a record's parts written into it.
module _ (b name : List ℕ) (t c x : ℕ) (d : List ℕ) where
  abbrev filled : List ℕ
  filled = sets (sets (numbered (sets b 0 (length name ∷ (length d ∷ []))) 0 t c x) 10 name) 265 d

module _ (b name : List ℕ) (t c x : ℕ) (d : List ℕ) (l : length b ≡ block_size) (hn : length name ≤ 255) (hd : length d ≤ 128)
    (ht : t < 256 ^ 2) (hc : c < 256 ^ 2) (hx : x < 256 ^ 4) where
  rec_of-filled : rec_of (filled b name t c x d) ≡ record_from name t c x d
  unfolding rec_of
  rec_of-filled =
      let wd : List Write = record { at = 265; octets = d } ∷ [] in
      let wn : List Write = record { at = 10; octets = name } ∷ wd in
      let wx : List Write = record { at = 6; octets = octets 4 x } ∷ wn in
      let wc : List Write = record { at = 4; octets = octets 2 c } ∷ wx in
      let wt : List Write = record { at = 2; octets = octets 2 t } ∷ wc in
      let wm : List Write = record { at = 1; octets = length d ∷ [] } ∷ wt in
      let b1 : List ℕ = sets b 0 (length name ∷ []) in
      let b2 : List ℕ = sets b1 1 (length d ∷ []) in
      let b3 : List ℕ = sets b2 2 (octets 2 t) in
      let b4 : List ℕ = sets b3 4 (octets 2 c) in
      let b5 : List ℕ = sets b4 6 (octets 4 x) in
      let b6 : List ℕ = sets b5 10 name in
      let l1 : length b1 ≡ block_size = length-sets b 0 (length name ∷ []) ∙ l in
      let l2 : length b2 ≡ block_size = length-sets b1 1 (length d ∷ []) ∙ l1 in
      let l3 : length b3 ≡ block_size = length-sets b2 2 (octets 2 t) ∙ l2 in
      let l4 : length b4 ≡ block_size = length-sets b3 4 (octets 2 c) ∙ l3 in
      let l5 : length b5 ≡ block_size = length-sets b4 6 (octets 4 x) ∙ l4 in
      let l6 : length b6 ≡ block_size = length-sets b5 10 name ∙ l5 in
      let n : field 1 (drop 0 (filled b name t c x d)) ≡ length name =
      field-kept 1 wm b1 0 1 refl (omega arith) ∙ field-here b 0 (length name ∷ []) 1 refl (omega arith) ∙ octet-field (length name) in
      let m : field 1 (drop 1 (filled b name t c x d)) ≡ length d =
      field-kept 2 wt b2 1 1 refl (omega arith) ∙ field-here b1 1 (length d ∷ []) 1 refl (omega arith) ∙ octet-field (length d) in
      let o : text_at (filled b name t c x d) 0 10 ≡ name =
      ap (part (filled b name t c x d) 10) n ∙ part-kept 265 wd b6 10 (length name) refl (omega arith) ∙ part-written b5 10 name (omega arith) in
      let p : text_at (filled b name t c x d) 1 265 ≡ d = ap (part (filled b name t c x d) 265) m ∙ part-written b6 265 d (omega arith) in
      let q = field-kept 4 wc b3 2 2 refl (omega arith) ∙ field-written 2 t b2 2 (omega arith) ht in
      let r = field-kept 6 wx b4 4 2 refl (omega arith) ∙ field-written 2 c b3 4 (omega arith) hc in
      let s = field-kept 10 wn b5 6 4 refl (omega arith) ∙ field-written 4 x b4 6 (omega arith) hx in
      λ i. record { owner = o i; rrtype = q i; rrclass = r i; ttl = s i; rdata = p i }

-- The code's four steps.
module _ (n : ℕ) (a name : List ℕ) (t c x : ℕ) (d a1 a2 a3 a4 : List ℕ) where
  pub appended : length a ≡ area_size → n < max_records → length name ≤ 255 → length d ≤ 128 → t < 256 ^ 2 → c < 256 ^ 2 → x < 256 ^ 4
      → a1 ≡ sets a (n * block_size) (length name ∷ (length d ∷ [])) → a2 ≡ numbered a1 (n * block_size) t c x
      → a3 ≡ sets a2 (n * block_size + 10) name → a4 ≡ sets a3 (n * block_size + 265) d
      → records_of (n + 1) a4 ≡ records_of n a ++ (record_from name t c x d ∷ [])
  appended l h hn hd ht hc hx e1 e2 e3 e4 =
      let m : ℕ = n * block_size in
      let b : List ℕ = block_at a n in
      let v : List ℕ = length name ∷ (length d ∷ []) in
      let w : List ℕ = sets (numbered (sets a (m + 0) v) m t c x) (m + 10) name in
      let e : a4 ≡ sets w (m + 265) d =
      e4 ∙ ap (λ (l : List ℕ). sets l (m + 265) d) (e3 ∙ ap (λ (l : List ℕ). sets l (m + 10) name) (e2
      ∙ ap (λ (l : List ℕ). numbered l m t c x) (e1 ∙ ap (λ (k : ℕ). sets a k v) (sym (add-zero m))))) in
      let y = length-octets 2 t in
      let z = length-octets 2 c in
      let u = length-octets 4 x in
      let o : Only n a (sets w (m + 265) d) (filled b name t c x d) =
      step n a 265 d (omega arith) (step n a 10 name (omega arith) (step n a 6 (octets 4 x) (omega arith)
      (step n a 4 (octets 2 c) (omega arith) (step n a 2 (octets 2 t) (omega arith) (step n a 0 v (omega arith) (only_none n a)))))) in
      ap (records_of (n + 1)) e ∙ only-records n a (sets w (m + 265) d) (filled b name t c x d) h o
      ∙ ap (λ (r : Record). records_of n a ++ (r ∷ [])) (rec_of-filled b name t c x d (length-block a n l h) hn hd ht hc hx)
