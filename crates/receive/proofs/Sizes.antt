-- How long a first PUSH can be, whatever octets the store's memory holds.
use Prim.Native.Nat.{ℕ, zero, suc, ◌+◌, ◌*◌, min, ◌≤◌}
use native.Mathlib.Omega.{arith}
use mathlib.Core.Bool.{Bool, true, false}
use mathlib.Core.List.{List, [], ◌∷◌, map}
use mathlib.Core.Path.{◌≡◌, ap}
use mir.Syntax.{w64}
use mir.Val.{Fits}
use lib.ListN.{length, take, drop, length-take, length-drop}
use Rattle.wire.specs.Field.{field, octets}
use Rattle.table.specs.Blocks.{blocks}
use Rattle.zone.specs.Lists.{keep, only_if}
use Rattle.zone.specs.Record.{Record}
use Rattle.zone.specs.Layout.{size}
use Rattle.zone.specs.Batch.{max_records}
use Rattle.zone.specs.Table.{block_size, rec_of, records_of}
use Rattle.zone.specs.Match.{matches}
use Rattle.session.specs.Table.{subscription}
use Rattle.push.specs.Change.{Change, fields_of}
use Rattle.push.specs.List.{additions}
use Rattle.push.specs.Octets.{push_of}
use Rattle.push.specs.Measure.{bytes}
use Rattle.dso.specs.Response.{response_octets, response, framed, header, tlvs_octets}
use Rattle.dso.specs.declared.response.Response.TheVariants.{Subscribed}
use Rattle.push.proofs.Framing.{length-push_octets, push_of-nil, push_of-cons}

-- No block holds a larger record.
abbrev record_limit : ℕ
record_limit = 1000

size-limit : (a : List ℕ) → size (rec_of (take block_size a)) ≤ record_limit
unfolding size rec_of
size-limit a =
    let b : List ℕ = take block_size a in
    omega (arith, length-take block_size a, length-take (field 1 b) (drop 10 b), length-take (field 1 (drop 1 b)) (drop 265 b), length-drop 10 b, length-drop 265 b)

bytes-limit : (p : Record → Bool) (n : ℕ) (a : List ℕ) → bytes (additions (keep p (map rec_of (blocks block_size n a)))) ≤ record_limit * n
unfolding additions blocks fields_of
bytes-limit p zero a = omega arith
bytes-limit p (suc n) a = go (p (rec_of (take block_size a))) (keep p (map rec_of (blocks block_size n (drop block_size a)))) (bytes-limit p n (drop block_size a))
  where
    go : (b : Bool) (l : List Record) → bytes (additions l) ≤ record_limit * n → bytes (additions (only_if b (rec_of (take block_size a)) l)) ≤ record_limit * suc n
    go true l h = omega (arith, size-limit a, h)
    go false l h = omega arith

push-limit : (cs : List Change) → length (push_of cs) ≤ 18 + bytes cs
push-limit [] = omega (arith, ap length push_of-nil)
push-limit (c ∷ cs) = omega (arith, ap length (push_of-cons c cs), length-push_octets (c ∷ cs))

pub first-limit : (p : Record → Bool) (count : ℕ) (a : List ℕ) → length (push_of (additions (keep p (records_of count a)))) ≤ 18 + record_limit * max_records
unfolding records_of
first-limit p count a =
    let cs : List Change = additions (keep p (records_of count a)) in
    let n : bytes cs ≤ record_limit * min count max_records = bytes-limit p (min count max_records) a in
    omega (arith, push-limit cs, n)

response-limit : (id : ℕ) → length (response_octets id Subscribed) ≤ 14
unfolding response_octets response framed header tlvs_octets octets
response-limit id = omega arith

-- With the response before it: no count overflows.
pub accepted-fits : (id count : ℕ) (a name : List ℕ) (rrtype rrclass n k : ℕ) → n ≡ length (response_octets id Subscribed)
    → k ≡ length (push_of (additions (keep (matches (subscription 0 name rrtype rrclass)) (records_of count a)))) → Fits w64 (n + k)
accepted-fits id count a name rrtype rrclass n k e f =
    record { fits = omega (arith, response-limit id, first-limit (matches (subscription 0 name rrtype rrclass)) count a) }
