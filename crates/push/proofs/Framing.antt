-- Messages behind their lengths, and PUSH messages: what is written is read back.
use Prim.Native.Nat.{ℕ, zero, suc, ◌+◌, ◌≤◌, ◌<◌}
use mathlib.Core.Path.{◌≡◌, refl, sym, ap, ap₂, ◌∙◌}
use mathlib.Core.Bool.{Bool, true, false, cond, not}
use mathlib.Core.List.{List, [], ◌∷◌, ◌++◌, append_assoc, append-nil}
use mathlib.Core.Option.{Option, none, some}
use native.Mathlib.Nat.{le_of_suc-le-suc, not-suc-le-zero}
use native.Mathlib.Omega.{arith}
use lib.ListN.{length, take, drop, length-append, length-take}
use lib.Seq.{take-append_seam, drop_at}
use lib.Dec.{leb, lit<}
use borrow.Author.Tests.{leb-true, le-leb}
use Rattle.wire.specs.Field.{field, octets}
use Rattle.wire.proofs.Fields.{field-octets, length-octets}
use Rattle.dso.specs.Header.{header_length, flags, is_response, opcode}
use Rattle.dso.specs.Tlv.{Tlv}
use Rattle.dso.specs.Judge.{push_type}
use Rattle.dso.specs.Response.{tlv_octets, tlvs_octets, framed}
use Rattle.dso.proofs.Responses.{header-id, header-flags, header-no_records, header-drop, header-length, tlvs-octets}
use Rattle.zone.specs.Lists.{all_of}
use Rattle.zone.proofs.Lists.{and_left, and_right, never}
use Rattle.push.specs.Change.{Change}
use Rattle.push.specs.Octets.{changes_octets, unidirectional_flags, push_message, push_octets, push_of, changes_in}
use Rattle.push.specs.Measure.{bytes}
use Rattle.push.specs.Plain.{plain_change}
use Rattle.push.specs.Frames.{frame_of, one_more, frames_in, is_unidirectional, one_at_least, changes_of, push_in}
use Rattle.push.proofs.ReadBack.{changes_in-changes, length-changes_octets}

-- ---- a message behind its length

pub length-framed : (m : List ℕ) → length (framed m) ≡ 2 + length m
unfolding framed octets
length-framed m = omega arith

framed-rest : (m rest : List ℕ) → framed m ++ rest ≡ octets 2 (length m) ++ (m ++ rest)
unfolding framed
framed-rest m rest = append_assoc (octets 2 (length m)) m rest

pub frame_of-framed : (m rest : List ℕ) → length m < 65536 → frame_of (framed m ++ rest) ≡ some m
unfolding frame_of
frame_of-framed m rest h =
    let l = octets 2 (length m) ++ (m ++ rest) in
    let n : field 2 l ≡ length m = field-octets 2 (length m) (m ++ rest) h in
    let d : drop 2 l ≡ m ++ rest = drop_at (octets 2 (length m)) (m ++ rest) 2 (length-octets 2 (length m)) in
    let e : length l ≡ 2 + length (m ++ rest) =
    length-append (octets 2 (length m)) (m ++ rest) ∙ ap (λ (k : ℕ). k + length (m ++ rest)) (length-octets 2 (length m)) in
    let t : leb (2 + field 2 l) (length l) ≡ true = le-leb (2 + field 2 l) (length l) (omega (arith, n, e, length-append m rest)) in
    ap frame_of (framed-rest m rest)
    ∙ ap (λ (b : Bool). cond b (some (take (field 2 l) (drop 2 l))) none) t
    ∙ ap some (ap₂ take n d ∙ take-append_seam m rest)

pub after-framed : (m rest : List ℕ) → drop (2 + length m) (framed m ++ rest) ≡ rest
after-framed m rest = drop_at (framed m) rest (2 + length m) (length-framed m)

-- What was read lies within the octets.
pub frame_of-le : (l m : List ℕ) → frame_of l ≡ some m → 2 + length m ≤ length l
unfolding frame_of
frame_of-le l m h = go (leb (2 + field 2 l) (length l)) refl h
  where
    go : (t : Bool) → leb (2 + field 2 l) (length l) ≡ t → cond t (some (take (field 2 l) (drop 2 l))) none ≡ some m → 2 + length m ≤ length l
    go false e g = let z : ◌≡◌ {A = ℕ} 0 1 = cc in absurd (omega arith)
    go true e g =
        let i : take (field 2 l) (drop 2 l) ≡ m = cc in
        omega (arith, leb-true (2 + field 2 l) (length l) e, ap length i, length-take (field 2 l) (drop 2 l))

-- ---- all messages of a list

pub frames_in-drop : (k : ℕ) (l : List ℕ) → k ≤ length l → frames_in k l ≡ frames_in 0 (drop k l)
unfolding frames_in
frames_in-drop zero l h = refl
frames_in-drop (suc k) [] h = absurd (not-suc-le-zero h)
frames_in-drop (suc k) (b ∷ l) h = frames_in-drop k l (le_of_suc-le-suc h)

pub frames_in-nil : frames_in 0 [] ≡ some []
unfolding frames_in
frames_in-nil = refl

front : (b : ℕ) (l m : List ℕ) → frame_of (b ∷ l) ≡ some m → frames_in 0 (b ∷ l) ≡ one_more m (frames_in (suc (length m)) l)
unfolding frames_in
front b l m h =
    ap (λ (o : Option (List ℕ)). elim o as (λ x. Option (List (List ℕ))) [ none ↦ none | some q ↦ one_more q (frames_in (suc (length q)) l) ]) h

pub frames_in-read : (l m : List ℕ) → frame_of l ≡ some m → frames_in 0 l ≡ one_more m (frames_in 0 (drop (2 + length m) l))
frames_in-read [] m h = absurd (omega (arith, frame_of-le [] m h))
frames_in-read (b ∷ l) m h =
    let e : 2 + length m ≡ suc (suc (length m)) = omega arith in
    let s : frames_in (suc (length m)) l ≡ frames_in 0 (drop (suc (length m)) l) =
    frames_in-drop (suc (length m)) l (omega (arith, frame_of-le (b ∷ l) m h)) in
    front b l m h ∙ rw e (ap (one_more m) s)

-- A message in front of others.
pub frames_in-framed : (m rest : List ℕ) → length m < 65536 → frames_in 0 (framed m ++ rest) ≡ one_more m (frames_in 0 rest)
frames_in-framed m rest h =
    frames_in-read (framed m ++ rest) m (frame_of-framed m rest h)
    ∙ ap (λ (l : List ℕ). one_more m (frames_in 0 l)) (after-framed m rest)

-- ---- a PUSH message

module _ (cs : List Change) where
  abbrev tlv : Tlv
  tlv = record { kind = push_type; value = changes_octets cs }

  abbrev behind : List ℕ
  behind = tlvs_octets (tlv ∷ [])

  length-behind : length behind ≡ 4 + length (changes_octets cs)
  unfolding tlvs_octets tlv_octets octets
  length-behind = omega (arith, ap length (append-nil (changes_octets cs)))

  pub length-push_message : length (push_message cs) ≡ 16 + bytes cs
  unfolding push_message
  length-push_message =
      omega (arith, header-length 0 unidirectional_flags behind, length-behind, length-changes_octets cs)

  flags-are : flags (push_message cs) ≡ unidirectional_flags
  unfolding push_message
  flags-are = header-flags 0 unidirectional_flags behind (lit< tt)

  push_message-unidirectional : is_unidirectional (push_message cs) ≡ true
  unfolding is_unidirectional is_response opcode push_message
  push_message-unidirectional =
      rw (le-leb header_length (length (push_message cs)) (omega (arith, length-push_message)), header-id 0 unidirectional_flags behind (lit< tt), flags-are, header-no_records 0 unidirectional_flags behind)

  carried : drop header_length (push_message cs) ≡ behind
  unfolding push_message
  carried = header-drop 0 unidirectional_flags behind

  pub push_in-message : length (changes_octets cs) < 65536 → push_in (push_message cs) ≡ one_at_least (changes_in 0 (changes_octets cs))
  unfolding push_in
  push_in-message h =
      rw (push_message-unidirectional, carried) (ap changes_of (tlvs-octets (tlv ∷ []) (lit< tt, h, tt)))

  pub length-push_octets : length (push_octets cs) ≡ 18 + bytes cs
  unfolding push_octets
  length-push_octets = omega (arith, length-framed (push_message cs), length-push_message)

-- A response is no PUSH.
pub response-not-push : (m : List ℕ) → is_response m ≡ true → push_in m ≡ none
unfolding push_in is_unidirectional
response-not-push m h =
    rw (never (is_unidirectional m) (λ e. let z : not (is_response m) ≡ true = search (and_left, and_right) in let y : ◌≡◌ {A = ℕ} 0 1 = cc in omega arith))

-- ---- the PUSH of a list of changes

-- A list of changes whose PUSH has a length: with the 16 octets before them they take at most 65,535.
pub record Sendable (cs : List Change) : Type 0 where
  pub plain : all_of plain_change cs ≡ true
  pub short : 16 + bytes cs ≤ 65535

short-message : (cs : List Change) → Sendable cs → length (push_message cs) < 65536
short-message cs s = omega (arith, s.short, length-push_message cs)

pub push_of-nil : push_of [] ≡ []
unfolding push_of
push_of-nil = refl

pub push_of-cons : (c : Change) (cs : List Change) → push_of (c ∷ cs) ≡ push_octets (c ∷ cs)
unfolding push_of
push_of-cons c cs = refl

push_of-framed : (c : Change) (cs : List Change) → push_of (c ∷ cs) ≡ framed (push_message (c ∷ cs))
unfolding push_octets
push_of-framed c cs = push_of-cons c cs

-- The message of a PUSH is read as exactly the changes that were written.
pub push_in-changes : (c : Change) (cs : List Change) → Sendable (c ∷ cs) → push_in (push_message (c ∷ cs)) ≡ some (c ∷ cs)
push_in-changes c cs s =
    push_in-message (c ∷ cs) (omega (arith, s.short, length-changes_octets (c ∷ cs)))
    ∙ ap one_at_least (changes_in-changes (c ∷ cs) s.plain)

-- What a client finds at the front of a list of octets: a frame, whose message is a PUSH of these changes, and then the rest.
pub record FrontPush (l : List ℕ) (cs : List Change) (rest : List ℕ) : Type 0 where
  pub message : List ℕ
  pub frame : frame_of l ≡ some message
  pub behind : drop (2 + length message) l ≡ rest
  pub changes : push_in message ≡ some cs

pub push-front : (c : Change) (cs : List Change) (rest : List ℕ) → Sendable (c ∷ cs) → FrontPush (push_of (c ∷ cs) ++ rest) (c ∷ cs) rest
push-front c cs rest s =
    let m = push_message (c ∷ cs) in
    let e : push_of (c ∷ cs) ++ rest ≡ framed m ++ rest = ap (λ (l : List ℕ). l ++ rest) (push_of-framed c cs) in
    record {
      message = m;
      frame = ap frame_of e ∙ frame_of-framed m rest (short-message (c ∷ cs) s);
      behind = ap (drop (2 + length m)) e ∙ after-framed m rest;
      changes = push_in-changes c cs s;
    }

-- The frames of a PUSH and what follows it.
pub frames_in-push : (c : Change) (cs : List Change) (rest : List ℕ) → Sendable (c ∷ cs)
    → frames_in 0 (push_of (c ∷ cs) ++ rest) ≡ one_more (push_message (c ∷ cs)) (frames_in 0 rest)
frames_in-push c cs rest s =
    let m = push_message (c ∷ cs) in
    ap (λ (l : List ℕ). frames_in 0 (l ++ rest)) (push_of-framed c cs)
    ∙ frames_in-framed m rest (short-message (c ∷ cs) s)

-- The messages of what is sent for a list of changes: one PUSH, or none for an empty list.
abbrev pub push_messages : List Change → List (List ℕ)
push_messages [] = []
push_messages (c ∷ cs) = push_message (c ∷ cs) ∷ []

pub frames_in-push_of : (cs : List Change) → Sendable cs → frames_in 0 (push_of cs) ≡ some (push_messages cs)
frames_in-push_of [] s = ap (frames_in 0) push_of-nil ∙ frames_in-nil
frames_in-push_of (c ∷ cs) s =
    ap (frames_in 0) (sym (append-nil (push_of (c ∷ cs)))) ∙ frames_in-push c cs [] s
    ∙ ap (one_more (push_message (c ∷ cs))) frames_in-nil

-- A reply before them.
pub frames_in-reply : (m : List ℕ) (cs : List Change) → length m < 65536 → Sendable cs
    → frames_in 0 (framed m ++ push_of cs) ≡ some (m ∷ push_messages cs)
frames_in-reply m cs h s = frames_in-framed m (push_of cs) h ∙ ap (one_more m) (frames_in-push_of cs s)
