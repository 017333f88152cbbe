-- Laws of messages that are written: the header and TLVs read back, and the responses from one write after the other.
-- Assumes nothing.
use Prim.Native.Nat.{ℕ, ◌+◌, ◌/◌, ◌%◌, ◌<◌, ◌≤◌}
use native.Mathlib.Omega.{arith}
use mathlib.Core.Path.{◌≡◌, refl, sym, ap, ap₂, ◌∙◌}
use mathlib.Core.Bool.{true}
use mathlib.Core.List.{List, [], ◌∷◌, ◌++◌, append-nil, append_assoc}
use Rattle.std.specs.Prelude.{Some}
use lib.ListN.{length, drop, length-append}
use lib.Seq.{sets, take_at, drop_at, drop-drop}
use lib.Dec.{lit<}
use borrow.Author.Tests.{le-leb}
use Rattle.wire.specs.Field.{field, octets}
use Rattle.wire.proofs.Fields.{field-octets, length-octets}
use Rattle.wire.proofs.Writes.{sets-append}
use Rattle.dso.specs.Header.{message_id, flags, is_response, opcode, z_bits, rcode, no_records}
use Rattle.dso.specs.Tlv.{Tlv, tlv_front, also, tlvs_from, tlvs}
use Rattle.dso.specs.Response.{header, response_flags, tlv_octets, tlvs_octets, framed, response_code, response_tlvs, response, response_octets, ReadsMessage, ReadsAs}
use Rattle.dso.specs.declared.judgment.ReplyCode.{ReplyCode}
use Rattle.dso.specs.declared.judgment.ReplyCode.TheVariants.{FormErr, ServFail, NotAuth, DsoTypeNi}
use Rattle.dso.specs.declared.response.Timeouts.{Timeouts}
use Rattle.dso.specs.declared.response.Response.{Response}
use Rattle.dso.specs.declared.response.Response.TheVariants.{Error, Keepalive, Subscribed}
use Rattle.dso.proofs.Tlvs.{tlvs-step}

-- ---- the header

module _ (id fl : ℕ) (l : List ℕ) where
  pub header-id : id < 65536 → message_id (header id fl ++ l) ≡ id
  unfolding message_id header octets
  header-id h = field-octets 2 id (octets 2 fl ++ (octets 8 0 ++ l)) h

  pub header-flags : fl < 65536 → flags (header id fl ++ l) ≡ fl
  unfolding flags header octets
  header-flags h = field-octets 2 fl (octets 8 0 ++ l) h

  pub header-no_records : no_records (header id fl ++ l) ≡ true
  unfolding no_records header octets field
  header-no_records = refl

  pub header-drop : drop 12 (header id fl ++ l) ≡ l
  unfolding header octets
  header-drop = refl

  pub header-length : length (header id fl ++ l) ≡ 12 + length l
  unfolding header octets
  header-length = omega arith

-- ---- the length prefix

pub framed-prefix : (m : List ℕ) → length m < 65536 → field 2 (framed m) ≡ length m
unfolding framed
framed-prefix m h = field-octets 2 (length m) m h

pub framed-message : (m : List ℕ) → drop 2 (framed m) ≡ m
unfolding framed octets
framed-message m = refl

-- ---- TLVs

abbrev pub Fitting : List Tlv → Type 0
Fitting [] = Unit {0}
Fitting (t ∷ ts) = (t.kind < 65536) × (length t.value < 65536) × Fitting ts

module _ (t : Tlv) (rest : List ℕ) (k : t.kind < 65536) (v : length t.value < 65536) where
  abbrev tail : List ℕ
  tail = octets 2 (length t.value) ++ (t.value ++ rest)

  shape : tlv_octets t ++ rest ≡ octets 2 t.kind ++ tail
  unfolding tlv_octets octets
  shape = refl

  behind : drop 2 (octets 2 t.kind ++ tail) ≡ tail
  unfolding octets
  behind = refl

  data-behind : drop 4 (octets 2 t.kind ++ tail) ≡ t.value ++ rest
  unfolding octets
  data-behind = refl

  size : length (octets 2 t.kind ++ tail) ≡ 4 + (length t.value + length rest)
  unfolding octets
  size = omega (arith, length-append t.value rest)

  length-field : field 2 (drop 2 (octets 2 t.kind ++ tail)) ≡ length t.value
  length-field = rw behind (field-octets 2 (length t.value) (t.value ++ rest) v)

  front : tlv_front (octets 2 t.kind ++ tail) ≡ t
  front = rw (length-field, data-behind, field-octets 2 t.kind tail k, take_at t.value rest (length t.value) refl)

  past : drop (4 + length t.value) (octets 2 t.kind ++ tail) ≡ rest
  past =
      sym (drop-drop (length t.value) 4 (octets 2 t.kind ++ tail))
      ∙ ap (drop (length t.value)) data-behind
      ∙ drop_at t.value rest (length t.value) refl

  pub tlv-octets : tlvs (tlv_octets t ++ rest) ≡ also t (tlvs rest)
  tlv-octets =
      let l : List ℕ = octets 2 t.kind ++ tail in
      let rest-is : drop (4 + field 2 (drop 2 l)) l ≡ rest = rw length-field past in
      let fits : 4 + field 2 (drop 2 l) ≤ length l = rw length-field (omega (arith, size)) in
      ap tlvs shape ∙ tlvs-step l fits ∙ ap₂ (λ (x : Tlv) (r : List ℕ). also x (tlvs r)) front rest-is

pub tlvs-octets : (ts : List Tlv) → Fitting ts → tlvs (tlvs_octets ts) ≡ Some ts
unfolding tlvs_octets tlvs tlvs_from
tlvs-octets [] h = refl
tlvs-octets (t ∷ ts) h = tlv-octets t (tlvs_octets ts) h.0 h.1 ∙ ap (also t) (tlvs-octets ts h.2)

-- ---- the responses

code-small : (r : Response) → response_code r < 16
code-small (Error FormErr) = lit< tt
code-small (Error ServFail) = lit< tt
code-small (Error NotAuth) = lit< tt
code-small (Error DsoTypeNi) = lit< tt
code-small (Keepalive t) = lit< tt
code-small Subscribed = lit< tt

tlvs-fit : (r : Response) → Fitting (response_tlvs r)
unfolding octets
tlvs-fit (Error c) = (lit< tt, lit< tt, tt)
tlvs-fit (Keepalive t) = (lit< tt, lit< tt, tt)
tlvs-fit Subscribed = tt

response-short : (id : ℕ) (r : Response) → length (response id r) < 65536
unfolding response header tlvs_octets tlv_octets octets
response-short id (Error c) = lit< tt
response-short id (Keepalive t) = lit< tt
response-short id Subscribed = lit< tt

module _ (id : ℕ) (r : Response) where
  abbrev rest : List ℕ
  rest = tlvs_octets (response_tlvs r)

  flags-are : flags (response id r) ≡ response_flags (response_code r)
  unfolding response
  flags-are = header-flags id (response_flags (response_code r)) rest (omega (arith, code-small r))

  -- Each response, read by the definitions of a header and of TLVs, is the one that was meant: one theorem over its kind.
  reads-message : id < 65536 → ReadsMessage id r (response id r)
  unfolding response is_response opcode z_bits rcode
  reads-message h =
      let small = code-small r in
      record {
        same_id = header-id id (response_flags (response_code r)) rest h;
        is_answer = rw flags-are (le-leb 32768 (response_flags (response_code r)) (omega arith));
        of_dso = rw flags-are (omega arith);
        no_z = rw flags-are (omega arith);
        code = rw flags-are (omega arith);
        no_counts = header-no_records id (response_flags (response_code r)) rest;
        carried = rw (header-drop id (response_flags (response_code r)) rest) (tlvs-octets (response_tlvs r) (tlvs-fit r));
      }

  pub response-reads : id < 65536 → ReadsAs id r (response_octets id r)
  unfolding response_octets
  response-reads h =
      record {
        prefix = rw framed-message (framed-prefix (response id r) (response-short id r));
        message = rw framed-message (reads-message h);
      }

-- ---- writing

zeros : octets 8 0 ≡ 0 ∷ 0 ∷ 0 ∷ 0 ∷ 0 ∷ 0 ∷ 0 ∷ 0 ∷ []
unfolding octets
zeros = refl

-- The octets of a field of 16 and of 32 bits, one by one, as the library writes a number's bytes.
pub octets_16 : (n : ℕ) → octets 2 n ≡ n / 256 % 256 ∷ n % 256 ∷ []
unfolding octets
octets_16 n = let one : n / 1 ≡ n = omega arith in rw one

pub octets_32 : (n : ℕ) → octets 4 n ≡ n / 16777216 % 256 ∷ n / 65536 % 256 ∷ n / 256 % 256 ∷ n % 256 ∷ []
unfolding octets
octets_32 n = let one : n / 1 ≡ n = omega arith in rw one

pub header_octets : (id flags : ℕ) → header id flags ≡ id / 256 % 256 ∷ id % 256 ∷ flags / 256 % 256 ∷ flags % 256 ∷ 0 ∷ 0 ∷ 0 ∷ 0 ∷ 0 ∷ 0 ∷ 0 ∷ 0 ∷ []
unfolding header
header_octets id flags = rw (octets_16 id, octets_16 flags, zeros)

-- One write behind another.
pub sets_then : (o p q : List ℕ) (i n : ℕ) (a b : List ℕ) → length a ≡ n → p ≡ sets o i a → q ≡ sets p (i + n) b → q ≡ sets o i (a ++ b)
sets_then o p q i n a b l e f =
    f ∙ ap₂ (λ (x : List ℕ) (k : ℕ). sets x (i + k) b) e (sym l) ∙ sym (sets-append o i a b)

prefix-length : (n id fl : ℕ) → length (octets 2 n ++ header id fl) ≡ 14
unfolding header octets
prefix-length n id fl = refl

front_length : (m id fl k n : ℕ) → length ((octets 2 m ++ header id fl) ++ (octets 2 k ++ octets 2 n)) ≡ 18
unfolding header octets
front_length m id fl k n = refl

-- A response with one TLV: its prefix, its header, the TLV's type and length, and the TLV's data.
module _ (id : ℕ) (r : Response) (k n : ℕ) (v : List ℕ) (one : response_tlvs r ≡ record { kind = k; value = v } ∷ []) (size : length v ≡ n) where
  tail-is : tlvs_octets (response_tlvs r) ≡ octets 2 k ++ (octets 2 n ++ v)
  unfolding tlvs_octets tlv_octets
  tail-is = rw (one, size) (simp (append_assoc, append-nil))

  whole_length : length (response id r) ≡ 16 + n
  unfolding response
  whole_length =
      let tail-length : length (tlvs_octets (response_tlvs r)) ≡ 2 + (2 + n) = rw tail-is (simp (length-append, length-octets, size)) in
      omega (arith, header-length id (response_flags (response_code r)) (tlvs_octets (response_tlvs r)))

  body : response id r ≡ header id (response_flags (response_code r)) ++ (octets 2 k ++ (octets 2 n ++ v))
  unfolding response
  body = rw tail-is

  with-tlv : ((octets 2 (16 + n) ++ header id (response_flags (response_code r))) ++ (octets 2 k ++ octets 2 n)) ++ v ≡ response_octets id r
  unfolding response_octets framed
  with-tlv = rw whole_length (rw body (simp append_assoc))

  pub response-written : (o p q s : List ℕ) (fl kind : ℕ) → fl ≡ response_flags (response_code r) → kind ≡ k → p ≡ sets o 0 (octets 2 (16 + n) ++ header id fl) → q ≡ sets p 14 (octets 2 kind ++ octets 2 n)
      → s ≡ sets q 18 v → s ≡ sets o 0 (response_octets id r)
  response-written o p q s fl kind f is e g h =
      let a : List ℕ = octets 2 (16 + n) ++ header id fl in
      let front : q ≡ sets o 0 (a ++ (octets 2 k ++ octets 2 n)) = sets_then o p q 0 14 a (octets 2 k ++ octets 2 n) (prefix-length (16 + n) id fl) e (rw (← is) g) in
      let same : (a ++ (octets 2 k ++ octets 2 n)) ++ v ≡ response_octets id r = rw f with-tlv in
      sets_then o q s 0 18 (a ++ (octets 2 k ++ octets 2 n)) v (front_length (16 + n) id fl k n) front h ∙ ap (sets o 0) same

-- ---- each kind

pub timeouts-length : (t : Timeouts) → length (octets 4 t.inactivity ++ octets 4 t.keepalive) ≡ 8
unfolding octets
timeouts-length t = refl

-- How many octets each kind has, and those of an answer to a SUBSCRIBE: what `write_response` is proved by.
pub error-length : (id : ℕ) (c : ReplyCode) → length (response_octets id (Error c)) ≡ 22
unfolding response_octets framed response tlvs_octets tlv_octets header octets
error-length id c = refl

pub keepalive-length : (id : ℕ) (t : Timeouts) → length (response_octets id (Keepalive t)) ≡ 26
unfolding response_octets framed response tlvs_octets tlv_octets header octets
keepalive-length id t = refl

pub subscribed-length : (id : ℕ) → length (response_octets id Subscribed) ≡ 14
unfolding response_octets framed response tlvs_octets header octets
subscribed-length id = refl

pub subscribed-octets : (id : ℕ) → octets 2 12 ++ header id 0xB000 ≡ response_octets id Subscribed
unfolding response_octets framed response tlvs_octets header octets
subscribed-octets id = refl

pub ruleset kinds = (error-length, keepalive-length, subscribed-length, subscribed-octets)
