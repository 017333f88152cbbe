-- What holds of a judgment, whatever the message: whose ID it carries, that only what has an ID is answered, with no error
-- but FORMERR and DSOTYPENI, and where the parts of a SUBSCRIBE and of a RECONFIRM stand in the message.
-- Assumes nothing.
use Prim.Native.Nat.{ℕ, ◌+◌, ◌-◌, ◌≤◌}
use native.Mathlib.Omega.{arith}
use mathlib.Core.Path.{◌≡◌, refl, sym, ap, subst, subst⁻¹, ◌∙◌}
use mathlib.Core.Bool.{Bool, true, false, cond, not, ◌||◌}
use mathlib.Core.List.{List}
use Rattle.std.specs.Prelude.{Option, None, Some}
use lib.ListN.{length, take, drop, length-take, length-drop}
use lib.Seq.{take-take}
use lib.Dec.{eqb, ltb}
use borrow.Author.Tests.{eqb-true, eqb-false, ltb-false}
use Rattle.wire.specs.Field.{field}
use Rattle.wire.specs.Name.{name_length, is_name}
use Rattle.wire.proofs.Names.{is_name-take}
use Rattle.dso.specs.Header.{message_id, opcode, is_response}
use Rattle.dso.specs.Judge.{Opening, Opening.settled, Opening.primary, mid, bad_form, form_of, opening, request, unidirectional, keepalive, question, asks, subscribe, unsubscribe, disputed, disputes, reconfirm, by_type, concluded, judgment}
use Rattle.dso.proofs.Openings.{Formed, Formed.ill, Formed.well, formed, first_kind, first-data}
use Rattle.dso.specs.Parts.{first_data, first_type, Sound, SubscribeParts, ReconfirmParts}
use Rattle.dso.specs.declared.judgment.MessageId.{MessageId}
use Rattle.dso.specs.declared.judgment.QuestionPlaces.{QuestionPlaces}
use Rattle.dso.specs.declared.judgment.RecordPlaces.{RecordPlaces}
use Rattle.dso.specs.declared.judgment.ReplyCode.TheVariants.{FormErr, DsoTypeNi}
use Rattle.dso.specs.declared.judgment.Judgment.{Judgment}
use Rattle.dso.specs.declared.judgment.Judgment.TheVariants.{NotOurs, Abort, Reply, Keepalive, Subscribe, Unsubscribe, Reconfirm}

-- What steps 1 to 3 settle.
abbrev Settles : ℕ → ℕ → List ℕ → Opening → Type 0
Settles id k v (settled j) = Sound id k v j
Settles id k v (primary t) = (t.kind ≡ k) × (t.value ≡ v)

either : {A : Type 0} (P : A → Type 0) (t : Bool) (a b : A) → (t ≡ true → P a) → (t ≡ false → P b) → P (cond t a b)
either P true a b p q = p refl
either P false a b p q = q refl

module _ (id k : ℕ) (v : List ℕ) where
  with-id : (j : Judgment) → ((id ≡ 0 → ⊥) → Sound id k v j) → Sound id k v (request id j)
  with-id j p = either (Sound id k v) (eqb id 0) Abort j (λ e. tt) (λ e. p (eqb-false id 0 e))

  with_none : (j : Judgment) → (id ≡ 0 → Sound id k v j) → Sound id k v (unidirectional id j)
  with_none j p = either (Sound id k v) (eqb id 0) j Abort (λ e. p (eqb-true id 0 e)) (λ e. tt)

  bad_form-sound : Sound id k v (bad_form id)
  unfolding bad_form
  bad_form-sound = with-id (Reply (mid id) FormErr) (λ h. (refl, h, tt))

  keepalive-sound : k ≡ 1 → (id ≡ 0 → ⊥) → Sound id k v (keepalive id v)
  unfolding keepalive
  keepalive-sound is h =
      either (Sound id k v) (eqb (length v) 8) (Keepalive (mid id)) (Reply (mid id) FormErr) (λ e. (refl, h, is)) (λ e. (refl, h, tt))

  asks-sound : (o : Option ℕ) → name_length v ≡ o → k ≡ 0x40 → (id ≡ 0 → ⊥) → Sound id k v (asks id (length v) o)
  asks-sound None e is h = (refl, h, tt)
  asks-sound (Some n) e is h =
      either (Sound id k v) (eqb (length v) (n + 4)) (Subscribe (mid id) (question n)) (Reply (mid id) FormErr)
      (λ d. (refl, h, record { n = n; named = e; size = eqb-true (length v) (n + 4) d; places = refl }, is))
      (λ d. (refl, h, tt))

  unsubscribe-sound : id ≡ 0 → Sound id k v (unsubscribe v)
  unfolding unsubscribe
  unsubscribe-sound h =
      either (Sound id k v) (eqb (length v) 2) (Unsubscribe (mid (field 2 v))) Abort
      (λ e. (h, refl, eqb-true (length v) 2 e)) (λ e. tt)

  disputes-sound : (o : Option ℕ) → name_length v ≡ o → id ≡ 0 → Sound id k v (disputes v o)
  disputes-sound None e h = tt
  disputes-sound (Some n) e h =
      let all : Bool = eqb (field 2 (drop n v)) 255 || eqb (field 2 (drop (n + 2) v)) 255 in
      let r : Judgment = Reconfirm (disputed n (length v)) in
      either (Sound id k v) (ltb (length v) (n + 4)) Abort (cond all Abort r) (λ d. tt)
      (λ d. either (Sound id k v) all Abort r (λ f. tt)
      (λ f. (h, record { n = n; named = e; size = ltb-false (length v) (n + 4) d; places = refl })))

  by_type-sound : Sound id k v (by_type id k v)
  unfolding by_type subscribe reconfirm
  by_type-sound =
      let other : Judgment = request id (Reply (mid id) DsoTypeNi) in
      let four : Judgment = cond (eqb k 0x43) (unidirectional id (reconfirm v)) other in
      let three : Judgment = cond (eqb k 0x42) (unidirectional id (unsubscribe v)) four in
      let two : Judgment = cond (eqb k 0x40) (request id (subscribe id v)) three in
      let one : Judgment = cond (eqb k 1) (request id (keepalive id v)) two in
      either (Sound id k v) (eqb k 2 || eqb k 0x41) Abort one (λ e. tt)
      (λ e. either (Sound id k v) (eqb k 1) (request id (keepalive id v)) two (λ d. with-id (keepalive id v) (keepalive-sound (eqb-true k 1 d)))
      (λ e. either (Sound id k v) (eqb k 0x40) (request id (subscribe id v)) three (λ d. with-id (subscribe id v) (asks-sound (name_length v) refl (eqb-true k 0x40 d)))
      (λ e. either (Sound id k v) (eqb k 0x42) (unidirectional id (unsubscribe v)) four (λ d. with_none (unsubscribe v) unsubscribe-sound)
      (λ e. either (Sound id k v) (eqb k 0x43) (unidirectional id (reconfirm v)) other (λ d. with_none (reconfirm v) (disputes-sound (name_length v) refl))
      (λ e. with-id (Reply (mid id) DsoTypeNi) (λ h. (refl, h, tt)))))))

  concluded-sound : (o : Opening) → Settles id k v o → Sound id k v (concluded id o)
  concluded-sound (settled j) h = h
  concluded-sound (primary t) h = rw (h.0, h.1) by_type-sound

form_of-settles : (m : List ℕ) → Formed m → Settles (message_id m) (first_type m) (first_data m) (form_of m)
form_of-settles m (well t e f) = subst⁻¹ (Settles (message_id m) (first_type m) (first_data m)) f (first_kind m t e, first-data m t e)
form_of-settles m (ill f) = subst⁻¹ (Settles (message_id m) (first_type m) (first_data m)) f (bad_form-sound (message_id m) (first_type m) (first_data m))

opening-settles : (m : List ℕ) → Settles (message_id m) (first_type m) (first_data m) (opening m)
unfolding opening
opening-settles m =
    let P : Opening → Type 0 = Settles (message_id m) (first_type m) (first_data m) in
    let form : Opening = cond (is_response m) (settled Abort) (form_of m) in
    let ours : Opening = cond (not (eqb (opcode m) 6)) (settled NotOurs) form in
    either P (ltb (length m) 12) (settled Abort) ours (λ e. tt)
    (λ e. either P (not (eqb (opcode m) 6)) (settled NotOurs) form (λ d. tt)
    (λ e. either P (is_response m) (settled Abort) (form_of m) (λ d. tt) (λ d. form_of-settles m (formed m))))

-- Whatever a message is judged to be.
pub judgment-sound : (m : List ℕ) → Sound (message_id m) (first_type m) (first_data m) (judgment m)
unfolding judgment
judgment-sound m = concluded-sound (message_id m) (first_type m) (first_data m) (opening m) (opening-settles m)

-- ---- the parts in the message

module _ (m : List ℕ) (n : ℕ) (named : name_length (first_data m) ≡ Some n) (size : n + 4 ≤ length (first_data m)) where
  shorter : length (first_data m) ≤ field 2 (drop 14 m)
  shorter = simp length-take (omega arith)

  data-room : 16 + length (first_data m) ≤ length m
  data-room =
      let inside : length (first_data m) ≤ length m - 16 = simp (length-take, length-drop) (omega arith) in
      omega arith

  name-there : is_name (take n (drop 16 m)) ≡ true
  name-there = ap is_name (sym (take-take n (field 2 (drop 14 m)) (drop 16 m) (omega (arith, shorter)))) ∙ is_name-take (first_data m) n named

pub subscribe-parts : (m : List ℕ) (i : MessageId) (q : QuestionPlaces) → judgment m ≡ Subscribe i q → SubscribeParts m i q
subscribe-parts m i q e =
    let s : Sound (message_id m) (first_type m) (first_data m) (Subscribe i q) = subst (Sound (message_id m) (first_type m) (first_data m)) e (judgment-sound m) in
    let a = s.2 in
    let size : a.n + 4 ≤ length (first_data m) = omega (arith, a.size) in
    record {
      n = a.n;
      id = s.0;
      answered = λ z. s.1 (sym s.0 ∙ z);
      places = a.places;
      name = name-there m a.n a.named size;
      room = omega (arith, a.size, data-room m a.n a.named size);
    }

pub reconfirm-parts : (m : List ℕ) (r : RecordPlaces) → judgment m ≡ Reconfirm r → ReconfirmParts m r
reconfirm-parts m r e =
    let s : Sound (message_id m) (first_type m) (first_data m) (Reconfirm r) = subst (Sound (message_id m) (first_type m) (first_data m)) e (judgment-sound m) in
    let a = s.1 in
    record {
      n = a.n;
      d = length (first_data m);
      places = a.places;
      name = name-there m a.n a.named a.size;
      inside = a.size;
      room = data-room m a.n a.named a.size;
    }
