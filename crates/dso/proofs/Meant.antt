-- What a judgment says of the message's octets, read at their places in the message: for the layers above.
use Prim.Native.Nat.{ℕ}
use native.Mathlib.Omega.{arith}
use mathlib.Core.List.{List, ◌++◌, append_assoc}
use Rattle.std.specs.Prelude.{Some}
use mathlib.Core.Path.{◌≡◌, sym, ap, ◌∙◌}
use lib.ListN.{take, drop, take-append-drop}
use Rattle.wire.specs.Field.{field}
use Rattle.wire.specs.Name.{name_length}
use Rattle.wire.proofs.Fields.{field-append}
use Rattle.wire.proofs.Names.{name_length-front}
use Rattle.dso.specs.Header.{message_id}
use Rattle.dso.specs.Judge.{keepalive_type, subscribe_type, data_start, question, judgment}
use Rattle.dso.specs.Parts.{first_data, first_type, Sound}
use Rattle.dso.specs.declared.judgment.MessageId.{MessageId}
use Rattle.dso.specs.declared.judgment.QuestionPlaces.{QuestionPlaces}
use Rattle.dso.specs.declared.judgment.Judgment.{Judgment}
use Rattle.dso.specs.declared.judgment.Judgment.TheVariants.{NotOurs, Abort, Reply, Keepalive, Subscribe, Unsubscribe, Reconfirm}
use Rattle.dso.proofs.Judgments.{judgment-sound}

-- A SUBSCRIBE: the ID is the message's, a name stands at the data's place, and type and class behind it.
pub record Asking (m : List ℕ) (id : MessageId) (q : QuestionPlaces) : Type 0 where
  pub same_id : id.0 ≡ message_id m
  pub first : first_type m ≡ subscribe_type
  pub size : ℕ
  pub named : name_length (drop data_start m) ≡ Some size
  pub places : q ≡ question size

-- What is known of a message that is judged so. A reply with an error is to the message's own ID.
abbrev pub Meant : List ℕ → Judgment → Type 0
Meant m NotOurs = Unit {0}
Meant m Abort = Unit {0}
Meant m (Reply id code) = id.0 ≡ message_id m
Meant m (Keepalive id) = (id.0 ≡ message_id m) × (first_type m ≡ keepalive_type)
Meant m (Subscribe id q) = Asking m id q
Meant m (Unsubscribe id) = id.0 ≡ field 2 (drop data_start m)
Meant m (Reconfirm r) = Unit {0}

module _ (m : List ℕ) where
  abbrev size : ℕ
  size = field 2 (drop 14 m)

  -- A name at the front of the data is a name at the data's place in the message: what follows a name doesn't matter.
  named-there : (n : ℕ) → name_length (first_data m) ≡ Some n → name_length (drop data_start m) ≡ Some n
  named-there n e =
      let l = drop data_start m in
      ap name_length
      (sym (take-append-drop size l)
      ∙ ap (λ (x : List ℕ). x ++ drop size l) (sym (take-append-drop n (first_data m)))
      ∙ append_assoc (take n (first_data m)) (drop n (first_data m)) (drop size l))
      ∙ name_length-front (first_data m) n (drop n (first_data m) ++ drop size l) e

  meant-of : (j : Judgment) → Sound (message_id m) (first_type m) (first_data m) j → Meant m j
  meant-of NotOurs s = tt
  meant-of Abort s = tt
  meant-of (Reply id code) s = s.0
  meant-of (Keepalive id) s = (s.0, s.2)
  meant-of (Subscribe id q) s =
      record {
        same_id = s.0;
        first = s.3;
        size = s.2.n;
        named = named-there s.2.n s.2.named;
        places = s.2.places;
      }
  meant-of (Unsubscribe id) s =
      s.1 ∙ sym (field-append 2 (first_data m) (drop size (drop data_start m)) (omega (arith, s.2)))
      ∙ ap (field 2) (take-append-drop size (drop data_start m))
  meant-of (Reconfirm r) s = tt

-- Every judgment means what its message's octets say.
pub judgment-meant : (m : List ℕ) → Meant m (judgment m)
judgment-meant m = meant-of m (judgment m) (judgment-sound m)
