-- What holds of a judgment, and where the parts of a SUBSCRIBE and of a RECONFIRM stand in the message.
use Rattle.std.specs.Prelude.{ℕ, ◌+◌, ◌≤◌, ◌≡◌, true, Some, List, length, take, drop}
use Rattle.wire.specs.Field.{field}
use Rattle.wire.specs.Name.{name_length, is_name}
use Rattle.dso.specs.Header.{header_length, message_id}
use Rattle.dso.specs.Judge.{keepalive_type, subscribe_type, data_start, question, disputed}
use Rattle.dso.specs.declared.judgment.MessageId.{MessageId}
use Rattle.dso.specs.declared.judgment.QuestionPlaces.{QuestionPlaces}
use Rattle.dso.specs.declared.judgment.RecordPlaces.{RecordPlaces}
use Rattle.dso.specs.declared.judgment.ReplyCode.{ReplyCode}
use Rattle.dso.specs.declared.judgment.ReplyCode.TheVariants.{FormErr, ServFail, NotAuth, DsoTypeNi}
use Rattle.dso.specs.declared.judgment.Judgment.{Judgment}
use Rattle.dso.specs.declared.judgment.Judgment.TheVariants.{NotOurs, Abort, Reply, Keepalive, Subscribe, Unsubscribe, Reconfirm}

-- The data of a message's first TLV, by its own length.
abbrev pub first_data : List ℕ → List ℕ
first_data m = take (field 2 (drop 14 m)) (drop data_start m)

-- The codes that a message's octets alone can lead to.
abbrev pub FromOctets : ReplyCode → Type 0
FromOctets FormErr = Unit {0}
FromOctets ServFail = ⊥
FromOctets NotAuth = ⊥
FromOctets DsoTypeNi = Unit {0}

-- A SUBSCRIBE's data v: a name of n octets, a type and a class, and its places in the message.
pub record Asks (v : List ℕ) (q : QuestionPlaces) : Type 0 where
  pub n : ℕ
  pub named : name_length v ≡ Some n
  pub size : length v ≡ n + 4
  pub places : q ≡ question n

-- A RECONFIRM's data v: a name of n octets, a type, a class and RDATA, and their places.
pub record Disputes (v : List ℕ) (r : RecordPlaces) : Type 0 where
  pub n : ℕ
  pub named : name_length v ≡ Some n
  pub size : n + 4 ≤ length v
  pub places : r ≡ disputed n (length v)

-- The type of a message's first TLV.
abbrev pub first_type : List ℕ → ℕ
first_type m = field 2 (drop header_length m)

-- What holds of a judgment of a message with an ID, whose first TLV has the type k and the data v: what is answered carries the
-- message's ID, which is not zero, and what needs no answer came with ID zero.
abbrev pub Sound : ℕ → ℕ → List ℕ → Judgment → Type 0
Sound id k v NotOurs = Unit {0}
Sound id k v Abort = Unit {0}
Sound id k v (Reply i code) = (i.0 ≡ id) × (id ≡ 0 → ⊥) × FromOctets code
Sound id k v (Keepalive i) = (i.0 ≡ id) × (id ≡ 0 → ⊥) × (k ≡ keepalive_type)
Sound id k v (Subscribe i q) = (i.0 ≡ id) × (id ≡ 0 → ⊥) × Asks v q × (k ≡ subscribe_type)
Sound id k v (Unsubscribe i) = (id ≡ 0) × (i.0 ≡ field 2 v) × (length v ≡ 2)
Sound id k v (Reconfirm r) = (id ≡ 0) × Disputes v r

-- The parts of a SUBSCRIBE in its message: its name stands there whole, and its type and class behind it.
pub record SubscribeParts (m : List ℕ) (i : MessageId) (q : QuestionPlaces) : Type 0 where
  pub n : ℕ
  pub id : i.0 ≡ message_id m
  pub answered : i.0 ≡ 0 → ⊥
  pub places : q ≡ question n
  pub name : is_name (take n (drop data_start m)) ≡ true
  pub room : data_start + n + 4 ≤ length m

-- The parts of a RECONFIRM in its message: d octets of data, a name, type and class in front, and the rest RDATA.
pub record ReconfirmParts (m : List ℕ) (r : RecordPlaces) : Type 0 where
  pub n : ℕ
  pub d : ℕ
  pub places : r ≡ disputed n d
  pub name : is_name (take n (drop data_start m)) ≡ true
  pub inside : n + 4 ≤ d
  pub room : data_start + d ≤ length m
