-- The answers to the host's C program (01, "What the host's C program asks").
use Rattle.std.specs.Prelude.{ℕ, Bool, cond, Option, Some, None, ◌&&◌, List, length, ltb}
use Rattle.wire.specs.Name.{is_name, same_name}
use Rattle.dso.specs.Judge.{judgment}
use Rattle.dso.specs.Match.{asks_for}
use Rattle.dso.specs.declared.judgment.ReplyCode.{ReplyCode}
use Rattle.dso.specs.declared.judgment.ReplyCode.TheVariants.{FormErr, ServFail, NotAuth, DsoTypeNi}
use Rattle.dso.specs.declared.judgment.Judgment.{Judgment}
use Rattle.dso.specs.declared.judgment.Judgment.TheVariants.{NotOurs, Abort, Reply, Keepalive, Subscribe, Unsubscribe, Reconfirm}

-- "42 FORMERR, 43 DSOTYPENI". A message's bytes alone lead to no other code (`judgment-sound` of dso).
abbrev pub reply_kind : ReplyCode → ℕ
reply_kind FormErr = 42
reply_kind ServFail = 42
reply_kind NotAuth = 42
reply_kind DsoTypeNi = 43

-- "40 not ours, 41 abort, 42 FORMERR, 43 DSOTYPENI, 44 keepalive, 45 subscribe, 46 unsubscribe, 47 reconfirm".
abbrev pub kind_of : Judgment → ℕ
kind_of NotOurs = 40
kind_of Abort = 41
kind_of (Reply id code) = reply_kind code
kind_of (Keepalive id) = 44
kind_of (Subscribe id question) = 45
kind_of (Unsubscribe id) = 46
kind_of (Reconfirm places) = 47

-- "over 65,535 bytes: 18".
abbrev pub max_message : ℕ
max_message = 65535

-- "First, what kind of message by its bytes alone".
unfoldable pub message_kind : List ℕ → ℕ
message_kind m = cond (ltb max_message (length m)) 18 (kind_of (judgment m))

-- "1 yes, 2 no, 3 one is no name": whether both are names, and whether the answer is yes.
abbrev pub answer : Bool → Bool → ℕ
answer named holds = cond named (cond holds 1 2) 3

-- Whether two names are the same name, where both are names; and the number of such an answer.
abbrev pub compared : List ℕ → List ℕ → Option Bool
compared a b = cond (is_name a && is_name b) (Some (same_name a b)) None

abbrev pub answer_number : Option Bool → ℕ
answer_number None = 3
answer_number (Some holds) = cond holds 1 2

-- "Second, whether two whole names are the same name". A name with bytes behind it is no name.
unfoldable pub same_names : List ℕ → List ℕ → ℕ
same_names a b = answer (is_name a && is_name b) (same_name a b)

-- "Third, whether a subscription's name, type and class match a record's". RFC 8765, 2: "name comparisons are done in a
-- case-insensitive manner, and a record of type CNAME in a zone matches any DNS TYPE in a query or subscription".
unfoldable pub record_match : List ℕ → ℕ → ℕ → List ℕ → ℕ → ℕ → ℕ
record_match qname qtype qclass name rtype class =
    answer (is_name qname && is_name name) (same_name qname name && asks_for qtype qclass rtype class)
