-- Laws of the three answers: none is ever 0, and the third from the second.
-- Assumes nothing.
use Prim.Native.Nat.{ℕ}
use Rattle.std.specs.Prelude.{Option, Some, None}
use native.Mathlib.Omega.{arith}
use Rattle.std.specs.Option.{option_eq}
use mathlib.Core.Path.{◌≡◌, refl, sym, ◌∙◌}
use mathlib.Core.Bool.{Bool, true, false, cond, ◌&&◌, beq}
use mathlib.Core.List.{List}
use lib.ListN.{length}
use lib.Dec.{ltb}
use borrow.Author.Tests.{eqb-false}
use Rattle.wire.specs.Name.{is_name, same_name}
use Rattle.dso.specs.Judge.{judgment}
use Rattle.dso.specs.Match.{asks_for}
use Rattle.dso.specs.declared.judgment.ReplyCode.{ReplyCode}
use Rattle.dso.specs.declared.judgment.ReplyCode.TheVariants.{FormErr, ServFail, NotAuth, DsoTypeNi}
use Rattle.dso.specs.declared.judgment.Judgment.{Judgment}
use Rattle.dso.specs.declared.judgment.Judgment.TheVariants.{NotOurs, Abort, Reply, Keepalive, Subscribe, Unsubscribe, Reconfirm}
use Rattle.weavemitten.specs.Questions.{reply_kind, kind_of, message_kind, answer, compared, answer_number, same_names, record_match}

-- ---- no answer is 0

reply_kind-nonzero : (code : ReplyCode) → reply_kind code ≡ 0 → ⊥
reply_kind-nonzero FormErr = eqb-false 42 0 refl
reply_kind-nonzero ServFail = eqb-false 42 0 refl
reply_kind-nonzero NotAuth = eqb-false 42 0 refl
reply_kind-nonzero DsoTypeNi = eqb-false 43 0 refl

kind_of-nonzero : (j : Judgment) → kind_of j ≡ 0 → ⊥
kind_of-nonzero NotOurs = eqb-false 40 0 refl
kind_of-nonzero Abort = eqb-false 41 0 refl
kind_of-nonzero (Reply id code) = reply_kind-nonzero code
kind_of-nonzero (Keepalive id) = eqb-false 44 0 refl
kind_of-nonzero (Subscribe id q) = eqb-false 45 0 refl
kind_of-nonzero (Unsubscribe id) = eqb-false 46 0 refl
kind_of-nonzero (Reconfirm r) = eqb-false 47 0 refl

-- One of two answers, neither of them 0.
either-nonzero : (t : Bool) (a b : ℕ) → (a ≡ 0 → ⊥) → (b ≡ 0 → ⊥) → cond t a b ≡ 0 → ⊥
either-nonzero true a b p q = p
either-nonzero false a b p q = q

named-nonzero : (t u : Bool) → answer t u ≡ 0 → ⊥
named-nonzero t u =
    either-nonzero t (cond u 1 2) 3
    (either-nonzero u 1 2 (eqb-false 1 0 refl) (eqb-false 2 0 refl)) (eqb-false 3 0 refl)

pub message_kind-nonzero : (m : List ℕ) → message_kind m ≡ 0 → ⊥
unfolding message_kind
message_kind-nonzero m = either-nonzero (ltb 65535 (length m)) 18 (kind_of (judgment m)) (eqb-false 18 0 refl) (kind_of-nonzero (judgment m))

pub same_names-nonzero : (a b : List ℕ) → same_names a b ≡ 0 → ⊥
unfolding same_names
same_names-nonzero a b = named-nonzero (is_name a && is_name b) (same_name a b)

pub record_match-nonzero : (qname : List ℕ) (qtype qclass : ℕ) (name : List ℕ) (rtype class : ℕ) → record_match qname qtype qclass name rtype class ≡ 0 → ⊥
unfolding record_match
record_match-nonzero qname qtype qclass name rtype class =
    named-nonzero (is_name qname && is_name name) (same_name qname name && asks_for qtype qclass rtype class)

-- ---- the code's answers

answer_numbered : (named holds : Bool) → answer_number (cond named (Some holds) None) ≡ answer named holds
answer_numbered true holds = refl
answer_numbered false holds = refl

pub same_names_compared : (a b : List ℕ) → answer_number (compared a b) ≡ same_names a b
unfolding same_names
same_names_compared a b = answer_numbered (is_name a && is_name b) (same_name a b)

-- The third answer: where the names are the same, the type and class decide.
matched : (named same asks : Bool) → option_eq beq (cond named (Some same) None) (Some true) ≡ true → cond asks 1 2 ≡ answer named (same && asks)
matched true true asks e = refl
matched true false asks e = absurd (let z : ◌≡◌ {A = ℕ} 0 1 = cc in omega arith)
matched false same asks e = absurd (let z : ◌≡◌ {A = ℕ} 0 1 = cc in omega arith)

unmatched : (named same asks : Bool) → option_eq beq (cond named (Some same) None) (Some true) ≡ false
    → answer_number (cond named (Some same) None) ≡ answer named (same && asks)
unmatched true true asks e = absurd (let z : ◌≡◌ {A = ℕ} 0 1 = cc in omega arith)
unmatched true false asks e = refl
unmatched false same asks e = refl

module _ (qname : List ℕ) (qtype qclass : ℕ) (name : List ℕ) (rtype class : ℕ) (r : Option Bool) (e : r ≡ compared qname name) (b : Bool) (f : b ≡ option_eq beq r (Some true)) where
  pub match_same : b ≡ true → cond (asks_for qtype qclass rtype class) 1 2 ≡ record_match qname qtype qclass name rtype class
  unfolding record_match
  match_same h = matched (is_name qname && is_name name) (same_name qname name) (asks_for qtype qclass rtype class) (rw (← e) (sym f ∙ h))

  pub match_other : b ≡ false → answer_number r ≡ record_match qname qtype qclass name rtype class
  unfolding record_match
  match_other h = rw e (unmatched (is_name qname && is_name name) (same_name qname name) (asks_for qtype qclass rtype class) (rw (← e) (sym f ∙ h)))
