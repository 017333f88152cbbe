-- Laws of SUBSCRIBE: what each admission leads to.
use Prim.Native.Nat.{ℕ, ◌+◌, ◌≤◌}
use native.Mathlib.Omega.{arith}
use mathlib.Core.Bool.{Bool, true, false, cond, not}
use mathlib.Core.List.{List, [], ◌∷◌, ◌++◌}
use mathlib.Core.Path.{◌≡◌, refl, sym, ap, ap₂, ◌∙◌}
use lib.ListN.{length, length-append}
use lib.Seq.{sets}
use Rattle.wire.specs.Name.{within, max_name}
use Rattle.dso.specs.Response.{response_octets}
use Rattle.dso.specs.declared.judgment.ReplyCode.TheVariants.{ServFail, NotAuth}
use Rattle.dso.specs.declared.response.Response.TheVariants.{Error, Subscribed}
use Rattle.zone.specs.Lists.{keep}
use Rattle.zone.specs.Record.{Record}
use Rattle.zone.specs.Match.{Subscription, matches, matches_key}
use Rattle.push.specs.List.{additions}
use Rattle.push.specs.Octets.{push_of}
use Rattle.session.specs.Subscriptions.{uses_id, asks_already, is_full}
use Rattle.session.specs.Table.{subscription}
use Rattle.session.proofs.Changes.{written_then, appended_one}
use Rattle.service.specs.State.{Session}
use Rattle.service.specs.Message.{Effect as Meant, abort, reply, with_subscriptions, subscribed}
use Rattle.receive.specs.Effect.{Writes}
use Rattle.receive.specs.Subscribe.{admits, admission, accepted, accepting, admitting}

-- ---- an accepted one

-- Which ID a subscription has doesn't count for what it matches.
abbrev first : List Record → List ℕ → ℕ → ℕ → List ℕ
first store name rrtype rrclass = push_of (additions (keep (matches (subscription 0 name rrtype rrclass)) store))

accepted-parts : (store : List Record) (id : ℕ) (name : List ℕ) (rrtype rrclass : ℕ)
    → accepted store (subscription id name rrtype rrclass) ≡ response_octets id Subscribed ++ first store name rrtype rrclass
unfolding accepted matches_key
accepted-parts store id name rrtype rrclass = refl

module _ (store : List Record) (id : ℕ) (name : List ℕ) (rrtype rrclass : ℕ) (o p q : List ℕ) (n k : ℕ)
    (e : n ≡ length (response_octets id Subscribed)) (f : p ≡ sets o 0 (response_octets id Subscribed))
    (g : k ≡ length (first store name rrtype rrclass)) (h : q ≡ sets p n (first store name rrtype rrclass)) where
  abbrev response : List ℕ
  response = response_octets id Subscribed

  abbrev push : List ℕ
  push = first store name rrtype rrclass

  abbrev sub : Subscription
  sub = subscription id name rrtype rrclass

  -- The response and the PUSH behind it.
  pub accepted-written : Writes (accepted store sub) (n + k) o q
  accepted-written = record {
    counted = ap₂ ◌+◌ e g ∙ sym (ap length (accepted-parts store id name rrtype rrclass) ∙ length-append response push);
    written = written_then o p q 0 n response push f h (omega arith)
        ∙ ap (sets o 0) (sym (accepted-parts store id name rrtype rrclass));
  }

-- ---- by the admission

module _ (zone : List ℕ) (store : List Record) (sub : Subscription) (s : Session) (short : length sub.owner ≤ max_name) where
  abbrev by_tests : Bool → Bool → Bool → Bool → Meant
  by_tests a b c d =
      cond a abort
      (cond (not b) (reply s (response_octets sub.id (Error NotAuth)))
      (cond c abort
      (cond d (reply s (response_octets sub.id (Error ServFail)))
      (reply (with_subscriptions (s.subscriptions ++ (sub ∷ [])) s)
      (response_octets sub.id Subscribed ++ push_of (additions (keep (matches sub) store)))))))

  same : (a b c d : Bool) → is_full s.subscriptions ≡ d → by_tests a b c d ≡ admitting (admits a b c d) store sub s
  unfolding accepting accepted
  same true b c d e = refl
  same false false c d e = refl
  same false true true d e = refl
  same false true false true e = refl
  same false true false false e =
      ap (λ (l : List Subscription). reply (with_subscriptions l s) (accepted store sub)) (sym (appended_one sub s.subscriptions e short))

  pub subscribed_admitted : subscribed zone store sub s ≡ admitting (admission zone sub s.subscriptions) store sub s
  unfolding subscribed admission
  subscribed_admitted =
      same (uses_id sub.id s.subscriptions) (within zone sub.owner) (asks_already sub s.subscriptions) (is_full s.subscriptions) refl
