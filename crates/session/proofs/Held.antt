-- Laws of a list of subscriptions: which IDs it holds as it grows and shrinks, and what of a question and of a record counts.
use Prim.Native.Nat.{ℕ, ◌≤◌}
use mathlib.Core.Path.{◌≡◌, refl, sym, ap, ◌∙◌}
use mathlib.Core.Bool.{Bool, false, not, ◌&&◌, ◌||◌, or-false, not-and_self}
use mathlib.Core.List.{List, [], ◌∷◌, ◌++◌}
use lib.ListN.{length}
use lib.Dec.{eqb}
use Rattle.zone.specs.Lists.{any_of}
use Rattle.zone.specs.Record.{Record}
use Rattle.zone.specs.Match.{Subscription, matches_key, wanted}
use Rattle.zone.proofs.Lists.{any_of-append, any_of-keep, keep_all, length-keep, not-any_of}
use Rattle.session.specs.Subscriptions.{uses_id, asks_already, without}
use Rattle.session.specs.Table.{subscription, record_asked}

-- Which ID a question has doesn't count, nor what RDATA and TTL a record has.
pub asks_already-parts : (s : Subscription) (subs : List Subscription)
    → asks_already s subs ≡ asks_already (subscription 0 s.owner s.rrtype s.rrclass) subs
unfolding asks_already
asks_already-parts s subs = refl

pub wanted-parts : (subs : List Subscription) (r : Record) → wanted subs r ≡ wanted subs (record_asked r.owner r.rrtype r.rrclass)
unfolding matches_key
wanted-parts subs r = refl

pub uses_id-append : (id : ℕ) (subs : List Subscription) (s : Subscription) → uses_id id (subs ++ (s ∷ [])) ≡ uses_id id subs || eqb s.id id
unfolding uses_id
uses_id-append id subs s =
    any_of-append (λ (x : Subscription). eqb x.id id) subs (s ∷ []) ∙ ap (λ (b : Bool). uses_id id subs || b) (or-false (eqb s.id id))

any_of-never : (p : Subscription → Bool) (subs : List Subscription) → ((s : Subscription) → p s ≡ false) → any_of p subs ≡ false
any_of-never p [] h = refl
any_of-never p (s ∷ subs) h = ap (λ (b : Bool). b || any_of p subs) (h s) ∙ any_of-never p subs h

pub uses_id-without : (id : ℕ) (subs : List Subscription) → uses_id id (without id subs) ≡ false
unfolding uses_id without
uses_id-without id subs =
    any_of-keep (λ (s : Subscription). eqb s.id id) (λ (s : Subscription). not (eqb s.id id)) subs
    ∙ any_of-never (λ (s : Subscription). not (eqb s.id id) && eqb s.id id) subs (λ s. not-and_self (eqb s.id id))

pub without-unused : (id : ℕ) (subs : List Subscription) → uses_id id subs ≡ false → without id subs ≡ subs
unfolding uses_id without
without-unused id subs h =
    keep_all (λ (s : Subscription). not (eqb s.id id)) subs
    (sym (not-any_of (λ (s : Subscription). eqb s.id id) subs) ∙ ap not h)

pub length_without : (id : ℕ) (subs : List Subscription) → length (without id subs) ≤ length subs
unfolding without
length_without id subs = length-keep (λ (s : Subscription). not (eqb s.id id)) subs
