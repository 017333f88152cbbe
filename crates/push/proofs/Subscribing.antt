-- One subscription more: the records that it matches, added in store order, give the larger view. (One fewer is `view-fewer`
-- of the zone.)
use Prim.Native.Nat.{ℕ}
use mathlib.Core.Path.{◌≡◌, refl, sym, ap, ◌∙◌}
use mathlib.Core.Bool.{Bool, true, false, cond, ◌||◌}
use mathlib.Core.List.{List, [], ◌∷◌, ◌++◌, map}
use mathlib.Core.Option.{Option, none, some}
use Rattle.zone.specs.Lists.{keep}
use Rattle.zone.specs.Record.{Record, Key}
use Rattle.zone.specs.Store.{find}
use Rattle.zone.specs.Match.{Subscription, matches_key, matches, view}
use Rattle.zone.specs.Sound.{distinct, Exactly}
use Rattle.zone.proofs.Stores.{or_else, or_else-none, find-keep, distinct-keep}
use Rattle.zone.proofs.Views.{wanted_key, wanted_key-more, find-view}
use Rattle.push.specs.Change.{addition, applied_all}
use Rattle.push.specs.List.{additions}
use Rattle.push.proofs.Effects.{find-applied_all, acts-additions, distinct-applied_all}

pub view-more : (subs : List Subscription) (s : Subscription) (store client : List Record) → distinct store ≡ true
    → Exactly client (view subs store)
    → Exactly (applied_all (additions (keep (matches s) store)) client) (view (subs ++ (s ∷ [])) store)
unfolding additions
view-more subs s store client d x = record {
  once = distinct-applied_all (map addition matching) client x.once;
  same = λ k. find-applied_all k (map addition matching) client
      ∙ acts-additions k matching (find k client) (distinct-keep (matches s) store d)
      ∙ rw (find-keep (matches_key s) k store, x.same k, find-view k subs store) (go k (matches_key s k) (wanted_key subs k) (find k store))
      ∙ ap (λ (b : Bool). cond b (find k store) none) (sym (wanted_key-more subs s k))
      ∙ sym (find-view k (subs ++ (s ∷ [])) store);
}
  where
    matching : List Record
    matching = keep (matches s) store

    go : (k : Key) (a b : Bool) (o : Option ℕ) → or_else (cond a o none) (cond b o none) ≡ cond (b || a) o none
    go k true true none = refl
    go k true true (some t) = refl
    go k true false o = or_else-none o
    go k false true o = refl
    go k false false o = refl
