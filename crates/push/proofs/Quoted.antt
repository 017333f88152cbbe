-- The theorem on the list of changes, to be quoted.
use Prim.Native.Nat.{ℕ, ◌≤◌}
use mathlib.Core.Path.{◌≡◌, ◌∙◌}
use mathlib.Core.Bool.{true}
use mathlib.Core.List.{List}
use lib.ListN.{length}
use Rattle.zone.specs.Record.{Record}
use Rattle.zone.specs.Match.{Subscription, view}
use Rattle.zone.specs.Batch.{max_edits, stored, batch_of}
use Rattle.zone.specs.Sound.{distinct}
use Rattle.zone.proofs.Edits.{distinct-batch}
use Rattle.push.specs.List.{changes}
use Rattle.push.specs.Measure.{Right, bytes}
use Rattle.push.proofs.Effects.{find-applied_all}
use Rattle.push.proofs.Arrive.{Between, views-between, changes-true, arrives_at, arrives}
use Rattle.push.proofs.Fewest.{fewest, shortest}
use Rattle.push.proofs.Few.{few-batch}

pub right-between : (store old new : List Record) → Between store old new → Right store old new
right-between store old new b = record {
  arrives = Rattle.push.proofs.Arrive.arrives store old new b;
  true_only = changes-true store old new b;
  brings = record {
    true_only = changes-true store old new b;
    arrives = λ k. find-applied_all k (changes store old new) old ∙ arrives_at store old new b k;
  };
  fewest = Rattle.push.proofs.Fewest.fewest store old new b;
  shortest = Rattle.push.proofs.Fewest.shortest store old new b;
}

-- For any two stores without a key twice, and any subscriptions.
pub right : (subs : List Subscription) (old new : List Record) → distinct old ≡ true → distinct new ≡ true
    → Right new (view subs old) (view subs new)
right subs old new d e = right-between new (view subs old) (view subs new) (views-between subs old new d e)

-- After a batch that is taken, for any session's subscriptions; and the list has at most as many changes as a batch may have
-- edits.
pub record AfterBatch (subs : List Subscription) (old new : List Record) : Type 0 where
  pub once : distinct new ≡ true
  pub right : Right new (view subs old) (view subs new)
  pub few : length (changes new (view subs old) (view subs new)) ≤ max_edits

pub after-batch : (zone bytes : List ℕ) (subs : List Subscription) (old new : List Record) → distinct old ≡ true
    → batch_of zone bytes old ≡ stored new → AfterBatch subs old new
after-batch zone bytes subs old new d e =
    let o : distinct new ≡ true = distinct-batch zone bytes old new e d in
    record { once = o; right = right subs old new d o; few = few-batch zone bytes subs old new d e }
