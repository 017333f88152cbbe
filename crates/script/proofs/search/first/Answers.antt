-- `script::search::first` meets its contract. Assumes nothing.
use Rattle.std.proofs.Common.{rules, tests, eqb}
use Rattle.std.proofs.lemmas.Iterator.{YieldsList-from_slice}
use Rattle.std.proofs.lemmas.Iterator.Search.{position_from_yields_List}
use Rattle.script.proofs.Searching.{first-found}
use Rattle.script.proofs.search.first.Goals as goal

pub returns : goal.returns
returns c =
    let s = c.args.s.now in
    let x = c.args.octet in
    first-found x s _ (position_from_yields_List (λ b. eqb b x) _ _ _ c.position.ensures.ran (YieldsList-from_slice s cc) (λ y b q k. search (rules, tests)))
