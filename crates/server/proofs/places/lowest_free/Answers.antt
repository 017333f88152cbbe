-- `server::places::lowest_free` meets its contract: the first place that is free. Assumes nothing.
use Rattle.std.proofs.Common.{ℕ, Bool, refl, sym, rules, tests, arith, ◌∙◌}
use Rattle.std.proofs.lemmas.Iterator.{YieldsList-from_range}
use Rattle.std.proofs.lemmas.Iterator.Adapters.{option_map_id}
use Rattle.std.proofs.lemmas.Iterator.Search.{find_from_yields_List}
use Rattle.service.specs.State.{slot_at}
use Rattle.service.specs.Checks.{is_free}
use Rattle.server.specs.Memory.{state_of}
use Rattle.server.proofs.Vacancies.{lowest-found}
use Rattle.server.proofs.places.lowest_free.Goals as goal

pub returns : goal.returns
returns c m =
    let s = c.args.server in
    let free_at : ℕ → Bool = λ i. is_free (slot_at (state_of s m) i) in
    let found = find_from_yields_List free_at _ _ c.find.result c.find.ensures.ran (YieldsList-from_range 0 4 4 refl refl) (λ x b q k. search (rules, tests)) in
    lowest-found s m _ (grind arith ∙ sym (option_map_id c.find.result) ∙ found)
