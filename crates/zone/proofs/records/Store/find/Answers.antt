-- `zone::records::Store::find` meets its contract. Assumes nothing.
use mathlib.Core.Path.{◌≡◌}
use mathlib.Core.Bool.{true, false}
use Rattle.std.proofs.Common.{rules, tests}
use Rattle.std.proofs.lemmas.Iterator.{first_from_Range}
use Rattle.zone.specs.Table.{key_in}
use Rattle.zone.specs.Update.{keyed}
use Rattle.zone.proofs.Memory.{found}
use Rattle.zone.proofs.records.Store.find.Goals as goal

pub returns : goal.returns
returns c =
    let k = key_in c.args.key in
    let a = c.args.self.area.now in
    found k a c.args.self.count c.len.result c.find.result c.len.ensures
    (first_from_Range _ _ _ _ (λ i. keyed a i k ≡ true) (λ i. keyed a i k ≡ false) c.find.ensures.ran
    (λ x q h. search (rules, tests))
    (λ x q h. (search rules, search (rules, tests))))
