-- `script::verb::verb_of` meets its contract. Assumes nothing.
use Rattle.std.proofs.Common.{rules, tests, sym, ◌∙◌}
use Rattle.std.specs.Prelude.{[], ◌∷◌}
use Rattle.std.proofs.lemmas.Iterator.{YieldsList-from_slice}
use Rattle.std.proofs.lemmas.Iterator.Adapters.{option_map_id}
use Rattle.std.proofs.lemmas.Iterator.Consumers.{YieldsList-from_copied}
use Rattle.std.proofs.lemmas.Iterator.Search.{find_from_yields_List}
use Rattle.wire.specs.Name.{same_octets}
use Rattle.script.specs.Verb.{verb_text, verb_of}
use Rattle.script.specs.declared.verb.Verb.TheVariants.{Open, Close, Message, Batch, Tick}
use Rattle.script.proofs.verb.verb_of.Goals as goal

pub returns : goal.returns
unfolding verb_of
returns c =
    sym (option_map_id c.find.result)
    ∙ find_from_yields_List (λ v. same_octets c.args.s.now (verb_text v)) _ _ _ c.find.ensures.ran
    (YieldsList-from_copied (YieldsList-from_slice (Open ∷ Close ∷ Message ∷ Batch ∷ Tick ∷ []) cc)) (λ x b q k. search (rules, tests))
