-- `all_silent`: each note is tested, as the definition does.
use Rattle.std.proofs.Common.{rules, tests, ◌∙◌}
use Rattle.std.proofs.lemmas.Iterator.{YieldsList-from_slice}
use Rattle.std.proofs.lemmas.Iterator.Search.{all_from_yields_List}
use Rattle.transcript.specs.Lines.{is_quiet}
use Rattle.transcript.proofs.Noting.{all_quiet_list}
use Rattle.transcript.proofs.note.all_silent.Goals as goal

pub returns : goal.returns
returns c =
    all_from_yields_List is_quiet _ _ _ c.all.ensures.ran (YieldsList-from_slice c.args.notes.now cc) (λ x b q k. search (rules, tests))
    ∙ all_quiet_list c.args.notes.now
