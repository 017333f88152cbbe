-- `dso::tlv::tlvs_fill` meets its contract: each step of the reader in turn.
use Rattle.std.proofs.Common.{rules, tests}
use mathlib.Core.Path.{refl}
use Rattle.dso.proofs.Tlvs.{all-fill}
use Rattle.dso.proofs.tlv.tlvs_fill.Goals as goal

pub returns : goal.returns
returns c =
    let ran = c.all.ensures.ran in
    all-fill _ _ (λ x b q k. search (rules, tests)) _ _ _ _ _ ran.3.2 ran.5 ran.0 c.args.tlvs _ refl ran.3.1 ran.4
