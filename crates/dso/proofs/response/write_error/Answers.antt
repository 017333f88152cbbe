-- `dso::response::write_error` meets its contract: three writes, one behind the other.
-- Assumes nothing.
use Prim.Native.Nat.{ℕ}
use mathlib.Core.Path.{refl, ap, ◌∙◌}
use lib.Seq.{sets}
use Rattle.wire.specs.Field.{octets}
use Rattle.wire.proofs.Fields.{length-octets}
use Rattle.dso.specs.Response.{retry_delay}
use Rattle.dso.specs.declared.response.Response.TheVariants.{Error}
use Rattle.dso.proofs.Responses.{response-written}
use Rattle.dso.proofs.response.write_error.Goals as goal

pub returns : goal.returns
returns c =
    let a = c.args in
    response-written a.id.0 (Error a.code) 2 4 (octets 4 (retry_delay a.code)) refl (length-octets 4 (retry_delay a.code)) a.out.now _ _ _ _ _
    c.flags.ensures c.into.ensures c.write_header.ensures c.write_tlv.ensures (c.write_field.ensures ∙ ap (λ (d : ℕ). sets c.write_tlv.new.out 18 (octets 4 d)) c.retry_delay.ensures)
