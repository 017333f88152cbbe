-- `dso::response::write_keepalive` meets its contract: three writes, one behind the other.
-- Assumes nothing.
use mathlib.Core.Path.{refl}
use mathlib.Core.List.{◌++◌}
use Rattle.wire.specs.Field.{octets}
use Rattle.dso.specs.declared.response.Response.TheVariants.{Keepalive}
use Rattle.dso.proofs.Responses.{response-written, timeouts-length}
use Rattle.dso.proofs.response.write_keepalive.Goals as goal

pub returns : goal.returns
returns c =
    let a = c.args in
    let t = a.timeouts in
    response-written a.id.0 (Keepalive t) 1 8 (octets 4 t.inactivity ++ octets 4 t.keepalive) refl (timeouts-length t) a.out.now _ _ _ _ _
    refl c.into.ensures c.write_header.ensures c.write_tlv.ensures c.write_timeouts.ensures
