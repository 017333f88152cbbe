-- `server_message::delivery::hear` meets its contract: the checks, then the session hears it. Assumes nothing.
use native.Mathlib.Omega.{arith}
use lib.ListN.{length}
use Rattle.server.proofs.Slices.{bytes_small}
use Rattle.server_message.specs.Lent.{memory_lent}
use Rattle.server_message.proofs.Delivered.{ready, heard-refused, heard-passed}
use Rattle.server_message.proofs.delivery.hear.Goals as goal

pub deliver-requires : goal.deliver-requires
deliver-requires c =
    let a = c.args in
    let r = ready a.c a.time a.session.0 (length a.m.now) a.out.now _ c.check_message.ensures _ c.in-Ok.is in
    record { known = (r.known, r.roomy); alive = r.alive }

pub returns-in-Err : goal.returns-in-Err
returns-in-Err c =
    let a = c.args in
    heard-refused a.c a.time a.session.0 (memory_lent a.stores a.tables) a.m.now a.out.now (bytes_small a.m.now (λ i. omega (arith, c.type_inv.m i))) _ c.check_message.ensures _ c.in-Err.is _ c.declined.ensures

pub returns-in-Ok : goal.returns-in-Ok
returns-in-Ok c =
    let a = c.args in
    heard-passed a.c a.time a.session.0 (memory_lent a.stores a.tables) a.m.now a.out.now (bytes_small a.m.now (λ i. omega (arith, c.type_inv.m i))) _ c.check_message.ensures _ c.in-Ok.is c.deliver.ensures
