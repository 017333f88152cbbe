-- `receive::subscribing::write_accepted` meets its contract. Assumes nothing.
use Rattle.receive.proofs.Admitted.{accepted-written}
use Rattle.receive.proofs.Sizes.{accepted-fits}
use Rattle.receive.proofs.subscribing.write_accepted.Goals as goal

pub overflow_add-result : goal.overflow_add-result
overflow_add-result c = search accepted-fits

pub returns : goal.returns
returns c = search accepted-written
