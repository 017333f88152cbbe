-- `notify::message::removal_sent` meets its contract. Assumes nothing.
use Rattle.notify.proofs.Heads.{gives-none, gives-covered, gives-head}
use Rattle.notify.proofs.message.removal_sent.Goals as goal

pub returns-in_err-kind : goal.returns-in_err-kind
returns-in_err-kind c = rw c.from_residual.ensures (search (gives-none, c.in_err-kind.was))

pub returns-then-is_first : goal.returns-then-is_first
returns-then-is_first c = search (gives-head, c.in_ok-kind.was)

pub returns : goal.returns
returns c = search (gives-covered, c.in_ok-kind.was)
