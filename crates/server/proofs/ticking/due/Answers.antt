-- `server::ticking::due` meets its contract. Assumes nothing.
use Rattle.std.proofs.Common.{false, rules, tests}
use Rattle.server.specs.Numbers.{vacancy}
use Rattle.server.proofs.States.{session-within}
use Rattle.server.proofs.Ticks.{due-flags}
use Rattle.server.proofs.ticking.due.Goals as goal

pub returns : goal.returns
returns c m =
    let a = c.args in
    due-flags a.server a.t m c.map.result c.map.ensures.items.long
    (λ i k. let h = c.map.ensures.items.at i vacancy false k in rw (session-within i a.server k) (search (rules, tests)))
