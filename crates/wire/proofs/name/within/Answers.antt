-- `wire::name::within` meets its contract. Assumes nothing.
use borrow.Author.Rules.{rules}
use mathlib.Core.Path.{refl, sym, ◌∙◌}
use native.Mathlib.Omega.{arith}
use Rattle.wire.specs.Name.{within}
use Rattle.wire.proofs.Loops.{passed-found, passed-label, passed_end}
use Rattle.wire.proofs.name.within.Goals as goal

pub loop-at-init : goal.loop-at-init
unfolding within
loop-at-init c = search rules

pub returns-then-same_name : goal.returns-then-same_name
returns-then-same_name c = passed-found _ _ _ c.loop-at.invariant _ (omega arith) refl c.if-same_name.ensures

pub loop-at-preserved : goal.loop-at-preserved
loop-at-preserved c = passed-label _ _ _ c.loop-at.invariant _ (omega arith) c.from.ensures (sym c.if-same_name.false ∙ c.same_name.ensures)

pub returns : goal.returns
returns c = passed_end _ _ _ c.loop-at.invariant (omega arith)
