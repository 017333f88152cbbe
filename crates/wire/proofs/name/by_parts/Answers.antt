-- `wire::name::by_parts` meets its contract. Assumes nothing.
use Prim.Native.Nat.{◌+◌, ◌-◌}
use mathlib.Core.Path.{sym, ◌∙◌}
use native.Mathlib.Omega.{arith}
use lib.ListN.{length}
use Rattle.wire.proofs.Loops.{same-lent, unlike-lent, last-part, mapped-slice, mapped-rest}
use Rattle.wire.proofs.name.by_parts.Goals as goal

pub returns-then-not-alike : goal.returns-then-not-alike
returns-then-not-alike g c =
    let a = c.args in
    let i = c.loop-i.i in
    unlike-lent _ _ i c.loop-i.invariant a.width
    (mapped-slice g.L.Likeness.seen a.a.now a.b.now i (i + a.width - i) _ (sym c.if-not-alike.true ∙ c.alike.ensures))

pub loop-i-preserved : goal.loop-i-preserved
loop-i-preserved g c =
    let a = c.args in
    let i = c.loop-i.i in
    same-lent _ _ i c.loop-i.invariant a.width
    (mapped-slice g.L.Likeness.seen a.a.now a.b.now i (i + a.width - i) _ (sym c.if-not-alike.false ∙ c.alike.ensures))

pub returns : goal.returns
returns g c =
    let a = c.args in
    let at = length a.a.now - a.width in
    last-part _ _ _ c.loop-i.invariant at _ (mapped-rest g.L.Likeness.seen a.a.now a.b.now at _ c.alike-2.ensures) (omega arith)
