-- Two parts of names are compared as `wire::name::Likeness` says. Assumes nothing.
use borrow.Author.Rules.{rules}
use Prim.Native.Nat.{ℕ}
use mathlib.Core.Path.{sym, ◌∙◌}
use Rattle.wire.specs.Case.{caseless}
use Rattle.wire.specs.Name.{lower}
use Rattle.wire.proofs.Loops.{alike-whole, as_they_stand, unlike-caseless}
use Rattle.wire.proofs.name.LettersLikeness.alike.Goals as goal

pub returns-then-same_part : goal.returns-then-same_part
returns-then-same_part c =
    c.if-same_part.true ∙ alike-whole _ _ (sym c.if-same_part.true ∙ as_they_stand _ _ _ (c.same_part.ensures (λ (x : ℕ). x) (record { each = λ x y e. search rules })))

pub returns-then-same_part-2 : goal.returns-then-same_part-2
returns-then-same_part-2 c = c.same_part-then-same_part-2.ensures lower (record { each = λ x y e. search rules })

pub returns-else-same_part-2 : goal.returns-else-same_part-2
returns-else-same_part-2 c =
    c.if-same_part-2.false ∙ unlike-caseless _ _ (sym c.if-same_part-2.false ∙ c.same_part-else-same_part.ensures caseless (record { each = λ x y e. search rules }))
