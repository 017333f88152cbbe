-- Laws of answering by a judgment, and of the whole message.
use Prim.Native.Nat.{ℕ, ◌≤◌}
use native.Mathlib.Omega.{arith}
use mathlib.Core.List.{List}
use mathlib.Core.Path.{◌≡◌, sym, ap, subst, ◌∙◌}
use lib.ListN.{drop}
use Rattle.wire.specs.Name.{max_name}
use Rattle.wire.proofs.Names.{name_length-max}
use Rattle.dso.specs.Judge.{data_start, judged}
use Rattle.dso.specs.declared.judgment.QuestionPlaces.{QuestionPlaces}
use Rattle.dso.specs.declared.judgment.MessageId.{MessageId}
use Rattle.dso.specs.declared.judgment.Judgment.{Judgment}
use Rattle.dso.specs.declared.judgment.Judgment.TheVariants.{Subscribe}
use Rattle.dso.proofs.Meant.{Asking, Meant, judgment-meant}

-- ---- a SUBSCRIBE's question, by its places

-- The name that a judgment shows is none that is too long.
subscribe-meant : (m : List ℕ) (j : Judgment) (id : MessageId) (q : QuestionPlaces) → j ≡ (judged m).judgment → j ≡ Subscribe id q → Asking m id q
unfolding judged
subscribe-meant m j id q e f = subst (Meant m) (sym e ∙ f) (judgment-meant m)

pub name-short : (m : List ℕ) (j : Judgment) (id : MessageId) (q : QuestionPlaces) → j ≡ (judged m).judgment → j ≡ Subscribe id q → q.name.len ≤ max_name
name-short m j id q e f =
    let a : Asking m id q = subscribe-meant m j id q e f in
    omega (arith, ap (λ (x : QuestionPlaces). x.name.len) a.places, name_length-max (drop data_start m) a.size a.named)
