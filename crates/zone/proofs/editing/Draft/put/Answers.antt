-- `zone::editing::Draft::put` meets its contract. Assumes nothing.
use mathlib.Core.Path.{sym, ap₂, ◌∙◌}
use mathlib.Core.List.{List}
use Prim.Native.Nat.{ℕ}
use Rattle.zone.specs.Table.{records_of, key_in, index_of}
use Rattle.zone.proofs.Applies.{put_held}
use Rattle.zone.proofs.editing.Draft.put.Goals as goal

pub returns-in-Some-clause-store : goal.returns-in-Some-clause-store
returns-in-Some-clause-store c =
    put_held _ _ _ _ c.requires.1
    (sym (ap₂ (λ (n : ℕ) (a : List ℕ). index_of (key_in c.args.edit.key) (records_of n a)) c.store.ensures.1 c.store.ensures.0)
    ∙ sym c.find.ensures ∙ c.in-Some.is)
    c.set_ttls.ensures.set
