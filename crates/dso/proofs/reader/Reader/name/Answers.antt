-- `dso::reader::Reader::name` meets its contract: a name has at most 255 octets.
use Rattle.std.specs.Prelude.{ℕ, ◌≡◌, ◌≤◌, Option, Some, None, IfSome, List}
use mathlib.Core.Path.{sym}
use Rattle.wire.specs.Name.{max_name, name_length}
use Rattle.wire.proofs.Names.{name_length-max}
use Rattle.dso.proofs.reader.Reader.name.Goals as goal

short : (o : Option ℕ) (l : List ℕ) → o ≡ name_length l → IfSome o (λ n. n ≤ max_name)
short None l e = tt
short (Some n) l e = name_length-max l n (sym e)

pub returns-clause-short : goal.returns-clause-short
returns-clause-short c = short _ _ c.name_at.ensures
