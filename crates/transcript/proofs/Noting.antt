-- What a batch or a tick has to say of each session.
use mathlib.Core.Path.{◌≡◌, refl, ap}
use mathlib.Core.Bool.{Bool, ◌&&◌}
use mathlib.Core.List.{List, [], ◌∷◌}
use Rattle.std.specs.List.{list_all}
use Rattle.transcript.specs.declared.note.Note.{Note}
use Rattle.transcript.specs.Lines.{is_quiet, all_quiet}

-- `all` goes through them as the definition does.
pub all_quiet_list : (l : List Note) → list_all is_quiet l ≡ all_quiet l
unfolding all_quiet
all_quiet_list [] = refl
all_quiet_list (x ∷ l) = ap (λ (b : Bool). is_quiet x && b) (all_quiet_list l)
