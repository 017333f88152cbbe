-- What a list of changes is measured by, and against (01, "Demand 3 over whole lists").
use Rattle.std.specs.Prelude.{ℕ, ◌+◌, ◌≤◌, Bool, true, List, [], ◌∷◌, ◌≡◌, length}
use Rattle.zone.specs.Lists.{all_of}
use Rattle.zone.specs.Record.{Record, Key}
use Rattle.zone.specs.Store.{find}
use Rattle.zone.specs.Layout.{size}
use Rattle.zone.specs.Sound.{Exactly}
use Rattle.push.specs.Change.{Change, addition, removal, is_true, applied_all, fields_of}
use Rattle.push.specs.List.{changes}

abbrev pub is_true_change : List Record → Change → Bool
is_true_change store (addition r) = true
is_true_change store (removal m) = is_true store m

-- Whether all removals of a list are true.
abbrev pub only_true : List Record → List Change → Bool
only_true store cs = all_of (is_true_change store) cs

abbrev pub total : {A : Type 0} → (A → ℕ) → List A → ℕ
total w [] = 0
total w (a ∷ l) = w a + total w l

-- "A notice's bytes are its name's + 10 + its RDATA's."
abbrev pub bytes : List Change → ℕ
bytes cs = total (λ (c : Change). size (fields_of c)) cs

-- "The other lists it is measured against are all lists of adds and these four removals that, applied so, bring the old view
-- to the new with true removals only."
pub record Brings (store old new : List Record) (cs : List Change) : Type 0 where
  pub true_only : only_true store cs ≡ true
  pub arrives : (k : Key) → find k (applied_all cs old) ≡ find k new

-- What is claimed of the list that 01 fixes, of a new store, the old view and the new view:
pub record Right (store old new : List Record) : Type 0 where
  -- a client that has just the old view and applies the list has just the new view;
  pub arrives : (client : List Record) → Exactly client old → Exactly (applied_all (changes store old new) client) new
  -- no removal of the list covers a record of the new store;
  pub true_only : only_true store (changes store old new) ≡ true
  -- the list is one of those that it is measured against,
  pub brings : Brings store old new (changes store old new)
  -- none of which has fewer changes,
  pub fewest : (cs : List Change) → Brings store old new cs → length (changes store old new) ≤ length cs
  -- or fewer bytes.
  pub shortest : (cs : List Change) → Brings store old new cs → bytes (changes store old new) ≤ bytes cs
