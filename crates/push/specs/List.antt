-- The list of changes that 01 fixes for an old and a new view ("Records, matches and notices").
use Rattle.std.specs.Prelude.{ℕ, Bool, false, cond, not, List, [], ◌∷◌, ◌++◌, map, eqb}
use Rattle.std.specs.Bool.{beq}
use Rattle.std.proofs.Math.Option.{Option, none, some}
use Rattle.zone.specs.Lists.{keep, any_of, all_of, only_if}
use Rattle.zone.specs.Record.{Record, key_of}
use Rattle.zone.specs.Store.{find, held}
use Rattle.push.specs.Change.{
  Removal,
  single,
  rrset,
  all_types,
  all_classes,
  Change,
  addition,
  removal,
  covers,
  is_true,
}

-- The four removals that hold a record, in its spelling.
abbrev pub single_at : Record → Removal
single_at r = single r.owner r.rrtype r.rrclass r.rdata

abbrev pub rrset_at : Record → Removal
rrset_at r = rrset r.owner r.rrtype r.rrclass

abbrev pub all_types_at : Record → Removal
all_types_at r = all_types r.owner r.rrclass

abbrev pub all_classes_at : Record → Removal
all_classes_at r = all_classes r.owner

-- "Take the widest true removal holding each."
unfoldable pub widest : List Record → Record → Removal
widest store r =
    cond (is_true store (all_classes_at r)) (all_classes_at r)
    (cond (is_true store (all_types_at r)) (all_types_at r)
    (cond (is_true store (rrset_at r)) (rrset_at r) (single_at r)))

-- Whether two removals cover the same of the leaving records.
unfoldable pub alike : List Record → Removal → Removal → Bool
alike leaving m w = all_of (λ (r : Record). beq (covers m (key_of r)) (covers w (key_of r))) leaving

-- "Then the narrowest collective one covering the same leaving records; one record alone only where its RRset isn't gone."
unfoldable pub chosen : List Record → List Record → Record → Removal
chosen store leaving r =
    cond (is_true store (rrset_at r))
    (cond (alike leaving (rrset_at r) (widest store r)) (rrset_at r)
    (cond (alike leaving (all_types_at r) (widest store r)) (all_types_at r) (all_classes_at r)))
    (single_at r)

-- The records of a list that no removal chosen for an earlier one covers; `earlier` stands before the list.
unfoldable pub firsts : (Record → Removal) → List Record → List Record → List Record
firsts choose earlier [] = []
firsts choose earlier (r ∷ l) =
    only_if (not (any_of (λ (e : Record). covers (choose e) (key_of r)) earlier)) r (firsts choose (earlier ++ (r ∷ [])) l)

-- The records that leave the view, in old store order.
abbrev pub leaving : List Record → List Record → List Record
leaving old new = keep (λ (r : Record). not (held (key_of r) new)) old

abbrev pub has_ttl : Option ℕ → ℕ → Bool
has_ttl none t = false
has_ttl (some u) t = eqb u t

-- The records that enter the view or have a new TTL, in new store order.
abbrev pub entering : List Record → List Record → List Record
entering old new = keep (λ (r : Record). not (has_ttl (find (key_of r) old) r.ttl)) new

-- "Removals come first, by the first leaving record each covers, in old store order and with its spelling."
unfoldable pub removals : List Record → List Record → List Change
removals store gone = map (λ (r : Record). removal (chosen store gone r)) (firsts (chosen store gone) [] gone)

-- "Then one add for each record entering the view or with a new TTL, in new store order and spelling."
unfoldable pub additions : List Record → List Change
additions l = map addition l

-- The list for a new store, an old view and a new view.
unfoldable pub changes : List Record → List Record → List Record → List Change
changes store old new = removals store (leaving old new) ++ additions (entering old new)
