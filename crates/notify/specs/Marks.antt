-- Removals by kind, and records of a store that are marked.
use Rattle.std.specs.Prelude.{Bool, true, false, cond, not, ◌&&◌, Option, Some, None, List, [], ◌∷◌, ◌++◌, map, eqb}
use Rattle.std.specs.Bool.{beq}
use Rattle.zone.specs.Lists.{only_if, any_of}
use Rattle.zone.specs.Record.{Record, Key, key_of}
use Rattle.zone.specs.Match.{Subscription, view}
use Rattle.push.specs.Change.{Removal, single, rrset, all_types, all_classes, Change, addition, removal, covers}
use Rattle.push.specs.List.{single_at, rrset_at, all_types_at, all_classes_at, chosen, firsts, removals, additions}
use Rattle.notify.specs.declared.removal.RemovalKind.{RemovalKind}
use Rattle.notify.specs.declared.removal.RemovalKind.TheVariants.{Single, Rrset, AllTypes, AllClasses}

-- ---- the kinds of removals

-- The removal of a kind that holds a record.
unfoldable pub removal_at : RemovalKind → Record → Removal
removal_at Single r = single_at r
removal_at Rrset r = rrset_at r
removal_at AllTypes r = all_types_at r
removal_at AllClasses r = all_classes_at r

unfoldable pub kind_of : Removal → RemovalKind
kind_of (single owner rrtype rrclass rdata) = Single
kind_of (rrset owner rrtype rrclass) = Rrset
kind_of (all_types owner rrclass) = AllTypes
kind_of (all_classes owner) = AllClasses

-- The next narrower kind; none is narrower than Single.
abbrev pub narrower : RemovalKind → RemovalKind
narrower AllClasses = AllTypes
narrower AllTypes = Rrset
narrower Rrset = Single
narrower Single = Single

-- Whether a record has the class and the type that a collective removal of a kind at another names.
unfoldable pub same_numbers : RemovalKind → Record → Record → Bool
same_numbers AllClasses a b = true
same_numbers AllTypes a b = eqb a.rrclass b.rrclass
same_numbers Rrset a b = eqb a.rrclass b.rrclass && eqb a.rrtype b.rrtype
same_numbers Single a b = eqb a.rrclass b.rrclass && eqb a.rrtype b.rrtype

-- A kind, where its removal at a record spares another; where it covers it, what a narrower kind gives.
abbrev pub if_spared : RemovalKind → RemovalKind → Record → Record → RemovalKind
if_spared kind less a b = cond (covers (removal_at kind a) (key_of b)) less kind

-- The widest kind up to one whose removal at a record spares another, or Single.
unfoldable pub narrowed : RemovalKind → Record → Record → RemovalKind
narrowed Single a b = Single
narrowed Rrset a b = if_spared Rrset Single a b
narrowed AllTypes a b = if_spared AllTypes (if_spared Rrset Single a b) a b
narrowed AllClasses a b = if_spared AllClasses (if_spared AllTypes (if_spared Rrset Single a b) a b) a b

-- ---- marks: whether each record of a store is one of those

-- The marked records. A record that has no mark is passed over.
unfoldable pub marked : List Bool → List Record → List Record
marked [] l = []
marked (m ∷ ms) [] = []
marked (m ∷ ms) (r ∷ l) = only_if m r (marked ms l)

-- ---- the removals that kinds stand for: each that of its kind at its record

unfoldable pub removals_of : List (Option RemovalKind) → List Record → List Removal
removals_of [] l = []
removals_of (k ∷ ks) [] = []
removals_of (None ∷ ks) (r ∷ l) = removals_of ks l
removals_of (Some kind ∷ ks) (r ∷ l) = removal_at kind r ∷ removals_of ks l

-- Whether none of some removals covers a record.
unfoldable pub is_head : List Removal → Record → Bool
is_head earlier r = not (any_of (λ (e : Removal). covers e (key_of r)) earlier)

-- Those that are sent: of the records that no earlier removal covers; `earlier` stands before the list.
unfoldable pub heads : List Removal → List (Option RemovalKind) → List Record → List Removal
heads earlier [] l = []
heads earlier (k ∷ ks) [] = []
heads earlier (None ∷ ks) (r ∷ l) = heads earlier ks l
heads earlier (Some kind ∷ ks) (r ∷ l) =
    only_if (is_head earlier r) (removal_at kind r) (heads (earlier ++ (removal_at kind r ∷ [])) ks l)

-- Whether a record's removal, where it has one, covers another.
unfoldable pub kind_covers : Option RemovalKind → Record → Record → Bool
kind_covers None e r = false
kind_covers (Some kind) e r = covers (removal_at kind e) (key_of r)

-- What is written for one record: its removal where it is one of those; its addition where it is marked.
unfoldable pub head_at : List Removal → Option RemovalKind → Record → List Change
head_at earlier None r = []
head_at earlier (Some kind) r = only_if (is_head earlier r) (removal (removal_at kind r)) []

unfoldable pub addition_at : Bool → Record → List Change
addition_at mark r = only_if mark (addition r) []

-- Of a marked record: whether just one of two removals covers it.
unfoldable pub told_apart : Bool → Removal → Removal → Key → Bool
told_apart mark m w k = mark && not (beq (covers m k) (covers w k))

-- A marked record's kind of the removal that 01 fixes, where some records leave; none for any other.
unfoldable pub marked_kind : List Record → List Record → Bool → Record → Option RemovalKind
marked_kind store gone mark r = cond mark (Some (kind_of (chosen store gone r))) None

-- The removals that are sent where some records leave.
abbrev pub sent : List Record → List Record → List Removal
sent store gone = map (chosen store gone) (firsts (chosen store gone) [] gone)

-- ---- what a session is sent

-- Where some records leave the store and others are fresh in it: the changes of those that the subscriptions match.
unfoldable pub changes_for : List Subscription → List Record → List Record → List Record → List Change
changes_for subs store gone fresh = removals store (view subs gone) ++ additions (view subs fresh)
