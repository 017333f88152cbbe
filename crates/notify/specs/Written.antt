-- What writing into lent memory gives.
use Rattle.std.specs.Prelude.{ℕ, ◌+◌, ◌-◌, ◌*◌, ◌≤◌, ◌<◌, ◌≡◌, cond, Option, Some, None, List, [], ◌∷◌, ◌++◌, length, get_or, eqb}
use Rattle.std.proofs.lemmas.List.Edits.{sets}
use Rattle.wire.specs.Field.{octets}
use Rattle.dso.specs.Judge.{push_type}
use Rattle.dso.specs.Response.{header}
use Rattle.push.specs.Change.{Change}
use Rattle.push.specs.Octets.{unidirectional_flags, changes_octets, push_of}
use Rattle.zone.specs.Record.{Record}
use Rattle.zone.specs.Layout.{record_octets}
use Rattle.zone.specs.Table.{record_from}
use Rattle.notify.specs.declared.fields.Fields.{Fields}

-- Memory o became p by writing octets from a place on; t is the place behind them.
pub record Wrote (o : List ℕ) (at : ℕ) (octets p : List ℕ) (t : ℕ) : Type 0 where
  pub written : p ≡ sets o at octets
  pub place : t ≡ at + length octets

-- No change notification of a block has more octets.
abbrev pub room : ℕ
room = 521

-- The fields that the code passes on.
abbrev pub record_in : Fields → Record
record_in f = record_from f.name.now f.rrtype f.rrclass f.ttl f.rdata.now

-- The octets of a change, if there is one; of some in turn.
abbrev pub given_octets : Option Fields → List ℕ
given_octets None = []
given_octets (Some f) = record_octets (record_in f)

abbrev pub all_octets : List (Option Fields) → List ℕ
all_octets [] = []
all_octets (c ∷ cs) = given_octets c ++ all_octets cs

-- No name and no RDATA is longer than that of a block.
pub record Short (r : Record) : Type 0 where
  pub owner : length r.owner ≤ 383
  pub rdata : length r.rdata ≤ 128

abbrev pub AllShort : Option Fields → Type 0
AllShort None = Unit {0}
AllShort (Some f) = Short (record_in f)

-- What the code gives of a list of changes, of which there is one or none.
pub record Gives (cs : List Change) (o : Option Fields) : Type 0 where
  pub octets : given_octets o ≡ changes_octets cs
  pub short : AllShort o

-- The same of octets that are at most so many.
pub record Step (most : ℕ) (o : List ℕ) (at : ℕ) (octets p : List ℕ) (t : ℕ) : Type 0 where
  pub wrote : Wrote o at octets p t
  pub near : t ≤ at + most

-- The changes that a function gives at the first n places were written one behind another.
pub record WroteEach (says : ℕ → Option Fields → Type 0) (n : ℕ) (o : List ℕ) (at : ℕ) (p : List ℕ) (t : ℕ) : Type 0 where
  pub changes : List (Option Fields)
  pub many : length changes ≡ n
  pub each : (i : ℕ) → i < n → says i (get_or changes i None)
  pub wrote : Wrote o at (all_octets changes) p t
  pub near : t ≤ at + room * n

-- What stands in front of the changes of a PUSH: the length prefix, the header, and the TLV's type and length.
abbrev pub front_length : ℕ
front_length = 18

unfoldable pub front : ℕ → List ℕ
front n = (octets 2 (16 + n) ++ header 0 unidirectional_flags) ++ (octets 2 push_type ++ octets 2 n)

-- The front of a PUSH whose changes end at a place; nothing where there are none.
unfoldable pub fronted : ℕ → List ℕ
fronted end = cond (eqb end front_length) [] (front (end - front_length))

unfoldable pub counted : ℕ → ℕ
counted end = cond (eqb end front_length) 0 end

-- The front was written; r is the length of the whole PUSH.
pub record Fronted (o : List ℕ) (end : ℕ) (p : List ℕ) (r : ℕ) : Type 0 where
  pub written : p ≡ sets o 0 (fronted end)
  pub count : r ≡ counted end

-- A PUSH was written from the front of the memory on, and r is its length.
pub record Pushed (o : List ℕ) (cs : List Change) (p : List ℕ) (r : ℕ) : Type 0 where
  pub written : p ≡ sets o 0 (push_of cs)
  pub count : r ≡ length (push_of cs)
