-- What is lent with a message, and what a caller lends from call to call, in the terms of the server's memory.
use Rattle.std.specs.Prelude.{ℕ, List}
use Rattle.std.specs.Borrow.{MutBor}
use Rattle.server.specs.Memory.{Memory, memory_of}
use Rattle.server_message.specs.declared.lent.Areas.{Areas}
use Rattle.server_message.specs.declared.lent.Stores.{Stores}
use Rattle.server_message.specs.declared.lent.Tables.{Tables}

-- The tables as a call leaves them: what stands behind each field of a `Tables` then.
abbrev pub Left : Type 0
Left = MutBor (List ℕ) × (MutBor (List ℕ) × (MutBor (List ℕ) × (MutBor (List ℕ) × Unit {0})))

-- The memory that is lent, as it is before a call and behind it.
abbrev pub memory_lent : Stores → Tables → Memory
memory_lent s t = memory_of s.name.now s.first.now s.second.now t.s0.now t.s1.now t.s2.now t.s3.now

abbrev pub memory_left : Stores → Left → Memory
memory_left s t = memory_of s.name.now s.first.now s.second.now t.0.now t.1.0.now t.1.1.0.now t.1.1.1.0.now

-- The areas as calls leave them: what stands behind each field of an `Areas` then.
abbrev pub AreasLeft : Type 0
AreasLeft = MutBor (List ℕ) × (MutBor (List ℕ) × Left)

-- The memory with the zone's name, as it is before calls and behind them.
abbrev pub areas_lent : List ℕ → Areas → Memory
areas_lent zone a = memory_of zone a.first.now a.second.now a.s0.now a.s1.now a.s2.now a.s3.now

abbrev pub areas_left : List ℕ → AreasLeft → Memory
areas_left zone a =
    memory_of zone a.0.now a.1.0.now a.1.1.0.now a.1.1.1.0.now a.1.1.1.1.0.now a.1.1.1.1.1.0.now
