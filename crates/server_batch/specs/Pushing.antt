-- What a batch makes of the server's numbers, memory and output.
use Rattle.std.specs.Prelude.{Result, Ok, Err, get_or, ℕ, cond, not, List, [], ◌∷◌, map, ◌≡◌, length, eqb}
use Rattle.std.proofs.lemmas.List.Edits.{sets}
use Rattle.zone.specs.Lists.{all_of}
use Rattle.zone.specs.Record.{Record}
use Rattle.push.specs.List.{leaving, entering}
use Rattle.std.specs.Borrow.{Bor}
use Rattle.zone.specs.Table.{records_in}
use Rattle.server.specs.Numbers.{session_at}
use Rattle.notify.specs.declared.message.Change.{Change}
use Rattle.notify.specs.Marks.{marked}
use Rattle.service.specs.State.{Slot}
use Rattle.service.specs.Answer.{done, sent}
use Rattle.service.specs.Answer as Service
use Rattle.service.specs.Call.{push_to, told, written, batch_outcome}
use Rattle.service.specs.declared.refusal.Refusal.{Refusal}
use Rattle.server.specs.declared.answer.Answer.{Answer}
use Rattle.server.specs.declared.answer.Answer.TheVariants.{Done, Sent}
use Rattle.server.specs.declared.answer.Outcome.{Outcome}
use Rattle.server_batch.specs.declared.pushing.Stored.{Stored}
use Rattle.server.specs.declared.state.Server.{Server}
use Rattle.server.specs.Memory.{Memory, memory_of, holding, slot_of, state_of}
use Rattle.server.specs.Answers.{Gives, answer_of, refusing}

-- Bytes written from a place of the output on, and how many they are.
pub record Tells (w : List ℕ) (at : ℕ) (o o' : List ℕ) (n : ℕ) : Type 0 where
  pub written : o' ≡ sets o at w
  pub counted : n ≡ length w

-- The marks tell what a batch changes: the records that leave the store, and those that are fresh in it.
pub record Changed (c : Change) : Type 0 where
  pub left : marked c.gone.now (records_in c.old) ≡ leaving (records_in c.old) (records_in c.new)
  pub entered : marked c.fresh.now (records_in c.new) ≡ entering (records_in c.old) (records_in c.new)

abbrev pub areas_in : List (Bor (List ℕ)) → List (List ℕ)
areas_in l = map (λ r. r.now) l

-- The memory that is lent, with each session's area.
abbrev pub memory_lent : List ℕ → List ℕ → List ℕ → List (List ℕ) → Memory
memory_lent zone first second l = memory_of zone first second (get_or l 0 []) (get_or l 1 []) (get_or l 2 []) (get_or l 3 [])

-- The sessions' slots.
abbrev pub slots_at : Server → List (List ℕ) → List Slot
slots_at s l =
    slot_of (session_at 0 s) (get_or l 0 [])
    ∷ slot_of (session_at 1 s) (get_or l 1 [])
    ∷ slot_of (session_at 2 s) (get_or l 2 [])
    ∷ slot_of (session_at 3 s) (get_or l 3 [])
    ∷ []

-- What each slot's session is sent when the store changes from old to new.
pub record TellsAll (old new : List Record) (slots : List Slot) (o o' : List ℕ) (n : List ℕ) : Type 0 where
  pub output : o' ≡ written 0 (map (push_to old new) slots) o
  pub counted : n ≡ map length (map (push_to old new) slots)

-- 1 where nothing is written, else 2 with the counts.
unfoldable pub told_of : List ℕ → Service.Answer
told_of ns = cond (all_of (λ (n : ℕ). eqb n 0) ns) done (sent ns)

-- The same as the code has it.
unfoldable pub told_in : List ℕ → Answer
told_in ns = cond (all_of (λ (n : ℕ). eqb n 0) ns) Done (Sent ns)

-- The other area holds the store.
unfoldable pub committed_of : ℕ → ℕ → Server → Server
committed_of t records s = record s { latest = t; records = records; second = not s.second }

pub record Announces (s : Server) (t records : ℕ) (old new : List Record) (slots : List Slot) (o o' : List ℕ) (r : Outcome) : Type 0 where
  pub numbers : r.server ≡ committed_of t records s
  pub answer : answer_of r.answer ≡ told (map (push_to old new) slots)
  pub output : o' ≡ written 0 (map (push_to old new) slots) o

-- Memory with other octets in the area that does not hold the store.
unfoldable pub put_other : Server → List ℕ → Memory → Memory
put_other s a m =
    record {
      zone = m.zone;
      first = cond s.second a m.first;
      second = cond s.second m.second a;
      s0 = m.s0;
      s1 = m.s1;
      s2 = m.s2;
      s3 = m.s3;
    }

-- The numbers and the answer by what a batch came to; a refusal hands back the very numbers.
abbrev pub given : Server → ℕ → Result Stored Refusal → Outcome
given s t (Ok x) = record { server = committed_of t x.records s; answer = told_in x.counts }
given s t (Err x) = refusing s x

-- A batch: `old` is the area that holds the store, `new` what the other one became; l has each session's area.
pub record Edits (s : Server) (t : ℕ) (zone old new : List ℕ) (l : List (List ℕ)) (bytes o o' : List ℕ) (r : Outcome) : Type 0 where
  pub gives : (first second : List ℕ) → let m = memory_lent zone first second l in holding s m ≡ old
      → Gives s r (put_other s new m) o' (batch_outcome (state_of s m) t bytes o)
