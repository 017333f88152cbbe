-- What a call of the C service returns, from what the server gives and what is kept of it.
-- Assumes nothing.
use Prim.Native.Nat.{ℕ, ◌≤◌, ◌<◌}
use native.Mathlib.Omega.{arith}
use mathlib.Core.Bool.{Bool, true, false}
use mathlib.Core.List.{List, []}
use mathlib.Core.Path.{◌≡◌, refl, ap, ◌∙◌}
use borrow.Author.Tests.{le-ltb}
use Rattle.wire.specs.Name.{is_name}
use Rattle.service.specs.Answer.{refusal_number, answer_number}
use Rattle.service.specs.Call as Call
use Rattle.service.specs.Call.{Call, outcome}
use Rattle.service.specs.declared.refusal.Refusal.{Refusal}
use Rattle.service.specs.declared.refusal.Refusal.TheVariants.{NotAName}
use Rattle.server.specs.declared.state.Server.{Server}
use Rattle.server.specs.declared.answer.Answer.{Answer}
use Rattle.server.specs.declared.answer.Outcome.{Outcome}
use Rattle.server.specs.declared.change.Change.TheVariants.{Opens, Closes, Ends}
use Rattle.server.specs.declared.change.Change.{Change}
use Rattle.std.specs.Prelude.{Result, Ok, Err}
use Rattle.server.specs.Memory.{Memory, memory_of, state_of}
use Rattle.server.specs.Answers.{Gives, Serves, answer_of, last_accepted, kept_by, heard_in}
use Rattle.server.specs.Changes.{change_answer, answer_by, decided_by}
use Rattle.server.specs.declared.answer.Heard.{Heard}
use Rattle.server.specs.Starting.{Starts}
use Rattle.server.proofs.Accepted.{Kind, accepted, refusing, kind, above}
use Rattle.words.specs.Words.{server_of, Saved, SavedSession, SavedDecision}
use Rattle.words.specs.Values.{values_of}
use Rattle.weavemitten.specs.Calls.{held_by, Keeps, Returns, ReturnsWith, Begins}

-- ---- what is kept

module _ (w w' : List ℕ) (r : ℕ) (same : last_accepted < r → w' ≡ w) where
  pub kept-saved : (u : Outcome) → r ≡ answer_number (answer_of u.answer) → (r ≤ last_accepted → Saved u.server w') → Keeps w w' u r
  kept-saved u e x = record { answer = e; held = λ g. (x g).server; unchanged = same }

  -- The same of a message, of which its session is kept.
  pub kept-session : (t i : ℕ) (h : Heard) → r ≡ answer_number (answer_of h.answer) → (r ≤ last_accepted → SavedSession t i h.session w w')
      → Keeps w w' (heard_in (server_of w) t i h) r
  unfolding kept_by
  kept-session t i h e x =
      record {
        answer = e;
        held = λ g. rw (← e, le-ltb last_accepted r g) (x g).server;
        unchanged = same;
      }

-- The same where the words are lent on as v: a refusal finds in them what came in, and so does an answer that is kept.
pub kept_lent : (w v w' : List ℕ) (r : ℕ) → (last_accepted < r → w' ≡ v) → (last_accepted < r → v ≡ w) → (r ≤ last_accepted → v ≡ w)
    → (t i : ℕ) (h : Heard) → r ≡ answer_number (answer_of h.answer) → (r ≤ last_accepted → SavedSession t i h.session v w')
    → Keeps w w' (heard_in (server_of w) t i h) r
kept_lent w v w' r same refused taken t i h e x =
    record {
      answer = e;
      held = λ g. rw (← taken g) ((kept-session v w' r same t i h e x).held g);
      unchanged = λ g. same g ∙ refused g;
    }

-- The same of a decision, of which the sessions that change are kept.
module _ (w w' : List ℕ) where
  decision-refused : (d : Result Change Refusal) → last_accepted < answer_number (answer_of (answer_by d)) → ((x : Refusal) → d ≡ Err x → w' ≡ w) → w' ≡ w
  unfolding answer_number answer_of answer_by change_answer
  decision-refused (Ok (Opens i)) h u = absurd (omega arith)
  decision-refused (Ok (Closes i)) h u = absurd (omega arith)
  decision-refused (Ok (Ends f)) h u = absurd (omega arith)
  decision-refused (Err x) h u = u x refl

  pub kept-decision : (t : ℕ) (d : Result Change Refusal) → SavedDecision t d w w' → (a : Answer) → a ≡ answer_by d
      → (r : ℕ) → r ≡ answer_number (answer_of a) → Keeps w w' (decided_by (server_of w) t d) r
  kept-decision t d h a f r e =
      let g : r ≡ answer_number (answer_of (answer_by d))
      = e ∙ ap (λ (x : Answer). answer_number (answer_of x)) f in
      record {
        answer = g;
        held = λ p. h.server;
        unchanged = λ p. decision-refused d (omega arith) h.unchanged;
      }

-- ---- what is returned

module _ (w w' : List ℕ) (s : Server) (e : s ≡ server_of w) (u : Outcome) (r : ℕ) (k : Keeps w w' u r) where
  held_next : (m : Memory) (o : List ℕ) (x : Call.Outcome) → Gives s u m o x → held_by w' m ≡ x.next
  held_next m o x g = go (kind u.answer)
    where
      go : Kind u.answer → held_by w' m ≡ x.next
      go (accepted h) = rw (k.held (omega (arith, k.answer))) g.next
      go (refusing y f) =
          rw (k.unchanged (omega (arith, k.answer, above u.answer y f)), ← e, ← g.unchanged y f) g.next

  returns_of : (m : Memory) (o : List ℕ) (x : Call.Outcome) → Gives s u m o x → Returns w w' m o r x
  returns_of m o x g =
      record {
        next = held_next m o x g;
        answer = k.answer ∙ ap answer_number g.answer;
        output = g.output;
        unchanged = k.unchanged;
      }

  pub returned : (m m' : Memory) (o : List ℕ) (call : Call) → Gives s u m' o (outcome (state_of s m) call)
      → Returns w w' m' o r (outcome (held_by w m) call)
  returned m m' o call g = rw e at (returns_of m' o (outcome (state_of s m) call) g)

  pub returned-with : (m m' : Memory) (o : List ℕ) (call : Call) → Gives s u m' o (outcome (state_of s m) call)
      → (v : List ℕ) → v ≡ values_of (answer_of u.answer)
      → ReturnsWith v w w' m' o r (outcome (held_by w m) call)
  returned-with m m' o call g v p =
      record {
        returns = returned m m' o call g;
        values = p ∙ ap values_of (rw e at g.answer);
      }

-- The same of a decision.
module _ (w w' : List ℕ) (s : Server) (e : s ≡ server_of w) (t : ℕ) (d : Result Change Refusal) (r : ℕ)
    (h : Keeps w w' (decided_by (server_of w) t d) r) (m : Memory) (call : Call) (g : Serves s m call (decided_by s t d) m []) where
  keeps-decision : Keeps w w' (decided_by s t d) r
  keeps-decision = rw e h

  pub returned-decision : Returns w w' m [] r (outcome (held_by w m) call)
  returned-decision = returned w w' s e (decided_by s t d) r keeps-decision m m [] call g

  pub returned-decision-with : (a : Answer) → a ≡ answer_by d → (v : List ℕ) → v ≡ values_of (answer_of a)
      → ReturnsWith v w w' m [] r (outcome (held_by w m) call)
  returned-decision-with a f v p =
      returned-with w w' s e (decided_by s t d) r keeps-decision m m [] call g v
      (p ∙ ap (λ (x : Answer). values_of (answer_of x)) f)

-- ---- start

nowhere : Memory
nowhere = memory_of [] [] [] [] [] [] []

module _ (zone w before after : List ℕ) (t : Result Server Refusal) (g : Starts zone before after t) where
  pub begun : (s : Server) → t ≡ Ok s → {w' : List ℕ} → Saved s w' → Begins zone w w' before after 1
  unfolding Call.start
  begun s f {w'} x = go (is_name zone) refl
    where
      go : (b : Bool) → is_name zone ≡ b → Begins zone w w' before after 1
      go true n =
          record {
            answer = rw n;
            begun = λ h m. rw x.server (let z = rw (f, n) at (g.state m) in cc);
            octets = g.octets;
            unchanged = λ h. absurd (omega arith);
          }
      go false n = absurd (let z = rw (f, n) at (g.state nowhere) in let y : ◌≡◌ {A = ℕ} 0 1 = cc in omega arith)

  pub unbegun : (x : Refusal) → t ≡ Err x → (r : ℕ) → r ≡ refusal_number x → Begins zone w w before after r
  unfolding Call.start refusal_number
  unbegun x f r p = go (is_name zone) refl
    where
      go : (b : Bool) → is_name zone ≡ b → Begins zone w w before after r
      go true n = absurd (let z = rw (f, n) at (g.state nowhere) in let y : ◌≡◌ {A = ℕ} 0 1 = cc in omega arith)
      go false n =
          let z = rw (f, n) at (g.state nowhere) in
          let y : x ≡ NotAName = cc in
          record {
            answer = rw (n, p, y);
            begun = λ h. absurd (let q : ◌≡◌ {A = ℕ} 0 1 = cc in omega arith);
            octets = g.octets;
            unchanged = λ h. refl;
          }
