-- Calls in code, one after the other: a run, from the calls' promises alone.
use Prim.Native.Nat.{ℕ}
use mathlib.Core.Bool.{true}
use mathlib.Core.List.{List, []}
use mathlib.Core.Path.{◌≡◌, sym, ap, ◌∙◌}
use lib.Pow.{are_bytes}
use Rattle.service.specs.Call.{opens, receives, edits, start, unnamed}
use Rattle.service.specs.Observer.{Observer, watching, observe}
use Rattle.service.specs.declared.refusal.Refusal.{Refusal}
use Rattle.server.specs.Memory.{Memory, memory_of, with_zone}
use Rattle.server.specs.Answers.{answer_of, Serves}
use Rattle.server.specs.Starting.{Starts, started_of}
use Rattle.server.specs.declared.state.Server.{Server}
use Rattle.server.specs.declared.answer.Outcome.{Outcome}
use Rattle.std.specs.Prelude.{Result, Ok, Err}
use Rattle.views.specs.Runs.{Runs, begun, next}
use Rattle.views.specs.Plays.{Continues, Begins}
use Rattle.views.specs.declared.Ran.{Ran}
use Rattle.views.proofs.Theorem.{demand-three}

module _ (s : Server) (before between after : Memory) (t : ℕ) (m b lent output lent' output' : List ℕ) (x y z : Outcome)
    (opens-it : (k : Memory) → Serves s k (opens t) x k [])
    (hears : ((small : are_bytes m ≡ true) → Serves x.server before (receives t 0 (record { list = m; small = small }) lent) y between output) × (are_bytes m ≡ true))
    (tells : ((small : are_bytes b ≡ true) → Serves y.server between (edits t (record { list = b; small = small }) lent') z after output') × (are_bytes b ≡ true)) where
  pub continues : Continues s before t m b lent output lent' output' (record { opened = x; heard = y; told = z }) after
  continues =
      record {
        message = hears.1;
        batch = tells.1;
        between = between;
        opening = opens-it;
        hearing = hears.0 hears.1;
        telling = tells.0 tells.1;
        runs = λ p. next (past p) (edits t (record { list = b; small = tells.1 }) lent') z after output' (tells.0 tells.1);
        holds = λ p. demand-three (past p) (edits t (record { list = b; small = tells.1 }) lent') z after output' (tells.0 tells.1);
      }
    where
      past : {zone : List ℕ} {o : Observer} → Runs zone (record { server = s; memory = before }) o
          → Runs zone (record { server = y.server; memory = between })
          (observe (receives t 0 (record { list = m; small = hears.1 }) lent) (answer_of y.answer) output
          (observe (opens t) (answer_of x.answer) [] o))
      past p =
          next (next p (opens t) x before [] (opens-it before)) (receives t 0 (record { list = m; small = hears.1 }) lent) y between output
          (hears.0 hears.1)

module _ (zone : List ℕ) (was is : List ℕ) (k : Result Server Refusal) (e : Starts zone was is k) where
  pub unnamed-start : (why : Refusal) → k ≡ Err why → start zone ≡ unnamed why
  unnamed-start why p =
      let none : Memory = memory_of [] [] [] [] [] [] [] in
      sym (e.state none) ∙ ap (λ (x : Result Server Refusal). started_of x (with_zone is none)) p

  pub begins : (s : Server) → k ≡ Ok s → (t : ℕ) (m b lent output lent' output' first second a c d f : List ℕ) (r : Ran) (after : Memory)
      → Continues s (memory_of is first second a c d f) t m b lent output lent' output' r after
      → Begins zone t m b lent output lent' output' r after
  begins s p t m b lent output lent' output' first second a c d f r after h =
      let held : Memory = memory_of is first second a c d f in
      let run : Runs zone (record { server = s; memory = held }) (watching zone) = begun s held was (rw (← p) e) in
      record {
        server = s;
        before = held;
        starts = sym (e.state held) ∙ ap (λ (x : Result Server Refusal). started_of x (with_zone is held)) p;
        continues = h;
        runs = h.runs run;
        holds = h.holds run;
      }
