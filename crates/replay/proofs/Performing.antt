-- A line's call in code is the step of the line, and what is told of it the line's response.
use Prim.Native.Nat.{ℕ, ◌<◌}
use mathlib.Core.Path.{◌≡◌, refl, ap, subst, subst⁻¹}
use mathlib.Core.Bool.{true}
use mathlib.Core.List.{List, []}
use Rattle.std.specs.Prelude.{Some, None}
use native.Mathlib.Omega.{arith}
use lib.ListN.{take}
use lib.Pow.{are_bytes}
use Rattle.wire.specs.Part.{part}
use Rattle.service.specs.Answer.{answer_number}
use Rattle.service.specs.Answer as Service
use Rattle.service.specs.State.{State}
use Rattle.service.specs.Call.{opens, closes, receives, edits, ticks}
use Rattle.service.specs.Call as Call
use Rattle.service.specs.declared.refusal.Refusal.{Refusal}
use Rattle.server.specs.Memory.{Memory, state_of}
use Rattle.server.specs.Answers.{answer_of, last_accepted, Gives, Serves}
use Rattle.server.specs.declared.answer.Answer.{Answer}
use Rattle.server.specs.declared.answer.Answer.TheVariants.{Refused}
use Rattle.server.specs.declared.answer.Outcome.{Outcome}
use Rattle.server.specs.declared.state.Server.{Server}
use Rattle.server.proofs.Accepted.{Kind, accepted, refusing, kind}
use Rattle.script.specs.Line.{Line, line_of, octets_in}
use Rattle.script.specs.Code.{command_line}
use Rattle.script.specs.declared.reader.Command.{Command}
use Rattle.script.specs.declared.reader.Command.TheVariants.{Open, Close, Message, Batch, Tick}
use Rattle.script.proofs.Carrying.{line_small}
use Rattle.transcript.specs.Lines.{Printed}
use Rattle.transcript.specs.Responses.{leaving, step_of, number_told, lines_told, telling, response_to, Tells}
use Rattle.replay.specs.Performing.{Performs}

-- A number over 5 is a refusal's.
refused-same : (s s' : Server) (a : Answer) → ((x : Refusal) → a ≡ Refused x → s' ≡ s) → last_accepted < answer_number (answer_of a) → s' ≡ s
refused-same s s' a h k = go (kind a)
  where
    go : Kind a → s' ≡ s
    go (accepted g) = absurd (omega arith)
    go (refusing x e) = h x e

-- A call gave u, and left the output so.
performs-told : (s : Server) (u : Outcome) (m : Memory) (x : List ℕ) (w : Call.Outcome) → Gives s u m x w → (o out : List ℕ) → o ≡ out
    → Performs s u m o (leaving out w)
unfolding number_told
performs-told s u m x w g o out e =
    record {
      next = g.next;
      answer = ap (λ (a : Service.Answer). Some a) g.answer;
      output = e;
      unchanged = λ k. refused-same s u.server u.answer g.unchanged (rw g.answer k);
    }

module _ (s : Server) (before after : Memory) (bytes lent out : List ℕ) where
  -- What `perform` promises of a command.
  abbrev pub Performing : Command → Outcome → Type 0
  Performing c u =
      (small : are_bytes (octets_in (command_line (Some c) bytes)) ≡ true)
      → Performs s u after out (step_of (state_of s before) lent (command_line (Some c) bytes) small)

  module _ (c : Command) (u : Outcome) where
    by-command : (d : Command) → c ≡ d → Performing d u → Performing c u
    by-command d e p = subst⁻¹ (λ (x : Command). Performing x u) e p

    pub heard : (t i n : ℕ) → c ≡ Message t i n → (l : List ℕ) → l ≡ part bytes 0 n
        → ((small : are_bytes l ≡ true) → Serves s before (receives t i (record { list = l; small = small }) lent) u after out) → Performing c u
    unfolding step_of
    heard t i n e l h g =
        by-command (Message t i n) e (λ small.
        let k = subst (λ (x : List ℕ). (p : are_bytes x ≡ true) → Serves s before (receives t i (record { list = x; small = p }) lent) u after out) h g small in
        performs-told s u after out (Call.outcome (state_of s before) (receives t i (record { list = take n bytes; small = small }) lent)) k out _ k.output)

    pub edited : (t n : ℕ) → c ≡ Batch t n → (l : List ℕ) → l ≡ part bytes 0 n
        → ((small : are_bytes l ≡ true) → Serves s before (edits t (record { list = l; small = small }) lent) u after out) → Performing c u
    unfolding step_of
    edited t n e l h g =
        by-command (Batch t n) e (λ small.
        let k = subst (λ (x : List ℕ). (p : are_bytes x ≡ true) → Serves s before (edits t (record { list = x; small = p }) lent) u after out) h g small in
        performs-told s u after out (Call.outcome (state_of s before) (edits t (record { list = take n bytes; small = small }) lent)) k out _ k.output)

-- Open, close and tick leave the memory and the output as they are.
module _ (s : Server) (m : Memory) (bytes out : List ℕ) (c : Command) (u : Outcome) where
  quietly : (d : Command) → c ≡ d → (w : Call.Outcome) → ((small : are_bytes (octets_in (command_line (Some d) bytes)) ≡ true) → leaving out w ≡ step_of (state_of s m) out (command_line (Some d) bytes) small)
      → Gives s u m [] w → Performing s m m bytes out out c u
  quietly d e w h g =
      by-command s m m bytes out out c u d e
      (λ small. subst (Performs s u m out) (h small) (performs-told s u m [] w g out out refl))

  pub opened : (t : ℕ) → c ≡ Open t → ((k : Memory) → Serves s k (opens t) u k []) → Performing s m m bytes out out c u
  unfolding step_of
  opened t e g = quietly (Open t) e (Call.outcome (state_of s m) (opens t)) (λ small. refl) (g m)

  pub closed : (t i : ℕ) → c ≡ Close t i → ((k : Memory) → Serves s k (closes t i) u k []) → Performing s m m bytes out out c u
  unfolding step_of
  closed t i e g = quietly (Close t i) e (Call.outcome (state_of s m) (closes t i)) (λ small. refl) (g m)

  pub ticked : (t : ℕ) → c ≡ Tick t → ((k : Memory) → Serves s k (ticks t) u k []) → Performing s m m bytes out out c u
  unfolding step_of
  ticked t e g = quietly (Tick t) e (Call.outcome (state_of s m) (ticks t)) (λ small. refl) (g m)

-- ---- the response

module _ (s : Server) (st : State) (lent : List ℕ) (m : Memory) (out text text' : List ℕ) (n : ℕ) where
  by-line : (u : Outcome) (x : Line) → ((small : are_bytes (octets_in x) ≡ true) → Performs s u m out (step_of st lent x small))
      → Printed text (lines_told x (Some (answer_of u.answer)) out) text' n
      → (small : are_bytes (octets_in x) ≡ true) → Tells s u.server m out text text' n (telling x (step_of st lent x small))
  by-line u x p q small =
      let g = p small in
      record { next = g.next; output = g.output; printed = rw (← g.answer, ← g.output) q; unchanged = g.unchanged }

  pub responds : (u : Outcome) (c : Command) (bytes line : List ℕ) → command_line (Some c) bytes ≡ line_of line
      → ((small : are_bytes (octets_in (command_line (Some c) bytes)) ≡ true) → Performs s u m out (step_of st lent (command_line (Some c) bytes) small))
      → ((o : List ℕ) → Printed text (lines_told (command_line (Some c) o) (Some (answer_of u.answer)) out) text' n)
      → Tells s u.server m out text text' n (response_to st lent line)
  unfolding response_to
  responds u c bytes line e p q =
      subst (λ (y : Line). (small : are_bytes (octets_in y) ≡ true) → Tells s u.server m out text text' n (telling y (step_of st lent y small))) e
      (by-line u (command_line (Some c) bytes) p (q bytes)) (line_small line)

-- An unreadable line calls nothing, and leaves all as it is.
pub unread : (s : Server) (m : Memory) (out text text' : List ℕ) (n : ℕ) (line : List ℕ) → Line.unreadable ≡ line_of line
    → Printed text (lines_told Line.unreadable None out) text' n
    → Tells s s m out text text' n (response_to (state_of s m) out line)
unfolding response_to step_of
unread s m out text text' n line e q =
    subst (λ (y : Line). (small : are_bytes (octets_in y) ≡ true) → Tells s s m out text text' n (telling y (step_of (state_of s m) out y small))) e
    (λ small. record { next = refl; output = refl; printed = q; unchanged = λ k. refl }) (line_small line)
