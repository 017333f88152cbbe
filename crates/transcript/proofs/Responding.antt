-- What a line gives: how the code comes to it, and that what is not kept of a line makes no difference.
use Prim.Native.Nat.{ℕ, ◌≤◌}
use mathlib.Core.Path.{◌≡◌, refl, sym, ap, ◌∙◌, subst}
use mathlib.Core.Bool.{true}
use mathlib.Core.List.{List, [], ◌∷◌, ◌++◌, map}
use native.Mathlib.Omega.{arith}
use lib.ListN.{length}
use lib.Pow.{are_bytes}
use Rattle.std.specs.Prelude.{Option, Some, None, option_map}
use Rattle.service.specs.State.{State}
use Rattle.service.specs.Call.{outcome, passed}
use Rattle.server.specs.Answers.{answer_of}
use Rattle.server.specs.declared.answer.Answer.{Answer}
use Rattle.script.specs.Line.{Line, line_of, octets_in}
use Rattle.script.specs.Code.{Written, command_line}
use Rattle.script.specs.Stream.{lines_in, kept}
use Rattle.script.specs.Chunks.{Reads, unended, joined}
use Rattle.script.specs.declared.verb.Verb.{Verb}
use Rattle.script.specs.declared.reader.Command.{Command}
use Rattle.script.specs.declared.reader.Command.TheVariants.{Open, Close, Message, Batch, Tick}
use Rattle.script.proofs.Carrying.{line_small}
use Rattle.script.proofs.Cutting.{cut-lines, kept_read}
use Rattle.script.proofs.Writing.{length-line}
use Rattle.transcript.specs.Lines.{lines_of, text_room, Printed}
use Rattle.transcript.specs.Responses.{verb_in, own_in, step_of, number_told, unread_line, lines_told, telling, response_to, replayed}

-- ---- the lines

-- What is the same for all octets that a line carries is said of a command whatever stands in the memory for them.
module _ {A : Type 0} (f : Line → A) (of-message : (t s : ℕ) (k l : List ℕ) → f (Line.message t s k) ≡ f (Line.message t s l))
    (of-batch : (t : ℕ) (k l : List ℕ) → f (Line.batch t k) ≡ f (Line.batch t l)) where
  any-octets : (x : Option Command) (o : List ℕ) → f (command_line x []) ≡ f (command_line x o)
  any-octets (Some (Open t)) o = refl
  any-octets (Some (Close t s)) o = refl
  any-octets (Some (Message t s n)) o = of-message t s _ _
  any-octets (Some (Batch t n)) o = of-batch t _ _
  any-octets (Some (Tick t)) o = refl
  any-octets None o = refl

  said-as : (c d : Option Command) → c ≡ d → (v : A) → v ≡ f (command_line d []) → (o : List ℕ) → v ≡ f (command_line c o)
  said-as c d e v h o = h ∙ any-octets d o ∙ ap (λ (x : Option Command). f (command_line x o)) (sym e)

-- A command's verb and session.
module _ (c d : Option Command) (e : c ≡ d) where
  pub verb-as : (v : Option Verb) → v ≡ verb_in (command_line d []) → (o : List ℕ) → v ≡ verb_in (command_line c o)
  verb-as = said-as verb_in (λ t s k l. refl) (λ t k l. refl) c d e

  pub own-as : (s : Option ℕ) → s ≡ own_in (command_line d []) → (o : List ℕ) → s ≡ own_in (command_line c o)
  own-as = said-as own_in (λ t s k l. refl) (λ t k l. refl) c d e

module _ (c : Option Command) (x : Option Answer) (out text p : List ℕ) (r : ℕ) where
  pub told-lines : (a : Answer) → x ≡ Some a → (v : Option Verb) → ((o : List ℕ) → v ≡ verb_in (command_line c o)) → (s : Option ℕ)
      → ((o : List ℕ) → s ≡ own_in (command_line c o)) → Printed text (lines_of v s (answer_of a) out) p r
      → (o : List ℕ) → Printed text (lines_told (command_line c o) (option_map answer_of x) out) p r
  unfolding lines_told
  told-lines a e v f s g w o = rw (e, ← f o, ← g o) w

  pub unread-lines : x ≡ None → Printed text unread_line p r → (o : List ℕ) → Printed text (lines_told (command_line c o) (option_map answer_of x) out) p r
  unfolding lines_told
  unread-lines e w o = rw e w

pub unread-printed : (o p : List ℕ) (r : ℕ) → text_room ≤ length o → Written o 0 unread_line p r → Printed o unread_line p r
unfolding unread_line
unread-printed o p r h w =
    record { whole = w.whole; count = omega (arith, w.next, length-line None (number_told None) None None) }

-- ---- lines of any length

module _ (st : State) (out : List ℕ) where
  -- That the octets are below 256 may be known in any way.
  any_small : (line : Line) (p q : are_bytes (octets_in line) ≡ true) → step_of st out line p ≡ step_of st out line q
  unfolding step_of outcome passed
  any_small (Line.opening t) p q = refl
  any_small (Line.closing t s) p q = refl
  any_small (Line.message t s l) p q = refl
  any_small (Line.batch t l) p q = refl
  any_small (Line.ticking t) p q = refl
  any_small Line.unreadable p q = refl

  same_line : (x : Line) (p : are_bytes (octets_in x) ≡ true) (y : Line) → x ≡ y → (q : are_bytes (octets_in y) ≡ true)
      → telling x (step_of st out x p) ≡ telling y (step_of st out y q)
  same_line x p y e =
      subst (λ (z : Line). (q : are_bytes (octets_in z) ≡ true) → telling x (step_of st out x p) ≡ telling z (step_of st out z q)) e
      (λ q. ap (telling x) (any_small x p q))

  pub kept-response : (l : List ℕ) → response_to st out (kept l) ≡ response_to st out l
  unfolding response_to
  kept-response l = same_line (line_of (kept l)) (line_small (kept l)) (line_of l) (kept_read l) (line_small l)

kept-replayed : (st : State) (out : List ℕ) (ls : List (List ℕ)) → replayed st out (map kept ls) ≡ replayed st out ls
unfolding replayed
kept-replayed st out [] = refl
kept-replayed st out (l ∷ ls) =
    let e = kept-response st out l in
    rw e (ap (λ (x : List ℕ). (response_to st out l).lines ++ x) (kept-replayed (response_to st out l).next (response_to st out l).output ls))

-- However the input comes in chunks, the lines that are cut from it are replayed as those of the whole input.
pub replayed-chunks : (st : State) (out : List ℕ) (chunks lines : List (List ℕ)) (last : List ℕ) → Reads [] chunks lines last
    → replayed st out (lines ++ unended last) ≡ replayed st out (lines_in (joined chunks))
replayed-chunks st out chunks lines last r =
    ap (replayed st out) (cut-lines chunks lines last r) ∙ kept-replayed st out (lines_in (joined chunks))

pub ruleset unread = (unread-printed)

pub ruleset responding = (told-lines, unread-lines)
