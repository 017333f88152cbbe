-- A line that is read on, chunk by chunk.
use Prim.Native.Nat.{ℕ}
use mathlib.Core.Path.{◌≡◌, refl, sym, ap, ◌∙◌}
use mathlib.Core.Bool.{Bool, true, false, not}
use mathlib.Core.List.{List, [], ◌++◌, append-nil}
use native.Mathlib.Omega.{arith}
use lib.ListN.{take, drop, length-take, drop_of_length-le}
use lib.Seq.{take_all}
use Rattle.std.specs.Prelude.{Option, Some, None, IsSome}
use Rattle.script.specs.Fields.{until}
use Rattle.script.specs.Output.{lf}
use Rattle.script.specs.Stream.{room, kept, Piece, piece_of}
use Rattle.script.proofs.Cutting.{pieces-joined}
use Rattle.input.specs.Reading.{idle_with, begun_from, left_of, Resumes, LineGoing, ReadsOn, Refills, ReadsLine, NextLine, ReadFails, NextFails}
use Rattle.input.specs.declared.progress.Progress.{Progress}

no_both : {A : Type 0} {b : Bool} → b ≡ true → b ≡ false → A
no_both e f = let z : ◌≡◌ {A = Bool} true false = sym e ∙ f in let y : ◌≡◌ {A = ℕ} 0 1 = cc in absurd (omega arith)

unready : (b : Bool) → not b ≡ true → b ≡ false
unready true e = no_both e refl
unready false e = refl

-- What is held is held, where no octet comes.
piece-nil : (h : List ℕ) → kept h ≡ h → h ≡ (piece_of h []).held
unfolding piece_of until
piece-nil h e = sym (ap kept (append-nil h) ∙ e)

-- What is held is no more than is kept.
kept-held : (h a l : List ℕ) → l ≡ (piece_of h a).held → kept l ≡ l
unfolding piece_of kept
kept-held h a l e =
    let x = h ++ take (until lf a) a in
    let twice : take room (take room x) ≡ take room x = take_all room (take room x) (simp length-take (omega arith)) in
    ap (take room) e ∙ twice ∙ sym e

ended-nil : (h : List ℕ) → (piece_of h []).ended ≡ false
unfolding piece_of until
ended-nil h = refl

rest-nil : (h : List ℕ) → (piece_of h []).rest ≡ []
unfolding piece_of until
rest-nil h = refl

-- One read.
pub refills-chunk : (n held : ℕ) → Refills held (record { end = n; used = 0; held = held; ready = false; more = true })
refills-chunk n held = record { last = λ e. no_both e refl; next = λ m. refl }

pub refills-last : (held : ℕ) → Refills held (record { end = 0; used = 0; held = held; ready = true; more = false })
refills-last held = record { last = λ e. (refl, refl); next = λ m. no_both m refl }

pub refills_none : (held : ℕ) (q : Progress) → q ≡ idle_with false → Refills held q
refills_none held q e =
    record {
      last = λ k. no_both k (ap (λ (x : Progress). x.ready) e);
      next = λ m. no_both m (ap (λ (x : Progress). x.more) e);
    }

module _ (held : ℕ) (q : Progress) (f : Refills held q) (input line : List ℕ) where
  pub refilled-over : q.more ≡ false → ReadsOn (take held line) q input line
  refilled-over over =
      record {
        is-ready = λ n e.
            record {
              ready = e;
              came = [];
              unread = λ k. refl;
              held = ap (λ (k : ℕ). take k line) (f.last e).0 ∙ piece-nil (take held line) n;
              rest = ap (λ (k : ℕ). drop q.used (take k input)) (f.last e).1 ∙ drop_of_length-le [] {i = q.used} (omega arith) ∙ sym (rest-nil (take held line));
              whole = λ m. no_both m over;
            };
        is-going = λ n e m. no_both m over;
      }

  pub refilled-more : q.more ≡ true → (r : Progress) (line' : List ℕ) → Resumes q input line r line' → ReadsOn (take held line) r input line'
  refilled-more m r line' s =
      let piece : record { held = take r.held line'; rest = left_of r input; ended = r.ready } ≡ piece_of (take held line) (left_of q input) =
      s.piece ∙ ap (λ (k : ℕ). piece_of (take k line) (left_of q input)) (f.next m) in
      record {
        is-ready = λ n e.
            record {
              ready = e;
              came = left_of q input;
              unread = λ k. no_both k (ended-nil (take held line));
              held = ap (λ (x : Piece). x.held) piece;
              rest = ap (λ (x : Piece). x.rest) piece;
              whole = λ k. sym (ap (λ (x : Piece). x.ended) piece) ∙ e;
            };
        is-going = λ n e k.
            record {
              came = left_of q input;
              held = ap (λ (x : Piece). x.held) piece;
              ended = sym (ap (λ (x : Piece). x.ended) piece) ∙ e;
            };
      }

-- Nothing was read yet.
pub unread-yet : (held : ℕ) (more : Bool) (input line : List ℕ)
    → ReadsOn (take held line) (record { end = 0; used = 0; held = held; ready = false; more = more }) input line
unread-yet held more input line =
    record {
      is-ready = λ n e. no_both e refl;
      is-going = λ n e m. record { came = []; held = piece-nil (take held line) n; ended = ended-nil (take held line) };
    }

-- Once more.
pub read-on : (h : List ℕ) (q : Progress) (input line : List ℕ) → ReadsOn h q input line → not q.ready ≡ true → q.more ≡ true
    → (r : Progress) (input' line' : List ℕ) → ReadsOn (take q.held line) r input' line' → ReadsOn h r input' line'
read-on h q input line o t m r input' line' s =
    let e : q.ready ≡ false = unready q.ready t in
    let join : (g : LineGoing h q line) (x : List ℕ) → piece_of (take q.held line) x ≡ piece_of h (g.came ++ x) =
    λ g x. ap (λ (l : List ℕ). piece_of l x) g.held ∙ pieces-joined h g.came x g.ended in
    record {
      is-ready = λ n k. let g = o.is-going n e m in let y = s.is-ready (kept-held h g.came (take q.held line) g.held) k in
          record {
            ready = k;
            came = g.came ++ y.came;
            unread = λ z. no_both z (ended-nil h);
            held = y.held ∙ ap (λ (x : Piece). x.held) (join g y.came);
            rest = y.rest ∙ ap (λ (x : Piece). x.rest) (join g y.came);
            whole = λ z. sym (ap (λ (x : Piece). x.ended) (join g y.came)) ∙ y.whole z;
          };
      is-going = λ n k z. let g = o.is-going n e m in let y = s.is-going (kept-held h g.came (take q.held line) g.held) k z in
          record {
            came = g.came ++ y.came;
            held = y.held ∙ ap (λ (x : Piece). x.held) (join g y.came);
            ended = sym (ap (λ (x : Piece). x.ended) (join g y.came)) ∙ y.ended;
          };
    }

pub ready_read : (h : List ℕ) (q : Progress) (input line : List ℕ) → ReadsOn h q input line → q.ready ≡ true → ReadsLine h (Some q) input line
ready_read h q input line o e n = o.is-ready n e

-- A read failed, and the line stays as it is.
pub read_fails : (h : List ℕ) (q : Progress) (input line : List ℕ) → ReadsOn h q input line → not q.ready ≡ true → q.more ≡ true
    → (line' : List ℕ) → line' ≡ line → ReadFails h line'
read_fails h q input line o t m line' e n =
    let g = o.is-going n (unready q.ready t) m in
    record { came = g.came; count = q.held; held = ap (take q.held) e ∙ g.held; ended = g.ended }

-- A line that begins in what is left of the chunk.
module _ (p : Progress) (input line : List ℕ) (q : Progress) (line' : List ℕ) (b : Progress) (n : b ≡ begun_from p) (s : Resumes b input line q line') where
  piece-begun : record { held = take q.held line'; rest = left_of q input; ended = q.ready } ≡ piece_of [] (left_of p input)
  piece-begun = s.piece ∙ ap (λ (x : Progress). piece_of (take x.held line) (left_of x input)) n

  pub cut-next : q.ready ≡ true → NextLine (left_of p input) (Some q) input line'
  cut-next e =
      let piece = piece-begun ∙ ap (piece_of []) (sym (append-nil (left_of p input))) in
      record {
        ready = e;
        came = [];
        unread = λ m. refl;
        held = ap (λ (x : Piece). x.held) piece;
        rest = ap (λ (x : Piece). x.rest) piece;
        whole = λ m. sym (ap (λ (x : Piece). x.ended) piece) ∙ e;
      }

  -- Where the chunk has no end of the line, it goes on with what comes behind the chunk.
  going : q.ready ≡ false → (piece_of [] (left_of p input)).ended ≡ false
  going e = sym (ap (λ (x : Piece). x.ended) piece-begun) ∙ e

  goes-on : q.ready ≡ false → (x : List ℕ) → piece_of (take q.held line') x ≡ piece_of [] (left_of p input ++ x)
  goes-on e x = ap (λ (l : Piece). piece_of l.held x) piece-begun ∙ pieces-joined [] (left_of p input) x (going e)

  kept-begun : kept (take q.held line') ≡ take q.held line'
  kept-begun = kept-held [] (left_of p input) (take q.held line') (ap (λ (x : Piece). x.held) piece-begun)

  pub read_next : q.ready ≡ false → (r : Option Progress) (input' line'' : List ℕ) → ReadsLine (take q.held line') r input' line''
      → NextLine (left_of p input) r input' line''
  read_next e None input' line'' y = tt
  read_next e (Some r) input' line'' y =
      let z = y kept-begun in
      record {
        ready = z.ready;
        came = z.came;
        unread = λ m. no_both m (going e);
        held = z.held ∙ ap (λ (x : Piece). x.held) (goes-on e z.came);
        rest = z.rest ∙ ap (λ (x : Piece). x.rest) (goes-on e z.came);
        whole = λ m. sym (ap (λ (x : Piece). x.ended) (goes-on e z.came)) ∙ z.whole m;
      }

  -- There is one where the chunk has its end.
  pub read_there : q.ready ≡ false → (r : Option Progress) → (piece_of [] (left_of p input)).ended ≡ true → IsSome r
  read_there e r m = no_both m (going e)

  pub next_fails : q.ready ≡ false → (line'' : List ℕ) → ReadFails (take q.held line') line'' → NextFails (left_of p input) line''
  next_fails e line'' f =
      let z = f kept-begun in
      record {
        came = z.came;
        count = z.count;
        held = z.held ∙ ap (λ (x : Piece). x.held) (goes-on e z.came);
        ended = sym (ap (λ (x : Piece). x.ended) (goes-on e z.came)) ∙ z.ended;
      }

pub ruleset refills = (refills-chunk, refills-last, refills_none)

pub ruleset refilled = (refilled-over, refilled-more)

pub ruleset reading = (unread-yet, read-on, ready_read, read_fails)
