-- The words that are saved are read as the same server, whole or a session alone.
-- Assumes nothing.
use Prim.Native.Nat.{ℕ, zero, suc, ◌+◌, ◌≤◌, ◌<◌}
use native.Mathlib.Omega.{arith}
use native.Mathlib.Nat.{add-zero, zero-add}
use native.Mathlib.Nat.{mod-eq_of_lt}
use mathlib.Core.Bool.{Bool, true, false, cond}
use mathlib.Core.List.{List, [], ◌∷◌}
use Rattle.std.proofs.lemmas.List.{drop_all}
use mathlib.Core.Path.{◌≡◌, refl, sym, ap, subst, ◌∙◌}
use borrow.Author.Count.{below_none, below_more}
use native.Mathlib.Numerals.{add-one}
use lib.ListN.{length, get_or, set, take, length-set}
use lib.Seq.{sets, sets-eq, get_or-set_same, get_or-set_other}
use lib.Dec.{eqb}
use borrow.Author.Tests.{eqb-true, eqb-false, ne_eqb}
use Rattle.wire.proofs.Writes.{sets-out}
use Rattle.service.specs.State.{max_sessions}
use Rattle.std.specs.Prelude.{Result, Ok, Err}
use Rattle.service.specs.declared.refusal.Refusal.{Refusal}
use Rattle.server.specs.declared.change.Change.{Change}
use Rattle.server.specs.Changes.{change_numbers, numbers_by}
use Rattle.server.specs.declared.state.Session.{Session}
use Rattle.server.specs.declared.state.Server.{Server}
use Rattle.server.specs.Numbers.{vacancy, kept_of, session_at, four, put_session, at_time, swept_by}
use Rattle.server.proofs.Ticks.{swept_to, swept_none, swept-all, swept-turn}
use Rattle.server.proofs.States.{four-all, put-past}
use Rattle.words.specs.Words.{truth, flag, place_of, session_in, server_of, session_words, words_of, Timed, Stored, session_saved, SavedSession, ended_at, SavedDecision, Saved}

truth-flag : (b : Bool) → truth (flag b) ≡ b
truth-flag true = refl
truth-flag false = refl

session-back : (x : Session) (rest : List ℕ) → Timed x → session_in (session_words x rest) 0 ≡ x
session-back x rest t =
    rw (truth-flag x.live, mod-eq_of_lt t.inactivity, mod-eq_of_lt t.keepalive)

server-parts : (s : Server) {t z n : ℕ} {b : Bool} {l : List Session} → t ≡ s.latest → z ≡ s.zone → n ≡ s.records
    → b ≡ s.second → l ≡ s.sessions
    → ◌≡◌ {A = Server} (record { latest = t; zone = z; records = n; second = b; sessions = l }) s
server-parts s t z n b l = rw (t, z, n, b, l)

-- Four sessions by their places.
four-sessions : {a b c d a' b' c' d' : Session} → a ≡ a' → b ≡ b' → c ≡ c' → d ≡ d' → a ∷ b ∷ c ∷ d ∷ [] ≡ a' ∷ b' ∷ c' ∷ d' ∷ []
four-sessions p q r u = rw (p, q, r, u)

-- The numbers of a server, as words, are those numbers.
pub server-back : (s : Server) → length s.sessions ≡ max_sessions → ((i : ℕ) → i < max_sessions → Timed (session_at i s))
    → server_of (words_of s) ≡ s
unfolding server_of words_of
server-back s h timed =
    server-parts s refl refl refl (truth-flag s.second)
    (four-sessions (session-back (session_at 0 s) [] (timed 0 (omega arith))) (session-back (session_at 1 s) [] (timed 1 (omega arith)))
    (session-back (session_at 2 s) [] (timed 2 (omega arith))) (session-back (session_at 3 s) [] (timed 3 (omega arith)))
    ∙ sym (four-all s h))

pub server-four : (w : List ℕ) → length (server_of w).sessions ≡ max_sessions
unfolding server_of
server-four w = refl

-- A run of stores changes what it covers, and nothing else.
get_d-sets-out : (l : List ℕ) (i : ℕ) (vs : List ℕ) (k : ℕ) → ((j : ℕ) → j < length vs → i + j ≡ k → ⊥) → get_or (sets l i vs) k 0 ≡ get_or l k 0
get_d-sets-out l i [] k p = refl
get_d-sets-out l i (v ∷ vs) k p =
    get_d-sets-out (set l i v) (suc i) vs k (λ j h e. p (suc j) (omega arith) (omega arith))
    ∙ get_or-set_other l i k v 0 (λ e. p 0 (omega arith) (omega arith))

get_d-sets-in : (l : List ℕ) (i : ℕ) (vs : List ℕ) (j : ℕ) → j < length vs → i + length vs ≤ length l → get_or (sets l i vs) (i + j) 0 ≡ get_or vs j 0
get_d-sets-in l i [] j h k = absurd (omega arith)
get_d-sets-in l i (v ∷ vs) zero h k =
    get_d-sets-out (set l i v) (suc i) vs (i + 0) (λ j g e. omega arith)
    ∙ ap (λ (n : ℕ). get_or (set l i v) n 0) (add-zero i)
    ∙ get_or-set_same l i v 0 (omega arith)
get_d-sets-in l i (v ∷ vs) (suc j) h k =
    let e : i + suc j ≡ suc i + j = omega arith in
    ap (λ (n : ℕ). get_or (sets (set l i v) (suc i) vs) n 0) e
    ∙ get_d-sets-in (set l i v) (suc i) vs j (omega arith) (omega (arith, length-set l i v))

-- Stores one behind the other are a run.
pub stored : (w : List ℕ) (at : ℕ) (x : Session) (six : List ℕ) → six ≡ session_words x [] → Timed x
    → Stored x at w
    (set (set (set (set (set (set w at (get_or six 0 0)) (at + 1) (get_or six 1 0)) (at + 2) (get_or six 2 0)) (at + 3) (get_or six 3 0))
    (at + 4) (get_or six 4 0)) (at + 5) (get_or six 5 0))
stored w at x six p t =
    let e1 : at + 1 ≡ suc at = omega arith in
    let e2 : at + 2 ≡ suc (suc at) = omega arith in
    let e3 : at + 3 ≡ suc (suc (suc at)) = omega arith in
    let e4 : at + 4 ≡ suc (suc (suc (suc at))) = omega arith in
    let e5 : at + 5 ≡ suc (suc (suc (suc (suc at)))) = omega arith in
    record { words = rw (p, e1, e2, e3, e4, e5); timed = t }

-- Six words are a session.
session-by : (w v : List ℕ) (b c : ℕ) → ((j : ℕ) → j < 6 → get_or w (b + j) 0 ≡ get_or v (c + j) 0) → session_in w b ≡ session_in v c
session-by w v b c h =
    let p : get_or w b 0 ≡ get_or v c 0
    = ap (λ (n : ℕ). get_or w n 0) (sym (add-zero b)) ∙ h 0 (omega arith) ∙ ap (λ (n : ℕ). get_or v n 0) (add-zero c) in
    rw (p, h 1 (omega arith), h 2 (omega arith), h 3 (omega arith), h 4 (omega arith), h 5 (omega arith))

-- Session i's words are replaced, and those of session j are read.
module _ (w : List ℕ) (t i : ℕ) (x : Session) (whole : length w ≡ 28) (timed : i < max_sessions → Timed x) where
  session-saved : (j : ℕ) → j < max_sessions → session_in (session_saved t i x w) (place_of j) ≡ cond (eqb i j) x (session_in w (place_of j))
  session-saved j h = go (eqb i j) refl
    where
      go : (b : Bool) → eqb i j ≡ b → session_in (session_saved t i x w) (place_of j) ≡ cond b x (session_in w (place_of j))
      go true e =
          let f : i ≡ j = eqb-true i j e in
          session-by (session_saved t i x w) (session_words x []) (place_of j) 0
          (λ k g.
          ap (λ (n : ℕ). get_or (session_saved t i x w) (place_of n + k) 0) (sym f)
          ∙ get_d-sets-in (set w 0 t) (place_of i) (session_words x []) k g (omega (arith, length-set w 0 t))
          ∙ ap (λ (n : ℕ). get_or (session_words x []) n 0) (sym (zero-add k)))
          ∙ session-back x [] (timed (omega arith))
      go false e =
          let f : i ≡ j → ⊥ = eqb-false i j e in
          session-by (session_saved t i x w) w (place_of j) (place_of j)
          (λ k g.
          get_d-sets-out (set w 0 t) (place_of i) (session_words x []) (place_of j + k) (λ n m d. omega (arith, f))
          ∙ get_or-set_other w 0 (place_of j + k) t 0 (λ d. omega arith))

  front-saved : (k : ℕ) → k < 4 → get_or (session_saved t i x w) k 0 ≡ get_or (set w 0 t) k 0
  front-saved k h = get_d-sets-out (set w 0 t) (place_of i) (session_words x []) k (λ n m d. omega arith)

-- The server with another session, place by place.
put_by : ℕ → ℕ → Session → Server → Server
put_by t i x s =
    record s {
      latest = t;
      sessions = cond (eqb i 0) x (session_at 0 s) ∷ cond (eqb i 1) x (session_at 1 s) ∷ cond (eqb i 2) x (session_at 2 s)
          ∷ cond (eqb i 3) x (session_at 3 s) ∷ [];
    }

put-by : (t i : ℕ) (x : Session) (s : Server) → put_by t i x s ≡ at_time t (put_session i x s)
unfolding put_by at_time put_session
put-by t zero x s = refl
put-by t (suc zero) x s = refl
put-by t (suc (suc zero)) x s = refl
put-by t (suc (suc (suc zero))) x s = refl
put-by t (suc (suc (suc (suc i)))) x s =
    let k : ℕ = suc (suc (suc (suc i))) in
    rw (ne_eqb k 0 (λ e. omega arith), ne_eqb k 1 (λ e. omega arith), ne_eqb k 2 (λ e. omega arith), ne_eqb k 3 (λ e. omega arith))

module _ (w : List ℕ) (t i : ℕ) (x : Session) (whole : length w ≡ 28) (timed : i < max_sessions → Timed x) where
  server-saved : server_of (session_saved t i x w) ≡ at_time t (put_session i x (server_of w))
  unfolding server_of session_at put_by
  server-saved =
      let front = front-saved w t i x whole timed in
      let session = session-saved w t i x whole timed in
      server-parts (put_by t i x (server_of w)) (front 0 (omega arith) ∙ get_or-set_same w 0 t 0 (omega arith))
      (front 1 (omega arith) ∙ get_or-set_other w 0 1 t 0 (λ d. omega arith))
      (front 2 (omega arith) ∙ get_or-set_other w 0 2 t 0 (λ d. omega arith))
      (ap truth (front 3 (omega arith) ∙ get_or-set_other w 0 3 t 0 (λ d. omega arith)))
      (four-sessions (session 0 (omega arith)) (session 1 (omega arith)) (session 2 (omega arith)) (session 3 (omega arith)))
      ∙ put-by t i x (server_of w)

  saved-session : (w' : List ℕ) → w' ≡ session_saved t i x w → SavedSession t i x w w'
  saved-session w' e = record { words = e; server = ap server_of e ∙ server-saved }

module _ (w : List ℕ) (t i : ℕ) (x : Session) (whole : length w ≡ 28) where
  pub saved-none : max_sessions ≤ i → SavedSession t i x w (set w 0 t)
  saved-none h =
      saved-session w t i x whole (λ g. absurd (omega arith)) (set w 0 t)
      (sym (sets-out (set w 0 t) (place_of i) (session_words x []) (omega (arith, length-set w 0 t))))

  pub saved-stored : (at : ℕ) → at ≡ place_of i → (w' : List ℕ) → Stored x at (set w 0 t) w' → SavedSession t i x w w'
  saved-stored at e w' h =
      saved-session w t i x whole (λ g. h.timed) w'
      (h.words ∙ ap (λ (n : ℕ). sets (set w 0 t) n (session_words x [])) e)

-- ---- all sessions, one behind the other

all_words : List Session → List ℕ
all_words [] = []
all_words (x ∷ l) = session_words x (all_words l)

-- The words with those of the server, and of its first i sessions, at their front.
pub written_to : ℕ → Server → List ℕ → List ℕ
written_to i s w = sets w 0 (s.latest ∷ s.zone ∷ s.records ∷ flag s.second ∷ all_words (take i (four s)))

written-more : (i : ℕ) (s : Server) (w : List ℕ) → i < max_sessions
    → sets (written_to i s w) (place_of i) (session_words (session_at i s) []) ≡ written_to (suc i) s w
unfolding written_to all_words
written-more zero s w h = refl
written-more (suc zero) s w h = refl
written-more (suc (suc zero)) s w h = refl
written-more (suc (suc (suc zero))) s w h = refl
written-more (suc (suc (suc (suc i)))) s w h = absurd (omega arith)

written-all : (s : Server) (w : List ℕ) → length w ≡ 28 → written_to max_sessions s w ≡ words_of s
unfolding written_to all_words words_of
written-all s w h =
    sets-eq (words_of s) w 0 (omega (arith, h)) ∙ rw (drop_all (length (words_of s)) w (omega (arith, h)))

pub record Writing (s : Server) (w w' : List ℕ) (i : ℕ) : Type 0 where
  pub words : w' ≡ written_to i s w
  pub timed : (j : ℕ) → j < i → Timed (session_at j s)

module _ (s : Server) (w : List ℕ) where
  pub writing_none : (n : ℕ) → n ≡ flag s.second → Writing s w (set (set (set (set w 0 s.latest) 1 s.zone) 2 s.records) 3 n) 0
  unfolding written_to all_words
  writing_none n e =
      record {
        words = ap (set (set (set (set w 0 s.latest) 1 s.zone) 2 s.records) 3) e;
        timed = below_none (λ (j : ℕ). Timed (session_at j s));
      }

  module _ (w' : List ℕ) (i : ℕ) (h : Writing s w w' i) where
    pub writing-more : i < max_sessions → (at : ℕ) → at ≡ place_of i → (x : Session) → x ≡ session_at i s → (w'' : List ℕ) → Stored x at w' w''
        → Writing s w w'' (i + 1)
    writing-more b at p x e w'' k =
        record {
          words =
              k.words ∙ rw (p, e, h.words, add-one i) (written-more i s w b);
          timed = below_more (λ (j : ℕ). Timed (session_at j s)) i h.timed (subst Timed e k.timed);
        }

    pub writing-all : max_sessions ≤ i → i ≤ max_sessions → length w ≡ 28 → length s.sessions ≡ max_sessions → Saved s w'
    writing-all a b l f =
        let e : i ≡ max_sessions = omega arith in
        let words : w' ≡ words_of s = h.words ∙ ap (λ (n : ℕ). written_to n s w) e ∙ written-all s w l in
        record { words = words; server = ap server_of words ∙ server-back s f (λ j k. h.timed j (omega arith)) }

-- ---- the session of a number is read

pub session-at : (w : List ℕ) (i : ℕ) → i < max_sessions → session_in w (place_of i) ≡ session_at i (server_of w)
unfolding server_of session_at
session-at w zero h = refl
session-at w (suc zero) h = refl
session-at w (suc (suc zero)) h = refl
session-at w (suc (suc (suc zero))) h = refl
session-at w (suc (suc (suc (suc i)))) h = absurd (omega arith)

-- ---- the sessions that a tick aborts, and those that it does not

put_same : (i : ℕ) (s : Server) → length s.sessions ≡ max_sessions → put_session i (session_at i s) s ≡ s
unfolding put_session
put_same i s h = by i ∙ ap (λ (l : List Session). record s { sessions = l }) (sym (four-all s h))
  where
    by : (j : ℕ) → put_session j (session_at j s) s ≡ record s { sessions = four s }
    by zero = refl
    by (suc zero) = refl
    by (suc (suc zero)) = refl
    by (suc (suc (suc zero))) = refl
    by (suc (suc (suc (suc j)))) = refl

module _ (t i : ℕ) (x : Session) (s : Server) (ended : Bool) where
  pub aborted : x ≡ vacancy → ended ≡ true → at_time t (put_session i x s) ≡ ended_at t ended i s
  unfolding kept_of
  aborted e f = rw (e, f)

  pub spared : length s.sessions ≡ max_sessions → ended ≡ false → at_time t (put_session max_sessions x s) ≡ ended_at t ended i s
  unfolding kept_of
  spared h f = rw (f, put_same i s h, ← put-past max_sessions x s h (omega arith))

-- The first i sessions are looked at.
pub record Ending (t : ℕ) (f : List Bool) (w w' : List ℕ) (i : ℕ) : Type 0 where
  pub within : i ≤ max_sessions
  pub server : server_of w' ≡ at_time t (swept_to i f (server_of w))

module _ (t : ℕ) (f : List Bool) (w : List ℕ) where
  pub ending_none : length w ≡ 28 → Ending t f w (set w 0 t) 0
  ending_none h =
      record {
        within = omega arith;
        server =
            (saved-none w t max_sessions vacancy h (omega arith)).server
            ∙ ap (at_time t) (sym (put-past max_sessions vacancy (server_of w) (server-four w) (omega arith)) ∙ swept_none f (server_of w));
      }

  module _ (w' : List ℕ) (i : ℕ) (h : Ending t f w w' i) where
    pub ending-more : i < max_sessions → length f ≡ max_sessions → (w'' : List ℕ) (j : ℕ)
        → server_of w'' ≡ ended_at t (get_or f i false) j (server_of w') → j ≡ i → Ending t f w w'' (i + 1)
    ending-more b k w'' j e q =
        record {
          within = omega arith;
          server =
              e ∙ ap (λ (n : ℕ). ended_at t (get_or f i false) n (server_of w')) q
              ∙ ap (ended_at t (get_or f i false) i) h.server
              ∙ swept-turn t f (server_of w) i (server-four w) (omega arith) b;
        }

    pub ending-all : max_sessions ≤ i → length f ≡ max_sessions → server_of w' ≡ at_time t (swept_by f (server_of w))
    ending-all a k =
        h.server
        ∙ ap (at_time t) (swept-all f (server_of w) (swept_to i f (server_of w)) i refl (omega arith) (server-four w))

-- ---- a decision

module _ (w : List ℕ) (t : ℕ) (d : Result Change Refusal) where
  pub taken-saved : (k : Change) → d ≡ Ok k → (w' : List ℕ) → server_of w' ≡ change_numbers t k (server_of w) → SavedDecision t d w w'
  unfolding numbers_by
  taken-saved k e w' h =
      record {
        server = h ∙ rw e;
        unchanged = λ x p. absurd (let q : ◌≡◌ {A = ℕ} 0 1 = cc in omega arith);
      }

  pub refused-saved : (x : Refusal) → d ≡ Err x → SavedDecision t d w w
  unfolding numbers_by
  refused-saved x e = record { server = rw e; unchanged = λ y p. refl }
