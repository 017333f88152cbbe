-- How a server's numbers stand in the 28 words that a C host lends: four of the server, and six of each session.
use Rattle.std.specs.Prelude.{ℕ, ◌+◌, ◌*◌, ◌%◌, ◌<◌, Bool, cond, not, List, [], ◌∷◌, ◌≡◌, get_or, set, eqb, Result, Err}
use Rattle.std.proofs.lemmas.List.Edits.{sets}
use Rattle.server.specs.declared.state.Session.{Session}
use Rattle.server.specs.declared.state.Server.{Server}
use Rattle.service.specs.declared.refusal.Refusal.{Refusal}
use Rattle.server.specs.declared.change.Change.{Change}
use Rattle.server.specs.Numbers.{kept_of, session_at, put_session, at_time}
use Rattle.server.specs.Changes.{numbers_by}

-- Any words are the numbers of a server: a truth is a word that is not 0, and of a timeout 32 bits count.
abbrev pub truth : ℕ → Bool
truth n = not (eqb n 0)

abbrev pub timeout : ℕ → ℕ
timeout n = n % 4294967296

-- Where the words of session i begin.
abbrev pub place_of : ℕ → ℕ
place_of i = 4 + 6 * i

-- The session whose six words begin at a place.
abbrev pub session_in : List ℕ → ℕ → Session
session_in w at =
    record {
      live = truth (get_or w at 0);
      clocks = record {
        active = get_or w (at + 1) 0;
        alive = get_or w (at + 2) 0;
        inactivity = timeout (get_or w (at + 3) 0);
        keepalive = timeout (get_or w (at + 4) 0);
      };
      count = get_or w (at + 5) 0;
    }

unfoldable pub server_of : List ℕ → Server
server_of w =
    record {
      latest = get_or w 0 0;
      zone = get_or w 1 0;
      records = get_or w 2 0;
      second = truth (get_or w 3 0);
      sessions = session_in w (place_of 0) ∷ session_in w (place_of 1) ∷ session_in w (place_of 2) ∷ session_in w (place_of 3) ∷ [];
    }

abbrev pub flag : Bool → ℕ
flag b = cond b 1 0

-- A session's words, with others behind them.
abbrev pub session_words : Session → List ℕ → List ℕ
session_words x rest =
    flag x.live ∷ x.clocks.active ∷ x.clocks.alive ∷ x.clocks.inactivity ∷ x.clocks.keepalive ∷ x.count ∷ rest

unfoldable pub words_of : Server → List ℕ
words_of s =
    s.latest ∷ s.zone ∷ s.records ∷ flag s.second
    ∷ session_words (session_at 0 s)
    (session_words (session_at 1 s) (session_words (session_at 2 s) (session_words (session_at 3 s) [])))

-- A session's timeouts have 32 bits.
pub record Timed (x : Session) : Type 0 where
  pub inactivity : x.clocks.inactivity < 4294967296
  pub keepalive : x.clocks.keepalive < 4294967296

-- A session's words stand at a place, and the others are as they were.
pub record Stored (x : Session) (at : ℕ) (w w' : List ℕ) : Type 0 where
  pub words : w' ≡ sets w at (session_words x [])
  pub timed : Timed x

-- The words after session i's are replaced at a time. Past the last session there are none.
abbrev pub session_saved : ℕ → ℕ → Session → List ℕ → List ℕ
session_saved t i x w = sets (set w 0 t) (place_of i) (session_words x [])

-- What is saved of a message: they are read as the server with that session, at that time.
pub record SavedSession (t i : ℕ) (x : Session) (w w' : List ℕ) : Type 0 where
  pub words : w' ≡ session_saved t i x w
  pub server : server_of w' ≡ at_time t (put_session i x (server_of w))

-- The numbers after a tick at a time that aborts session i, or does not.
abbrev pub ended_at : ℕ → Bool → ℕ → Server → Server
ended_at t ended i s = at_time t (put_session i (kept_of ended (session_at i s)) s)

-- What is saved of a decision at a time: they are read as the server that it leaves. A refusal leaves the very words.
pub record SavedDecision (t : ℕ) (d : Result Change Refusal) (w w' : List ℕ) : Type 0 where
  pub server : server_of w' ≡ numbers_by t d (server_of w)
  pub unchanged : (x : Refusal) → d ≡ Err x → w' ≡ w

-- What is saved: the server's words, which are read as that server again.
pub record Saved (s : Server) (w : List ℕ) : Type 0 where
  pub words : w ≡ words_of s
  pub server : server_of w ≡ s
