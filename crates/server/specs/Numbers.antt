-- The server's numbers, changed: what the inner functions make of them.
use Rattle.std.specs.Prelude.{ℕ, Bool, true, false, cond, List, [], ◌∷◌, get_or, set, replicate, ltb}
use Rattle.session.specs.Clocks.{started}
use Rattle.service.specs.State.{max_sessions}
use Rattle.server.specs.declared.state.Session.{Session}
use Rattle.server.specs.declared.state.Server.{Server}
use Rattle.server.specs.declared.state.Context.{Context}

-- The numbers of a session with no subscription; those of a place that no session has, and of a session that is opened.
abbrev pub bare_of : Bool → ℕ → Session
bare_of live t = record { live = live; clocks = started t; count = 0 }

abbrev pub vacancy : Session
vacancy = bare_of false 0

abbrev pub newcomer : ℕ → Session
newcomer t = bare_of true t

-- The numbers of a session; past the last one those of a vacant place.
unfoldable pub session_at : ℕ → Server → Session
session_at i s = cond (ltb i max_sessions) (get_or s.sessions i vacancy) vacancy

-- The four.
abbrev pub four : Server → List Session
four s = session_at 0 s ∷ session_at 1 s ∷ session_at 2 s ∷ session_at 3 s ∷ []

-- What a message needs of the numbers, with a session's numbers; and with those of session i.
abbrev pub context_with : Session → Server → Context
context_with x s =
    record { latest = s.latest; zone = s.zone; records = s.records; second = s.second; session = x }

abbrev pub context_of : ℕ → Server → Context
context_of i s = context_with (session_at i s) s

-- A session's numbers are replaced; past the last one nothing is.
unfoldable pub put_session : ℕ → Session → Server → Server
put_session i x s = record s { sessions = set (four s) i x }

-- The time is accepted.
unfoldable pub at_time : ℕ → Server → Server
at_time t s = record s { latest = t }

-- The sessions that are flagged are gone.
unfoldable pub kept_of : Bool → Session → Session
kept_of ended x = cond ended vacancy x

unfoldable pub unflagged : List Bool → List Session → List Session
unflagged flags [] = []
unflagged [] (x ∷ l) = x ∷ l
unflagged (f ∷ fs) (x ∷ l) = kept_of f x ∷ unflagged fs l

unfoldable pub swept_by : List Bool → Server → Server
swept_by flags s = record s { sessions = unflagged flags (four s) }

-- A server that starts with a zone's name of n octets.
unfoldable pub fresh_of : ℕ → Server
fresh_of n =
    record {
      latest = 0;
      zone = n;
      records = 0;
      second = false;
      sessions = replicate max_sessions vacancy;
    }
