-- What the numbers and the lent memory hold, session by session, and after one is replaced.
use Prim.Native.Nat.{ℕ, zero, suc, ◌≤◌, ◌<◌}
use native.Mathlib.Omega.{arith}
use mathlib.Core.Bool.{Bool, true, false, cond, not}
use mathlib.Core.List.{List, [], ◌∷◌}
use mathlib.Core.Path.{◌≡◌, refl, sym, ap, ◌∙◌}
use Rattle.std.proofs.lemmas.List.{set_past, get_or_default}
use lib.ListN.{length, get_or, set}
use borrow.Author.Tests.{lt-ltb, le-ltb}
use Rattle.session.specs.Clocks.{started}
use Rattle.session.specs.Table.{subscriptions_of}
use Rattle.session.proofs.Table.{subscriptions_of-none}
use Rattle.service.specs.State.{free, live, slot_at, max_sessions}
use Rattle.service.specs.Checks.{is_free}
use Rattle.service.specs.Call.{with_slots}
use Rattle.server.specs.declared.state.Session.{Session}
use Rattle.server.specs.declared.state.Server.{Server}
use Rattle.server.specs.Memory.{Memory, area_at, put_area, slot_of, state_of}
use Rattle.server.specs.Numbers.{vacancy, newcomer, session_at, four, put_session, at_time}

pub slot-vacancy : (a : List ℕ) → slot_of vacancy a ≡ free
unfolding slot_of
slot-vacancy a = refl

-- ---- a session by its number

pub session-past : (i : ℕ) (s : Server) → 4 ≤ i → vacancy ≡ session_at i s
unfolding session_at
session-past i s h = rw (le-ltb i max_sessions h)

pub session-within : (i : ℕ) (s : Server) → i < 4 → session_at i s ≡ get_or s.sessions i vacancy
unfolding session_at
session-within i s h = rw (lt-ltb i max_sessions h)

-- What is read of a server of four.
pub session-read : (i : ℕ) (d : Session) (s : Server) → length s.sessions ≡ max_sessions → i < max_sessions → get_or s.sessions i d ≡ session_at i s
session-read i d s h k = get_or_default s.sessions i d vacancy (omega arith) ∙ sym (session-within i s k)

-- A list of four.
pub four-of : {A : Type 0} (d : A) (l : List A) → length l ≡ max_sessions → l ≡ get_or l 0 d ∷ get_or l 1 d ∷ get_or l 2 d ∷ get_or l 3 d ∷ []
four-of d [] e = absurd (omega arith)
four-of d (x ∷ []) e = absurd (omega arith)
four-of d (x ∷ y ∷ []) e = absurd (omega arith)
four-of d (x ∷ y ∷ z ∷ []) e = absurd (omega arith)
four-of d (x ∷ y ∷ z ∷ w ∷ []) e = refl
four-of d (x ∷ y ∷ z ∷ w ∷ v ∷ l) e = absurd (omega arith)

pub four-all : (s : Server) → length s.sessions ≡ max_sessions → s.sessions ≡ four s
unfolding session_at
four-all s h = four-of vacancy s.sessions h

-- A session is replaced in a server of four.
pub put-by : (i : ℕ) (x : Session) (s : Server) → length s.sessions ≡ max_sessions → record s { sessions = set s.sessions i x } ≡ put_session i x s
unfolding put_session
put-by i x s h = ap (λ (l : List Session). record s { sessions = set l i x }) (four-all s h)

pub put-past : (i : ℕ) (x : Session) (s : Server) → length s.sessions ≡ max_sessions → max_sessions ≤ i → s ≡ put_session i x s
put-past i x s h k = ap (λ (l : List Session). record s { sessions = l }) (sym (set_past s.sessions i x (omega arith))) ∙ put-by i x s h

pub slot-at : (s : Server) (m : Memory) (i : ℕ) → slot_at (state_of s m) i ≡ slot_of (session_at i s) (area_at i m)
unfolding state_of
slot-at s m zero = refl
slot-at s m (suc zero) = refl
slot-at s m (suc (suc zero)) = refl
slot-at s m (suc (suc (suc zero))) = refl
slot-at s m (suc (suc (suc (suc i)))) =
    sym (slot-vacancy []) ∙ ap (λ (x : Session). slot_of x []) (session-past (suc (suc (suc (suc i)))) s (omega arith))

-- ---- what a session's numbers hold

pub slot-free : (x : Session) (a : List ℕ) → is_free (slot_of x a) ≡ not x.live
unfolding slot_of
slot-free x a = by x.live
  where
    by : (b : Bool) → is_free (cond b (live (record { subscriptions = subscriptions_of x.count a; clocks = x.clocks })) free) ≡ not b
    by true = refl
    by false = refl

pub slot-newcomer : (t : ℕ) (a : List ℕ) → slot_of (newcomer t) a ≡ live (record { subscriptions = []; clocks = started t })
unfolding slot_of
slot-newcomer t a = rw (subscriptions_of-none a)

pub slot-live : (x : Session) (a : List ℕ) → x.live ≡ true → slot_of x a ≡ live (record { subscriptions = subscriptions_of x.count a; clocks = x.clocks })
unfolding slot_of
slot-live x a h = rw h

pub slot-dead : (x : Session) (a : List ℕ) → x.live ≡ false → slot_of x a ≡ free
unfolding slot_of
slot-dead x a h = rw h

-- ---- the state after the numbers change

-- A session, and its area, are replaced at a time.
pub state-placed : (t i : ℕ) (x : Session) (s : Server) (m : Memory) (a : List ℕ)
    → state_of (at_time t (put_session i x s)) (put_area i a m) ≡ with_slots t (set (state_of s m).slots i (slot_of x a)) (state_of s m)
unfolding state_of session_at put_session put_area at_time
state-placed t zero x s m a = refl
state-placed t (suc zero) x s m a = refl
state-placed t (suc (suc zero)) x s m a = refl
state-placed t (suc (suc (suc zero))) x s m a = refl
state-placed t (suc (suc (suc (suc i)))) x s m a = refl

area_same : (i : ℕ) (m : Memory) → put_area i (area_at i m) m ≡ m
unfolding put_area
area_same zero m = refl
area_same (suc zero) m = refl
area_same (suc (suc zero)) m = refl
area_same (suc (suc (suc zero))) m = refl
area_same (suc (suc (suc (suc i)))) m = refl

pub state-put : (t i : ℕ) (x : Session) (s : Server) (m : Memory)
    → state_of (at_time t (put_session i x s)) m
    ≡ with_slots t (set (state_of s m).slots i (slot_of x (area_at i m))) (state_of s m)
state-put t i x s m =
    ap (λ (k : Memory). state_of (at_time t (put_session i x s)) k) (sym (area_same i m))
    ∙ state-placed t i x s m (area_at i m)
