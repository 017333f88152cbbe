-- What a tick does to the sessions.
use Prim.Native.Nat.{ℕ, zero, suc, ◌+◌, ◌<◌, ◌≤◌}
use native.Mathlib.Omega.{arith}
use mathlib.Core.Bool.{Bool, true, false, cond}
use mathlib.Core.List.{List, [], ◌∷◌, map}
use mathlib.Core.Path.{◌≡◌, refl, sym, ap, ◌∙◌}
use native.Mathlib.Numerals.{add-one}
use Rattle.std.proofs.lemmas.List.{take_all}
use lib.Dec.{ltb}
use lib.ListN.{length, get_or, set, take}
use borrow.Author.Tests.{lt-ltb}
use Rattle.session.specs.Clocks.{expired}
use Rattle.session.specs.Table.{subscriptions_of}
use Rattle.session.proofs.Table.{subscriptions_of-none, subscriptions_of-some}
use Rattle.service.specs.State.{Slot, free, max_sessions}
use Rattle.service.specs.Call.{has_any, ends_at, with_slots}
use Rattle.server.specs.declared.state.Session.{Session}
use Rattle.server.specs.declared.state.Server.{Server}
use Rattle.server.specs.Memory.{Memory, area_at, slot_of, state_of}
use Rattle.server.specs.Numbers.{vacancy, session_at, kept_of, unflagged, put_session, swept_by, at_time}
use Rattle.server.proofs.States.{four-of, four-all, put-by, session-within, slot-live, slot-dead, slot-vacancy}

-- ---- whether a session ends

pub has-any : (count : ℕ) (a : List ℕ) → has_any (subscriptions_of count a) ≡ ltb 0 count
has-any zero a = ap has_any (subscriptions_of-none a)
has-any (suc n) a =
    ap has_any (subscriptions_of-some (suc n) a (omega arith)) ∙ sym (lt-ltb 0 (suc n) (omega arith))

pub ends-live : (x : Session) (t : ℕ) → x.live ≡ true → (r : Bool) → r ≡ expired (ltb 0 x.count) t x.clocks
    → (a : List ℕ) → r ≡ ends_at t (slot_of x a)
ends-live x t h r e a =
    e
    ∙ sym (ap (ends_at t) (slot-live x a h) ∙ ap (λ (b : Bool). expired b t x.clocks) (has-any x.count a))

pub ends-dead : (x : Session) (t : ℕ) → x.live ≡ false → (a : List ℕ) → false ≡ ends_at t (slot_of x a)
ends-dead x t h a = sym (ap (ends_at t) (slot-dead x a h))

pub due-flags : (s : Server) (t : ℕ) (m : Memory) (l : List Bool) → length l ≡ max_sessions
    → ((i : ℕ) → i < max_sessions → get_or l i false ≡ ends_at t (slot_of (session_at i s) (area_at i m)))
    → l ≡ map (ends_at t) (state_of s m).slots
unfolding state_of
due-flags s t m l e h =
    four-of false l e ∙ rw (h 0 (omega arith), h 1 (omega arith), h 2 (omega arith), h 3 (omega arith))

-- ---- the sessions that stay

slot_kept : (ended : Bool) (x : Session) (a : List ℕ) → slot_of (kept_of ended x) a ≡ cond ended free (slot_of x a)
unfolding kept_of
slot_kept true x a = slot-vacancy a
slot_kept false x a = refl

-- Those that are not flagged.
staying : List Bool → List Slot → List Slot
staying flags [] = []
staying [] (x ∷ l) = x ∷ l
staying (f ∷ fs) (x ∷ l) = cond f free x ∷ staying fs l

staying-map : (p : Slot → Bool) (l : List Slot) → staying (map p l) l ≡ map (λ (x : Slot). cond (p x) free x) l
unfolding staying
staying-map p [] = refl
staying-map p (x ∷ l) = ap (λ (r : List Slot). cond (p x) free x ∷ r) (staying-map p l)

state-swept : (t : ℕ) (f : List Bool) (s : Server) (m : Memory)
    → state_of (at_time t (swept_by f s)) m ≡ with_slots t (staying f (state_of s m).slots) (state_of s m)
unfolding state_of session_at swept_by unflagged at_time staying
state-swept t [] s m = refl
state-swept t (a ∷ []) s m = rw (slot_kept a (session_at 0 s) m.s0)
state-swept t (a ∷ b ∷ []) s m = rw (slot_kept a (session_at 0 s) m.s0, slot_kept b (session_at 1 s) m.s1)
state-swept t (a ∷ b ∷ c ∷ []) s m =
    rw (slot_kept a (session_at 0 s) m.s0, slot_kept b (session_at 1 s) m.s1, slot_kept c (session_at 2 s) m.s2)
state-swept t (a ∷ b ∷ c ∷ d ∷ fs) s m =
    rw (slot_kept a (session_at 0 s) m.s0, slot_kept b (session_at 1 s) m.s1, slot_kept c (session_at 2 s) m.s2, slot_kept d (session_at 3 s) m.s3)

pub state-ticked : (t : ℕ) (f : List Bool) (s : Server) (m : Memory) → f ≡ map (ends_at t) (state_of s m).slots
    → state_of (at_time t (swept_by f s)) m
    ≡ with_slots t (map (λ (x : Slot). cond (ends_at t x) free x) (state_of s m).slots) (state_of s m)
state-ticked t f s m e =
    state-swept t f s m
    ∙ ap (λ (l : List Slot). with_slots t l (state_of s m))
    (ap (λ (fs : List Bool). staying fs (state_of s m).slots) e ∙ staying-map (ends_at t) (state_of s m).slots)

-- ---- session by session

unflagged_none : (l : List Session) → unflagged [] l ≡ l
unfolding unflagged
unflagged_none [] = refl
unflagged_none (x ∷ l) = refl

-- One more flag is looked at.
unflagged-more : (f : List Bool) (l : List Session) (i : ℕ) (d : Session) → i < length f → i < length l
    → set (unflagged (take i f) l) i (kept_of (get_or f i false) (get_or l i d)) ≡ unflagged (take (suc i) f) l
unfolding unflagged
unflagged-more [] l i d h k = absurd (omega arith)
unflagged-more f [] i d h k = absurd (omega arith)
unflagged-more (b ∷ f) (x ∷ l) zero d h k = ap (λ (r : List Session). kept_of b x ∷ r) (sym (unflagged_none l))
unflagged-more (b ∷ f) (x ∷ l) (suc i) d h k =
    ap (λ (r : List Session). kept_of b x ∷ r) (unflagged-more f l i d (omega arith) (omega arith))

unflagged-behind : (f : List Bool) (l : List Session) (i : ℕ) (d : Session) → get_or (unflagged (take i f) l) i d ≡ get_or l i d
unfolding unflagged
unflagged-behind f [] i d = refl
unflagged-behind f (x ∷ l) zero d = refl
unflagged-behind [] (x ∷ l) (suc i) d = refl
unflagged-behind (b ∷ f) (x ∷ l) (suc i) d = unflagged-behind f l i d

-- The sessions that are flagged among the first i are gone.
abbrev pub swept_to : ℕ → List Bool → Server → Server
swept_to i f s = record s { sessions = unflagged (take i f) s.sessions }

module _ (f : List Bool) (s : Server) where
  pub swept_none : s ≡ swept_to 0 f s
  swept_none = ap (λ (l : List Session). record s { sessions = l }) (sym (unflagged_none s.sessions))

  module _ (now : Server) (i : ℕ) (e : now ≡ swept_to i f s) where
    pub swept-more : i < length f → i < length s.sessions → (x d : Session) → x ≡ kept_of (get_or f i false) (get_or now.sessions i d)
        → record now { sessions = set now.sessions i x } ≡ swept_to (i + 1) f s
    swept-more h k x d p =
        rw (p, e, unflagged-behind f s.sessions i d, add-one i)
        (ap (λ (l : List Session). record s { sessions = l }) (unflagged-more f s.sessions i d h k))

    pub swept-all : length f ≤ i → length s.sessions ≡ max_sessions → now ≡ swept_by f s
    unfolding swept_by
    swept-all h k =
        e ∙ ap (λ (l : List Session). record s { sessions = l })
        (ap (λ (g : List Bool). unflagged g s.sessions) (take_all i f h) ∙ ap (unflagged f) (four-all s k))

length-unflagged : (f : List Bool) (l : List Session) → length (unflagged f l) ≡ length l
unfolding unflagged
length-unflagged f [] = refl
length-unflagged [] (x ∷ l) = refl
length-unflagged (b ∷ f) (x ∷ l) = ap suc (length-unflagged f l)

-- The same where the time is accepted first and each session is replaced by itself.
pub swept-turn : (t : ℕ) (f : List Bool) (s : Server) (i : ℕ) → length s.sessions ≡ max_sessions → i < length f → i < max_sessions
    → at_time t (put_session i (kept_of (get_or f i false) (session_at i (at_time t (swept_to i f s)))) (at_time t (swept_to i f s)))
    ≡ at_time t (swept_to (i + 1) f s)
unfolding at_time
swept-turn t f s i h k b =
    let x = kept_of (get_or f i false) (session_at i (at_time t (swept_to i f s))) in
    ap (at_time t) (sym (put-by i x (at_time t (swept_to i f s)) (omega (arith, length-unflagged (take i f) s.sessions))))
    ∙ ap (at_time t)
    (swept-more f s (swept_to i f s) i refl k (omega arith) x vacancy
    (ap (kept_of (get_or f i false)) (session-within i (at_time t (swept_to i f s)) b)))
