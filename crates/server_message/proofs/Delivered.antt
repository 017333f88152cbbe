-- A received message, from what receiving ensures to the outcome of the call.
use Prim.Native.Nat.{ℕ, zero, suc, ◌*◌, ◌-◌, ◌≤◌, ◌<◌}
use native.Mathlib.Omega.{arith}
use mathlib.Core.Bool.{Bool, true, false, cond, not, ◌||◌}
use mathlib.Core.List.{List, ◌++◌}
use mathlib.Core.Option.{none, some}
use mathlib.Core.Path.{◌≡◌, refl, sym, ap, subst, ◌∙◌}
use lib.ListN.{length, take, drop, set, replicate}
use lib.Seq.{sets}
use lib.Dec.{leb, ltb}
use lib.Pow.{are_bytes}
use borrow.Author.Tests.{lt-ltb, leb-false, ltb-false}
use Rattle.wire.specs.Part.{part}
use Rattle.wire.proofs.Writes.{sets-lent-rest}
use Rattle.session.specs.Table.{subscriptions_of}
use Rattle.session.specs.declared.clocks.Clocks.{Clocks}
use Rattle.zone.specs.Record.{Record}
use Rattle.zone.specs.Table.{records_of}
use Rattle.service.specs.State.{Slot, live, slot_at, max_sessions}
use Rattle.service.specs.Answer.{sent}
use Rattle.service.specs.Answer.{refusal_number, answer_number}
use Rattle.service.proofs.Quiet.{refusal-above}
use Rattle.service.specs.Checks.{is_free, is_absent, refusal_of, output_size, least_output, max_message}
use Rattle.service.specs.Message as Message
use Rattle.service.specs.Message.{message_effect}
use Rattle.service.specs.Call as Call
use Rattle.service.specs.Call.{Call, receives, passed, with_slots, effect_at, effect_outcome, message_outcome}
use Rattle.service.specs.declared.refusal.Refusal.{Refusal}
use Rattle.receive.specs.Effect.{Does, effect_is, bytes_of, bytes_in}
use Rattle.receive.specs.declared.effect.Received.{Received}
use Rattle.receive.specs.declared.effect.Effect.{Effect}
use Rattle.receive.specs.declared.effect.Effect.TheVariants.{Abort, Nothing, Reply, Others, Places}
use Rattle.server.specs.declared.answer.Answer.TheVariants.{Refused}
use Rattle.server.specs.declared.answer.Outcome.{Outcome}
use Rattle.server.specs.declared.answer.Heard.{Heard}
use Rattle.std.specs.Prelude.{Some, Result, Ok, Err}
use Rattle.server.specs.declared.checks.Brought.{Brought}
use Rattle.server.specs.Checks.{refused_by, first_of, tested_of, missing, message_brought}
use Rattle.server.proofs.Refusals.{tested-refusal}
use Rattle.server.proofs.Outcomes.{gives-refused, gives-passed}
use Rattle.server.specs.declared.state.Session.{Session}
use Rattle.server.specs.declared.state.Server.{Server}
use Rattle.server.specs.declared.state.Context.{Context}
use Rattle.server.specs.Memory.{Memory, area_at, put_area, holding, session_of, state_of}
use Rattle.server.specs.Numbers.{vacancy, session_at, context_with, context_of, put_session, at_time}
use Rattle.server.specs.Answers.{Gives, Serves, answer_of, last_accepted, kept_by, heard_in, refusing}
use Rattle.server_message.specs.Delivery.{
  count_at,
  answer_to,
  gone_or,
  concluded_of,
  declined_of,
  effect_in,
  DoesAt,
  Turns,
  Delivers,
  Has,
  Hears,
}
use Rattle.server.proofs.States.{slot-at, slot-live, slot-free, slot-vacancy, state-placed}

-- ---- the part of the output that is lent comes back

pub does_at : (at : ℕ) (e : Message.Effect) (r : Received) (area o p : List ℕ) → Does e r area (take (length o - at) (drop at o)) p
    → DoesAt at e r area o (take at o ++ (p ++ drop (length o - at) (drop at o)))
does_at at e r area o p d =
    record { means = d.means; written = sets-lent-rest o p (bytes_of e) at d.written; counted = d.counted }

-- ---- what an effect concludes

module _ (s : Server) (t i : ℕ) (mem : Memory) (area o : List ℕ) (clocks : Clocks) (count : ℕ) where
  -- The session stays.
  stays : state_of (at_time t (put_session i (record { live = true; clocks = clocks; count = count }) s)) (put_area i area mem)
      ≡ with_slots t
      (set (state_of s mem).slots i (live (record { subscriptions = subscriptions_of count area; clocks = clocks })))
      (state_of s mem)
  stays =
      state-placed t i (record { live = true; clocks = clocks; count = count }) s mem area
      ∙ ap (λ (x : Slot). with_slots t (set (state_of s mem).slots i x) (state_of s mem))
      (slot-live (record { live = true; clocks = clocks; count = count }) area refl)

  concludes : (f : Effect) (w : List ℕ)
      → let r : Received = record { clocks = clocks; count = count; effect = f } in
      bytes_in f ≡ length (bytes_of (effect_is r area w))
      → Gives s (heard_in s t i (concluded_of i r)) (put_area i area mem) (sets o (i * output_size) (bytes_of (effect_is r area w)))
      (effect_outcome (state_of s mem) t i o (effect_is r area w))
  unfolding effect_outcome answer_of answer_to count_at gone_or kept_by answer_number
  concludes Abort w h =
      record {
        next =
            state-placed t i vacancy s mem area
            ∙ ap (λ (x : Slot). with_slots t (set (state_of s mem).slots i x) (state_of s mem)) (slot-vacancy area);
        answer = refl;
        output = refl;
        unchanged = λ y p. absurd (let q : ◌≡◌ {A = ℕ} 0 1 = cc in omega arith);
      }
  concludes Nothing w h =
      record {
        next = stays;
        answer = refl;
        output = refl;
        unchanged = λ y p. absurd (let q : ◌≡◌ {A = ℕ} 0 1 = cc in omega arith);
      }
  concludes (Reply n) w h =
      record {
        next = stays;
        answer = ap (λ (k : ℕ). sent (set (replicate max_sessions 0) i k)) h;
        output = refl;
        unchanged = λ y p. absurd (let q : ◌≡◌ {A = ℕ} 0 1 = cc in omega arith);
      }
  concludes Others w h =
      record {
        next = stays;
        answer = refl;
        output = refl;
        unchanged = λ y p. absurd (let q : ◌≡◌ {A = ℕ} 0 1 = cc in omega arith);
      }
  concludes (Places p) w h =
      record {
        next = stays;
        answer = refl;
        output = refl;
        unchanged = λ y e. absurd (let q : ◌≡◌ {A = ℕ} 0 1 = cc in omega arith);
      }

-- ---- one session's turn

gives_same : (s : Server) (m : Memory) (r r₁ : Outcome) (o o₁ : List ℕ) (w w₁ : Call.Outcome) → r ≡ r₁ → o ≡ o₁ → w ≡ w₁
    → Gives s r₁ m o₁ w₁ → Gives s r m o w
gives_same s m r r₁ o o₁ w w₁ p q e g = rw (p, q, e) g

effect-live : (s : Server) (t i : ℕ) (zone store area m : List ℕ) (mem : Memory) → (session_at i s).live ≡ true → mem.zone ≡ zone
    → holding s mem ≡ store → area_at i mem ≡ area
    → effect_at (state_of s mem) t m (slot_at (state_of s mem) i) ≡ effect_in (context_of i s) t zone store m area
unfolding state_of
effect-live s t i zone store area m mem h p q e =
    ap (effect_at (state_of s mem) t m) (slot-at s mem i ∙ slot-live (session_at i s) (area_at i mem) h)
    ∙ ap (λ (z : List ℕ). effect_in (context_of i s) t z (holding s mem) m (area_at i mem)) p
    ∙ ap (λ (z : List ℕ). effect_in (context_of i s) t zone z m (area_at i mem)) q
    ∙ ap (effect_in (context_of i s) t zone store m) e

never-refused : (i : ℕ) (f : Effect) (x : Refusal) → answer_to i f ≡ Refused x → ⊥
unfolding answer_to
never-refused i Abort x e = let z : ◌≡◌ {A = ℕ} 0 1 = cc in omega arith
never-refused i Nothing x e = let z : ◌≡◌ {A = ℕ} 0 1 = cc in omega arith
never-refused i (Reply n) x e = let z : ◌≡◌ {A = ℕ} 0 1 = cc in omega arith
never-refused i Others x e = let z : ◌≡◌ {A = ℕ} 0 1 = cc in omega arith
never-refused i (Places p) x e = let z : ◌≡◌ {A = ℕ} 0 1 = cc in omega arith

turned-in : (s : Server) (t i : ℕ) (zone store area area' m o o' : List ℕ) (x : Received) → (session_at i s).live ≡ true
    → DoesAt (i * output_size) (effect_in (context_of i s) t zone store m area) x area' o o' → (h : Heard) → h ≡ concluded_of i x
    → (mem : Memory) → mem.zone ≡ zone → holding s mem ≡ store → area_at i mem ≡ area
    → Gives s (heard_in s t i h) (put_area i area' mem) o' (message_outcome (state_of s mem) t i m o)
unfolding message_outcome
turned-in s t i zone store area area' m o o' x l d h f mem p q a =
    let w : List ℕ = bytes_of (effect_in (context_of i s) t zone store m area) in
    let k : Message.Effect = effect_is x area' w in
    gives_same s (put_area i area' mem) (heard_in s t i h) (heard_in s t i (concluded_of i x)) o' (sets o (i * output_size) (bytes_of k))
    (message_outcome (state_of s mem) t i m o) (effect_outcome (state_of s mem) t i o k) (ap (heard_in s t i) f)
    (d.written ∙ ap (λ (y : Message.Effect). sets o (i * output_size) (bytes_of y)) d.means)
    (ap (effect_outcome (state_of s mem) t i o) (effect-live s t i zone store area m mem l p q a ∙ d.means))
    (concludes s t i mem area' o x.clocks x.count x.effect w
    (d.counted ∙ ap (λ (y : Message.Effect). length (bytes_of y)) d.means))

pub turned : (c : Context) (t i : ℕ) (zone store area area' m o o' : List ℕ) (x : Received) → c.session.live ≡ true
    → DoesAt (i * output_size) (effect_in c t zone store m area) x area' o o' → (h : Heard) → h ≡ concluded_of i x
    → Turns c t i zone store area area' m o o' h
turned c t i zone store area area' m o o' x l d h f =
    record {
      gives = λ s mem e.
          turned-in s t i zone store area area' m o o' x (ap (λ (k : Context). k.session.live) e ∙ l)
          (subst (λ (k : Context). DoesAt (i * output_size) (effect_in k t zone store m area) x area' o o') (sym e) d) h f mem;
      accepted = λ y p. never-refused i x.effect y (sym (ap (λ (k : Heard). k.answer) f) ∙ p);
    }

-- ---- a message that passed the checks has a session and room

or-false : (a b : Bool) → a || b ≡ false → (a ≡ false) × (b ≡ false)
or-false true b e = absurd (let z : ◌≡◌ {A = ℕ} 0 1 = cc in omega arith)
or-false false b e = (refl, e)

not-not : (b : Bool) → not b ≡ false → b ≡ true
not-not true e = refl
not-not false e = absurd (let z : ◌≡◌ {A = ℕ} 0 1 = cc in omega arith)

first-none : (short early absent long : Bool) → first_of short early absent long ≡ none → (short ≡ false) × (absent ≡ false)
unfolding first_of
first-none true b c d e = absurd (let z : ◌≡◌ {A = ℕ} 0 1 = cc in omega arith)
first-none false true c d e = absurd (let z : ◌≡◌ {A = ℕ} 0 1 = cc in omega arith)
first-none false false true d e = absurd (let z : ◌≡◌ {A = ℕ} 0 1 = cc in omega arith)
first-none false false false d e = (refl, refl)

pub record Ready (c : Context) (i : ℕ) (o : List ℕ) : Type 0 where
  pub known : i < max_sessions
  pub roomy : least_output ≤ length o
  pub alive : c.session.live ≡ true

-- What the checks say of a message, from its context.
module _ (c : Context) (t i n : ℕ) (o : List ℕ) (k : Result Unit Refusal)
    (h : refused_by k ≡ tested_of c.latest (missing i c.session) (message_brought t i (length o) n)) where
  -- The session is absent in every server that has the context, or in none.
  absent-in : (s : Server) → Has c i s → (mem : Memory) → missing i c.session ≡ is_absent (state_of s mem) (some i)
  absent-in s e mem = go (leb max_sessions i) refl
    where
      go : (b : Bool) → leb max_sessions i ≡ b → missing i c.session ≡ is_absent (state_of s mem) (some i)
      go true p = rw p
      go false p =
          rw p
          (ap (λ (x : Session). not x.live) (sym (e.session (leb-false max_sessions i p)))
          ∙ sym (ap is_free (slot-at s mem i) ∙ slot-free (session_at i s) (area_at i mem)))

  pub checked-in : (s : Server) → Has c i s → (mem : Memory)
      → refused_by k ≡ refusal_of (state_of s mem) (message_brought t i (length o) n)
  checked-in s e mem =
      h
      ∙ tested-refusal s mem (message_brought t i (length o) n) c.latest
      (sym (ap (λ (x : Context). x.latest) e.numbers)) (missing i c.session) (absent-in s e mem)

  -- A message that passed has a session and room.
  pub ready : (u : Unit) → k ≡ Ok u → Ready c i o
  ready u e =
      let p = first-none (ltb (length o) least_output) (ltb t c.latest) (missing i c.session) (ltb max_message n) (sym h ∙ ap refused_by e) in
      let q = or-false (leb max_sessions i) (not c.session.live) p.1 in
      record {
        known = leb-false max_sessions i q.0;
        roomy = ltb-false (length o) least_output p.0;
        alive = not-not c.session.live q.1;
      }

-- ---- the pieces of the code

pub attended : (c : Context) (t i at : ℕ) (zone store area area' m o p name : List ℕ) (records : List Record) (r : Received)
    → name ≡ part zone 0 c.zone → records ≡ records_of c.records store → at ≡ i * output_size
    → Does (message_effect name records t m (session_of c.session area)) r area' (take (length o - at) (drop at o)) p
    → DoesAt (i * output_size) (effect_in c t zone store m area) r area' o (take at o ++ (p ++ drop (length o - at) (drop at o)))
attended c t i at zone store area area' m o p name records r f g q d =
    let k : Message.Effect = effect_in c t zone store m area in
    let h : Does k r area' (take (length o - at) (drop at o)) p = rw (← f, ← g) d in
    subst (λ (n : ℕ). DoesAt n k r area' o (take at o ++ (p ++ drop (length o - at) (drop at o)))) q (does_at at k r area' o p h)

pub delivered : {c : Context} {t i j : ℕ} {before after : Memory} {area area' m o o' : List ℕ} {h : Heard} → i ≡ j
    → Turns c t i before.zone (cond c.second before.second before.first) area area' m o o' h → area_at j before ≡ area
    → put_area j area' before ≡ after → Delivers c before after t i m o o' h
delivered {before = before} n u p q =
    record {
      gives = λ s e.
          rw (← q, ← n) (u.gives s before e refl (ap (λ (x : Context). cond x.second before.second before.first) e) (ap (λ (k : ℕ). area_at k before) n ∙ p));
      accepted = u.accepted;
    }

-- ---- the call

refusing-in : (s : Server) (t i : ℕ) (x : Session) (y : Refusal) → heard_in s t i (declined_of x y) ≡ refusing s y
unfolding kept_by answer_number answer_of
refusing-in s t i x y = rw (lt-ltb last_accepted (refusal_number y) (refusal-above y))

module _ (c : Context) (t i : ℕ) (before : Memory) (m o : List ℕ) (small : are_bytes m ≡ true) (k : Result Unit Refusal)
    (h : refused_by k ≡ tested_of c.latest (missing i c.session) (message_brought t i (length o) (length m))) where
  brings : Brought
  brings = record { output = Some (length o); time = t; session = Some i; message = Some (length m) }

  pub heard-refused : (x : Refusal) → k ≡ Err x → (r : Heard) → r ≡ declined_of c.session x → Hears c before before t i m o o r
  unfolding brings
  heard-refused x f r g =
      record {
        small = small;
        serves = λ y s w.
            gives-refused s (receives t i (record { list = m; small = y }) o) brings refl k (checked-in c t i (length m) o k h s w) x f
            (heard_in s t i r) (ap (heard_in s t i) g ∙ refusing-in s t i c.session x) before;
        unchanged = λ y p. ap (λ (z : Heard). z.session) g;
      }

  pub heard-passed : (u : Unit) → k ≡ Ok u → {r : Heard} {after : Memory} {o' : List ℕ} → Delivers c before after t i m o o' r
      → Hears c before after t i m o o' r
  unfolding passed brings
  heard-passed u f {r} {after} {o'} d =
      record {
        small = small;
        serves = λ y s w.
            let v : context_of i s ≡ c = ap (λ (x : Session). context_with x s) (w.session (ready c t i (length m) o k h u f).known) ∙ w.numbers in
            gives-passed s (receives t i (record { list = m; small = y }) o) brings refl k (checked-in c t i (length m) o k h s w) u f
            (heard_in s t i r) before after o' (d.gives s v);
        unchanged = λ x p. absurd (d.accepted x p);
      }

-- Every context is a server's: one with that session at every number.
pub alike : Context → Server
alike c =
    record {
      latest = c.latest;
      zone = c.zone;
      records = c.records;
      second = c.second;
      sessions = replicate max_sessions c.session;
    }

pub some-has : (c : Context) (i : ℕ) → Has c i (alike c)
unfolding alike session_at
some-has c i = record { numbers = refl; session = at i }
  where
    at : (j : ℕ) → j < max_sessions → session_at j (alike c) ≡ c.session
    at zero h = refl
    at (suc zero) h = refl
    at (suc (suc zero)) h = refl
    at (suc (suc (suc zero))) h = refl
    at (suc (suc (suc (suc j)))) h = absurd (omega arith)

-- A server has its own context.
pub has-context : (s : Server) (i : ℕ) (c : Context) → c ≡ context_of i s → Has c i s
has-context s i c e = record { numbers = rw e; session = λ w. sym (ap (λ (x : Context). x.session) e) }

pub served : (s : Server) (i : ℕ) (c : Context) → c ≡ context_of i s → (t : ℕ) (before after : Memory) (m o o' : List ℕ) (h : Heard)
    → Hears c before after t i m o o' h → (r : Outcome) → r ≡ heard_in s t i h → (small : are_bytes m ≡ true)
    → Serves s before (receives t i (record { list = m; small = small }) o) r after o'
served s i c e t before after m o o' h u r f small = rw f (u.serves small s (has-context s i c e))
