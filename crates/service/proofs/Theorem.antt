-- Demand 3 over whole lists of calls.
use Prim.Native.Nat.{ℕ, ◌≤◌}
use native.Mathlib.Omega.{arith}
use mathlib.Core.Bool.{Bool, true, false, cond}
use mathlib.Core.List.{List, [], ◌∷◌, map}
use mathlib.Core.Option.{Option, none, some}
use mathlib.Core.Path.{◌≡◌, refl}
use lib.ListN.{length, get_or, replicate, length-replicate}
use borrow.Author.Tests.{ltb-false}
use Rattle.wire.specs.Name.{is_name}
use Rattle.zone.specs.Record.{Record}
use Rattle.zone.specs.Match.{Subscription, view}
use Rattle.zone.specs.Batch.{batch_of, Edited, stored, faulty}
use Rattle.zone.specs.Sound.{Exactly}
use Rattle.zone.proofs.Batches.{sound_empty}
use Rattle.push.specs.List.{changes}
use Rattle.push.specs.Octets.{push_of}
use Rattle.push.specs.Change.{applied_all}
use Rattle.push.proofs.Quoted.{AfterBatch, after-batch}
use Rattle.service.specs.State.{State, Slot, free, live, max_sessions, fresh}
use Rattle.service.specs.Checks.{refusal_of, least_output}
use Rattle.service.specs.Call.{Bytes, Call, opens, closes, receives, edits, ticks, Outcome, running, unnamed, start, refuse, brought, lent, passed, outcome, batch_outcome, push_to, told, written}
use Rattle.service.specs.declared.refusal.Refusal.{Refusal}
use Rattle.service.specs.declared.refusal.Refusal.TheVariants.{Batch, NotAName}
use Rattle.service.specs.Reader.{bytes_for}
use Rattle.service.specs.Observer.{Client, watching, observe}
use Rattle.service.specs.Demand.{Run, begun, stepped, run_of, Faithful, is_batch, is_done, Pushed, is_open, is_living, HoldsNext}
use Rattle.service.proofs.Related.{PlaceAt, Related, Leads}
use Rattle.service.proofs.Quiet.{refusal-not}
use Rattle.service.proofs.Checks.{Passed, checks-passed}
use Rattle.service.proofs.Plain.{refused-kept, open_kept, close-kept, tick-kept}
use Rattle.service.proofs.Batch.{carried-kept, bytes-at, list-sendable, pushes_in-push}
use Rattle.service.proofs.Message.{meets, message-kept}

-- ---- every call keeps the relation

module _ (r : Run) (h : Related r) where
  -- The list for a session after a batch that is carried out.
  module _ (b : Bytes) (new : List Record) (e : batch_of r.state.zone b.list r.state.store ≡ stored new) where
    list-for : (subs : List Subscription) → AfterBatch subs r.state.store new
    list-for subs = after-batch r.state.zone b.list subs r.state.store new h.sound.once e

    arrives-new : (subs : List Subscription) (client : List Record) → Exactly client (view subs r.state.store)
        → Exactly (applied_all (changes new (view subs r.state.store) (view subs new)) client) (view subs new)
    arrives-new subs = (list-for subs).right.arrives

    few-new : (subs : List Subscription) → length (changes new (view subs r.state.store) (view subs new)) ≤ 32
    few-new subs = (list-for subs).few

  batch-kept : (t : ℕ) (b : Bytes) (o : List ℕ) → least_output ≤ length o → Leads r (edits t b o) (batch_outcome r.state t b.list o)
  unfolding batch_outcome
  batch-kept t b o room = go (batch_of r.state.zone b.list r.state.store) refl
    where
      go : (e : Edited) → batch_of r.state.zone b.list r.state.store ≡ e
          → Leads r (edits t b o)
          (elim e [
            | faulty f ↦ refuse r.state o (Batch f)
            | stored new ↦ let ws = map (push_to r.state.store new) r.state.slots in record {
              answer = told ws;
              next = record { zone = r.state.zone; latest = t; store = new; slots = r.state.slots };
              output = written 0 ws o;
            }
          ])
      go (faulty f) e = refused-kept r h (edits t b o) (Batch f)
      go (stored new) e =
          carried-kept r h b.list b.small new e (arrives-new b new e) (few-new b new e) t b o refl room

  passed-kept : (c : Call) → Passed r.state (brought c) → Leads r c (passed r.state c)
  unfolding passed
  passed-kept (opens t) p = open_kept r h t
  passed-kept (closes t s) p = close-kept r h t s
  passed-kept (receives t s m o) p = message-kept r h t s m o (meets r h t s m o p)
  passed-kept (edits t b o) p = batch-kept t b o (ltb-false (length o) least_output p.roomy)
  passed-kept (ticks t) p = tick-kept r h t

  outcome-kept : (c : Call) → Leads r c (outcome r.state c)
  unfolding outcome
  outcome-kept c = go (refusal_of r.state (brought c)) refl
    where
      go : (o : Option Refusal) → refusal_of r.state (brought c) ≡ o
          → Leads r c (elim o [ some f ↦ refuse r.state (lent c) f | none ↦ passed r.state c ])
      go (some f) e = refused-kept r h c f
      go none e = passed-kept c (checks-passed r.state (brought c) e)

  pub step_kept : (c : Call) → Related (stepped r c)
  unfolding stepped
  step_kept c = (outcome-kept c).related

-- ---- the beginning

nobody : (n s : ℕ) (store : List Record) → PlaceAt store (get_or (replicate n free) s free) (get_or (replicate n none) s none)
nobody ℕ.zero s store = tt
nobody (ℕ.suc n) ℕ.zero store = tt
nobody (ℕ.suc n) (ℕ.suc s) store = nobody n s store

fresh-related : (zone : List ℕ) → Related (begun zone (fresh zone))
unfolding fresh watching
fresh-related zone =
    record {
      zones = refl;
      stores = refl;
      sound = sound_empty zone;
      slots = length-replicate max_sessions free;
      clients = length-replicate {A = Option Client} max_sessions none;
      places = λ (s : ℕ). nobody max_sessions s [];
    }

pub start-fresh : (zone : List ℕ) (st : State) → start zone ≡ running st → st ≡ fresh zone
unfolding start
start-fresh zone st e = go (is_name zone) e
  where
    go : (b : Bool) → cond b (running (fresh zone)) (unnamed NotAName) ≡ running st → st ≡ fresh zone
    go true f = cc
    go false f = absurd (let z : ◌≡◌ {A = ℕ} 0 1 = cc in omega arith)

pub begun-related : (zone : List ℕ) (st : State) → start zone ≡ running st → Related (begun zone st)
begun-related zone st e = rw (start-fresh zone st e) (fresh-related zone)

pub run-related : (r : Run) → Related r → (calls : List Call) → Related (run_of r calls)
unfolding run_of
run-related r h [] = h
run-related r h (c ∷ cs) = run-related (stepped r c) (step_kept r h c) cs

-- ---- what the relation says

views-of : (r : Run) → Related r → Faithful r.observer
views-of r h = record { exact = λ s c e. go s (get_or r.state.slots s free) c e (h.places s) }
  where
    go : (s : ℕ) (x : Slot) (c : Client) → get_or r.observer.clients s none ≡ some c
        → PlaceAt r.state.store x (get_or r.observer.clients s none)
        → Exactly c.records (view c.subscriptions r.observer.store)
    go s x c e p = held x (rw e at p)
      where
        held : (y : Slot) → PlaceAt r.state.store y (some c) → Exactly c.records (view c.subscriptions r.observer.store)
        held free q = absurd q
        held (live y) q = rw (q.subs, h.stores) q.exact

living-of : (r : Run) → Related r → (s : ℕ)
    → is_living (get_or r.observer.clients s none) ≡ is_open (get_or r.state.slots s free)
living-of r h s = go (get_or r.state.slots s free) (get_or r.observer.clients s none) (h.places s)
  where
    go : (x : Slot) (c : Option Client) → PlaceAt r.state.store x c → is_living c ≡ is_open x
    go free none p = refl
    go free (some c) p = absurd p
    go (live x) none p = absurd p
    go (live x) (some c) p = refl

-- ---- what a batch tells

module _ (r : Run) (h : Related r) (t : ℕ) (b : Bytes) (o : List ℕ) (s : ℕ) (x : Client)
    (lives : get_or r.observer.clients s none ≡ some x) where
  abbrev Tells : Outcome → Type 0
  Tells y =
      is_done y.answer ≡ true
      → Pushed r.observer.store (observe (edits t b o) y.answer y.output r.observer).store x.subscriptions (bytes_for y.answer y.output s)

  refused-tells : (f : Refusal) (l : List ℕ) → Tells (refuse r.state l f)
  refused-tells f l d =
      absurd (let a = refusal-not f 1 (omega arith) in let c = refusal-not f 2 (omega arith) in let e : ◌≡◌ {A = Bool} false true = rw (a, c) at d in let z : ◌≡◌ {A = ℕ} 0 1 = cc in omega arith)

  -- The slot of a living client is live, with the same subscriptions.
  slot_of : (y : Slot) → PlaceAt r.state.store y (some x) → (new : List Record)
      → push_to r.state.store new y ≡ push_of (changes new (view x.subscriptions r.state.store) (view x.subscriptions new))
  slot_of free p new = absurd p
  slot_of (live y) p new = rw p.subs

  carried-tells : least_output ≤ length o → (new : List Record) → batch_of r.state.zone b.list r.state.store ≡ stored new
      → Tells (record {
        answer = told (map (push_to r.state.store new) r.state.slots);
        next = record { zone = r.state.zone; latest = t; store = new; slots = r.state.slots };
        output = written 0 (map (push_to r.state.store new) r.state.slots) o;
      })
  carried-tells room new e d =
      let k = carried-kept r h b.list b.small new e (arrives-new r h b new e) (few-new r h b new e) t b o refl room in
      rw (k.related.stores, h.stores, bytes-at r h b.list b.small new e (arrives-new r h b new e) (few-new r h b new e) o room s, slot_of (get_or r.state.slots s free) (rw lives at (h.places s)) new)
      (record {
        written = refl;
        told = pushes_in-push (changes new (view x.subscriptions r.state.store) (view x.subscriptions new))
            (list-sendable r h b.list b.small new e (arrives-new r h b new e) (few-new r h b new e) x.subscriptions);
        right = (list-for r h b new e x.subscriptions).right;
      })

  batch-tells : least_output ≤ length o → Tells (batch_outcome r.state t b.list o)
  unfolding batch_outcome
  batch-tells room = go (batch_of r.state.zone b.list r.state.store) refl
    where
      go : (e : Edited) → batch_of r.state.zone b.list r.state.store ≡ e
          → Tells
          (elim e [
            | faulty f ↦ refuse r.state o (Batch f)
            | stored new ↦ let ws = map (push_to r.state.store new) r.state.slots in record {
              answer = told ws;
              next = record { zone = r.state.zone; latest = t; store = new; slots = r.state.slots };
              output = written 0 ws o;
            }
          ])
      go (faulty f) e = refused-tells (Batch f) o
      go (stored new) e = carried-tells room new e

  batch-call-tells : Tells (outcome r.state (edits t b o))
  unfolding outcome passed
  batch-call-tells = go (refusal_of r.state (brought (edits t b o))) refl
    where
      go : (f : Option Refusal) → refusal_of r.state (brought (edits t b o)) ≡ f
          → Tells (elim f [ some g ↦ refuse r.state o g | none ↦ batch_outcome r.state t b.list o ])
      go (some g) e = refused-tells g o
      go none e = batch-tells (ltb-false (length o) least_output (checks-passed r.state (brought (edits t b o)) e).roomy)

pushed_of : (r : Run) → Related r → (c : Call) → is_batch c ≡ true → is_done (outcome r.state c).answer ≡ true → (s : ℕ) (x : Client)
    → get_or r.observer.clients s none ≡ some x
    → Pushed r.observer.store (observe c (outcome r.state c).answer (outcome r.state c).output r.observer).store x.subscriptions (bytes_for (outcome r.state c).answer (outcome r.state c).output s)
pushed_of r h (opens t) e d s x l = absurd (let z : ◌≡◌ {A = ℕ} 0 1 = cc in omega arith)
pushed_of r h (closes t n) e d s x l = absurd (let z : ◌≡◌ {A = ℕ} 0 1 = cc in omega arith)
pushed_of r h (receives t n m o) e d s x l = absurd (let z : ◌≡◌ {A = ℕ} 0 1 = cc in omega arith)
pushed_of r h (edits t b o) e d s x l = batch-call-tells r h t b o s x l d
pushed_of r h (ticks t) e d s x l = absurd (let z : ◌≡◌ {A = ℕ} 0 1 = cc in omega arith)

-- ---- the theorem

-- Of any run in which state and observer are related.
pub holds_of : (r : Run) → Related r → (c : Call) → HoldsNext r c
unfolding stepped
holds_of r h c =
    let k = outcome-kept r h c in
    record {
      views = views-of (stepped r c) k.related;
      living = living-of (stepped r c) k.related;
      stores = k.related.stores;
      pushed = pushed_of r h c;
      kept = k.kept;
    }

-- Demand 3: for every zone's name with which a start answers 1, every list of calls from there, and every next call.
pub demand-three : (zone : List ℕ) (st : State) → start zone ≡ running st → (calls : List Call) (c : Call)
    → HoldsNext (run_of (begun zone st) calls) c
demand-three zone st e calls =
    holds_of (run_of (begun zone st) calls) (run-related (begun zone st) (begun-related zone st e) calls)
