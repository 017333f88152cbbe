-- A batch keeps the relation: each client is told the changes that lead from its old view to its new one.
use Prim.Native.Nat.{ℕ, ◌≤◌}
use native.Mathlib.Nat.{zero-add}
use native.Mathlib.Omega.{arith}
use mathlib.Core.Bool.{Bool, true, false, cond, ◌||◌}
use mathlib.Core.List.{List, [], ◌∷◌, map}
use mathlib.Core.Option
use mathlib.Core.Option.{Option, none, some}
use mathlib.Core.Path.{◌≡◌, refl, ◌∙◌}
use lib.ListN.{length, get_or, length-map, get_or-map}
use lib.Pow.{are_bytes}
use lib.Dec.{eqb}
use Rattle.zone.specs.Lists.{all_of}
use Rattle.zone.specs.Record.{Record}
use Rattle.zone.specs.Match.{Subscription, view}
use Rattle.zone.specs.Batch.{batch_of, stored}
use Rattle.zone.specs.Sound.{Exactly, Sound}
use Rattle.zone.proofs.Batches.{sound-batch}
use Rattle.push.specs.Change.{Change, applied_all}
use Rattle.push.specs.List.{changes}
use Rattle.push.specs.Octets.{push_of}
use Rattle.push.proofs.Framing.{Sendable, push_messages, frames_in-push_of, push_in-changes}
use Rattle.push.proofs.Plains.{changes-plain, sendable, length-push_of-le}
use Rattle.service.specs.State.{Slot, free, live, max_sessions}
use Rattle.service.specs.Answer.{done, sent, answer_number}
use Rattle.service.specs.Checks.{output_size, least_output}
use Rattle.service.specs.Call.{Bytes, edits, push_to, told, written}
use Rattle.service.specs.Reader.{bytes_for, messages_in, all_pushes, pushes_in}
use Rattle.service.specs.Observer.{Client, noted, observe, hearing, stored_or, apply_pushes}
use Rattle.service.specs.Demand.{Run, in_one}
use Rattle.service.proofs.Outputs.{count-told, bytes-told, written-kept}
use Rattle.service.proofs.Related.{PlaceAt, Related, Leads, length-heard, heard-at}

-- ---- a PUSH is heard as the changes that it was written for

pub pushed-applied : (cs : List Change) (records : List Record) → Sendable cs
    → apply_pushes (push_messages cs) records ≡ applied_all cs records
unfolding applied_all
pushed-applied [] records s = refl
pushed-applied (c ∷ cs) records s = rw (push_in-changes c cs s)

pushed-read : (cs : List Change) → Sendable cs → all_pushes (push_messages cs) ≡ some (in_one cs)
pushed-read [] s = refl
pushed-read (c ∷ cs) s = rw (push_in-changes c cs s)

pub hearing-push : (cs : List Change) (records : List Record) → Sendable cs
    → apply_pushes (messages_in (push_of cs)) records ≡ applied_all cs records
unfolding messages_in
hearing-push cs records s = rw (frames_in-push_of cs s) (pushed-applied cs records s)

pub pushes_in-push : (cs : List Change) → Sendable cs → pushes_in (push_of cs) ≡ some (in_one cs)
unfolding pushes_in
pushes_in-push cs s = rw (frames_in-push_of cs s) (pushed-read cs s)

-- ---- the relation

told-number : (ws : List (List ℕ)) → (eqb (answer_number (told ws)) 1 || eqb (answer_number (told ws)) 2) ≡ true
unfolding answer_number
told-number ws = go (all_of (λ (w : List ℕ). eqb (length w) 0) ws)
  where
    go : (b : Bool) → (eqb (answer_number (cond b done (sent (map length ws)))) 1 || eqb (answer_number (cond b done (sent (map length ws)))) 2) ≡ true
    go true = refl
    go false = refl

module _ (r : Run) (h : Related r) (bytes : List ℕ) (small : are_bytes bytes ≡ true) (new : List Record)
    (carried : batch_of r.state.zone bytes r.state.store ≡ stored new)
    (arrives : (subs : List Subscription) (client : List Record) → Exactly client (view subs r.state.store)
    → Exactly (applied_all (changes new (view subs r.state.store) (view subs new)) client) (view subs new))
    (few : (subs : List Subscription) → length (changes new (view subs r.state.store) (view subs new)) ≤ 32) where
  pub sound-new : Sound r.state.zone new
  sound-new = sound-batch r.state.zone bytes r.state.store new h.sound small carried

  abbrev list_for : List Subscription → List Change
  list_for subs = changes new (view subs r.state.store) (view subs new)

  pub list-sendable : (subs : List Subscription) → Sendable (list_for subs)
  list-sendable subs =
      sendable (list_for subs) (changes-plain r.state.zone subs r.state.store new h.sound sound-new)
      (omega (arith, few subs))

  list-room : (subs : List Subscription) → length (push_of (list_for subs)) ≤ output_size
  list-room subs =
      omega (arith, length-push_of-le (list_for subs) (changes-plain r.state.zone subs r.state.store new h.sound sound-new) (omega (arith, few subs)))

  abbrev outputs : List (List ℕ)
  outputs = map (push_to r.state.store new) r.state.slots

  output-at : (i : ℕ) → get_or outputs i [] ≡ push_to r.state.store new (get_or r.state.slots i free)
  output-at i = get_or-map (push_to r.state.store new) r.state.slots i free

  slot-room : (x : Slot) → length (push_to r.state.store new x) ≤ output_size
  slot-room free = omega arith
  slot-room (live x) = list-room x.subscriptions

  outputs-room : (i : ℕ) → length (get_or outputs i []) ≤ output_size
  outputs-room i = rw (output-at i) (slot-room (get_or r.state.slots i free))

  outputs-four : length outputs ≡ max_sessions
  outputs-four = length-map r.state.slots (push_to r.state.store new) ∙ h.slots

  -- What the answer states for a session is the PUSH for its slot.
  pub bytes-at : (output : List ℕ) → least_output ≤ length output → (i : ℕ)
      → bytes_for (told outputs) (written 0 outputs output) i ≡ push_to r.state.store new (get_or r.state.slots i free)
  bytes-at output room i =
      bytes-told outputs output i outputs-room (omega (arith, outputs-four)) ∙ output-at i

  place_kept : (x : Slot) (c : Option Client) → PlaceAt r.state.store x c
      → PlaceAt new x (Option.map (hearing (push_to r.state.store new x)) c)
  place_kept free none p = tt
  place_kept free (some c) p = p
  place_kept (live x) none p = p
  place_kept (live x) (some c) p =
      record {
        subs = p.subs;
        exact = rw (hearing-push (list_for x.subscriptions) c.records (list-sendable x.subscriptions))
            (arrives x.subscriptions c.records p.exact);
      }

  -- After a batch that is carried out.
  pub carried-kept : (t : ℕ) (b : Bytes) (output : List ℕ) → b.list ≡ bytes → least_output ≤ length output
      → Leads r (edits t b output) (record {
        answer = told outputs;
        next = record { zone = r.state.zone; latest = t; store = new; slots = r.state.slots };
        output = written 0 outputs output;
      })
  unfolding observe noted
  carried-kept t b output same room =
      let after : cond (eqb (answer_number (told outputs)) 1 || eqb (answer_number (told outputs)) 2)
      (stored_or r.observer.store (batch_of r.observer.zone b.list r.observer.store)) r.observer.store ≡ new
      = rw (told-number outputs, same, h.zones, h.stores, carried) in
      record {
        related = record {
          zones = h.zones;
          stores = after;
          sound = sound-new;
          slots = h.slots;
          clients = length-heard 0 (told outputs) (written 0 outputs output) r.observer.clients ∙ h.clients;
          places = λ (i : ℕ).
              rw (heard-at 0 (told outputs) (written 0 outputs output) r.observer.clients i, zero-add i, bytes-at output room i)
              (place_kept (get_or r.state.slots i free) (get_or r.observer.clients i none) (h.places i));
        };
        kept = written-kept (told outputs) outputs output (count-told outputs) outputs-room outputs-four;
      }
