-- Open, close and tick keep the relation.
use Prim.Native.Nat.{ℕ, zero, suc}
use mathlib.Core.Bool.{Bool, true, false, cond}
use mathlib.Core.List.{List, [], ◌∷◌, map}
use mathlib.Core.Option.{Option, none, some}
use mathlib.Core.Path.{◌≡◌, refl, sym, ap, ◌∙◌}
use lib.ListN.{length, get_or, set, length-set, length-map, get_or-map}
use Rattle.zone.specs.Record.{Record, Key}
use Rattle.zone.specs.Store.{find}
use Rattle.zone.specs.Sound.{distinct}
use Rattle.zone.proofs.Views.{find-view}
use Rattle.session.specs.Clocks.{started}
use Rattle.service.specs.State.{Slot, free, live, lowest_free}
use Rattle.service.specs.Answer.{done, opened, ended, refused, answer_number}
use Rattle.service.specs.Call.{Call, opens, closes, ticks, lent, open_outcome, close_outcome, tick_outcome, ends_at, refuse}
use Rattle.service.specs.declared.refusal.Refusal.{Refusal}
use Rattle.service.specs.declared.refusal.Refusal.TheVariants.{AllOpen}
use Rattle.service.specs.Reader.{bytes_for}
use Rattle.service.specs.Observer.{Client, newborn, with_clients, noted, gone_where}
use Rattle.service.specs.Demand.{Run}
use Rattle.service.proofs.Outputs.{nothing-kept}
use Rattle.service.proofs.Related.{Told, PlaceAt, Related, Leads, placed}
use Rattle.service.proofs.Quiet.{observe-nothing, refused-observed}

-- A session that was just opened has no subscription, and its client no record.
fresh-told : (store : List Record) (t : ℕ) → Told store (record { subscriptions = []; clocks = started t }) newborn
unfolding distinct find
fresh-told store t =
    record { subs = refl; exact = record { once = refl; same = λ (k : Key). sym (find-view k [] store) } }

module _ (r : Run) (h : Related r) where
  same_length : length r.state.slots ≡ length r.observer.clients
  same_length = h.slots ∙ sym h.clients

  -- One place is changed on both sides, at a time.
  pub replaced : (t s : ℕ) (x : Slot) (c : Option Client) → PlaceAt r.state.store x c
      → Related (record {
        state = record { zone = r.state.zone; latest = t; store = r.state.store; slots = set r.state.slots s x };
        observer = with_clients (set r.observer.clients s c) r.observer;
      })
  replaced t s x c p =
      record {
        zones = h.zones;
        stores = h.stores;
        sound = h.sound;
        slots = length-set r.state.slots s x ∙ h.slots;
        clients = length-set r.observer.clients s c ∙ h.clients;
        places = placed r.state.store r.state.slots r.observer.clients h.places same_length s x c p;
      }

  pub refused-kept : (c : Call) (f : Refusal) → Leads r c (refuse r.state (lent c) f)
  refused-kept c f =
      record {
        related = rw (refused-observed c f (lent c) r.observer) h;
        kept = nothing-kept (refused f) (lent c) (λ (s : ℕ). refl);
      }

  pub open_kept : (t : ℕ) → Leads r (opens t) (open_outcome r.state t)
  unfolding open_outcome noted bytes_for
  open_kept t = go (lowest_free r.state.slots)
    where
      go : (o : Option ℕ)
          → Leads r (opens t)
          (elim o [
            | none ↦ refuse r.state [] AllOpen
            | some s ↦ record {
              answer = opened s;
              next = record {
                zone = r.state.zone;
                latest = t;
                store = r.state.store;
                slots = set r.state.slots s (live (record { subscriptions = []; clocks = started t }));
              };
              output = [];
            }
          ])
      go none = refused-kept (opens t) AllOpen
      go (some s) =
          record {
            related = rw (observe-nothing (opens t) (opened s) [] r.observer (λ (i : ℕ). refl))
                (replaced t s (live (record { subscriptions = []; clocks = started t })) (some newborn)
                (fresh-told r.state.store t));
            kept = nothing-kept (opened s) [] (λ (i : ℕ). refl);
          }

  pub close-kept : (t s : ℕ) → Leads r (closes t s) (close_outcome r.state t s)
  unfolding close_outcome noted bytes_for answer_number
  close-kept t s =
      record {
        related = rw (observe-nothing (closes t s) done [] r.observer (λ (i : ℕ). refl)) (replaced t s free none tt);
        kept = nothing-kept done [] (λ (i : ℕ). refl);
      }

-- ---- a tick

length-gone_where : (ys : List Bool) (cl : List (Option Client)) → length (gone_where ys cl) ≡ length cl
length-gone_where [] cl = refl
length-gone_where (y ∷ ys) [] = refl
length-gone_where (y ∷ ys) (c ∷ cl) = ap suc (length-gone_where ys cl)

none-either : (b : Bool) → ◌≡◌ {A = Option Client} none (cond b none none)
none-either true = refl
none-either false = refl

gone_where-at : (ys : List Bool) (cl : List (Option Client)) (i : ℕ)
    → get_or (gone_where ys cl) i none ≡ cond (get_or ys i false) none (get_or cl i none)
gone_where-at [] cl i = refl
gone_where-at (y ∷ ys) [] i = none-either (get_or (y ∷ ys) i false)
gone_where-at (y ∷ ys) (c ∷ cl) zero = refl
gone_where-at (y ∷ ys) (c ∷ cl) (suc i) = gone_where-at ys cl i

ended-place : (store : List Record) (e : Bool) (x : Slot) (c : Option Client) → PlaceAt store x c
    → PlaceAt store (cond e free x) (cond e none c)
ended-place store true x c p = tt
ended-place store false x c p = p

module _ (r : Run) (h : Related r) where
  pub tick-kept : (t : ℕ) → Leads r (ticks t) (tick_outcome r.state t)
  unfolding tick_outcome noted bytes_for
  tick-kept t =
      let slots = r.state.slots in
      let clients = r.observer.clients in
      record {
        related = rw (observe-nothing (ticks t) (ended (map (ends_at t) slots)) [] r.observer (λ (i : ℕ). refl))
            (record {
              zones = h.zones;
              stores = h.stores;
              sound = h.sound;
              slots = length-map slots (λ (x : Slot). cond (ends_at t x) free x) ∙ h.slots;
              clients = length-gone_where (map (ends_at t) slots) clients ∙ h.clients;
              places = λ (i : ℕ).
                  rw (get_or-map (λ (x : Slot). cond (ends_at t x) free x) slots i free, gone_where-at (map (ends_at t) slots) clients i, get_or-map (ends_at t) slots i free)
                  (ended-place r.state.store (ends_at t (get_or slots i free)) (get_or slots i free) (get_or clients i none) (h.places i));
            });
        kept = nothing-kept (ended (map (ends_at t) slots)) [] (λ (i : ℕ). refl);
      }
