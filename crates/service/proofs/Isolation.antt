-- Order 13: one session cannot disturb another.
use Prim.Native.Nat.{ℕ}
use native.Mathlib.Omega.{arith}
use mathlib.Core.Bool.{Bool, true, false, not, ◌||◌}
use mathlib.Core.List.{List, [], ◌∷◌, ◌++◌}
use mathlib.Core.Option.{Option, none, some}
use mathlib.Core.Path.{◌≡◌, refl, sym, ap, ap₂, ◌∙◌}
use lib.ListN.{length}
use lib.Seq.{get_or-set_same}
use lib.Dec.{eqb}
use Rattle.zone.specs.Record.{Record}
use Rattle.zone.proofs.Lists.{clash}
use Rattle.session.specs.Clocks.{started}
use Rattle.service.specs.State.{State, Session, Slot, free, live, slot_at, fresh, lowest_free}
use Rattle.service.specs.Answer.{opened}
use Rattle.service.specs.Checks.{refusal_of}
use Rattle.service.specs.Call.{Call, opens, Outcome, running, start, brought, passed, outcome, open_outcome}
use Rattle.service.specs.declared.refusal.Refusal.{Refusal}
use Rattle.service.specs.Demand.{Run, begun, stepped}
use Rattle.service.specs.Isolation.{
  Event,
  Trace,
  stops,
  calls,
  Step,
  onward,
  is_others,
  Same,
  open-too,
  close-too,
  message-too,
  batch-too,
  tick-too,
  Alike,
  over,
  both,
  first,
  second,
  Seen,
  seen,
  concerns,
  entered,
  gets,
  opened_as,
  whole_of,
  Isolated,
  has_end,
  IsolatedAfter,
}
use Rattle.service.proofs.Theorem.{start-fresh, begun-related}
use Rattle.service.proofs.Share.{Share, seen_of, share, same-share, others-share}
use Rattle.service.proofs.Given.{Gives, gives, lowest}
use Rattle.service.proofs.Coming.{Coming, early, event-is, goes_on}
use Rattle.service.proofs.SameStore.{SameStore, store_both, store-first, store-second}

-- ---- two runs: the session

same-others : (own : Option ℕ) {c d : Call} → Same c d → is_others own c ≡ is_others own d
same-others own (open-too t) = refl
same-others own (close-too t n) = refl
same-others own (message-too t n m m' o o' e k) = refl
same-others own (batch-too t b b' o o' e k) = refl
same-others own (tick-too t) = refl

module _ (s : ℕ) where
  -- An entry of what the session gets, and what follows where it lives on.
  abbrev entry : Bool → Seen → List Seen → List Seen
  entry others v l = entered (not others || not (eqb v.count 0)) v l

  entry-rest : (b : Bool) (v : Share) (l l' : List Seen) → ((y : Session) → v.slot ≡ live y → l ≡ l')
      → entry b (seen_of v) l ≡ entry b (seen_of v) l'
  entry-rest b v l l' k = go v.slot refl (not b || not (eqb (length v.bytes) 0))
    where
      go : (x : Slot) → v.slot ≡ x → (e : Bool) → entered e (seen_of v) l ≡ entered e (seen_of v) l'
      go free p true = rw p
      go free p false = rw p
      go (live y) p e = rw (k y p)

  -- What the next call of a run gives it.
  module _ (r : Run) (x : Event) (xs : List Event) (h : Coming r (x ∷ xs)) (y : Session) (lives : slot_at r.state s ≡ live y) where
    given : Gives s x.call (outcome r.state x.call) (share r.state.zone r.state.store y s x.call)
    given = gives r h.related s y lives x.call (early r x xs h)

    sees : seen s x ≡ seen_of (share r.state.zone r.state.store y s x.call)
    sees = ap (seen s) (event-is r x xs h) ∙ given.sees

    leaves : slot_at (stepped r x.call).state s ≡ (share r.state.zone r.state.store y s x.call).slot
    unfolding stepped
    leaves = given.leaves

    -- Another session's message: nothing, and it is as it was.
    module _ (e : is_others (some s) x.call ≡ true) where
      passes-by : gets s (x ∷ xs) ≡ gets s xs
      unfolding gets
      passes-by =
          ap₂ (λ (b : Bool) (v : Seen). entry b v (gets s xs)) e
          (sees ∙ ap seen_of (others-share r.state.zone r.state.store y s x.call e))

      lives-on : slot_at (stepped r x.call).state s ≡ live y
      lives-on = leaves ∙ ap (λ (v : Share). v.slot) (others-share r.state.zone r.state.store y s x.call e)

  gets-alike : {xs ys : List Event} → Alike (some s) xs ys → (r r' : Run) → Coming r xs → Coming r' ys → SameStore r r' → (y : Session)
      → slot_at r.state s ≡ live y → slot_at r'.state s ≡ live y → gets s xs ≡ gets s ys
  unfolding gets
  gets-alike over r r' h h' l y p p' = refl
  gets-alike (both {x = x} {y = x'} {xs = xs} {ys = ys} e k) r r' h h' l y p p' =
      let v : Share = share r.state.zone r.state.store y s x.call in
      let same : share r'.state.zone r'.state.store y s x'.call ≡ v =
      sym (same-share r.state.zone r.state.store y s e ∙ ap₂ (λ (z : List ℕ) (m : List Record). share z m y s x'.call) l.zones l.stores) in
      ap (λ (w : Seen). entry (is_others (some s) x.call) w (gets s xs)) (sees r x xs h y p)
      ∙ entry-rest (is_others (some s) x.call) v (gets s xs) (gets s ys)
      (λ (y' : Session) (q : v.slot ≡ live y'). gets-alike k (stepped r x.call) (stepped r' x'.call) (goes_on r x xs h) (goes_on r' x' ys h')
      (store_both r r' h.related h'.related l e (early r x xs h) (early r' x' ys h')) y'
      (leaves r x xs h y p ∙ q) (leaves r' x' ys h' y p' ∙ ap (λ (w : Share). w.slot) same ∙ q))
      ∙ ap₂ (λ (b : Bool) (w : Seen). entry b w (gets s ys)) (same-others (some s) e) (sym (sees r' x' ys h' y p' ∙ ap seen_of same))
  gets-alike (first {x = x} {xs = xs} e k) r r' h h' l y p p' =
      passes-by r x xs h y p e
      ∙ gets-alike k (stepped r x.call) r' (goes_on r x xs h) h' (store-first (some s) r r' l h.related x.call e) y (lives-on r x xs h y p e) p'
  gets-alike (second {y = x} {ys = xs} e k) r r' h h' l y p p' =
      gets-alike k r (stepped r' x.call) h (goes_on r' x xs h') (store-second (some s) r r' l h'.related x.call e) y p (lives-on r' x xs h' y p' e)
      ∙ sym (passes-by r' x xs h' y p' e)

-- ---- before the open, and the open

-- Where both runs have come to.
record Reached (xs ys : List Event) : Type 0 where
  left : Run
  right : Run
  coming : Coming left xs
  coming-too : Coming right ys
  same : SameStore left right

module _ (rest rest' : List Event) where
  reached : {xs ys : List Event} → Alike none xs ys → (r r' : Run) → Coming r (xs ++ rest) → Coming r' (ys ++ rest') → SameStore r r'
      → Reached rest rest'
  reached over r r' h h' l = record { left = r; right = r'; coming = h; coming-too = h'; same = l }
  reached (both {x = x} {y = y} {xs = xs} {ys = ys} e k) r r' h h' l =
      reached k (stepped r x.call) (stepped r' y.call) (goes_on r x (xs ++ rest) h) (goes_on r' y (ys ++ rest') h')
      (store_both r r' h.related h'.related l e (early r x (xs ++ rest) h) (early r' y (ys ++ rest') h'))
  reached (first {x = x} {xs = xs} e k) r r' h h' l =
      reached k (stepped r x.call) r' (goes_on r x (xs ++ rest) h) h' (store-first none r r' l h.related x.call e)
  reached (second {y = y} {ys = ys} e k) r r' h h' l =
      reached k r (stepped r' y.call) h (goes_on r' y (ys ++ rest') h') (store-second none r r' l h'.related y.call e)

abbrev new_session : ℕ → Session
new_session t = record { subscriptions = []; clocks = started t }

-- A session that was opened is at its slot, new.
module _ (st : State) (s t : ℕ) where
  abbrev Opened : Outcome → Type 0
  Opened x = opened s ≡ x.answer → slot_at x.next s ≡ live (new_session t)

  opened-new : Opened (open_outcome st t)
  unfolding open_outcome
  opened-new = go (lowest_free st.slots) refl
    where
      go : (o : Option ℕ) → lowest_free st.slots ≡ o → Opened (open_outcome st t)
      go none p = rw (p, open_outcome) (λ e. absurd (let z : ◌≡◌ {A = ℕ} 0 1 = cc in omega arith))
      go (some n) p =
          rw (p, open_outcome)
          (λ (e : opened s ≡ opened n). let q : n ≡ s = cc in rw q (get_or-set_same st.slots s _ free (lowest st.slots s (rw q at p)).1))

  opened-slot : Opened (outcome st (opens t))
  unfolding outcome passed
  opened-slot = go (refusal_of st (brought (opens t))) refl
    where
      go : (o : Option Refusal) → refusal_of st (brought (opens t)) ≡ o → Opened (outcome st (opens t))
      go (some g) p = rw (p, outcome) (λ e. absurd (let z : ◌≡◌ {A = ℕ} 0 1 = cc in omega arith))
      go none p = rw (p, outcome) opened-new

opened-there : (r : Run) (s t : ℕ) (xs : List Event) → Coming r (opened_as s t ∷ xs) → slot_at (stepped r (opens t)).state s ≡ live (new_session t)
unfolding stepped
opened-there r s t xs h = opened-slot r.state s t (ap (λ (x : Event). x.answer) (event-is r (opened_as s t) xs h))

-- ---- the theorem

-- A run of the definitions from a start answered 1.
begins : (zone : List ℕ) (st : State) → start zone ≡ running st → (xs : List Event) → Trace Step st xs → onward 0 xs ≡ true
    → Coming (begun zone st) xs
unfolding fresh
begins zone st e xs k times =
    record {
      related = begun-related zone st e;
      trace = k;
      since = 0;
      timely = rw (start-fresh zone st e) (omega arith);
      times = times;
    }

-- One session cannot disturb another: for every zone's name with which a start answers 1, and every two runs from there.
pub isolation : (zone : List ℕ) (st : State) → start zone ≡ running st → Isolated Step st st
isolation zone st e s t a b k k' w =
    let r : Run = begun zone st in
    let m : Reached (opened_as s t ∷ a.after) (opened_as s t ∷ b.after) =
    reached (opened_as s t ∷ a.after) (opened_as s t ∷ b.after) w.earlier r r (begins zone st e (whole_of s t a) k w.times)
    (begins zone st e (whole_of s t b) k' w.times-too) (record { zones = refl; stores = refl }) in
    gets-alike s w.later (stepped m.left (opens t)) (stepped m.right (opens t))
    (goes_on m.left (opened_as s t) a.after m.coming) (goes_on m.right (opened_as s t) b.after m.coming-too)
    (store_both m.left m.right m.coming.related m.coming-too.related m.same (open-too t)
    (early m.left (opened_as s t) a.after m.coming) (early m.right (opened_as s t) b.after m.coming-too))
    (new_session t) (opened-there m.left s t a.after m.coming) (opened-there m.right s t b.after m.coming-too)

-- ---- runs of other things

-- Whatever is held: where each step is one of the definitions' on the state that is read from it, two things that a start of
-- the same zone left are isolated.
module _ {H : Type 0} (step : H → Event → H → Type 0) (state_of : H → State)
    (same : (h : H) (x : Event) (k : H) → step h x k → Step (state_of h) x (state_of k)) where
  traced : {h : H} {xs : List Event} → Trace step h xs → Trace Step (state_of h) xs
  traced stops = stops
  traced (calls {h = h} {k = k} {x = x} p r) = calls (same h x k p) (traced r)

  pub isolation-of : (zone : List ℕ) (h h' : H) → start zone ≡ running (state_of h) → start zone ≡ running (state_of h') → Isolated step h h'
  isolation-of zone h h' e e' s t a b k k' =
      let both-fresh : state_of h' ≡ state_of h = start-fresh zone (state_of h') e' ∙ sym (start-fresh zone (state_of h) e) in
      isolation zone (state_of h) e s t a b (traced k) (rw both-fresh at (traced k'))

-- ---- after the end

gets-cut : (s : ℕ) (xs ys : List Event) → has_end (gets s xs) ≡ true → gets s (xs ++ ys) ≡ gets s xs
unfolding gets
gets-cut s [] ys e = clash false e refl
gets-cut s (x ∷ xs) ys e = go (concerns s x) (seen s x).ended refl (gets-cut s xs ys) e
  where
    go : (b ends : Bool) → (seen s x).ended ≡ ends → (has_end (gets s xs) ≡ true → gets s (xs ++ ys) ≡ gets s xs)
        → has_end (entered b (seen s x) (gets s xs)) ≡ true → entered b (seen s x) (gets s (xs ++ ys)) ≡ entered b (seen s x) (gets s xs)
    go true true p h q = rw p
    go true false p h q = rw (p, h (rw p at q))
    go false true p h q = rw p
    go false false p h q = rw (p, h (rw p at q))

trace-front : {H : Type 0} (step : H → Event → H → Type 0) (xs ys : List Event) (h : H) → Trace step h (xs ++ ys) → Trace step h xs
trace-front step [] ys h k = stops
trace-front step (x ∷ xs) ys h (calls {k = k} p r) = calls p (trace-front step xs ys k r)

-- Of runs that go on after the session's end in any way.
pub isolation-after : {H : Type 0} (step : H → Event → H → Type 0) (h h' : H) → Isolated step h h' → IsolatedAfter step h h'
isolation-after step h h' k s t a b x y p p' w e =
    let same = k s t a b (trace-front step (whole_of s t a) x h p) (trace-front step (whole_of s t b) y h' p') w in
    gets-cut s a.after x e ∙ same ∙ sym (gets-cut s b.after y (rw (← same) e))
