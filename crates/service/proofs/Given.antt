-- Every outcome gives a session its share.
use Prim.Native.Nat.{ℕ, suc, ◌≤◌, ◌<◌}
use native.Mathlib.Omega.{arith}
use mathlib.Core.Bool.{Bool, true, false, cond, ◌&&◌, and-false}
use mathlib.Core.List.{List, [], ◌∷◌, map}
use mathlib.Core.Option
use mathlib.Core.Option.{Option, none, some}
use mathlib.Core.Path.{◌≡◌, refl, sym, ap, ◌∙◌}
use mathlib.Core.Logic.{⊎_elim}
use lib.ListN.{length, get_or, set, length-map, get_or-map, get_or-eq_default}
use lib.Seq.{get_or-set_same, get_or-set_other}
use lib.Dec.{eqb, ltb}
use borrow.Author.Tests.{eqb-true, eqb-false, eq-eqb, lt-leb, ltb-true, ltb-false}
use Rattle.zone.specs.Lists.{all_of}
use Rattle.zone.specs.Record.{Record}
use Rattle.zone.specs.Batch.{batch_of, Edited, stored, faulty}
use Rattle.zone.proofs.Lists.{decided}
use Rattle.service.specs.State.{State, Session, Slot, free, live, slot_at, max_sessions, lowest_free}
use Rattle.service.specs.Answer.{Answer, done, sent, refused, answer_number, refusal_number}
use Rattle.service.specs.Checks.{refusal_of, is_free, is_short, is_absent, output_size, least_output}
use Rattle.service.specs.Message.{Effect, abort, nothing, reply, others, places}
use Rattle.service.specs.Call.{
  Bytes,
  Call,
  opens,
  closes,
  receives,
  edits,
  ticks,
  Outcome,
  refuse,
  with_slots,
  brought,
  lent,
  passed,
  outcome,
  open_outcome,
  close_outcome,
  effect_outcome,
  effect_at,
  message_outcome,
  batch_outcome,
  tick_outcome,
  ends_at,
  push_to,
  told,
  written,
}
use Rattle.service.specs.declared.refusal.Refusal.{Refusal}
use Rattle.service.specs.declared.refusal.Refusal.TheVariants.{AllOpen, Batch}
use Rattle.service.specs.Reader.{count_for, bytes_for}
use Rattle.service.specs.Demand.{Run}
use Rattle.service.specs.Isolation.{event_of, levelled, answer_for, ends_by, seen}
use Rattle.service.proofs.Related.{Related}
use Rattle.service.proofs.Quiet.{refusal-not}
use Rattle.service.proofs.Checks.{Passed, checks-passed}
use Rattle.service.proofs.Outputs.{count-told, bytes-told}
use Rattle.service.proofs.Replies.{counts, count-own, count-other, bytes-own}
use Rattle.service.proofs.Theorem.{holds_of}
use Rattle.service.proofs.Share.{
  Share,
  seen_of,
  untouched,
  own_share,
  lacking,
  refusal-lacking,
  checked_share,
  effect_share,
  batch_share,
  share,
}

pub record Gives (s : ℕ) (c : Call) (x : Outcome) (y : Share) : Type 0 where
  pub sees : seen s (event_of c x) ≡ seen_of y
  pub leaves : slot_at x.next s ≡ y.slot

-- A refusal ends nobody.
refused-ends : (s : ℕ) (c : Call) (g : Refusal) → ends_by s c (refused g) ≡ false
refused-ends s (opens t) g = refl
refused-ends s (closes t n) g = rw (refusal-not g 1 (omega arith)) (and-false (eqb n s))
refused-ends s (receives t n m o) g = rw (refusal-not g 4 (omega arith)) (and-false (eqb n s))
refused-ends s (edits t b o) g = refl
refused-ends s (ticks t) g = refl

-- A session that lives has one of the four numbers.
inside : (l : List Slot) (s : ℕ) (y : Session) → get_or l s free ≡ live y → s < length l
inside l s y h = ⊎_elim (ltb-true s (length l)) (λ (e : ltb s (length l) ≡ false). past (ltb-false s (length l) e)) (decided (ltb s (length l)))
  where
    past : length l ≤ s → s < length l
    past e = absurd (let p : free ≡ live y = sym (get_or-eq_default l free e) ∙ h in let z : ◌≡◌ {A = ℕ} 0 1 = cc in omega arith)

-- The lowest free number is one of the slots, and free.
pub lowest : (l : List Slot) (n : ℕ) → lowest_free l ≡ some n → (get_or l n free ≡ free) × (n < length l)
unfolding lowest_free
lowest [] n e = absurd (let z : ◌≡◌ {A = ℕ} 0 1 = cc in omega arith)
lowest (free ∷ l) n e = let p : n ≡ 0 = cc in (rw p refl, omega arith)
lowest (live x ∷ l) n e = go (lowest_free l) (lowest l) e
  where
    go : (o : Option ℕ) → ((k : ℕ) → o ≡ some k → (get_or l k free ≡ free) × (k < length l))
        → Option.map suc o ≡ some n → (get_or (live x ∷ l) n free ≡ free) × (n < suc (length l))
    go none h q = absurd (let z : ◌≡◌ {A = ℕ} 0 1 = cc in omega arith)
    go (some k) h q = let d : n ≡ suc k = cc in (rw d (h k refl).0, omega (arith, (h k refl).1))

module _ (r : Run) (h : Related r) (s : ℕ) (y : Session) (lives : slot_at r.state s ≡ live y) where
  abbrev st : State
  st = r.state

  in-slots : s < length st.slots
  in-slots = inside st.slots s y lives

  four : s < max_sessions
  four = omega (arith, in-slots, h.slots)

  refused-gives : (c : Call) (o : List ℕ) (g : Refusal) (a : Option Answer) → answer_for s c (refused g) ≡ a
      → Gives s c (refuse st o g) (record { answer = a; bytes = []; slot = live y })
  unfolding bytes_for
  refused-gives c o g a e = record { sees = rw (e, refused-ends s c g); leaves = lives }

  -- ---- calls of other sessions

  -- Whether c is one: its answer is not s's to know, and it can't end s.
  pub record Foreign (c : Call) : Type 0 where
    pub hidden : (a : Answer) → answer_for s c a ≡ none
    pub harmless : (a : Answer) → ends_by s c a ≡ false

  -- One other slot is changed.
  other-gives : (c : Call) → Foreign c → (t n : ℕ) (x : Slot) (a : Answer) (o : List ℕ) → (s ≡ n → ⊥) → count_for a s ≡ 0
      → Gives s c (record { answer = a; next = with_slots t (set st.slots n x) st; output = o }) (untouched y)
  unfolding bytes_for
  other-gives c f t n x a o away z =
      record { sees = rw (f.hidden a, z, f.harmless a); leaves = get_or-set_other st.slots n s x free away ∙ lives }

  open_gives : (t : ℕ) → Gives s (opens t) (open_outcome st t) (untouched y)
  unfolding open_outcome answer_number refusal_number bytes_for
  open_gives t = go (lowest_free st.slots) refl
    where
      away : (n : ℕ) → lowest_free st.slots ≡ some n → s ≡ n → ⊥
      away n e p =
          let q : live y ≡ free = sym lives ∙ ap (λ (k : ℕ). get_or st.slots k free) p ∙ (lowest st.slots n e).0 in
          let z : ◌≡◌ {A = ℕ} 0 1 = cc in omega arith

      go : (o : Option ℕ) → lowest_free st.slots ≡ o → Gives s (opens t) (open_outcome st t) (untouched y)
      go none e = rw (e, open_outcome) (refused-gives (opens t) [] AllOpen none refl)
      go (some n) e =
          rw (e, open_outcome)
          (record { sees = refl; leaves = get_or-set_other st.slots n s _ free (away n e) ∙ lives })

  other-effect : (c : Call) → Foreign c → (t n : ℕ) (o : List ℕ) (x : Effect) → (s ≡ n → ⊥)
      → Gives s c (effect_outcome st t n o x) (untouched y)
  unfolding effect_outcome
  other-effect c f t n o abort away = other-gives c f t n free _ o away refl
  other-effect c f t n o (nothing x) away = other-gives c f t n (live x) _ o away refl
  other-effect c f t n o (reply x w) away =
      other-gives c f t n (live x) _ _ away (count-other n w s away)
  other-effect c f t n o (others x) away = other-gives c f t n (live x) _ o away refl
  other-effect c f t n o (places x p) away = other-gives c f t n (live x) _ o away refl

  foreign-gives : (c : Call) → Foreign c → Gives s c (passed st c) (untouched y) → Gives s c (outcome st c) (untouched y)
  unfolding outcome
  foreign-gives c f k = go (refusal_of st (brought c)) refl
    where
      go : (o : Option Refusal) → refusal_of st (brought c) ≡ o → Gives s c (outcome st c) (untouched y)
      go (some g) p = rw (p, outcome) (refused-gives c (lent c) g none (f.hidden (refused g)))
      go none p = rw (p, outcome) k

  -- ---- its own calls, and those that all sessions share

  -- By the checks, of which those of the time and of the session pass.
  module _ (c : Call) (early : st.latest ≤ (brought c).time) (present : is_absent st (brought c).session ≡ false) where
    refusal_is : refusal_of st (brought c) ≡ lacking (brought c)
    refusal_is = refusal-lacking st (brought c) early present

    checked-gives : ((g : Refusal) → lacking (brought c) ≡ some g → answer_for s c (refused g) ≡ some (refused g)) → (x : Share)
        → (Passed st (brought c) → ((i : ℕ) → count_for (passed st c).answer i ≤ output_size) → Gives s c (passed st c) x)
        → Gives s c (outcome st c) (checked_share y (lacking (brought c)) x)
    unfolding outcome
    checked-gives known x k = go (lacking (brought c)) refl (holds_of r h c).kept.fits
      where
        go : (f : Option Refusal) → lacking (brought c) ≡ f → ((i : ℕ) → count_for (outcome st c).answer i ≤ output_size)
            → Gives s c (outcome st c) (checked_share y f x)
        go (some g) p = λ fits. rw (refusal_is ∙ p, outcome) (refused-gives c (lent c) g (some (refused g)) (known g p))
        go none p = rw (refusal_is ∙ p, outcome) (k (checks-passed st (brought c) (refusal_is ∙ p)))

  own-present : is_absent st (some s) ≡ false
  own-present = rw (lt-leb max_sessions s four, lives)

  -- Its slot is changed to x, and no bytes are stated.
  quiet-gives : (c : Call) (t : ℕ) (x : Slot) (a : Answer) (o : List ℕ) → answer_for s c a ≡ some a → count_for a s ≡ 0
      → ends_by s c a ≡ is_free x
      → Gives s c (record { answer = a; next = with_slots t (set st.slots s x) st; output = o }) (record { answer = some a; bytes = []; slot = x })
  unfolding bytes_for
  quiet-gives c t x a o e z f = record { sees = rw (e, z, f); leaves = get_or-set_same st.slots s x free in-slots }

  -- An effect on its slot, by a call that ends it with answer 4 alone.
  effect-gives : (c : Call) → ((a : Answer) → answer_for s c a ≡ some a) → ((a : Answer) → ends_by s c a ≡ eqb (answer_number a) 4)
      → (t : ℕ) (o : List ℕ) (x : Effect) → ((z : Session) (w : List ℕ) → x ≡ reply z w → least_output ≤ length o)
      → ((i : ℕ) → count_for (effect_outcome st t s o x).answer i ≤ output_size) → Gives s c (effect_outcome st t s o x) (effect_share s x)
  unfolding effect_outcome answer_number
  effect-gives c known ends t o abort room fits = quiet-gives c t free _ o (known _) refl (ends _)
  effect-gives c known ends t o (nothing x) room fits = quiet-gives c t (live x) _ o (known _) refl (ends _)
  effect-gives c known ends t o (reply x w) room fits =
      let small : length w ≤ output_size = rw (count-own s w four) at (fits s) in
      record {
        sees = rw (known (sent (counts s (length w))), count-own s w four, bytes-own s four w o small (room x w refl), ends (sent (counts s (length w))));
        leaves = get_or-set_same st.slots s (live x) free in-slots;
      }
  effect-gives c known ends t o (others x) room fits = quiet-gives c t (live x) _ o (known _) refl (ends _)
  effect-gives c known ends t o (places x p) room fits = quiet-gives c t (live x) _ o (known _) refl (ends _)

  close-gives : (t : ℕ) → Gives s (closes t s) (close_outcome st t s) (record { answer = some done; bytes = []; slot = free })
  unfolding close_outcome answer_number
  close-gives t = quiet-gives (closes t s) t free done [] (rw (eq-eqb s s refl)) refl (rw (eq-eqb s s refl))

  refused-levelled : (t : ℕ) (b : Bytes) (o : List ℕ) (g : Refusal) → answer_for s (edits t b o) (refused g) ≡ some (refused g)
  refused-levelled t b o g = rw (refusal-not g 1 (omega arith), refusal-not g 2 (omega arith))

  told-levelled : (ws : List (List ℕ)) → levelled (told ws) ≡ done
  unfolding answer_number
  told-levelled ws = go (all_of (λ (w : List ℕ). eqb (length w) 0) ws)
    where
      go : (b : Bool) → levelled (cond b done (sent (map length ws))) ≡ done
      go true = refl
      go false = refl

  carried_gives : (t : ℕ) (b : Bytes) (o : List ℕ) → least_output ≤ length o → (new : List Record)
      → ((i : ℕ) → count_for (told (map (push_to st.store new) st.slots)) i ≤ output_size)
      → Gives s (edits t b o)
      (record {
        answer = told (map (push_to st.store new) st.slots);
        next = record { zone = st.zone; latest = t; store = new; slots = st.slots };
        output = written 0 (map (push_to st.store new) st.slots) o;
      })
      (batch_share y st.store (stored new))
  carried_gives t b o room new fits =
      let ws = map (push_to st.store new) st.slots in
      let own : get_or ws s [] ≡ push_to st.store new (live y) =
      get_or-map (push_to st.store new) st.slots s free ∙ ap (push_to st.store new) lives in
      let fit : (i : ℕ) → length (get_or ws i []) ≤ output_size = λ (i : ℕ). omega (arith, count-told ws i, fits i) in
      let all : length ws ≡ max_sessions = length-map st.slots (push_to st.store new) ∙ h.slots in
      record {
        sees = rw (told-levelled ws, count-told ws s, bytes-told ws o s fit (omega arith), own);
        leaves = lives;
      }

  batch-gives : (t : ℕ) (b : Bytes) (o : List ℕ) → least_output ≤ length o
      → ((i : ℕ) → count_for (batch_outcome st t b.list o).answer i ≤ output_size)
      → Gives s (edits t b o) (batch_outcome st t b.list o) (batch_share y st.store (batch_of st.zone b.list st.store))
  unfolding batch_outcome
  batch-gives t b o room = go (batch_of st.zone b.list st.store) refl
    where
      go : (e : Edited) → batch_of st.zone b.list st.store ≡ e
          → ((i : ℕ) → count_for (batch_outcome st t b.list o).answer i ≤ output_size)
          → Gives s (edits t b o) (batch_outcome st t b.list o) (batch_share y st.store e)
      go (faulty f) e = rw (e, batch_outcome) (λ fits. refused-gives (edits t b o) o (Batch f) _ (refused-levelled t b o (Batch f)))
      go (stored new) e = rw (e, batch_outcome) (carried_gives t b o room new)

  tick_gives : (t : ℕ) → Gives s (ticks t) (tick_outcome st t) (share st.zone st.store y s (ticks t))
  unfolding tick_outcome bytes_for answer_number
  tick_gives t =
      record {
        sees = rw (get_or-map (ends_at t) st.slots s free, lives, freed (ends_at t (live y)));
        leaves = rw (get_or-map (λ (x : Slot). cond (ends_at t x) free x) st.slots s free, lives);
      }
    where
      freed : (b : Bool) → is_free (cond b free (live y)) ≡ b
      freed true = refl
      freed false = refl

  -- ---- every call

  -- Under a number: the session's own, or another's.
  by_number : (c : ℕ → Call) (x : Share) → ((n : ℕ) → eqb n s ≡ false → Foreign (c n))
      → ((n : ℕ) → Foreign (c n) → (s ≡ n → ⊥) → Gives s (c n) (passed st (c n)) (untouched y))
      → Gives s (c s) (outcome st (c s)) x → (n : ℕ) → Gives s (c n) (outcome st (c n)) (own_share s n y x)
  by_number c x foreign other own n = ⊎_elim mine theirs (decided (eqb n s))
    where
      mine : eqb n s ≡ true → Gives s (c n) (outcome st (c n)) (own_share s n y x)
      mine e = rw (eqb-true n s e, eq-eqb s s refl) own

      theirs : eqb n s ≡ false → Gives s (c n) (outcome st (c n)) (own_share s n y x)
      theirs e =
          rw e
          (foreign-gives (c n) (foreign n e) (other n (foreign n e) (λ (p : s ≡ n). eqb-false n s e (sym p))))

  -- A call that is an effect on the slot under its number, and that ends the session with answer 4 alone.
  effect-call : (c : ℕ → Call) (t : ℕ) (o : List ℕ) (f : Slot → Effect)
      → ((n : ℕ) → passed st (c n) ≡ effect_outcome st t n o (f (slot_at st n)))
      → ((n : ℕ) (a : Answer) → answer_for s (c n) a ≡ cond (eqb n s) (some a) none)
      → ((n : ℕ) (a : Answer) → ends_by s (c n) a ≡ (eqb n s && eqb (answer_number a) 4))
      → st.latest ≤ (brought (c s)).time → is_absent st (brought (c s)).session ≡ false
      → (is_short (brought (c s)).output ≡ false → (z : Session) (w : List ℕ) → f (live y) ≡ reply z w → least_output ≤ length o) → (n : ℕ)
      → Gives s (c n) (outcome st (c n)) (own_share s n y (checked_share y (lacking (brought (c s))) (effect_share s (f (live y)))))
  effect-call c t o f is known ends early present room =
      by_number c _ (λ n e. record { hidden = λ a. rw (known n a, e); harmless = λ a. rw (ends n a, e) })
      (λ n g away. rw (is n) (other-effect (c n) g t n o (f (slot_at st n)) away))
      (checked-gives (c s) early present (λ g p. own-known (refused g)) _ own)
    where
      own-known : (a : Answer) → answer_for s (c s) a ≡ some a
      own-known a = rw (known s a, eq-eqb s s refl)

      own-ends : (a : Answer) → ends_by s (c s) a ≡ eqb (answer_number a) 4
      own-ends a = rw (ends s a, eq-eqb s s refl)

      own : Passed st (brought (c s)) → ((i : ℕ) → count_for (passed st (c s)).answer i ≤ output_size)
          → Gives s (c s) (passed st (c s)) (effect_share s (f (live y)))
      own p = rw (is s, lives) (effect-gives (c s) own-known own-ends t o (f (live y)) (room p.roomy))

  -- No refusal where nothing can be lacking.
  lacks-nothing : {A : Type 0} (g : Refusal) → none ≡ some g → A
  lacks-nothing g p = absurd (let z : ◌≡◌ {A = ℕ} 0 1 = cc in omega arith)

  pub gives : (c : Call) → st.latest ≤ (brought c).time → Gives s c (outcome st c) (share st.zone st.store y s c)
  unfolding passed close_outcome message_outcome
  gives (opens t) early = checked-gives (opens t) early refl (λ g. lacks-nothing g) _ (λ p fits. open_gives t)
  gives (closes t n) early =
      by_number (closes t) _ (λ n e. record { hidden = λ a. rw e; harmless = λ a. rw e })
      (λ n f away. other-gives (closes t n) f t n free done [] away refl)
      (checked-gives (closes t s) early own-present (λ g. lacks-nothing g) _ (λ p fits. close-gives t)) n
  gives (receives t n m o) early =
      effect-call (λ (n : ℕ). receives t n m o) t o (effect_at st t m.list) (λ n. refl) (λ n a. refl) (λ n a. refl) early own-present
      (λ short z w e. ltb-false (length o) least_output short) n
  gives (edits t b o) early =
      checked-gives (edits t b o) early refl (λ g p. refused-levelled t b o g) _
      (λ p fits. batch-gives t b o (ltb-false (length o) least_output p.roomy) fits)
  gives (ticks t) early = checked-gives (ticks t) early refl (λ g. lacks-nothing g) _ (λ p fits. tick_gives t)
