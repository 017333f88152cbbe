-- A batch: from what editing the store and writing the PUSHes ensure to the outcome of the call.
use Prim.Native.Nat.{ℕ, zero, suc, ◌+◌, ◌*◌, ◌-◌, ◌≤◌, ◌<◌}
use native.Mathlib.Omega.{arith}
use mathlib.Core.Bool.{Bool, true, false, cond, not, ◌&&◌}
use mathlib.Core.List.{List, [], ◌∷◌, ◌++◌, map}
use mathlib.Core.Option.{none, some}
use mathlib.Core.Path.{◌≡◌, refl, sym, ap, ap₂, subst, ◌∙◌}
use lib.ListN.{length, take, drop, set, get_or}
use Rattle.std.proofs.lemmas.List.{take_more_set, map_more, take_all, get_or-map, length-set}
use Rattle.std.specs.Borrow.{Bor}
use Rattle.zone.specs.Table.{records_in}
use Rattle.server.specs.Numbers.{session_at}
use Rattle.server.proofs.States.{session-read}
use Rattle.service.specs.Checks.{output_size}
use Rattle.notify.specs.declared.message.Change.{Change}
use lib.Seq.{sets}
use lib.Dec.{eqb}
use lib.Pow.{are_bytes}
use borrow.Author.Tests.{ltb-false}
use Rattle.wire.specs.Part.{part}
use Rattle.wire.proofs.Writes.{sets-lent-rest}
use Rattle.session.specs.Table.{subscriptions_of}
use Rattle.zone.specs.Lists.{all_of}
use Rattle.zone.specs.Record.{Record}
use Rattle.zone.specs.Match.{Subscription}
use Rattle.zone.specs.Table.{records_of}
use Rattle.zone.specs.Batch.{batch_of, stored, faulty}
use Rattle.zone.specs.Batches.{edited_of}
use Rattle.std.specs.Prelude.{Some, Result, Ok, Err}
use Rattle.server.specs.declared.checks.Brought.{Brought}
use Rattle.server.specs.Checks.{brought_of, time_alone}
use Rattle.server.proofs.Outcomes.{gives-refused}
use Rattle.service.specs.Call.{Call}
use Rattle.server.specs.Answers.{Serves}
use Rattle.server_batch.specs.Pushing.{memory_lent}
use Rattle.zone.specs.declared.BatchFault.{BatchFault}
use Rattle.push.specs.Octets.{push_of}
use Rattle.notify.specs.Marks.{marked, changes_for}
use Rattle.notify.specs.Written.{Pushed}
use Rattle.notify.proofs.Messages.{changes-for}
use Rattle.service.specs.State.{State, Slot}
use Rattle.service.specs.Answer.{done, sent, refused}
use Rattle.service.specs.Checks.{refusal_of, least_output}
use Rattle.service.specs.Call.{passed, edits, refuse, with_store, push_to, told, written, batch_outcome}
use Rattle.service.proofs.Checks.{checks-passed}
use Rattle.service.specs.declared.refusal.Refusal.{Refusal}
use Rattle.service.specs.declared.refusal.Refusal.TheVariants.{Batch}
use Rattle.server.specs.declared.answer.Answer.{Answer}
use Rattle.server.specs.declared.answer.Answer.TheVariants.{Done, Sent}
use Rattle.server.specs.declared.answer.Outcome.{Outcome}
use Rattle.server.specs.declared.state.Session.{Session}
use Rattle.server.specs.declared.state.Server.{Server}
use Rattle.server.specs.Memory.{Memory, memory_of, holding, slot_of, slots_of, state_of}
use Rattle.server.specs.Checks.{refused_by}
use Rattle.server.specs.Answers.{Gives, answer_of, refusing}
use Rattle.server_batch.specs.Pushing.{Tells, Changed, TellsAll, Announces, Edits, told_of, told_in, committed_of, put_other, slots_at, areas_in}
use Rattle.server.proofs.States.{slot-live, slot-dead}
use Rattle.server.proofs.Outcomes.{gives-passed}

-- ---- one session

pub tell-live : (x : Session) (change : Change) (subs o p : List ℕ) (at place n : ℕ) → x.live ≡ true → at ≡ place → Changed change
    → Pushed (take (length o - at) (drop at o)) (changes_for (subscriptions_of x.count subs) (records_in change.new) (marked change.gone.now (records_in change.old)) (marked change.fresh.now (records_in change.new))) p n
    → Tells (push_to (records_in change.old) (records_in change.new) (slot_of x subs)) place o (take at o ++ (p ++ drop (length o - at) (drop at o))) n
tell-live x change subs o p at place n h q m e =
    let old : List Record = records_in change.old in
    let new : List Record = records_in change.new in
    let l : List Subscription = subscriptions_of x.count subs in
    let w : List ℕ = push_of (changes_for l new (marked change.gone.now old) (marked change.fresh.now new)) in
    let same : w ≡ push_to old new (slot_of x subs) =
    ap push_of (ap₂ (changes_for l new) m.left m.entered ∙ changes-for l old new) ∙ sym (ap (push_to old new) (slot-live x subs h)) in
    record {
      written = sets-lent-rest o p w at e.written ∙ ap (sets o at) same ∙ ap (λ (k : ℕ). sets o k (push_to old new (slot_of x subs))) q;
      counted = e.count ∙ ap length same;
    }

pub tell-dead : (x : Session) (old new : List Record) (subs o : List ℕ) (at : ℕ) → x.live ≡ false
    → Tells (push_to old new (slot_of x subs)) at o o 0
tell-dead x old new subs o at h =
    let same : push_to old new (slot_of x subs) ≡ [] = ap (push_to old new) (slot-dead x subs h) in
    record { written = ap (sets o at) (sym same); counted = ap length (sym same) }

-- ---- all of them

-- What the first i sessions are told: the output o is o' then, with what is left still to write, and so many counts ns stand.
module _ (push : Slot → List ℕ) (s : Server) (l : List (List ℕ)) where
  abbrev pushes : List (List ℕ)
  pushes = map push (slots_at s l)

  pub record Telling (i : ℕ) (o o' ns : List ℕ) : Type 0 where
    pub long : length ns ≡ 4
    pub left : written i (drop i pushes) o' ≡ written 0 pushes o
    pub counted : take i ns ≡ map length (take i pushes)

  abbrev push_at : ℕ → List ℕ
  push_at i = push (slot_of (session_at i s) (get_or l i []))

  pushed-at : (i : ℕ) → i < 4 → get_or pushes i [] ≡ push_at i
  pushed-at zero h = refl
  pushed-at (suc zero) h = refl
  pushed-at (suc (suc zero)) h = refl
  pushed-at (suc (suc (suc zero))) h = refl
  pushed-at (suc (suc (suc (suc i)))) h = absurd (omega arith)

  written_more : (i : ℕ) → i < 4 → (o p : List ℕ) → p ≡ sets o (i * output_size) (push_at i)
      → written (i + 1) (drop (i + 1) pushes) p ≡ written i (drop i pushes) o
  unfolding written
  written_more zero h o p e = rw e
  written_more (suc zero) h o p e = rw e
  written_more (suc (suc zero)) h o p e = rw e
  written_more (suc (suc (suc zero))) h o p e = rw e
  written_more (suc (suc (suc (suc i)))) h o p e = absurd (omega arith)

  telling_next : (i : ℕ) → i < 4 → (o o' ns : List ℕ) → Telling i o o' ns → (p : List ℕ) (n : ℕ) → Tells (push_at i) (i * output_size) o' p n
      → Telling (i + 1) o p (set ns i n)
  telling_next i h o o' ns w p n t =
      record {
        long = length-set ns i n ∙ w.long;
        left = written_more i h o' p t.written ∙ w.left;
        counted =
            take_more_set ns i n (omega (arith, w.long))
            ∙ rw (w.counted, t.counted, ← pushed-at i h) (sym (map_more length pushes i [] h));
      }

  pub telling_none : (o : List ℕ) → Telling 0 o o (0 ∷ 0 ∷ 0 ∷ 0 ∷ [])
  telling_none o = record { long = refl; left = refl; counted = refl }

-- As the code reads the arrays, at defaults of its own, and at a place that it names.
pub telling_more : {push : Slot → List ℕ} {s : Server} (ts : List (Bor (List ℕ))) → length s.sessions ≡ 4 → length ts ≡ 4
    → {i : ℕ} → i < 4 → {o o' ns : List ℕ} → Telling push s (areas_in ts) i o o' ns → (d : Session) (r : Bor (List ℕ)) {at : ℕ} {p : List ℕ} {n : ℕ}
    → Tells (push (slot_of (get_or s.sessions i d) (get_or ts i r).now)) at o' p n → at ≡ i * output_size
    → Telling push s (areas_in ts) (i + 1) o p (set ns i n)
telling_more {push} {s} ts h k {i} b {o} {o'} {ns} w d r {at} {p} {n} t q =
    telling_next push s (areas_in ts) i b o o' ns w p n
    (rw (← session-read i d s h b, get_or-map (λ (x : Bor (List ℕ)). x.now) ts i r [] (omega (arith, k)), ← q) t)

pub telling_all : {old new : List Record} {s : Server} {l : List (List ℕ)} {i : ℕ} {o o' ns : List ℕ}
    → Telling (push_to old new) s l i o o' ns → 4 ≤ i → i ≤ 4 → TellsAll old new (slots_at s l) o o' ns
unfolding written
telling_all {old} {new} {s} {l} {i} {o} {o'} {ns} w h k =
    let e : i ≡ 4 = omega arith in
    let v : Telling (push_to old new) s l 4 o o' ns = rw (← e) w in
    record { output = v.left; counted = sym (take_all 4 ns (omega (arith, v.long))) ∙ v.counted }

-- ---- 1 or 2

all_map : (ws : List (List ℕ)) → all_of (λ (n : ℕ). eqb n 0) (map length ws) ≡ all_of (λ (w : List ℕ). eqb (length w) 0) ws
all_map [] = refl
all_map (w ∷ ws) = ap (λ (b : Bool). eqb (length w) 0 && b) (all_map ws)

told-counts : (ws : List (List ℕ)) → told_of (map length ws) ≡ told ws
unfolding told_of
told-counts ws = ap (λ (b : Bool). cond b done (sent (map length ws))) (all_map ws)

told-refuses-not : (ws : List (List ℕ)) (x : Refusal) → refused x ≡ told ws → ⊥
told-refuses-not ws x e = by (all_of (λ (w : List ℕ). eqb (length w) 0) ws) e
  where
    by : (b : Bool) → refused x ≡ cond b done (sent (map length ws)) → ⊥
    by true e = let z : ◌≡◌ {A = ℕ} 0 1 = cc in omega arith
    by false e = let z : ◌≡◌ {A = ℕ} 0 1 = cc in omega arith

pub announces : (s : Server) (t n : ℕ) (old new : List Record) (slots : List Slot) (o o' counts : List ℕ)
    → TellsAll old new slots o o' counts → (z : Server) → z ≡ committed_of t n s → (x : Answer) → answer_of x ≡ told_of counts
    → Announces s t n old new slots o o' (record { server = z; answer = x })
announces s t n old new slots o o' counts w z p x q =
    record {
      numbers = p;
      answer = q ∙ ap told_of w.counted ∙ told-counts (map (push_to old new) slots);
      output = w.output;
    }

told-in : (ns : List ℕ) → answer_of (told_in ns) ≡ told_of ns
unfolding told_in told_of answer_of
told-in ns = by (all_of (λ (n : ℕ). eqb n 0) ns)
  where
    by : (b : Bool) → answer_of (cond b Done (Sent ns)) ≡ cond b done (sent ns)
    by true = refl
    by false = refl

-- ---- the state after it

held-still : (b : Bool) (x y a : List ℕ) → cond b (cond b x a) (cond b a y) ≡ cond b x y
held-still true x y a = refl
held-still false x y a = refl

held-other : (b : Bool) (x y a : List ℕ) → cond (not b) (cond b x a) (cond b a y) ≡ a
held-other true x y a = refl
held-other false x y a = refl

state-other : (s : Server) (a : List ℕ) (m : Memory) → state_of s (put_other s a m) ≡ state_of s m
unfolding state_of put_other
state-other s a m = rw (held-still s.second m.second m.first a)

state-committed : (s : Server) (t n : ℕ) (a : List ℕ) (m : Memory)
    → state_of (committed_of t n s) (put_other s a m) ≡ with_store t (records_of n a) (state_of s m)
unfolding state_of put_other committed_of session_at
state-committed s t n a m = rw (held-other s.second m.second m.first a)

-- ---- edits

batch-faulty : (st : State) (t : ℕ) (bytes o : List ℕ) (f : BatchFault) → batch_of st.zone bytes st.store ≡ faulty f
    → batch_outcome st t bytes o ≡ refuse st o (Batch f)
unfolding batch_outcome
batch-faulty st t bytes o f e = rw (e, batch_outcome)

batch-stored : (st : State) (t : ℕ) (bytes o : List ℕ) (new : List Record) → batch_of st.zone bytes st.store ≡ stored new
    → batch_outcome st t bytes o
    ≡ record {
      answer = told (map (push_to st.store new) st.slots);
      next = with_store t new st;
      output = written 0 (map (push_to st.store new) st.slots) o;
    }
unfolding batch_outcome
batch-stored st t bytes o new e = rw (e, batch_outcome)

announced-gives : (s : Server) (t n : ℕ) (o o' : List ℕ) (r : Outcome) (new : List ℕ) (m : Memory)
    → Announces s t n (records_of s.records (holding s m)) (records_of n new) (slots_of s m) o o' r
    → Gives s r (put_other s new m) o'
    (record {
      answer = told (map (push_to (state_of s m).store (records_of n new)) (state_of s m).slots);
      next = with_store t (records_of n new) (state_of s m);
      output = written 0 (map (push_to (state_of s m).store (records_of n new)) (state_of s m).slots) o;
    })
unfolding state_of answer_of
announced-gives s t n o o' r new m v =
    record {
      next = ap (λ (y : Server). state_of y (put_other s new m)) v.numbers ∙ state-committed s t n new m;
      answer = v.answer;
      output = v.output;
      unchanged = λ y e.
          absurd (told-refuses-not (map (push_to (records_of s.records (holding s m)) (records_of n new)) (slots_of s m)) y
          (sym (ap answer_of e) ∙ v.answer));
    }

module _ (s : Server) (t : ℕ) (zone old new : List ℕ) (l : List (List ℕ)) (bytes o name : List ℕ) (x : Result ℕ BatchFault) (named : name ≡ part zone 0 s.zone) (e : edited_of x new ≡ batch_of name bytes (records_of s.records old)) where
  edited-at : (first second : List ℕ) → let m = memory_lent zone first second l in holding s m ≡ old
      → batch_of (state_of s m).zone bytes (state_of s m).store ≡ edited_of x new
  unfolding state_of
  edited-at first second q =
      ap (λ (z : List ℕ). batch_of (take s.zone zone) bytes (records_of s.records z)) q
      ∙ sym (e ∙ ap (λ (z : List ℕ). batch_of z bytes (records_of s.records old)) named)

  pub edits-faulty : (f : BatchFault) → x ≡ Err f → (r : Outcome) → r ≡ refusing s (Batch f) → Edits s t zone old new l bytes o o r
  unfolding answer_of
  edits-faulty f h r g =
      record {
        gives = λ first second q.
            let m = memory_lent zone first second l in
            rw (batch-faulty (state_of s m) t bytes o f (edited-at first second q ∙ ap (λ (y : Result ℕ BatchFault). edited_of y new) h), g)
            (record { next = state-other s new m; answer = refl; output = refl; unchanged = λ y w. refl });
      }

  pub edits-stored : (n : ℕ) → x ≡ Ok n → (counts o' : List ℕ) → TellsAll (records_of s.records old) (records_of n new) (slots_at s l) o o' counts
      → Edits s t zone old new l bytes o o' (record { server = committed_of t n s; answer = told_in counts })
  edits-stored n h counts o' w =
      let r : Outcome = record { server = committed_of t n s; answer = told_in counts } in
      let v : Announces s t n (records_of s.records old) (records_of n new) (slots_at s l) o o' r =
      announces s t n (records_of s.records old) (records_of n new) (slots_at s l) o o' counts w (committed_of t n s) refl (told_in counts) (told-in counts) in
      record {
        gives = λ first second q.
            let m = memory_lent zone first second l in
            rw (batch-stored (state_of s m) t bytes o (records_of n new) (edited-at first second q ∙ ap (λ (y : Result ℕ BatchFault). edited_of y new) h))
            (announced-gives s t n o o' r new m (subst (λ (z : List ℕ). Announces s t n (records_of s.records z) (records_of n new) (slots_at s l) o o' r) (sym q) v));
      }

-- ---- the call

-- What a batch brings to the checks: the time, and the length of its output.
module _ (s : Server) (t : ℕ) (o : List ℕ) (k : Result Unit Refusal) (b : Brought) (q : b ≡ time_alone t)
    (h : (m : Memory) → refused_by k ≡ refusal_of (state_of s m) (brought_of (record b { output = Some (length o) }))) where
  brings : Brought
  brings = record b { output = Some (length o) }

  brings-is : brought_of brings ≡ record { output = some (length o); time = t; session = none; message = none }
  unfolding brings
  brings-is = ap (λ (x : Brought). brought_of (record x { output = Some (length o) })) q

  pub roomy : (u : Unit) → k ≡ Ok u → least_output ≤ length o
  unfolding brings
  roomy u e =
      let m : Memory = memory_of [] [] [] [] [] [] [] in
      ltb-false (length o) least_output
      (checks-passed (state_of s m) (record { output = some (length o); time = t; session = none; message = none })
      (ap (refusal_of (state_of s m)) (sym brings-is) ∙ sym (h m) ∙ ap refused_by e)).roomy

  module _ (zone first second : List ℕ) (l : List (List ℕ)) (bytes : List ℕ) (small : are_bytes bytes ≡ true) where
    call : Call
    call = edits t (record { list = bytes; small = small }) o

    pub refused-batch : (x : Refusal) → k ≡ Err x → (r : Outcome) → r ≡ refusing s x
        → Serves s (memory_lent zone first second l) (edits t (record { list = bytes; small = small }) o) r (memory_lent zone first second l) o
    unfolding call brings
    refused-batch x e r f = gives-refused s call brings brings-is k h x e r f (memory_lent zone first second l)

    pub edited-batch : (u : Unit) → k ≡ Ok u → (which : Bool) → s.second ≡ which → (r : Outcome) (new o' : List ℕ)
        → Edits s t zone (cond which second first) new l bytes o o' r
        → Serves s (memory_lent zone first second l) (edits t (record { list = bytes; small = small }) o) r
        (memory_lent zone (cond which new first) (cond which second new) l) o'
    unfolding call brings passed put_other
    edited-batch u e which w r new o' v =
        gives-passed s call brings brings-is k h u e r (memory_lent zone first second l) (memory_lent zone (cond which new first) (cond which second new) l) o'
        (subst (λ (y : Bool). Gives s r (memory_lent zone (cond y new first) (cond y second new) l) o' (batch_outcome (state_of s (memory_lent zone first second l)) t bytes o)) w
        (v.gives first second (ap (λ (y : Bool). cond y second first) w)))
