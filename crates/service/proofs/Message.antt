-- A message keeps the relation, whatever its judgment.
use Prim.Native.Nat.{ℕ, ◌+◌, ◌*◌, ◌≤◌, ◌<◌}
use native.Mathlib.Omega.{arith}
use mathlib.Core.Bool.{Bool, true, false, cond, not, or-false, and-false}
use mathlib.Core.List.{List, [], ◌∷◌, ◌++◌, append-nil}
use mathlib.Core.Option.{Option, none, some}
use mathlib.Core.Path.{◌≡◌, refl, sym, ap, ap₂, subst, ◌∙◌}
use lib.ListN.{length, get_or, set, take, drop, length-set, length-append}
use lib.Seq.{get_or-set_same, set-set, set-get_or}
use lib.Dec.{eqb, leb}
use borrow.Author.Tests.{leb-false, ltb-false}
use Rattle.wire.specs.Field.{field, octets}
use Rattle.wire.specs.Name.{within}
use Rattle.wire.proofs.Fields.{field_lt, field-take-le}
use Rattle.dso.specs.Header.{message_id, is_response, rcode}
use Rattle.dso.specs.Judge.{subscribe_type, keepalive_type, data_start, judgment, judged}
use Rattle.dso.specs.Response.{rcode_of, response_code, response, response_octets, framed, granted as granted_timeouts, header, tlv_octets, tlvs_octets}
use Rattle.dso.specs.declared.judgment.MessageId.{MessageId}
use Rattle.dso.specs.declared.judgment.RecordPlaces.{RecordPlaces}
use Rattle.dso.specs.declared.judgment.QuestionPlaces.{QuestionPlaces}
use Rattle.dso.specs.declared.judgment.ReplyCode.{ReplyCode}
use Rattle.dso.specs.declared.judgment.ReplyCode.TheVariants.{FormErr, ServFail, NotAuth, DsoTypeNi}
use Rattle.dso.specs.declared.judgment.Judgment.{Judgment}
use Rattle.dso.specs.declared.judgment.Judgment.TheVariants.{
  NotOurs,
  Abort,
  Reply,
  Keepalive,
  Subscribe,
  Unsubscribe,
  Reconfirm,
}
use Rattle.dso.specs.declared.response.Response.{Response}
use Rattle.dso.specs.declared.response.Response.TheVariants.{Error, Keepalive as KeepaliveResponse, Subscribed}
use Rattle.dso.specs.Parts.{first_type}
use Rattle.dso.proofs.Meant.{Meant, Asking, judgment-meant}
use Rattle.dso.proofs.Responses.{response-reads, framed-message}
use Rattle.zone.specs.Lists.{keep}
use Rattle.zone.specs.Record.{Record}
use Rattle.zone.specs.Match.{Subscription, matches, wanted, view}
use Rattle.zone.proofs.Lists.{keep_same, or_left, or_right}
use Rattle.zone.proofs.Views.{view-fewer, wanted_key-fewer}
use Rattle.push.specs.Change.{Change, applied_all}
use Rattle.push.specs.List.{additions}
use Rattle.push.specs.Octets.{push_of}
use Rattle.push.specs.Frames.{frames_in}
use Rattle.push.proofs.Framing.{Sendable, frames_in-reply, frames_in-framed, frames_in-nil, push_messages, response-not-push}
use Rattle.push.proofs.Plains.{first-sendable, first-room}
use Rattle.push.proofs.Subscribing.{view-more}
use Rattle.session.specs.Clocks.{received}
use Rattle.session.specs.Subscriptions.{uses_id, asks_already, is_full, without}
use Rattle.service.specs.State.{Session, Slot, free, live, slot_at, max_sessions}
use Rattle.service.specs.Answer.{Answer, done, not_ours, aborted, reconfirm, answer_number}
use Rattle.service.specs.Checks.{output_size, least_output, is_free}
use Rattle.service.specs.Message.{
  Effect,
  abort,
  nothing,
  reply,
  others,
  places,
  asked,
  with_clocks,
  with_subscriptions,
  subscribed,
  kept_alive,
  answered,
  message_effect,
}
use Rattle.service.specs.Call.{Bytes, receives, brought, with_slots, effect_outcome, message_outcome}
use Rattle.service.specs.Reader.{count_for, bytes_for, messages_in, or_none}
use Rattle.service.specs.Observer.{Client, with_clients, noted, observe, hearing, apply_pushes, apply_push, after_message, is_accepted, subscribing, unsubscribing, subscription_in}
use Rattle.service.specs.Demand.{Run}
use Rattle.service.proofs.Outputs.{nothing-kept}
use Rattle.service.proofs.Related.{Told, PlaceAt, Related, Leads}
use Rattle.service.proofs.Quiet.{observe-nothing, nothing-accepted}
use Rattle.service.proofs.Checks.{Passed}
use Rattle.service.proofs.Plain.{replaced}
use Rattle.service.proofs.Batch.{pushed-applied}
use Rattle.service.proofs.Replies.{bytes-own, own-kept, heard-own}

-- ---- replies as the observer reads them

module _ (id : ℕ) (resp : Response) (small : id < 65536) where
  pub is-answer : is_response (response id resp) ≡ true
  unfolding response_octets
  is-answer = rw (sym (framed-message (response id resp))) (response-reads id resp small).message.is_answer

  pub has_code : rcode (response id resp) ≡ response_code resp
  unfolding response_octets
  has_code = rw (sym (framed-message (response id resp))) (response-reads id resp small).message.code

response-length : (id : ℕ) (resp : Response) → length (response_octets id resp) ≤ 26
unfolding response_octets response framed header tlvs_octets tlv_octets octets
response-length id (Error c) = omega arith
response-length id (KeepaliveResponse t) = omega arith
response-length id Subscribed = omega arith

response-short : (id : ℕ) (resp : Response) → length (response id resp) < 65536
unfolding response_octets framed octets
response-short id resp = omega (arith, response-length id resp)

-- A reply alone, and a reply before a PUSH.
reply-messages : (id : ℕ) (resp : Response) (cs : List Change) → Sendable cs
    → messages_in (response_octets id resp ++ push_of cs) ≡ response id resp ∷ push_messages cs
unfolding messages_in response_octets
reply-messages id resp cs s = rw (frames_in-reply (response id resp) cs (response-short id resp) s)

lone-messages : (id : ℕ) (resp : Response) → messages_in (response_octets id resp) ≡ response id resp ∷ []
unfolding messages_in response_octets
lone-messages id resp =
    ap (λ (l : List ℕ). or_none (frames_in 0 l)) (sym (append-nil (framed (response id resp))))
    ∙ rw (frames_in-framed (response id resp) [] (response-short id resp), frames_in-nil)

-- A client hears no change in a reply.
lone-hearing : (id : ℕ) (resp : Response) (c : Client) → id < 65536 → hearing (response_octets id resp) c ≡ c
lone-hearing id resp c small =
    rw (lone-messages id resp, response-not-push (response id resp) (is-answer id resp small))

-- A reply accepts a subscription only if it carries RCODE 0 and answers a SUBSCRIBE.
not-accepted-code : (m : List ℕ) (id : ℕ) (code : ReplyCode) → id < 65536 → is_accepted m (response_octets id (Error code)) ≡ false
unfolding is_accepted
not-accepted-code m id code small =
    rw (lone-messages id (Error code), is-answer id (Error code) small, has_code id (Error code) small, nonzero code)
    (and-false (eqb (first_type m) subscribe_type))
  where
    nonzero : (c : ReplyCode) → eqb (rcode_of c) 0 ≡ false
    nonzero FormErr = refl
    nonzero ServFail = refl
    nonzero NotAuth = refl
    nonzero DsoTypeNi = refl

not-accepted-type : (m bytes : List ℕ) → first_type m ≡ keepalive_type → is_accepted m bytes ≡ false
unfolding is_accepted
not-accepted-type m bytes e = rw e

-- ---- the place that a message meets

pub record Meets (r : Run) (s : ℕ) (lent : List ℕ) : Type 0 where
  pub inside : s < max_sessions
  pub room : least_output ≤ length lent
  pub session : Session
  pub there : slot_at r.state s ≡ live session
  pub client : Client
  pub heard_by : get_or r.observer.clients s none ≡ some client
  pub holds : Told r.state.store session client

meets-place : (r : Run) (s : ℕ) (lent : List ℕ) → s < max_sessions → least_output ≤ length lent
    → (x : Slot) (c : Option Client) → slot_at r.state s ≡ x → get_or r.observer.clients s none ≡ c → is_free x ≡ false
    → PlaceAt r.state.store x c → Meets r s lent
meets-place r s lent i room free c e f h p = absurd (let z : ◌≡◌ {A = ℕ} 0 1 = cc in omega arith)
meets-place r s lent i room (live x) none e f h p = absurd p
meets-place r s lent i room (live x) (some c) e f h p =
    record { inside = i; room = room; session = x; there = e; client = c; heard_by = f; holds = p }

pub meets : (r : Run) → Related r → (t s : ℕ) (m : Bytes) (lent : List ℕ) → Passed r.state (brought (receives t s m lent))
    → Meets r s lent
meets r h t s m lent p =
    meets-place r s lent (leb-false max_sessions s (or_left (leb max_sessions s) _ p.present))
    (ltb-false (length lent) least_output p.roomy) (slot_at r.state s) (get_or r.observer.clients s none) refl refl
    (or_right (leb max_sessions s) _ p.present) (h.places s)

-- ---- each effect keeps the relation

module _ (r : Run) (h : Related r) (t s : ℕ) (m : Bytes) (lent : List ℕ) (q : Meets r s lent) where
  abbrev clients : List (Option Client)
  clients = r.observer.clients

  abbrev store : List Record
  store = r.state.store

  -- What the effect of a message leads to.
  abbrev EffectLeads : Effect → Type 0
  EffectLeads e = Leads r (receives t s m lent) (effect_outcome r.state t s lent e)

  -- The session goes on with other clocks, and its client is as it was.
  same-client : clients ≡ set clients s (some q.client)
  same-client = sym (set-get_or clients s none) ∙ ap (set clients s) q.heard_by

  still-told : (x : Session) → x.subscriptions ≡ q.session.subscriptions → Told store x q.client
  still-told x e =
      record { subs = q.holds.subs ∙ sym e; exact = rw e q.holds.exact }

  abort-kept : EffectLeads abort
  unfolding effect_outcome noted after_message answer_number bytes_for
  abort-kept =
      record {
        related = rw (observe-nothing (receives t s m lent) aborted _ r.observer (λ (i : ℕ). refl)) (replaced r h t s free none tt);
        kept = nothing-kept aborted lent (λ (i : ℕ). refl);
      }

  -- An answer that says nothing to the observer.
  quiet-kept : (a : Answer) (x : Session) → x.subscriptions ≡ q.session.subscriptions → ((i : ℕ) → count_for a i ≡ 0)
      → eqb (answer_number a) 4 ≡ false → eqb (answer_number a) 1 ≡ false
      → Leads r (receives t s m lent) (record { answer = a; next = with_slots t (set r.state.slots s (live x)) r.state; output = lent })
  unfolding noted after_message bytes_for
  quiet-kept a x e none-sent not4 not1 =
      let nothing : (i : ℕ) → bytes_for a lent i ≡ [] = λ i. ap (λ (n : ℕ). take n (drop (i * output_size) lent)) (none-sent i) in
      record {
        related = rw (observe-nothing (receives t s m lent) a lent r.observer nothing, not4, not1, nothing-accepted m.list (bytes_for a lent s) (nothing s))
            (subst (λ (cl : List (Option Client)). Related (record {
              state = with_slots t (set r.state.slots s (live x)) r.state;
              observer = with_clients cl r.observer;
            })) (sym same-client) (replaced r h t s (live x) (some q.client) (still-told x e)));
        kept = nothing-kept a lent none-sent;
      }

  others-kept : (x : Session) → x.subscriptions ≡ q.session.subscriptions → EffectLeads (others x)
  unfolding effect_outcome answer_number
  others-kept x e = quiet-kept not_ours x e (λ (i : ℕ). refl) refl refl

  places-kept : (x : Session) (p : RecordPlaces) → x.subscriptions ≡ q.session.subscriptions → EffectLeads (places x p)
  unfolding effect_outcome answer_number
  places-kept x p e = quiet-kept (reconfirm p) x e (λ (i : ℕ). refl) refl refl

  -- UNSUBSCRIBE: one subscription fewer.
  fewer-told : (id : ℕ) (x : Session) → x.subscriptions ≡ without id q.session.subscriptions
      → Told store x (unsubscribing id q.client)
  unfolding without
  fewer-told id x e =
      record {
        subs = ap (without id) q.holds.subs ∙ sym e;
        exact = rw (e, q.holds.subs)
            (view-fewer q.session.subscriptions (without id q.session.subscriptions) store q.client.records
            (λ k. wanted_key-fewer (λ (b : Subscription). not (eqb b.id id)) q.session.subscriptions k) q.holds.exact);
      }

  done-kept : (x : Session) → x.subscriptions ≡ without (field 2 (drop data_start m.list)) q.session.subscriptions
      → EffectLeads (nothing x)
  unfolding effect_outcome noted after_message answer_number bytes_for
  done-kept x e =
      record {
        related = rw (observe-nothing (receives t s m lent) done lent r.observer (λ (i : ℕ). refl), q.heard_by)
            (replaced r h t s (live x) (some (unsubscribing (field 2 (drop data_start m.list)) q.client))
            (fewer-told (field 2 (drop data_start m.list)) x e));
        kept = nothing-kept done lent (λ (i : ℕ). refl);
      }

  -- A reply, with whatever follows it: the observer notes a client, and that client hears the bytes.
  reply-kept : (x : Session) (w : List ℕ) (c : Client) → length w ≤ output_size
      → after_message s m.list 2 w clients ≡ set clients s (some c) → Told store x (hearing w c) → EffectLeads (reply x w)
  unfolding effect_outcome observe noted answer_number
  reply-kept x w c fits after told =
      record {
        related = rw (bytes-own s q.inside w lent fits q.room, after, heard-own s q.inside w lent fits q.room (set clients s (some c)) (length-set clients s (some c) ∙ h.clients), get_or-set_same clients s (some c) none (omega (arith, h.clients, q.inside)), set-set clients s (some c) (some (hearing w c)))
            (replaced r h t s (live x) (some (hearing w c)) told);
        kept = own-kept s q.inside w lent fits q.room;
      }

  -- A reply that accepts nothing.
  unnoted : (w : List ℕ) → is_accepted m.list w ≡ false → after_message s m.list 2 w clients ≡ set clients s (some q.client)
  unfolding after_message
  unnoted w e = rw e same-client

  unaccepted-kept : (x : Session) (id : ℕ) (resp : Response) → id < 65536 → x.subscriptions ≡ q.session.subscriptions
      → is_accepted m.list (response_octets id resp) ≡ false → EffectLeads (reply x (response_octets id resp))
  unaccepted-kept x id resp small e not-accepted =
      reply-kept x (response_octets id resp) q.client (omega (arith, response-length id resp))
      (unnoted (response_octets id resp) not-accepted) (rw (lone-hearing id resp q.client small) (still-told x e))

  -- ---- SUBSCRIBE accepted

  module _ (sub : Subscription) (is : subscription_in m.list ≡ sub) (first : first_type m.list ≡ subscribe_type)
      (small : sub.id < 65536) where
    abbrev told : List Change
    told = additions (keep (matches sub) store)

    matching : view (sub ∷ []) store ≡ keep (matches sub) store
    matching = keep_same (wanted (sub ∷ [])) (matches sub) store (λ (x : Record). or-false (matches sub x))

    told-sendable : Sendable told
    told-sendable = rw (sym matching) (first-sendable r.state.zone (sub ∷ []) store h.sound)

    told-room : 14 + length (push_of told) ≤ output_size
    told-room = rw (sym matching) (first-room r.state.zone (sub ∷ []) store h.sound)

    abbrev sent_bytes : List ℕ
    sent_bytes = response_octets sub.id Subscribed ++ push_of told

    sent-fits : length sent_bytes ≤ output_size
    unfolding response_octets response framed header tlvs_octets octets
    sent-fits = omega (arith, length-append (response_octets sub.id Subscribed) (push_of told), told-room)

    is-accepted : is_accepted m.list sent_bytes ≡ true
    unfolding is_accepted
    is-accepted =
        rw (first, reply-messages sub.id Subscribed told told-sendable, is-answer sub.id Subscribed small, has_code sub.id Subscribed small)

    noted-accepted : after_message s m.list 2 sent_bytes clients ≡ set clients s (some (subscribing sub q.client))
    unfolding after_message
    noted-accepted = rw (is-accepted, q.heard_by, is)

    hears-first : apply_pushes (messages_in sent_bytes) q.client.records ≡ applied_all told q.client.records
    hears-first =
        ap (λ (ms : List (List ℕ)). apply_pushes ms q.client.records) (reply-messages sub.id Subscribed told told-sendable)
        ∙ ap (λ (o : Option (List Change)). apply_pushes (push_messages told) (apply_push o q.client.records))
        (response-not-push (response sub.id Subscribed) (is-answer sub.id Subscribed small))
        ∙ pushed-applied told q.client.records told-sendable

    accepted-kept : (x : Session) → x.subscriptions ≡ q.session.subscriptions ++ (sub ∷ []) → EffectLeads (reply x sent_bytes)
    accepted-kept x e =
        reply-kept x sent_bytes (subscribing sub q.client) sent-fits noted-accepted
        (record {
          subs = ap (λ (l : List Subscription). l ++ (sub ∷ [])) q.holds.subs ∙ sym e;
          exact = rw (hears-first, e)
              (view-more q.session.subscriptions sub store q.client.records h.sound.once q.holds.exact);
        })

  -- ---- by the judgment

  cond-leads : (b : Bool) (e f : Effect) → EffectLeads e → EffectLeads f → EffectLeads (cond b e f)
  cond-leads true e f g k = g
  cond-leads false e f g k = k

  module _ (x : Session) (same : x.subscriptions ≡ q.session.subscriptions) where
    subscribed-kept : (sub : Subscription) → subscription_in m.list ≡ sub → first_type m.list ≡ subscribe_type → sub.id < 65536
        → EffectLeads (subscribed r.state.zone store sub x)
    unfolding subscribed
    subscribed-kept sub is first small =
        cond-leads (uses_id sub.id x.subscriptions) abort _ abort-kept
        (cond-leads (not (within r.state.zone sub.owner)) (reply x (response_octets sub.id (Error NotAuth))) _
        (unaccepted-kept x sub.id (Error NotAuth) small same (not-accepted-code m.list sub.id NotAuth small))
        (cond-leads (asks_already sub x.subscriptions) abort _ abort-kept
        (cond-leads (is_full x.subscriptions) (reply x (response_octets sub.id (Error ServFail))) _
        (unaccepted-kept x sub.id (Error ServFail) small same (not-accepted-code m.list sub.id ServFail small))
        (accepted-kept sub is first small (with_subscriptions (x.subscriptions ++ (sub ∷ [])) x)
        (ap (λ (l : List Subscription). l ++ (sub ∷ [])) same)))))

    alive-kept : (id : MessageId) → id.0 < 65536 → first_type m.list ≡ keepalive_type → EffectLeads (kept_alive id x)
    unfolding kept_alive
    alive-kept id small first =
        cond-leads (uses_id id.0 x.subscriptions) abort _ abort-kept
        (unaccepted-kept _ id.0 (KeepaliveResponse granted_timeouts) small same
        (not-accepted-type m.list (response_octets id.0 (KeepaliveResponse granted_timeouts)) first))

    id-small : message_id m.list < 65536
    unfolding message_id
    id-small = field_lt 2 m.list m.small

    -- The subscription that the server reads in a SUBSCRIBE is the one that the observer reads.
    same-subscription : (id : MessageId) (k : QuestionPlaces) → Asking m.list id k → subscription_in m.list ≡ asked m.list id k
    unfolding subscription_in asked
    same-subscription id k a =
        rw (a.named, a.places, a.same_id, field-take-le 2 2 (drop (data_start + a.size) m.list) (omega arith), field-take-le 2 2 (drop (data_start + a.size + 2) m.list) (omega arith))

    judgment-kept : (j : Judgment) → Meant m.list j → EffectLeads (answered r.state.zone store m.list j x)
    unfolding answered asked
    judgment-kept NotOurs k = others-kept x same
    judgment-kept Abort k = abort-kept
    judgment-kept (Reply id code) k =
        unaccepted-kept x id.0 (Error code) (omega (arith, id-small, k)) same
        (not-accepted-code m.list id.0 code (omega (arith, id-small, k)))
    judgment-kept (Keepalive id) k = alive-kept id (omega (arith, id-small, k.0)) k.1
    judgment-kept (Subscribe id asks) k =
        subscribed-kept (asked m.list id asks) (same-subscription id asks k) k.first (omega (arith, id-small, k.same_id))
    judgment-kept (Unsubscribe id) k = done-kept _ (ap₂ without k same)
    judgment-kept (Reconfirm parts) k = places-kept x parts same

  pub message-kept : Leads r (receives t s m lent) (message_outcome r.state t s m.list lent)
  unfolding message_outcome message_effect judged
  message-kept =
      rw q.there (judgment-kept (with_clocks (received _ t q.session.clocks) q.session) refl (judgment m.list) (judgment-meant m.list))
