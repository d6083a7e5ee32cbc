-- Calls that are made and answered together.
use Rattle.cap_serving.proofs.Prelude.{◌≡◌, ℕ, ◌+◌, ◌-◌, ◌<◌, ◌≤◌, List, [], ◌∷◌, ◌++◌, Some, None, refl, ap, ap₂, sym, ◌∙◌, subst, append_assoc, append-nil, length, map, take, drop, drop-append_seam, zero, suc, slice_index_or, arith, take-length, length-append, length-drop, length-map, map-append, resources, Request, Reply, IsOfKind, kind_of, Call, frame_of, frames_of, tail_bytes, IsSession, MayAnswer, SpellsAnswer, OpensNext, open_payloads, open_requests, SessionState, OpenRequest, Continues, after_answer, with_answer, continues_none, continues_then, continues_answer, HasMore, IsCalled, sitting, Moment, Entered, Noted, Sitting, Receipt, receipts_in, HaveReceipts, none_made, made, starved, Serves, IsSealed, requests_of, AreReceiptsOf, none_called, called_one, CallsMade, IsAnsweredBy, AnsweredAll, CallsAll, Called, IsBatchMade}
use Rattle.cap_model.specs.declared.reply.ReplyWith.TheVariants as reply
use Rattle.cap_model.specs.declared.refusal.Refusal.TheVariants as refusal
use Rattle.cap_shared.specs.declared.entry.Receipt.TheVariants as receipt
use Rattle.cap_shared.specs.declared.history.NotedAnswer.TheVariants as answer
use Rattle.cap_serving.specs.declared.batches.Called.TheVariants as called
use Rattle.cap_serving.proofs.Receipts.{has_none, serves_then}

-- ---- calls

are_then : {cs ds : List (Call resources)} {rs ts : List Receipt} → AreReceiptsOf cs rs → AreReceiptsOf ds ts → AreReceiptsOf (cs ++ ds) (rs ++ ts)
are_then none_called y = y
are_then (called_one {call} found kind x) y = called_one {call = call} found kind (are_then x y)

-- no call yet
pub made_none : (t : SessionState) (first : Request resources) (s : Sitting) → open_requests t.opens ≡ first ∷ [] → CallsMade t t (first ∷ []) s s []
made_none t first s opens = record { calls = []; receipts = []; are = none_called; requests = opens; same = refl; seat = has_none s }

-- what a seat was answered beyond the receipts
told_more : (s t u : Sitting) (receipts : List Receipt) (more : List Moment) → HasMore s t (map Entered receipts ++ []) → HasMore t u more → HasMore s u (map Entered receipts ++ more)
told_more s t u receipts more before after =
    after ∙ ap (λ (v : Sitting). sitting v.seat (v.past ++ more)) before ∙ ap (λ (ps : List Moment). sitting s.seat ps)
    (ap (λ (m : List Moment). (s.past ++ m) ++ more) (append-nil (map Entered receipts)) ∙ append_assoc s.past (map Entered receipts) more)

-- one more call
pub made_more : {old mid : SessionState} {q : Request resources} {s t : Sitting} (u : Sitting) → CallsMade old mid (q ∷ []) s t [] → IsCalled q t u → CallsMade old mid [] s u []
made_more {old} {mid} {q} {s} {t} u x (r, (found, (at, more), kind)) =
    let call : Call resources = record { request = q; reply = r } in
    let one : List Receipt = receipt.Call at q r ∷ [] in
    record {
      calls = x.calls ++ call ∷ [];
      receipts = x.receipts ++ one;
      are = are_then x.are (called_one {call = call} found kind none_called);
      requests = x.requests ∙ sym (map-append (λ (c : Call resources). c.request) x.calls (call ∷ [])) ∙ sym (append-nil (requests_of (x.calls ++ call ∷ [])));
      same = x.same;
      seat = told_more s t u x.receipts (map Entered one) x.seat more ∙ ap (λ (ms : List Moment). sitting s.seat (s.past ++ ms)) (sym (map-append Entered x.receipts one) ∙ sym (append-nil (map Entered (x.receipts ++ one))));
    }

-- a seat that stayed the same
pub made_same : {old mid : SessionState} {left : List (Request resources)} {s t : Sitting} (u : Sitting) → u ≡ t → CallsMade old mid left s t [] → CallsMade old mid left s u []
made_same {old} {mid} {left} {s} u is x = subst (λ (v : Sitting). CallsMade old mid left s v []) (sym is) x

-- a seat that was answered this more
pub made_noted : {old mid : SessionState} {left : List (Request resources)} {s t : Sitting} (u : Sitting) (note : List Moment) → CallsMade old mid left s t [] → HasMore t u note → CallsMade old mid left s u note
made_noted {s = s} {t = t} u note x more = record { calls = x.calls; receipts = x.receipts; are = x.are; requests = x.requests; same = x.same; seat = told_more s t u x.receipts note x.seat more }

-- the next request that was read ahead is open
pub made_open : {old mid : SessionState} {s t : Sitting} (new : SessionState) (q : Request resources) → CallsMade old mid [] s t [] → OpensNext mid new (Some q) → CallsMade old new (q ∷ []) s t []
made_open {old} {mid} new q x (o, same, is, opens) = record {
  calls = x.calls;
  receipts = x.receipts;
  are = x.are;
  requests = ap (λ (v : SessionState). open_requests v.opens) opens ∙ map-append (λ (p : OpenRequest). p.request) mid.opens (o ∷ []) ∙ ap₂ (λ (l : List (Request resources)) (p : Request resources). l ++ p ∷ []) (x.requests ∙ append-nil (requests_of x.calls)) same;
  same = opens ∙ ap (λ (v : SessionState). record v { opens = mid.opens ++ o ∷ [] }) x.same ∙ ap (λ (l : List OpenRequest). record old { opens = l }) (sym (ap (λ (v : SessionState). v.opens) opens));
  seat = x.seat;
}

-- then one more is open, and nothing more was fed
pub opens_more : (mid new : SessionState) (q : Request resources) → OpensNext mid new (Some q) → (length new.opens ≡ length mid.opens + 1) × (length new.fed ≡ length mid.fed) × (new.fed ≡ mid.fed)
opens_more mid new q (o, same, is, opens) =
    (omega (arith, ap (λ (v : SessionState). length v.opens) opens, length-append mid.opens (o ∷ [])), ap (λ (v : SessionState). length v.fed) opens, ap (λ (v : SessionState). v.fed) opens)

-- calls after some that were made; as many requests of what was fed are open, or more
pub record CallsSoFar (old mid : SessionState) (s t : Sitting) : Type 0 where
  pub calls : (opening : SessionState) (earlier : Sitting) → CallsMade opening old [] earlier s [] → CallsMade opening mid [] earlier t []
  pub more : length old.opens ≤ length mid.opens
  pub fed : mid.fed ≡ old.fed

pub none_so_far : (t : SessionState) (s : Sitting) → CallsSoFar t t s s
none_so_far t s = record { calls = λ opening earlier before. before; more = omega arith; fed = refl }

-- the next request was opened and called
pub one_more : {old mid : SessionState} {s t : Sitting} (new : SessionState) (q : Request resources) (u : Sitting) → CallsSoFar old mid s t → OpensNext mid new (Some q) → IsCalled q t u → CallsSoFar old new s u
one_more {old} {mid} new q u x opens called = record {
  calls = λ opening earlier before. made_more u (made_open new q (x.calls opening earlier before) opens) called;
  more = omega (arith, x.more, (opens_more mid new q opens).0);
  fed = (opens_more mid new q opens).2 ∙ x.fed;
}

frames_count : (ps : List (List ℕ)) → length ps ≤ length (frames_of ps)
frames_count [] = omega arith
frames_count (p ∷ ps) = omega (arith, frames_count ps, length-append (frame_of p) (frames_of ps))

-- a session has at most as many open requests as it was fed bytes
pub opens_fit : (s : SessionState) → IsSession s → length s.opens ≤ length s.fed
opens_fit s is =
    let (later, tail, stream) = is.stream in
    let payloads = s.answered ++ (open_payloads s.opens ++ later) in
    omega (
      arith,
      ap (λ (x : List ℕ). length x) stream.whole,
      length-append (frames_of payloads) (tail_bytes tail),
      frames_count payloads,
      length-append s.answered (open_payloads s.opens ++ later),
      length-append (open_payloads s.opens) later,
      length-map s.opens (λ (o : OpenRequest). o.payload),
    )

-- ---- receipts

receipts_in-append : (xs ys : List Moment) → receipts_in (xs ++ ys) ≡ receipts_in xs ++ receipts_in ys
receipts_in-append [] ys = refl
receipts_in-append (Entered r ∷ xs) ys = ap (λ (rs : List Receipt). r ∷ rs) (receipts_in-append xs ys)
receipts_in-append (Noted es a ∷ xs) ys = receipts_in-append xs ys

receipts_in-entered : (rs : List Receipt) → receipts_in (map Entered rs) ≡ rs
receipts_in-entered [] = refl
receipts_in-entered (r ∷ rs) = ap (λ (qs : List Receipt). r ∷ qs) (receipts_in-entered rs)

-- the last receipts of the seat are those of the calls
receipts_last : (s t : Sitting) (rs : List Receipt) (note : List Moment) → HasMore s t (map Entered rs ++ note) → receipts_in note ≡ [] → drop (length (receipts_in s.past)) (receipts_in t.past) ≡ rs
receipts_last s t rs note more none =
    ap (λ (v : Sitting). drop (length (receipts_in s.past)) (receipts_in v.past)) more
    ∙ ap (λ (l : List Receipt). drop (length (receipts_in s.past)) l) (receipts_in-append s.past (map Entered rs ++ note))
    ∙ drop-append_seam (receipts_in s.past) (receipts_in (map Entered rs ++ note))
    ∙ receipts_in-append (map Entered rs) note ∙ ap₂ (λ (l m : List Receipt). l ++ m) (receipts_in-entered rs) none ∙ append-nil rs

receipts_grow : (s t : Sitting) (more : List Moment) → HasMore s t more → length (receipts_in s.past) ≤ length (receipts_in t.past)
receipts_grow s t more is = omega (arith, ap (λ (v : Sitting). length (receipts_in v.past)) is, ap (λ (l : List Receipt). length l) (receipts_in-append s.past more), length-append (receipts_in s.past) (receipts_in more))

-- a seat loses no receipts
pub receipts_stay : (limit : ℕ) (old new : SessionState) (s t : Sitting) (outcome : Called) → CallsAll limit old new s t outcome → length (receipts_in s.past) ≤ length (receipts_in t.past)
receipts_stay limit old new s t called.Made x = receipts_grow s t _ x.seat
receipts_stay limit old new s t called.Starved (q, x) = receipts_grow s t _ x.seat
receipts_stay limit old new s t (called.Sealed back) (entries, full, x) = receipts_grow s t _ x.seat

pub answered_by : {old new : SessionState} {left : List (Request resources)} {s t : Sitting} {note : List Moment} (x : CallsMade old new left s t note) (rs : List Receipt) → rs ≡ x.receipts → IsAnsweredBy new.opens rs x.calls
answered_by {left = left} x rs is = record { left = left; are = rw is x.are; requests = x.requests }

-- those of the seat that come after so many earlier ones
pub newest : (s t : Sitting) (earlier all : List Receipt) → earlier ≡ receipts_in s.past → all ≡ receipts_in t.past → take (length all - length earlier) (drop (length earlier) all) ≡ drop (length (receipts_in s.past)) (receipts_in t.past)
newest s t earlier all was is =
    let rest = drop (length earlier) all in
    ap (λ (n : ℕ). take n rest) (sym (length-drop (length earlier) all)) ∙ take-length rest ∙ ap₂ (λ (xs ys : List Receipt). drop (length xs) ys) was is

-- what became of the calls says whose these are
pub answered_so : (limit : ℕ) (old new : SessionState) (s t : Sitting) (outcome : Called) (rs : List Receipt) → rs ≡ drop (length (receipts_in s.past)) (receipts_in t.past) → CallsAll limit old new s t outcome → (calls : List (Call resources)) × IsAnsweredBy new.opens rs calls
answered_so limit old new s t called.Made rs are x = (x.calls, answered_by x rs (are ∙ receipts_last s t x.receipts [] x.seat refl))
answered_so limit old new s t called.Starved rs are (q, x) = (x.calls, answered_by x rs (are ∙ receipts_last s t x.receipts [] x.seat refl))
answered_so limit old new s t (called.Sealed back) rs are (entries, full, x) = (x.calls, answered_by x rs (are ∙ receipts_last s t x.receipts (Noted entries (answer.SealedCall back) ∷ []) x.seat refl))

-- ---- answers

-- the call at an index, with its receipt
pub record OneAt (calls : List (Call resources)) (receipts : List Receipt) (i : ℕ) : Type 0 where
  pub call : Call resources
  pub at : ℕ
  pub later : List (Call resources)
  pub whole : calls ≡ take i calls ++ call ∷ later
  pub next : take (i + 1) calls ≡ take i calls ++ call ∷ []
  pub receipt_is : (d : Receipt) → slice_index_or receipts i d ≡ receipt.Call at call.request call.reply
  pub kind : IsOfKind (kind_of call.request) call.reply

one_at : {calls : List (Call resources)} {receipts : List Receipt} (i : ℕ) → AreReceiptsOf calls receipts → i < length receipts → OneAt calls receipts i
one_at i none_called below = absurd (omega (arith, below))
one_at zero (called_one {call} {calls} {receipts} {at} found kind are) below = record { call = call; at = at; later = calls; whole = refl; next = refl; receipt_is = λ d. refl; kind = kind }
one_at (suc i) (called_one {call} {calls} {receipts} {at} found kind are) below =
    let x = one_at i are (omega (arith, below)) in
    let same : suc i + 1 ≡ suc (i + 1) = omega (arith) in
    record {
      call = x.call;
      at = x.at;
      later = x.later;
      whole = ap (λ (l : List (Call resources)). call ∷ l) x.whole;
      next = ap (λ (n : ℕ). take n (call ∷ calls)) same ∙ ap (λ (l : List (Call resources)). call ∷ l) x.next;
      receipt_is = x.receipt_is;
      kind = x.kind;
    }

as_many : {calls : List (Call resources)} {receipts : List Receipt} → AreReceiptsOf calls receipts → length receipts ≡ length calls
as_many none_called = refl
as_many (called_one found kind are) = ap suc (as_many are)

-- what follows the same beginning is the same
after_same : (xs ys zs : List (Request resources)) → xs ++ ys ≡ xs ++ zs → ys ≡ zs
after_same [] ys zs is = is
after_same (x ∷ xs) ys zs is = let tails : xs ++ ys ≡ xs ++ zs = cc in after_same xs ys zs tails

-- the first that is not answered yet is this request
pub record IsNext (opens : List OpenRequest) (request : Request resources) : Type 0 where
  pub first : OpenRequest
  pub later : List OpenRequest
  pub opens_are : opens ≡ first ∷ later
  pub is : first.request ≡ request

pub next_is : (opens : List OpenRequest) (request : Request resources) (rest : List (Request resources)) → open_requests opens ≡ request ∷ rest → IsNext opens request
next_is [] request rest is = absurd cc
next_is (o ∷ opens) request rest is = record { first = o; later = opens; opens_are = refl; is = cc }

-- a reply of its kind may answer it
pub may_answer : (opens : List OpenRequest) (request : Request resources) (r : Reply resources) → IsNext opens request → IsOfKind (kind_of request) r → MayAnswer opens r
may_answer opens request r x kind = subst (λ (o : List OpenRequest). MayAnswer o r) (sym x.opens_are) (rw x.is kind)

-- where the first calls were answered, the next one can be
pub record CanGoOn (mid : SessionState) (calls : List (Call resources)) (receipts : List Receipt) (i : ℕ) : Type 0 where
  pub at : OneAt calls receipts i
  pub next : IsNext mid.opens at.call.request

pub can_go_on : (old mid : SessionState) (receipts : List Receipt) (calls : List (Call resources)) (i : ℕ) → IsAnsweredBy old.opens receipts calls → AnsweredAll old mid (take i calls) → i < length receipts → CanGoOn mid calls receipts i
can_go_on old mid receipts calls i by x below =
    let at = one_at i by.are below in
    let done = take i calls in
    let split : requests_of calls ≡ requests_of done ++ (at.call.request ∷ requests_of at.later) = ap requests_of at.whole ∙ map-append (λ (c : Call resources). c.request) done (at.call ∷ at.later) in
    let same : requests_of done ++ open_requests mid.opens ≡ requests_of done ++ (at.call.request ∷ (requests_of at.later ++ by.left)) =
    sym x.left ∙ by.requests ∙ ap (λ (l : List (Request resources)). l ++ by.left) split ∙ append_assoc (requests_of done) (at.call.request ∷ requests_of at.later) by.left in
    record { at = at; next = next_is mid.opens at.call.request (requests_of at.later ++ by.left) (after_same (requests_of done) (open_requests mid.opens) (at.call.request ∷ (requests_of at.later ++ by.left)) same) }

pub answered_none : (t : SessionState) → AnsweredAll t t []
answered_none t = record { continues = continues_none t; left = refl; ended_same = refl; fed_same = refl; sent_same = refl }

-- the first that is open was answered
one_answered : (mid new : SessionState) (call : Call resources) (x : IsNext mid.opens call.request) → new ≡ after_answer mid call.reply → SpellsAnswer mid.opens call.reply → AnsweredAll mid new (call ∷ [])
one_answered mid new call x now spells =
    let then : new ≡ with_answer mid (x.first ∷ x.later) call.reply = now ∙ ap (λ (l : List OpenRequest). with_answer mid l call.reply) x.opens_are in
    let spelled : SpellsAnswer (x.first ∷ []) call.reply = subst (λ (l : List OpenRequest). SpellsAnswer l call.reply) x.opens_are spells in
    subst (λ (q : Request resources). AnsweredAll mid new (record { request = q; reply = call.reply } ∷ [])) x.is (record {
      continues = continues_answer mid new x.first x.later call.reply spelled then;
      left = ap open_requests x.opens_are ∙ ap (λ (t : SessionState). x.first.request ∷ open_requests t.opens) (sym then);
      ended_same = ap (λ (t : SessionState). t.ended) then;
      fed_same = ap (λ (t : SessionState). t.fed) then;
      sent_same = ap (λ (t : SessionState). t.sent) then;
    })

answered_then : (old mid new : SessionState) (xs ys : List (Call resources)) → AnsweredAll old mid xs → AnsweredAll mid new ys → AnsweredAll old new (xs ++ ys)
answered_then old mid new xs ys x y = record {
  continues = continues_then x.continues y.continues;
  left = x.left ∙ ap (λ (l : List (Request resources)). requests_of xs ++ l) y.left ∙ sym (append_assoc (requests_of xs) (requests_of ys) (open_requests new.opens)) ∙ ap (λ (l : List (Request resources)). l ++ open_requests new.opens) (sym (map-append (λ (c : Call resources). c.request) xs ys));
  ended_same = y.ended_same ∙ x.ended_same;
  fed_same = y.fed_same ∙ x.fed_same;
  sent_same = y.sent_same ∙ x.sent_same;
}

-- one more was answered
pub answered_more : (old mid new : SessionState) (receipts : List Receipt) (calls : List (Call resources)) (i : ℕ) (r : Reply resources) → AnsweredAll old mid (take i calls) → (x : CanGoOn mid calls receipts i) → r ≡ x.at.call.reply → new ≡ after_answer mid r → SpellsAnswer mid.opens r → AnsweredAll old new (take (i + 1) calls)
answered_more old mid new receipts calls i r done x is now spells =
    subst (λ (l : List (Call resources)). AnsweredAll old new l) (sym x.at.next)
    (answered_then old mid new (take i calls) (x.at.call ∷ []) done (one_answered mid new x.at.call x.next (now ∙ ap (λ (p : Reply resources). after_answer mid p) is) (subst (λ (p : Reply resources). SpellsAnswer mid.opens p) is spells)))

-- all of them were
pub answered_whole : (old new : SessionState) (receipts : List Receipt) (calls : List (Call resources)) (i : ℕ) → AnsweredAll old new (take i calls) → AreReceiptsOf calls receipts → i ≡ length receipts → AnsweredAll old new calls
answered_whole old new receipts calls i done are end =
    subst (λ (l : List (Call resources)). AnsweredAll old new l) (ap (λ (n : ℕ). take n calls) (end ∙ as_many are) ∙ take-length calls) done

-- ---- both together

has_receipts : {calls : List (Call resources)} {receipts : List Receipt} → AreReceiptsOf calls receipts → HaveReceipts calls (map Entered receipts)
has_receipts none_called = none_made
has_receipts (called_one {call} found kind are) = made {call = call} found (has_receipts are)

-- what is open after both
pub left_same : {old mid : SessionState} {left : List (Request resources)} {s t : Sitting} {note : List Moment} (new : SessionState) (x : CallsMade old mid left s t note) → AnsweredAll mid new x.calls → open_requests new.opens ≡ left
left_same {left = left} new x done = after_same (requests_of x.calls) (open_requests new.opens) left (sym done.left ∙ x.requests)

-- opening requests changes nothing that was fed and answered
serves_batch : {old mid : SessionState} {left : List (Request resources)} {s t : Sitting} {note : List Moment} (session new : SessionState) (x : CallsMade old mid left s t note) → old ≡ session → AnsweredAll mid new x.calls → Serves session new s t [] note
serves_batch {old} {mid} session new x same done = record {
  more = [];
  calls = x.calls;
  moments = map Entered x.receipts;
  continues = subst (λ (v : SessionState). Continues v new [] x.calls []) same
      (subst (λ (v : SessionState). Continues v new [] x.calls [] → Continues old new [] x.calls []) (sym x.same) (λ c. record { payloads = c.payloads; frames = c.frames; fed = c.fed; answered = c.answered; calls = c.calls; answers = c.answers; output = c.output }) done.continues);
  receipts = has_receipts x.are;
  seat = x.seat;
}

pub no_requests : (opens : List OpenRequest) → open_requests opens ≡ [] → opens ≡ []
no_requests [] is = refl
no_requests (o ∷ opens) is = absurd cc

-- after both the session goes on, and was fed and sent nothing
pub record IsAfter (session new : SessionState) : Type 0 where
  pub goes_on : new.ended ≡ None
  pub fed : new.fed ≡ session.fed
  pub sent : new.sent ≡ session.sent

pub after_batch : {old mid : SessionState} {left : List (Request resources)} {s t : Sitting} {note : List Moment} (session new : SessionState) (x : CallsMade old mid left s t note) → old ≡ session → session.ended ≡ None → AnsweredAll mid new x.calls → IsAfter session new
after_batch session new x same over done = record {
  goes_on = done.ended_same ∙ ap (λ (v : SessionState). v.ended) x.same ∙ ap (λ (v : SessionState). v.ended) same ∙ over;
  fed = done.fed_same ∙ ap (λ (v : SessionState). v.fed) x.same ∙ ap (λ (v : SessionState). v.fed) same;
  sent = done.sent_same ∙ ap (λ (v : SessionState). v.sent) x.same ∙ ap (λ (v : SessionState). v.sent) same;
}

-- the calls that were made were answered, and this is left
abbrev pub LeavesOpen : ℕ → SessionState → SessionState → Sitting → Sitting → Called → Type 0
LeavesOpen limit session now s t called.Made = IsBatchMade limit session now s t None × IsAfter session now
LeavesOpen limit session now s t called.Starved = (q : Request resources) × Serves session now s t [] [] × (open_requests now.opens ≡ q ∷ []) × IsAfter session now
LeavesOpen limit session now s t (called.Sealed back) = IsSealed limit back session now s t × IsAfter session now

pub leaves_open : (limit : ℕ) (session old mid now : SessionState) (s t : Sitting) (outcome : Called) (rs : List Receipt) → rs ≡ drop (length (receipts_in s.past)) (receipts_in t.past) → CallsAll limit old mid s t outcome → old ≡ session → session.ended ≡ None → ((calls : List (Call resources)) → IsAnsweredBy mid.opens rs calls → AnsweredAll mid now calls) → LeavesOpen limit session now s t outcome
leaves_open limit session old mid now s t called.Made rs are x same over answered =
    let done = answered x.calls (answered_by x rs (are ∙ receipts_last s t x.receipts [] x.seat refl)) in
    let after = after_batch session now x same over done in
    ((serves_batch session now x same done, no_requests now.opens (left_same now x done), after.goes_on), after)
leaves_open limit session old mid now s t called.Starved rs are (q, x) same over answered =
    let done = answered x.calls (answered_by x rs (are ∙ receipts_last s t x.receipts [] x.seat refl)) in
    (q, serves_batch session now x same done, left_same now x done, after_batch session now x same over done)
leaves_open limit session old mid now s t (called.Sealed back) rs are (entries, full, x) same over answered =
    let done = answered x.calls (answered_by x rs (are ∙ receipts_last s t x.receipts (Noted entries (answer.SealedCall back) ∷ []) x.seat refl)) in
    let after = after_batch session now x same over done in
    (record { entries = entries; full = full; serves = serves_batch session now x same done; waits = left_same now x done; goes_on = after.goes_on }, after)

abbrev no_memory : Reply resources
no_memory = reply.Refused refusal.NoMemory

-- and the one that found no memory is answered so
pub starved_batch : (limit : ℕ) (session now new : SessionState) (s t : Sitting) → LeavesOpen limit session now s t called.Starved → new ≡ after_answer now (reply.Refused refusal.NoMemory) → SpellsAnswer now.opens (reply.Refused refusal.NoMemory) → IsBatchMade limit session new s t None × (new.fed ≡ session.fed) × (new.sent ≡ session.sent)
starved_batch limit session now new s t (q, serves, opens, after) is spells =
    let last = one_answered now new (record { request = q; reply = no_memory }) (next_is now.opens q [] opens) is spells in
    let one : Serves now new t t [] [] = record { more = []; calls = record { request = q; reply = no_memory } ∷ []; moments = []; continues = last.continues; receipts = starved none_made; seat = has_none t } in
    let none : open_requests new.opens ≡ [] = after_same (q ∷ []) (open_requests new.opens) [] (sym last.left ∙ opens) in
    ((serves_then serves one, no_requests new.opens none, last.ended_same ∙ after.goes_on), last.fed_same ∙ after.fed, last.sent_same ∙ after.sent)
