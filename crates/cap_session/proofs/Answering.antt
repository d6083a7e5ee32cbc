-- What was answered answers what was fed, whatever comes next.
use Rattle.cap_session.proofs.Prelude.{◌≡◌, ℕ, List, [], ◌∷◌, ◌++◌, Option, Some, None, refl, ap, ap₂, sym, ◌∙◌, subst, append_assoc, append-nil, take, drop, take-append-drop, resources, Reply, frame_of, fault, IsStream, Head, IsNoRequest, kind_of, reply_bytes, fault_reply, Call, Answers, nothing, replied, refused, sent_count, SessionState, OpenRequest, SpellsAnswer, all_answers, answer_bytes, with_answer, after_sent, ended_after, AnswersBy, HasAnswered, SessionCause, Sent}
use Rattle.cap_session.specs.declared.session.SessionCause.TheVariants as causes
use Rattle.cap_session.specs.declared.counted.Sent.TheVariants as sents

pub answers_more : {ps qs : List (List ℕ)} {cs ds : List (Call resources)} {output more : List ℕ} → Answers ps cs output → Answers qs ds more → Answers (ps ++ qs) (cs ++ ds) (output ++ more)
answers_more nothing b = b
answers_more {qs} {ds} {more} (replied {payload} {bytes} {payloads} {head} {call} {calls} {output} is spells later) b =
    subst (λ (x : List ℕ). Answers (payload ∷ (payloads ++ qs)) (call ∷ (calls ++ ds)) x) (sym (append_assoc (frame_of bytes) output more)) (replied is spells (answers_more later b))
answers_more {qs} {ds} {more} (refused {payload} {payloads} {calls} {output} is later) b =
    subst (λ (x : List ℕ). Answers (payload ∷ (payloads ++ qs)) (calls ++ ds) x) (sym (append_assoc (frame_of (fault_reply 41)) output more)) (refused is (answers_more later b))

pub one_refused : (payload : List ℕ) → IsNoRequest resources payload → Answers {K = resources} (payload ∷ []) [] (frame_of (fault_reply 41))
one_refused payload is = subst (λ (x : List ℕ). Answers {K = resources} (payload ∷ []) [] x) (append-nil (frame_of (fault_reply 41))) (refused is nothing)

-- what is spelled under the head and the kind of an open request is its answer
pub is_answer : (o : OpenRequest) (head : Head) (kind : ℕ) (reply : Reply resources) → o.head ≡ head → kind ≡ kind_of o.request → reply_bytes head kind reply ≡ answer_bytes o reply
is_answer o head kind reply h k = ap (λ (x : Head). reply_bytes x kind reply) (sym h) ∙ ap (λ (x : ℕ). reply_bytes o.head x reply) k

pub one_replied : (o : OpenRequest) (reply : Reply resources) → SpellsAnswer (o ∷ []) reply → Answers (o.payload ∷ []) (record { request = o.request; reply = reply } ∷ []) (frame_of (answer_bytes o reply))
one_replied o reply is =
    subst (λ (x : List ℕ). Answers (o.payload ∷ []) (record { request = o.request; reply = reply } ∷ []) x) (append-nil (frame_of (answer_bytes o reply))) (replied {call = record { request = o.request; reply = reply }} is.0 is.1 nothing)

open_answers : (c : Option SessionCause) (s : SessionState) → c ≡ None → AnswersBy c s → Answers s.answered s.calls (all_answers s)
open_answers None s is a = a
open_answers (Some c) s is a = absurd cc

-- of a session that has not ended
pub answers_open : (s : SessionState) → s.ended ≡ None → HasAnswered s → Answers s.answered s.calls (all_answers s)
answers_open s is a = open_answers s.ended s is a

-- or not for a length that no frame has
pub answers_unless : (c : Option SessionCause) (s : SessionState) → (c ≡ Some causes.BadLength → ⊥) → AnswersBy c s → Answers s.answered s.calls (all_answers s)
answers_unless None s fine a = a
answers_unless (Some causes.NoMemory) s fine a = a
answers_unless (Some causes.WriteFault) s fine a = a
answers_unless (Some causes.BadLength) s fine a = absurd (fine refl)

pub answered_open : (s : SessionState) → s.ended ≡ None → Answers s.answered s.calls (all_answers s) → HasAnswered s
answered_open s is a = subst (λ (c : Option SessionCause). AnswersBy c s) (sym is) a

pub answered_starved : (s : SessionState) → s.ended ≡ Some causes.NoMemory → Answers s.answered s.calls (all_answers s) → HasAnswered s
answered_starved s is a = subst (λ (c : Option SessionCause). AnswersBy c s) (sym is) a

-- payloads that are no requests were answered
pub answers_refused : (s t : SessionState) (payloads : List (List ℕ)) (frames : List ℕ) → Answers s.answered s.calls (all_answers s) → Answers {K = resources} payloads [] frames → t.answered ≡ s.answered ++ payloads → t.calls ≡ s.calls → t.sent ≡ s.sent → t.unsent ≡ s.unsent ++ frames → Answers t.answered t.calls (all_answers t)
answers_refused s t payloads frames old answers done calls sent unsent =
    let more = answers_more old answers in
    let all : all_answers t ≡ all_answers s ++ frames = ap₂ (λ (x y : List ℕ). x ++ y) sent unsent ∙ sym (append_assoc s.sent s.unsent frames) in
    subst (λ (x : List (List ℕ)). Answers x t.calls (all_answers t)) (sym done)
    (subst (λ (x : List (Call resources)). Answers (s.answered ++ payloads) x (all_answers t)) (append-nil s.calls ∙ sym calls) (subst (λ (x : List ℕ). Answers (s.answered ++ payloads) (s.calls ++ []) x) (sym all) more))

-- a length that no frame has
pub answered_fault : (s t : SessionState) (payloads : List (List ℕ)) (frames after : List ℕ) → Answers s.answered s.calls (all_answers s) → Answers {K = resources} payloads [] frames → t.answered ≡ s.answered ++ payloads → t.calls ≡ s.calls → t.sent ≡ s.sent → t.unsent ≡ s.unsent ++ (frames ++ frame_of (fault_reply 40))
    → t.ended ≡ Some causes.BadLength → IsStream t.fed t.answered (fault after) → HasAnswered t
answered_fault s t payloads frames after old answers done calls sent unsent ended at =
    let more = answers_more old answers in
    let last = frame_of (fault_reply 40) in
    let all : all_answers t ≡ (all_answers s ++ frames) ++ last = ap₂ (λ (x y : List ℕ). x ++ y) sent unsent ∙ sym (append_assoc s.sent s.unsent (frames ++ last)) ∙ sym (append_assoc (all_answers s) frames last) in
    subst (λ (c : Option SessionCause). AnswersBy c t) (sym ended) (
      after,
      (
        all_answers s ++ frames,
        subst (λ (x : List (List ℕ)). Answers x t.calls (all_answers s ++ frames)) (sym done) (subst (λ (x : List (Call resources)). Answers (s.answered ++ payloads) x (all_answers s ++ frames)) (append-nil s.calls ∙ sym calls) more),
        all,
      ),
      at,
    )

-- an answer
answers_one : (s t : SessionState) (o : OpenRequest) (opens : List OpenRequest) (reply : Reply resources) → Answers s.answered s.calls (all_answers s) → SpellsAnswer (o ∷ opens) reply → t ≡ with_answer s (o ∷ opens) reply → Answers t.answered t.calls (all_answers t)
answers_one s t o opens reply old is now =
    subst (λ (v : SessionState). Answers v.answered v.calls (all_answers v)) (sym now)
    (subst (λ (x : List ℕ). Answers (s.answered ++ o.payload ∷ []) (s.calls ++ record { request = o.request; reply = reply } ∷ []) x) (append_assoc s.sent s.unsent (frame_of (answer_bytes o reply))) (answers_more old (one_replied o reply is)))

-- an open request is answered; none is open after a length that no frame has
pub answered_answer : (c : Option SessionCause) (s t : SessionState) (o : OpenRequest) (opens : List OpenRequest) (reply : Reply resources) → (c ≡ Some causes.BadLength → ⊥) → AnswersBy c s → SpellsAnswer (o ∷ opens) reply → t ≡ with_answer s (o ∷ opens) reply → AnswersBy c t
answered_answer None s t o opens reply none old is now = answers_one s t o opens reply old is now
answered_answer (Some causes.NoMemory) s t o opens reply none old is now = answers_one s t o opens reply old is now
answered_answer (Some causes.WriteFault) s t o opens reply none old is now = answers_one s t o opens reply old is now
answered_answer (Some causes.BadLength) s t o opens reply none old is now = absurd (none refl)

-- the same was fed and answered
same_answers : (c : Option SessionCause) (s t : SessionState) → t.fed ≡ s.fed → t.answered ≡ s.answered → t.calls ≡ s.calls → all_answers t ≡ all_answers s → AnswersBy c s → AnswersBy c t
same_answers None s t fed done calls all a = rw (done, calls, all) a
same_answers (Some causes.NoMemory) s t fed done calls all a = rw (done, calls, all) a
same_answers (Some causes.WriteFault) s t fed done calls all a = rw (done, calls, all) a
same_answers (Some causes.BadLength) s t fed done calls all a = rw (fed, done, calls, all) a

-- it ended for a fault of the writer, where it had not ended before
same_until : (c : Option SessionCause) (sent : Sent) (s : SessionState) → AnswersBy c s → AnswersBy (ended_after c sent) s
same_until c (sents.All n) s a = a
same_until None (sents.Fault n) s a = a
same_until (Some c) (sents.Fault n) s a = a

pub answered_sent : (s : SessionState) (sent : Sent) → HasAnswered s → HasAnswered (after_sent s sent)
answered_sent s sent a =
    let n = sent_count sent in
    same_until s.ended sent (after_sent s sent)
    (same_answers s.ended s (after_sent s sent) refl refl refl (append_assoc s.sent (take n s.unsent) (drop n s.unsent) ∙ ap (λ (x : List ℕ). s.sent ++ x) (take-append-drop n s.unsent)) a)

-- other requests are open
pub reopened : (s : SessionState) (opens : List OpenRequest) → HasAnswered s → HasAnswered (record s { opens = opens })
reopened s opens a = same_answers s.ended s (record s { opens = opens }) refl refl refl refl a
