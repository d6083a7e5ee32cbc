-- Requests are answered one after the other.
use Rattle.cap_world.proofs.Prelude.{◌≡◌, ℕ, List, [], ◌∷◌, ◌++◌, Option, Some, None, refl, sym, ap, subst, ◌∙◌, append_assoc, append-nil, inl, inr, map-append, resources, Request, Reply, Event, Flat, Replies, Run, frame_of, fault, IsBytes, fault_reply, SessionCause, Call, Answers, nothing, IsAnswered, SessionState, OpenRequest, Continues, IsSession, AnswersBy, all_answers, open_payloads, FeedGives, NextGives, EndsNow, SpellsAnswer, with_answer, after_answer, answers_open, answers_unless, continues_none, continues_then, continues_bad, continues_answer, continues_fed, Standing, as_events, call_event, Connection, AnswersAs, HasAnswers, Serves, StandsAfter, IsServed, Feeds, standing_of}
use Rattle.cap_session.specs.declared.session.SessionCause.TheVariants as causes
use Rattle.cap_session.specs.declared.session.Fed.TheVariants as feds
use Rattle.cap_session.specs.declared.session.Next.TheVariants as nexts
use Rattle.cap_world.specs.declared.connection.Standing.TheVariants as standings
use Rattle.cap_session.specs.Session.{MayAnswer}
use Rattle.cap_grammar.specs.Spelling.{IsOfKind, kind_of}
use Rattle.cap_world.specs.Serving.{IsOpenFor}

pub run_more : (es fs : List (Event resources)) (a b c : Flat resources) → Run a es b → Run b fs c → Run a (es ++ fs) c
run_more [] fs a b c e run = subst (λ (x : Flat resources). Run x fs c) (sym e) run
run_more (e ∷ es) fs a b c run more = (run.0, run.1, run_more es fs run.0 b c run.2 more)

-- a reply of the kind of the open request may answer it
pub may_answer : (request : Request resources) (opens : List OpenRequest) (reply : Reply resources) → IsOpenFor request opens → IsOfKind (kind_of request) reply → MayAnswer opens reply
may_answer request [] reply is kind = absurd is
may_answer request (o ∷ opens) reply is kind = subst (λ (q : Request resources). IsOfKind (kind_of q) reply) (sym is) kind

-- no call was made
serves_quiet : (by : ℕ) (more : List ℕ) (s t : SessionState) (cluster : Flat resources) (events : List (Event resources)) (last : List ℕ) → Continues s t more [] last → Serves by more s t cluster cluster events events last
serves_quiet by more s t cluster events last continues = record { calls = []; continues = continues; events = sym (append-nil events); run = refl }

pub serves_none : (by : ℕ) (s : SessionState) (cluster : Flat resources) (events : List (Event resources)) → Serves by [] s s cluster cluster events events []
serves_none by s cluster events = serves_quiet by [] s s cluster events [] (continues_none s)

-- one after the other
pub serves_then : {by : ℕ} {more most : List ℕ} {s t u : SessionState} {a b c : Flat resources} {before mid after : List (Event resources)} {last : List ℕ} → Serves by more s t a b before mid [] → Serves by most t u b c mid after last → Serves by (more ++ most) s u a c before after last
serves_then {by} {a} {b} {c} {before} x y = record {
  calls = x.calls ++ y.calls;
  continues = continues_then x.continues y.continues;
  events = y.events ∙ rw (x.events, map-append) (append_assoc before (as_events by x.calls) (as_events by y.calls));
  run = rw map-append (run_more (as_events by x.calls) (as_events by y.calls) a b c x.run y.run);
}

-- ---- what comes next

-- a session after payloads that are no requests, and last these bytes
bad_then : (s t : SessionState) (payloads : List (List ℕ)) (frames last : List ℕ) (o : List OpenRequest) (c : Option SessionCause) → Answers {K = resources} payloads [] frames
    → t ≡ record s { answered = s.answered ++ payloads; unsent = s.unsent ++ (frames ++ last); opens = o; ended = c } → Continues s t [] [] last
bad_then s t payloads frames last o c answers now =
    continues_bad s t payloads frames last answers (ap (λ (x : SessionState). x.fed) now) (ap (λ (x : SessionState). x.answered) now) (ap (λ (x : SessionState). x.calls) now) (ap (λ (x : SessionState). x.sent) now) (ap (λ (x : SessionState). x.unsent) now)

-- and no more bytes
nothing_last : (s t : SessionState) (payloads : List (List ℕ)) (frames : List ℕ) (o : List OpenRequest) (c : Option SessionCause) → t ≡ record s { answered = s.answered ++ payloads; unsent = s.unsent ++ frames; opens = o; ended = c }
    → t ≡ record s { answered = s.answered ++ payloads; unsent = s.unsent ++ (frames ++ []); opens = o; ended = c }
nothing_last s t payloads frames o c now =
    now ∙ ap (λ (x : List ℕ). record s { answered = s.answered ++ payloads; unsent = s.unsent ++ x; opens = o; ended = c }) (sym (append-nil frames))

-- a request, its call and its answer
pub serves_call : (by : ℕ) (s t u : SessionState) (request : Request resources) (reply : Reply resources) (from to : Flat resources) (before after : List (Event resources)) → NextGives s t (nexts.Request request) → u ≡ after_answer t reply → SpellsAnswer t.opens reply → Replies from request reply to
    → after ≡ before ++ call_event by request reply ∷ [] → Serves by [] s u from to before after [] × (u.sent ≡ s.sent) × (u.opens ≡ []) × (u.ended ≡ None)
serves_call by s t u request reply from to before after (over, payloads, frames, o, answers, is, spells, now) then spelled replies added =
    let opens : t.opens ≡ o ∷ [] = ap (λ (x : SessionState). x.opens) now in
    let answered : u ≡ with_answer t (o ∷ []) reply = then ∙ ap (λ (x : List OpenRequest). with_answer t x reply) opens in
    let first : Continues s t [] [] [] = bad_then s t payloads frames [] (o ∷ []) s.ended answers (nothing_last s t payloads frames (o ∷ []) s.ended now) in
    let both = continues_then first (continues_answer t u o [] reply (subst (λ (x : List OpenRequest). SpellsAnswer x reply) opens spelled) answered) in (
      record {
        calls = record { request = request; reply = reply } ∷ [];
        continues = subst (λ (q : Request resources). Continues s u [] (record { request = q; reply = reply } ∷ []) []) is both;
        events = added;
        run = (to, replies, refl);
      },
      ap (λ (x : SessionState). x.sent) answered ∙ ap (λ (x : SessionState). x.sent) now,
      ap (λ (x : SessionState). x.opens) answered,
      ap (λ (x : SessionState). x.ended) answered ∙ ap (λ (x : SessionState). x.ended) now ∙ over,
    )

-- a request for whose event there is no room
pub served_starved : (by : ℕ) (s t u : SessionState) (request : Request resources) (from to : Flat resources) (before after : List (Event resources)) → Serves by [] s t from to before after [] → t.sent ≡ s.sent → NextGives t u (nexts.Request request) → IsSession u → IsServed by standings.Starved s u from to before after
served_starved by s t u request from to before after serves sent (over, payloads, frames, o, answers, is, spells, now) session = record {
  last = [];
  serves = serves_then serves (serves_quiet by [] t u to after [] (bad_then t u payloads frames [] (o ∷ []) t.ended answers (nothing_last t u payloads frames (o ∷ []) t.ended now)));
  stands = let opens : u.ended ≡ None = ap (λ (x : SessionState). x.ended) now ∙ over in ((λ bad. cc), refl);
  session = session;
  sent = ap (λ (x : SessionState). x.sent) now ∙ sent;
}

-- less than a frame
pub served_rest : (by : ℕ) (s t u : SessionState) (from to : Flat resources) (before after : List (Event resources)) → Serves by [] s t from to before after [] → t.sent ≡ s.sent → t.opens ≡ [] → NextGives t u nexts.Need → IsSession u → IsServed by standings.Open s u from to before after
served_rest by s t u from to before after serves sent none (over, payloads, frames, answers, now, end) session = record {
  last = [];
  serves = serves_then serves (serves_quiet by [] t u to after [] (bad_then t u payloads frames [] t.opens t.ended answers (nothing_last t u payloads frames t.opens t.ended now)));
  stands = (ap (λ (x : SessionState). x.ended) now ∙ over, ap (λ (x : SessionState). x.opens) now ∙ none, refl, end);
  session = session;
  sent = ap (λ (x : SessionState). x.sent) now ∙ sent;
}

ended_now : (by : ℕ) (cause : SessionCause) (s t u : SessionState) (from to : Flat resources) (before after : List (Event resources)) → Serves by [] s t from to before after [] → t.sent ≡ s.sent → EndsNow t u cause → IsSession u → IsServed by (standing_of cause) s u from to before after
ended_now by causes.WriteFault s t u from to before after serves sent ends session = absurd ends
ended_now by causes.NoMemory s t u from to before after serves sent (payloads, frames, answers, now) session = record {
  last = [];
  serves = serves_then serves (serves_quiet by [] t u to after [] (bad_then t u payloads frames [] t.opens (Some causes.NoMemory) answers (nothing_last t u payloads frames t.opens (Some causes.NoMemory) now)));
  stands = let is : u.ended ≡ Some causes.NoMemory = ap (λ (x : SessionState). x.ended) now in ((λ bad. cc), refl);
  session = session;
  sent = ap (λ (x : SessionState). x.sent) now ∙ sent;
}
ended_now by causes.BadLength s t u from to before after serves sent (payloads, frames, answers, now, end) session = record {
  last = frame_of (fault_reply 40);
  serves = serves_then serves (serves_quiet by [] t u to after (frame_of (fault_reply 40)) (bad_then t u payloads frames (frame_of (fault_reply 40)) t.opens (Some causes.BadLength) answers now));
  stands = (ap (λ (x : SessionState). x.ended) now, refl);
  session = session;
  sent = ap (λ (x : SessionState). x.sent) now ∙ sent;
}

-- the session has ended
pub served_ended : (by : ℕ) (cause : SessionCause) (s t u : SessionState) (from to : Flat resources) (before after : List (Event resources)) → Serves by [] s t from to before after [] → t.sent ≡ s.sent → t.ended ≡ None → NextGives t u (nexts.Ended cause) → IsSession u → IsServed by (standing_of cause) s u from to before after
served_ended by cause s t u from to before after serves sent over (inl (was, same)) session = absurd cc
served_ended by cause s t u from to before after serves sent over (inr (was, ends)) session = ended_now by cause s t u from to before after serves sent ends session

-- ---- a piece

-- all of it was taken, and what it completed answered
pub feeds_served : (by : ℕ) (piece : List ℕ) (from to : Flat resources) (before after : List (Event resources)) (old new : Connection) (fed : SessionState) → IsBytes piece → old.session.sent ≡ [] → fed ≡ record old.session { fed = old.session.fed ++ piece } → IsServed by new.standing fed new.session from to before after
    → Feeds by piece from to before after old new
feeds_served by piece from to before after old new fed fits empty now served = record {
  more = piece;
  last = served.last;
  fits = fits;
  taken = inl refl;
  serves = subst (λ (x : List ℕ). Serves by x old.session new.session from to before after served.last) (append-nil piece) (serves_then (serves_quiet by piece old.session fed from before [] (continues_fed old.session fed piece now)) served.serves);
  stands = served.stands;
  session = served.session;
  sent = served.sent ∙ ap (λ (x : SessionState). x.sent) now ∙ empty;
}

-- memory was refused for it
pub feeds_starved : (by : ℕ) (cause : SessionCause) (piece : List ℕ) (cluster : Flat resources) (events : List (Event resources)) (old new : Connection) → IsBytes piece → old.session.sent ≡ [] → old.session.ended ≡ None → FeedGives piece old.session new.session (feds.Ended cause) → IsSession new.session → new.standing ≡ standings.Starved
    → Feeds by piece cluster cluster events events old new
feeds_starved by cause piece cluster events old new fits empty over (inl (was, same)) session starved = absurd cc
feeds_starved by cause piece cluster events old new fits empty over (inr (was, is, now)) session starved = record {
  more = [];
  last = [];
  fits = fits;
  taken = inr (refl, starved);
  serves = serves_quiet by [] old.session new.session cluster events []
      (continues_bad old.session new.session [] [] [] nothing (ap (λ (x : SessionState). x.fed) now) (ap (λ (x : SessionState). x.answered) now ∙ sym (append-nil old.session.answered)) (ap (λ (x : SessionState). x.calls) now) (ap (λ (x : SessionState). x.sent) now) (ap (λ (x : SessionState). x.unsent) now ∙ sym (append-nil old.session.unsent)));
  stands = let ended : new.session.ended ≡ Some causes.NoMemory = ap (λ (x : SessionState). x.ended) now in subst (λ (x : Standing). StandsAfter x new.session []) (sym starved) ((λ bad. cc), refl);
  session = session;
  sent = ap (λ (x : SessionState). x.sent) now ∙ empty;
}

-- ---- what was answered

-- a connection that stands so was answered so
answers_as : (standing : Standing) (s : SessionState) (last : List ℕ) → StandsAfter standing s last → IsSession s → s.sent ≡ [] → AnswersAs standing s.fed s.calls s.unsent
answers_as standings.Ended s last stands session empty = absurd stands
answers_as standings.Open s last stands session empty =
    let all : all_answers s ≡ s.unsent = ap (λ (x : List ℕ). x ++ s.unsent) empty in
    (stands.3.0, (s.answered, stands.3.1, (all_answers s, answers_open s stands.0 session.answers, sym all ∙ sym (append-nil (all_answers s)))))
answers_as standings.Faulted s last stands session empty =
    let all : all_answers s ≡ s.unsent = ap (λ (x : List ℕ). x ++ s.unsent) empty in
    let at : AnswersBy (Some causes.BadLength) s = subst (λ (c : Option SessionCause). AnswersBy c s) stands.0 session.answers in
    (at.0, (s.answered, at.2, subst (λ (x : List ℕ). IsAnswered s.answered (fault at.0) s.calls x) all at.1))
answers_as standings.Starved s last stands session empty =
    let all : all_answers s ≡ s.unsent = ap (λ (x : List ℕ). x ++ s.unsent) empty in
    (s.answered, open_payloads s.opens ++ session.stream.0, session.stream.1, session.stream.2, subst (λ (x : List ℕ). Answers s.answered s.calls x) all (answers_unless s.ended s stands.0 session.answers))

-- a connection that is fed has answers for all its bytes
pub answered_more : (by : ℕ) (piece : List ℕ) (calls : List (Call resources)) (from to : Flat resources) (before after : List (Event resources)) (old new : Connection) → HasAnswers calls old → (f : Feeds by piece from to before after old new) → HasAnswers (calls ++ f.serves.calls) new
answered_more by piece calls from to before after old new has f =
    let made : new.session.calls ≡ calls ++ f.serves.calls = f.serves.continues.calls ∙ ap (λ (x : List (Call resources)). x ++ f.serves.calls) has.made in
    record { made = made; answers = subst (λ (x : List (Call resources)). AnswersAs new.standing new.session.fed x new.session.unsent) made (answers_as new.standing new.session f.last f.stands f.session f.sent) }
