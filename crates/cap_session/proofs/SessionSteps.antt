-- What each step of a session keeps.
use Rattle.cap_session.proofs.Prelude.{◌≡◌, ℕ, ◌+◌, ◌-◌, ◌≤◌, true, false, is_some, List, [], ◌∷◌, ◌++◌, Option, Some, None, option_to_list, Err, All, All-nil, All-head, All-tail, All-append, refl, ap, ap₂, sym, ◌∙◌, arith, subst, inr, append_assoc, append-nil, length, length-append, length-map, map-append, take, take-append_seam, drop, Filled, Log, resources, Request, Reply, frame_of, rest, fault, IsStream, History, after_gift, IsReading, IsAtFault, MessageFault, IsRequest, IsNoRequest, fault_reply, nothing, sent_count, Sent, ended_after, after_sent, SessionState, OpenRequest, open_payloads, open_requests, SpellsAnswer, MayAnswer, FollowsStream, IsSession, HasAnswered, EndsNow, NextGives, OpensNext, answer_bytes, with_answer, AnswersBy, AnswerLog, calls_in, answered_in, calls_of, opens_in, sent_in, state_inside, IsKept, IsRead, AnswersBad, AnswersAllBad, Finds, EndsWith, ended_by, ReadsAhead, ReadResult, PayloadLog, payloads_in, rooms, open_room, SessionCause, Next, Inside}
use Rattle.cap_session.specs.declared.counted.Sent.TheVariants as sents
use Rattle.cap_session.specs.declared.session.SessionCause.TheVariants as causes
use Rattle.cap_session.specs.declared.session.Next.TheVariants as nexts
use Rattle.cap_session.proofs.Answering.{answers_more, one_refused, answers_open, answered_open, answers_refused, answered_fault, answered_answer, answered_starved, answered_sent, reopened}
use Rattle.cap_session.proofs.Owing.{rooms_first}
use Rattle.cap_session.proofs.Logs.{answered_more, calls_more}

-- ---- payloads that are no requests

pub bad_none : (h : History) (u : List ℕ) (log : AnswerLog) → AnswersAllBad h h u u log log
bad_none h u log = record {
  payloads = [];
  frames = [];
  step = record { answers = nothing; fed = refl; unsent = sym (append-nil u); answered = sym (append-nil (answered_in log)); calls = refl };
  given = sym (append-nil h.given);
}

-- one more payload was given
pub bad_given : {h k : History} {u v : List ℕ} {old log : AnswerLog} (m : History) (p : List ℕ) (r : AnswersAllBad h k u v old log) → m ≡ after_gift k p → AnswersBad h m u v old log r.payloads r.frames × (m.given ≡ h.given ++ (r.payloads ++ p ∷ []))
bad_given {h} {k} m p r gift = (
  record { answers = r.step.answers; fed = ap (λ (x : History). x.fed) gift ∙ r.step.fed; unsent = r.step.unsent; answered = r.step.answered; calls = r.step.calls },
  ap (λ (x : History). x.given) gift ∙ ap (λ (xs : List (List ℕ)). xs ++ p ∷ []) r.given ∙ append_assoc h.given r.payloads (p ∷ []),
)

-- and answered
pub bad_more : {h k : History} {u v : List ℕ} {old log : AnswerLog} (m : History) (w : List ℕ) (new : AnswerLog) (p : Filled) (e : MessageFault) (l : Log Filled ReadResult) (none : Log (Reply resources) (Unit {0})) → AnswersAllBad h k u v old log → m ≡ after_gift k p.items → IsNoRequest resources p.items → w ≡ v ++ frame_of (fault_reply 41)
    → l.items ≡ (p, Err e) ∷ [] → none.items ≡ [] → new ≡ log ++ (l, none) ∷ [] → AnswersAllBad h m u w old new
bad_more {h} {k} {u} {v} {old} {log} m w new p e l none r gift is said one empty more =
    let given = bad_given m p.items r gift in
    record {
      payloads = r.payloads ++ p.items ∷ [];
      frames = r.frames ++ frame_of (fault_reply 41);
      step = record {
        answers = answers_more r.step.answers (one_refused p.items is);
        fed = given.0.fed;
        unsent = said ∙ ap (λ (x : List ℕ). x ++ frame_of (fault_reply 41)) r.step.unsent ∙ append_assoc u r.frames (frame_of (fault_reply 41));
        answered = ap answered_in more ∙ answered_more log l none ∙ ap₂ (λ (x : List (List ℕ)) (o : PayloadLog). x ++ payloads_in o) r.step.answered one ∙ append_assoc (answered_in old) r.payloads (p.items ∷ []);
        calls = ap calls_of more ∙ calls_more log l none ∙ ap (λ (o : PayloadLog). calls_of log ++ calls_in o none.items) one ∙ append-nil (calls_of log) ∙ r.step.calls;
      };
      given = given.1;
    }

-- a length that no frame has
pub fault_found : {h k : History} {v : List ℕ} {old log : AnswerLog} (m : History) (u w : Filled) (asked : List OpenRequest) (cause : SessionCause) → AnswersAllBad h k u.items v old log → m.fed ≡ k.fed → m.given ≡ k.given → asked ≡ [] → IsAtFault k → IsReading m → EndsWith v w.items cause → Finds h m asked u w old log (nexts.Ended cause)
fault_found m u w asked causes.WriteFault r fed given none at reading ends = absurd ends
fault_found {h} {k} {v} {old} {log} m u w asked causes.BadLength r fed given none at reading ends = (
  r.payloads,
  r.frames,
  v,
  record { answers = r.step.answers; fed = fed ∙ r.step.fed; unsent = r.step.unsent; answered = r.step.answered; calls = r.step.calls },
  given ∙ r.given,
  ends,
  none,
  reading,
  (at.0, subst (λ (x : List ℕ). IsStream x m.given (fault at.0)) (sym fed) (subst (λ (x : List (List ℕ)). IsStream k.fed x (fault at.0)) (sym given) at.1)),
)
fault_found {h} {k} {v} {old} {log} m u w asked causes.NoMemory r fed given none at reading ends = (
  r.payloads,
  r.frames,
  [],
  record { answers = r.step.answers; fed = fed ∙ r.step.fed; unsent = ends ∙ r.step.unsent; answered = r.step.answered; calls = r.step.calls },
  given ∙ r.given ∙ ap (λ (x : List (List ℕ)). h.given ++ x) (sym (append-nil r.payloads)),
  none,
  reading,
)

-- ---- which requests are open

pub opens_are : (asked opens later : List OpenRequest) (ahead : List (Request resources)) → asked ≡ opens ++ later → ahead ≡ open_requests later → take (length asked - length ahead) asked ≡ opens
opens_are asked opens later ahead is requests =
    let long : length asked - length ahead ≡ length opens = omega (arith, ap (λ (x : List OpenRequest). length x) is, ap (λ (x : List (Request resources)). length x) requests, length-append opens later, length-map later (λ (o : OpenRequest). o.request)) in
    ap (λ (n : ℕ). take n asked) long ∙ ap (λ (x : List OpenRequest). take (length opens) x) is ∙ take-append_seam opens later

-- none is, and none was read ahead
pub none_asked : (s : Inside) → IsKept s → opens_in s ≡ [] → s.ahead.items ≡ [] → s.asked.items ≡ []
none_asked s kept none empty = kept.asked ∙ ap₂ (λ (x y : List OpenRequest). x ++ y) none (no_later kept.later (sym kept.ahead ∙ empty))
  where
    no_later : (later : List OpenRequest) → open_requests later ≡ [] → later ≡ []
    no_later [] is = refl
    no_later (o ∷ later) is = absurd cc

-- ---- what comes next

-- the payloads that were answered, those of the open requests and later ones are those of the stream
follows : (s : Inside) → IsKept s → FollowsStream (state_inside s)
follows s kept =
    let answered = answered_in s.answered.items in
    let coming = kept.reading.0 in
    let all : open_payloads s.asked.items ++ kept.lost ≡ open_payloads (opens_in s) ++ (open_payloads kept.later ++ kept.lost) =
    ap (λ (x : List OpenRequest). open_payloads x ++ kept.lost) kept.asked ∙ ap (λ (x : List (List ℕ)). x ++ kept.lost) (map-append (λ (o : OpenRequest). o.payload) (opens_in s) kept.later)
    ∙ append_assoc (open_payloads (opens_in s)) (open_payloads kept.later) kept.lost in
    let given = kept.given ∙ ap (λ (x : List (List ℕ)). answered ++ x) all in (
      (open_payloads kept.later ++ kept.lost) ++ coming,
      kept.reading.1,
      subst (λ (x : List (List ℕ)). IsStream s.framer.fed x kept.reading.1)
          (ap (λ (x : List (List ℕ)). x ++ coming) given ∙ append_assoc answered (open_payloads (opens_in s) ++ (open_payloads kept.later ++ kept.lost)) coming
          ∙ ap (λ (x : List (List ℕ)). answered ++ x) (append_assoc (open_payloads (opens_in s)) (open_payloads kept.later ++ kept.lost) coming))
          kept.reading.2,
    )

pub promises : (s : Inside) → IsKept s → IsSession (state_inside s)
promises s kept = record { stream = follows s kept; answers = kept.answers }

-- all payloads that were given were answered
given_now : (s : Inside) → IsKept s → s.ended ≡ None → s.asked.items ≡ [] → s.framer.given ≡ answered_in s.answered.items
given_now s kept over none =
    kept.given ∙ ap₂ (λ (o : List OpenRequest) (l : List (List ℕ)). answered_in s.answered.items ++ (open_payloads o ++ l)) none (kept.none_lost over) ∙ append-nil (answered_in s.answered.items)

-- some more were given, and the first of them answered
given_then : (g h answered now payloads later : List (List ℕ)) → h ≡ g ++ (payloads ++ later) → g ≡ answered → now ≡ answered ++ payloads → h ≡ now ++ later
given_then g h answered now payloads later more was is = more ∙ ap (λ (x : List (List ℕ)). x ++ (payloads ++ later)) was ∙ sym (append_assoc answered payloads later) ∙ ap (λ (x : List (List ℕ)). x ++ later) (sym is)

-- what is kept where some payloads were answered and then some others given, of which those of these requests are open
found : (s t : Inside) (opens : List OpenRequest) (lost payloads : List (List ℕ)) → IsKept s → s.ended ≡ None → s.asked.items ≡ [] → t.asked.items ≡ opens → t.ahead.items ≡ [] → t.framer.given ≡ s.framer.given ++ (payloads ++ (open_payloads opens ++ lost)) → answered_in t.answered.items ≡ answered_in s.answered.items ++ payloads
    → IsReading t.framer → (t.ended ≡ None → lost ≡ []) → rooms opens ≤ t.unsent.spare → HasAnswered (state_inside t) → (t.ended ≡ Some causes.BadLength → opens ≡ []) → IsKept t
found s t opens lost payloads kept over none asked ahead given answered reading none_lost room answers none_open =
    let opens_is : opens_in t ≡ opens = opens_are t.asked.items opens [] t.ahead.items (asked ∙ sym (append-nil opens)) ahead in
    record {
      later = [];
      asked = asked ∙ sym (append-nil opens) ∙ ap (λ (x : List OpenRequest). x ++ []) (sym opens_is);
      ahead = ahead;
      read = All-nil IsRead;
      lost = lost;
      given = given_then s.framer.given t.framer.given (answered_in s.answered.items) (answered_in t.answered.items) payloads (open_payloads opens ++ lost) given (given_now s kept over none) answered
          ∙ ap (λ (x : List OpenRequest). answered_in t.answered.items ++ (open_payloads x ++ lost)) (sym asked);
      reading = reading;
      none_lost = none_lost;
      room = subst (λ (x : List OpenRequest). rooms x ≤ t.unsent.spare) (sym asked) room;
      answers = answers;
      none_open = λ bad. asked ∙ none_open bad;
    }

-- a request
asks : (s t : Inside) (request : Request resources) → IsKept s → s.ended ≡ None → s.asked.items ≡ [] → Finds s.framer t.framer t.asked.items s.unsent t.unsent s.answered.items t.answered.items (nexts.Request request)
    → t.ahead.items ≡ [] → t.ended ≡ s.ended → t.sent ≡ s.sent → IsKept t × NextGives (state_inside s) (state_inside t) (nexts.Request request)
asks s t request kept over none (payloads, frames, o, step, given, reading, asked, same, is, room) ahead e g =
    let sent : sent_in t.sent.items ≡ sent_in s.sent.items = ap (λ (l : Log Filled ℕ). sent_in l.items) g in
    let opens : opens_in t ≡ o ∷ [] = opens_are t.asked.items (o ∷ []) [] t.ahead.items asked ahead in
    let fed = step.fed in
    let unsent = step.unsent in
    let answered = step.answered in
    let calls = step.calls in
    let still = e ∙ over in (
      found s t (o ∷ []) [] payloads kept over none asked ahead given answered reading (λ _. refl) (omega (arith, rooms_first o [], room))
          (answered_open (state_inside t) still (answers_refused (state_inside s) (state_inside t) payloads frames (answers_open (state_inside s) over kept.answers) step.answers answered calls sent unsent)) (λ bad. absurd cc),
      (over, payloads, frames, o, step.answers, same, subst (λ (q : Request resources). IsRequest o.payload o.head q) same is, cc),
    )

starves : (s t : Inside) → IsKept s → s.ended ≡ None → s.asked.items ≡ [] → opens_in s ≡ [] → Finds s.framer t.framer t.asked.items s.unsent t.unsent s.answered.items t.answered.items (nexts.Ended causes.NoMemory)
    → t.ahead.items ≡ [] → t.ended ≡ Some causes.NoMemory → t.sent ≡ s.sent → IsKept t × EndsNow (state_inside s) (state_inside t) causes.NoMemory
starves s t kept over none was (payloads, frames, lost, step, given, asked, reading) ahead e g =
    let sent : sent_in t.sent.items ≡ sent_in s.sent.items = ap (λ (l : Log Filled ℕ). sent_in l.items) g in
    let opens : opens_in t ≡ opens_in s = opens_are t.asked.items [] [] t.ahead.items asked ahead ∙ sym was in
    let fed = step.fed in
    let unsent = step.unsent in
    let answered = step.answered in
    let calls = step.calls in (
      found s t [] lost payloads kept over none asked ahead given answered reading (λ still. absurd cc) (omega arith)
          (answered_starved (state_inside t) e (answers_refused (state_inside s) (state_inside t) payloads frames (answers_open (state_inside s) over kept.answers) step.answers answered calls sent unsent)) (λ bad. refl),
      (payloads, frames, step.answers, cc),
    )

faults : (s t : Inside) → IsKept s → s.ended ≡ None → s.asked.items ≡ [] → opens_in s ≡ [] → Finds s.framer t.framer t.asked.items s.unsent t.unsent s.answered.items t.answered.items (nexts.Ended causes.BadLength)
    → t.ahead.items ≡ [] → t.ended ≡ Some causes.BadLength → t.sent ≡ s.sent → IsKept t × EndsNow (state_inside s) (state_inside t) causes.BadLength
faults s t kept over none was (payloads, frames, w, step, given, said, asked, reading, at) ahead e g =
    let sent : sent_in t.sent.items ≡ sent_in s.sent.items = ap (λ (l : Log Filled ℕ). sent_in l.items) g in
    let opens : opens_in t ≡ opens_in s = opens_are t.asked.items [] [] t.ahead.items asked ahead ∙ sym was in
    let fed = step.fed in
    let last = frame_of (fault_reply 40) in
    let unsent : t.unsent.items ≡ s.unsent.items ++ (frames ++ last) = said ∙ ap (λ (x : List ℕ). x ++ last) step.unsent ∙ append_assoc s.unsent.items frames last in
    let answered = step.answered in
    let calls = step.calls in
    let all : t.framer.given ≡ answered_in t.answered.items = given ∙ ap (λ (x : List (List ℕ)). x ++ payloads) (given_now s kept over none) ∙ sym answered in
    let end : IsStream t.framer.fed (answered_in t.answered.items) (fault at.0) = subst (λ (x : List (List ℕ)). IsStream t.framer.fed x (fault at.0)) all at.1 in (
      found s t [] [] payloads kept over none asked ahead (given ∙ ap (λ (x : List (List ℕ)). s.framer.given ++ x) (sym (append-nil payloads))) answered reading (λ still. refl) (omega arith)
          (answered_fault (state_inside s) (state_inside t) payloads frames at.0 (answers_open (state_inside s) over kept.answers) step.answers answered calls sent unsent e end) (λ bad. refl),
      (payloads, frames, step.answers, cc, (at.0, end)),
    )

rests : (s t : Inside) → IsKept s → s.ended ≡ None → s.asked.items ≡ [] → opens_in s ≡ [] → Finds s.framer t.framer t.asked.items s.unsent t.unsent s.answered.items t.answered.items nexts.Need
    → t.ahead.items ≡ [] → t.ended ≡ s.ended → t.sent ≡ s.sent → IsKept t × NextGives (state_inside s) (state_inside t) nexts.Need
rests s t kept over none was (all, asked, at) ahead e g =
    let sent : sent_in t.sent.items ≡ sent_in s.sent.items = ap (λ (l : Log Filled ℕ). sent_in l.items) g in
    let opens : opens_in t ≡ opens_in s = opens_are t.asked.items [] [] t.ahead.items asked ahead ∙ sym was in
    let fed = all.step.fed in
    let unsent = all.step.unsent in
    let answered = all.step.answered in
    let calls = all.step.calls in
    let still = e ∙ over in
    let given : t.framer.given ≡ answered_in t.answered.items = all.given ∙ ap (λ (x : List (List ℕ)). x ++ all.payloads) (given_now s kept over none) ∙ sym answered in (
      found s t [] [] all.payloads kept over none asked ahead (all.given ∙ ap (λ (x : List (List ℕ)). s.framer.given ++ x) (sym (append-nil all.payloads))) answered
          ([], rest at.0, subst (λ (x : List (List ℕ)). IsStream t.framer.fed x (rest at.0)) (sym (append-nil t.framer.given)) at.1) (λ _. refl) (omega arith)
          (answered_open (state_inside t) still (answers_refused (state_inside s) (state_inside t) all.payloads all.frames (answers_open (state_inside s) over kept.answers) all.step.answers answered calls sent unsent)) (λ bad. refl),
      (over, all.payloads, all.frames, all.step.answers, cc, (at.0, subst (λ (x : List (List ℕ)). IsStream t.framer.fed x (rest at.0)) given at.1)),
    )

-- whatever comes next
pub comes : (s t : Inside) (next : Next) → IsKept s → s.ended ≡ None → s.asked.items ≡ [] → opens_in s ≡ [] → Finds s.framer t.framer t.asked.items s.unsent t.unsent s.answered.items t.answered.items next
    → t.ahead.items ≡ [] → t.ended ≡ ended_by next → t.sent ≡ s.sent → IsKept t × NextGives (state_inside s) (state_inside t) next
comes s t (nexts.Request request) kept over none was is ahead e g = asks s t request kept over none is ahead (e ∙ sym over) g
comes s t nexts.Need kept over none was is ahead e g = rests s t kept over none was is ahead (e ∙ sym over) g
comes s t (nexts.Ended causes.BadLength) kept over none was is ahead e g = let end = faults s t kept over none was is ahead e g in (end.0, inr (over, end.1))
comes s t (nexts.Ended causes.NoMemory) kept over none was is ahead e g = let end = starves s t kept over none was is ahead e g in (end.0, inr (over, end.1))
comes s t (nexts.Ended causes.WriteFault) kept over none was is ahead e g = absurd is

-- ---- what was read ahead

-- of the requests that were read others are open
reopens : (s t : Inside) (opens later : List OpenRequest) → IsKept s → s.asked.items ≡ opens ++ later → t.ahead.items ≡ open_requests later → All IsRead later → t ≡ record s { ahead = t.ahead } → IsKept t × (state_inside t ≡ record (state_inside s) { opens = opens })
reopens s t opens later kept split left read is =
    let opens_is : take (length s.asked.items - length t.ahead.items) s.asked.items ≡ opens = opens_are s.asked.items opens later t.ahead.items split left in
    let u : Inside = record s { ahead = t.ahead } in
    let now : state_inside u ≡ record (state_inside s) { opens = opens } = ap (λ (x : List OpenRequest). record (state_inside s) { opens = x }) opens_is in
    subst (λ (x : Inside). IsKept x × (state_inside x ≡ record (state_inside s) { opens = opens })) (sym is) (
      record {
        later = later;
        asked = split ∙ ap (λ (x : List OpenRequest). x ++ later) (sym opens_is);
        ahead = left;
        read = read;
        lost = kept.lost;
        given = kept.given;
        reading = kept.reading;
        none_lost = kept.none_lost;
        room = kept.room;
        answers = subst HasAnswered (sym now) (reopened (state_inside s) opens kept.answers);
        none_open = kept.none_open;
      },
      now,
    )

-- the first request that was read ahead is open
first_ahead : (s t : Inside) (later : List OpenRequest) (request : Request resources) (kept : IsKept s) → kept.later ≡ later → s.ahead.items ≡ request ∷ t.ahead.items → t ≡ record s { ahead = t.ahead } → IsKept t × OpensNext (state_inside s) (state_inside t) (Some request)
first_ahead s t [] request kept none was is = let other = sym was ∙ kept.ahead ∙ ap open_requests none in absurd cc
first_ahead s t (o ∷ later) request kept some was is =
    let both : request ∷ t.ahead.items ≡ o.request ∷ open_requests later = sym was ∙ kept.ahead ∙ ap open_requests some in
    let same : o.request ≡ request = cc both in
    let left : t.ahead.items ≡ open_requests later = cc both in
    let split : s.asked.items ≡ (opens_in s ++ o ∷ []) ++ later = kept.asked ∙ ap (λ (x : List OpenRequest). opens_in s ++ x) some ∙ sym (append_assoc (opens_in s) (o ∷ []) later) in
    let read : All IsRead (o ∷ later) = subst (All IsRead) some kept.read in
    let now = reopens s t (opens_in s ++ o ∷ []) later kept split left (All-tail IsRead o later read) is in
    (now.0, (o, same, subst (λ (q : Request resources). IsRequest o.payload o.head q) same (All-head IsRead o later read), now.1))

-- where there is one
pub next_opens : (s t : Inside) (next : Option (Request resources)) → IsKept s → s.ahead.items ≡ option_to_list next ++ t.ahead.items → t ≡ record s { ahead = t.ahead } → IsKept t × OpensNext (state_inside s) (state_inside t) next
next_opens s t None kept was is = reopens s t (opens_in s) kept.later kept kept.asked (sym was ∙ kept.ahead) kept.read is
next_opens s t (Some request) kept was is = first_ahead s t kept.later request kept refl was is

pub was_open : (c : Option SessionCause) → false ≡ is_some c → c ≡ None
was_open None is = refl
was_open (Some cause) is = absurd cc

-- more were read ahead
pub reads : (s t : Inside) → IsKept s → s.ended ≡ None → ReadsAhead s.framer t.framer s.asked.items t.asked.items s.ahead.items t.ahead.items → IsReading t.framer → rooms t.asked.items ≤ t.unsent.spare → t.unsent.items ≡ s.unsent.items
    → t.answered ≡ s.answered → t.ended ≡ s.ended → t.sent ≡ s.sent → IsKept t × (state_inside t ≡ state_inside s)
reads s t kept over r reading room unsent a e g =
    let split : t.asked.items ≡ opens_in s ++ (kept.later ++ r.more) = r.asked ∙ ap (λ (x : List OpenRequest). x ++ r.more) kept.asked ∙ append_assoc (opens_in s) kept.later r.more in
    let ahead : t.ahead.items ≡ open_requests (kept.later ++ r.more) = r.requests ∙ ap (λ (x : List (Request resources)). x ++ open_requests r.more) kept.ahead ∙ sym (map-append (λ (o : OpenRequest). o.request) kept.later r.more) in
    let opens : opens_in t ≡ opens_in s = opens_are t.asked.items (opens_in s) (kept.later ++ r.more) t.ahead.items split ahead in
    let fed = r.fed in
    let now : state_inside t ≡ state_inside s = cc in
    let answered = answered_in s.answered.items in
    let lost = kept.none_lost over in (
      record {
        later = kept.later ++ r.more;
        asked = split ∙ ap (λ (x : List OpenRequest). x ++ (kept.later ++ r.more)) (sym opens);
        ahead = ahead;
        read = All-append IsRead kept.later r.more kept.read r.read;
        lost = [];
        given = r.given ∙ ap (λ (x : List (List ℕ)). x ++ open_payloads r.more) (kept.given ∙ ap (λ (x : List (List ℕ)). answered ++ (open_payloads s.asked.items ++ x)) lost ∙ ap (λ (x : List (List ℕ)). answered ++ x) (append-nil (open_payloads s.asked.items)))
            ∙ append_assoc answered (open_payloads s.asked.items) (open_payloads r.more)
            ∙ ap (λ (x : List (List ℕ)). answered ++ x) (sym (map-append (λ (o : OpenRequest). o.payload) s.asked.items r.more) ∙ ap open_payloads (sym r.asked) ∙ sym (append-nil (open_payloads t.asked.items)))
            ∙ ap (λ (l : Log (Log Filled ReadResult) (Log (Reply resources) (Unit {0}))). answered_in l.items ++ (open_payloads t.asked.items ++ [])) (sym a);
        reading = reading;
        none_lost = λ _. refl;
        room = room;
        answers = subst HasAnswered (sym now) kept.answers;
        none_open = λ bad. let other = e ∙ over in absurd cc;
      },
      now,
    )

-- ---- an answer

-- what is open begins with the first request that was read
first_open_is : (opens later asked : List OpenRequest) (o : OpenRequest) (reply : Reply resources) → MayAnswer opens reply → o ∷ asked ≡ opens ++ later → (more : List OpenRequest) × (opens ≡ o ∷ more) × (asked ≡ more ++ later)
first_open_is [] later asked o reply may is = absurd may
first_open_is (p ∷ more) later asked o reply may is = (more, cc is, cc is)

pub may_answer : (s : Inside) (seen : SessionState) (reply : Reply resources) → state_inside s ≡ seen → MayAnswer seen.opens reply → MayAnswer (opens_in s) reply
may_answer s seen reply is may = subst (λ (x : SessionState). MayAnswer x.opens reply) (sym is) may

pub some_asked : (s : Inside) (reply : Reply resources) → IsKept s → MayAnswer (opens_in s) reply → s.asked.items ≡ [] → ⊥
some_asked s reply kept may none = by (opens_in s) may (sym none ∙ kept.asked)
  where
    by : (opens : List OpenRequest) → MayAnswer opens reply → [] ≡ opens ++ kept.later → ⊥
    by [] may is = may
    by (o ∷ opens) may is = cc is

pub opens_first : (s t : Inside) (o : OpenRequest) (reply : Reply resources) → (kept : IsKept s) → MayAnswer (opens_in s) reply → s.asked.items ≡ o ∷ t.asked.items → t.ahead ≡ s.ahead → (opens_in s ≡ o ∷ opens_in t) × (t.asked.items ≡ opens_in t ++ kept.later)
opens_first s t o reply kept may was a =
    let first = first_open_is (opens_in s) kept.later t.asked.items o reply may (sym was ∙ kept.asked) in
    let opens : opens_in t ≡ first.0 = opens_are t.asked.items first.0 kept.later t.ahead.items first.2 (ap (λ x. x.items) a ∙ kept.ahead) in
    (first.1 ∙ ap (λ (x : List OpenRequest). o ∷ x) (sym opens), first.2 ∙ ap (λ (x : List OpenRequest). x ++ kept.later) (sym opens))

pub answers_it : (s t : Inside) (o : OpenRequest) (reply : Reply resources) (opened : Log Filled ReadResult) (replies : Log (Reply resources) (Unit {0})) → IsKept s → MayAnswer (opens_in s) reply → s.asked.items ≡ o ∷ t.asked.items → payloads_in opened.items ≡ o.payload ∷ [] → calls_in opened.items ((reply, tt) ∷ []) ≡ record { request = o.request; reply = reply } ∷ []
    → SpellsAnswer (o ∷ []) reply → t.ahead ≡ s.ahead → t.framer ≡ s.framer → t.ended ≡ s.ended → replies.items ≡ (reply, tt) ∷ [] → t.answered.items ≡ s.answered.items ++ (opened, replies) ∷ [] → t.sent ≡ s.sent → t.unsent.items ≡ s.unsent.items ++ frame_of (answer_bytes o reply) → s.unsent.spare ≤ t.unsent.spare + open_room o
    → IsKept t × (state_inside t ≡ with_answer (state_inside s) (o ∷ opens_in t) reply)
answers_it s t o reply opened replies kept may was payload call spells a f e r d g u room =
    let first = opens_first s t o reply kept may was a in
    let answered : answered_in t.answered.items ≡ answered_in s.answered.items ++ o.payload ∷ [] = ap answered_in d ∙ answered_more s.answered.items opened replies ∙ ap (λ (x : List (List ℕ)). answered_in s.answered.items ++ x) payload in
    let calls : calls_of t.answered.items ≡ calls_of s.answered.items ++ record { request = o.request; reply = reply } ∷ [] =
    ap calls_of d ∙ calls_more s.answered.items opened replies ∙ ap (λ (x : List (Reply resources × Unit {0})). calls_of s.answered.items ++ calls_in opened.items x) r ∙ ap (λ x. calls_of s.answered.items ++ x) call in
    let fed : t.framer.fed ≡ s.framer.fed = ap (λ (h : History). h.fed) f in
    let sent : sent_in t.sent.items ≡ sent_in s.sent.items = ap (λ (l : Log Filled ℕ). sent_in l.items) g in
    let now : state_inside t ≡ with_answer (state_inside s) (o ∷ opens_in t) reply = cc in (
      record {
        later = kept.later;
        asked = first.1;
        ahead = ap (λ x. x.items) a ∙ kept.ahead;
        read = kept.read;
        lost = kept.lost;
        given = ap (λ (h : History). h.given) f ∙ kept.given ∙ ap (λ (x : List OpenRequest). answered_in s.answered.items ++ (open_payloads x ++ kept.lost)) was
            ∙ sym (append_assoc (answered_in s.answered.items) (o.payload ∷ []) (open_payloads t.asked.items ++ kept.lost)) ∙ ap (λ (x : List (List ℕ)). x ++ (open_payloads t.asked.items ++ kept.lost)) (sym answered);
        reading = subst IsReading (sym f) kept.reading;
        none_lost = λ over. kept.none_lost (sym e ∙ over);
        room = omega (arith, ap rooms was, rooms_first o t.asked.items, kept.room, room);
        answers = subst (λ (x : Option SessionCause). AnswersBy x (state_inside t)) (sym e)
            (answered_answer s.ended (state_inside s) (state_inside t) o (opens_in t) reply (λ bad. some_asked s reply kept may (kept.none_open bad)) kept.answers spells now);
        none_open = λ bad. absurd (some_asked s reply kept may (kept.none_open (sym e ∙ bad)));
      },
      now,
    )

-- ---- what is fed

-- a piece that was taken, and one for which an allocation failed
pub feeds : (s : Inside) (h : History) → IsKept s → s.ended ≡ None → h.given ≡ s.framer.given → IsReading h → IsKept (record s { framer = h })
feeds s h kept over given reading = record {
  later = kept.later;
  asked = kept.asked;
  ahead = kept.ahead;
  read = kept.read;
  lost = kept.lost;
  given = given ∙ kept.given;
  reading = reading;
  none_lost = kept.none_lost;
  room = kept.room;
  answers = answered_open (state_inside (record s { framer = h })) over (answers_open (state_inside s) over kept.answers);
  none_open = kept.none_open;
}

pub feeds_none : (s : Inside) (h : History) → IsKept s → s.ended ≡ None → h ≡ s.framer → IsReading h → IsKept (record s { framer = h; ended = Some causes.NoMemory })
feeds_none s h kept over same reading = record {
  later = kept.later;
  asked = kept.asked;
  ahead = kept.ahead;
  read = kept.read;
  lost = kept.lost;
  given = ap (λ (x : History). x.given) same ∙ kept.given;
  reading = reading;
  none_lost = λ x. absurd cc;
  room = kept.room;
  answers = answered_starved (state_inside (record s { framer = h; ended = Some causes.NoMemory })) refl (answers_open (state_inside s) over kept.answers);
  none_open = λ x. absurd cc;
}

-- ---- what is written out

was_none : (c : Option SessionCause) (sent : Sent) → ended_after c sent ≡ None → c ≡ None
was_none c (sents.All n) e = e
was_none None (sents.Fault n) e = refl
was_none (Some c) (sents.Fault n) e = absurd cc

was_bad : (c : Option SessionCause) (sent : Sent) → ended_after c sent ≡ Some causes.BadLength → c ≡ Some causes.BadLength
was_bad c (sents.All n) e = e
was_bad None (sents.Fault n) e = absurd cc
was_bad (Some c) (sents.Fault n) e = e

-- why it has ended then
pub as_ended : (c : Option SessionCause) (sent : Sent) (n : ℕ) → sent ≡ sents.All n → c ≡ ended_after c sent
as_ended c sent n is = rw is refl

pub still_ended : (c : Option SessionCause) (sent : Sent) (n : ℕ) → sent ≡ sents.Fault n → is_some c ≡ true → c ≡ ended_after c sent
still_ended None sent n is other = absurd (cc other)
still_ended (Some cause) sent n is other = rw is refl

pub ends_by_fault : (c : Option SessionCause) (sent : Sent) (n : ℕ) → sent ≡ sents.Fault n → is_some c ≡ false → Some causes.WriteFault ≡ ended_after c sent
ends_by_fault None sent n is none = rw is refl
ends_by_fault (Some cause) sent n is none = absurd (cc none)

-- some first bytes were written out
pub sends : (s : Inside) (unsent : Filled) (log : Log Filled ℕ) (ended : Option SessionCause) (sent : Sent) → IsKept s → unsent.items ≡ drop (sent_count sent) s.unsent.items → unsent.spare ≡ s.unsent.spare
    → sent_in log.items ≡ sent_in s.sent.items ++ take (sent_count sent) s.unsent.items → ended ≡ ended_after s.ended sent → IsKept (record s { unsent = unsent; sent = log; ended = ended })
sends s unsent log ended sent kept left spare out is =
    let t : Inside = record s { unsent = unsent; sent = log; ended = ended } in
    let now : state_inside t ≡ after_sent (state_inside s) sent = λ i. record (state_inside s) { sent = out i; unsent = left i; ended = is i } in
    record {
      later = kept.later;
      asked = kept.asked;
      ahead = kept.ahead;
      read = kept.read;
      lost = kept.lost;
      given = kept.given;
      reading = kept.reading;
      none_lost = λ e. kept.none_lost (was_none s.ended sent (sym is ∙ e));
      room = subst (λ (n : ℕ). rooms s.asked.items ≤ n) (sym spare) kept.room;
      answers = subst HasAnswered (sym now) (answered_sent (state_inside s) sent kept.answers);
      none_open = λ e. kept.none_open (was_bad s.ended sent (sym is ∙ e));
    }
