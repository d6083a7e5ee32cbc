-- A round of serving, and more of them.
use Rattle.cap_serving.proofs.Prelude.{drop-length, ◌≡◌, ℕ, List, [], ◌++◌, length, drop, Option, Some, None, ap, sym, ◌∙◌, subst, inl, inr, resources, SessionState, all_answers, after_sent, FeedGives, Request, Sent, SessionCause, continues_fed, Sitting, EndCause, Serves, IsAtRest, ServesAll, ServesToFault, IsServed, IsRound, IsSealed, IsWrittenOut, ReadsOn, GoesOn, end_of}
use Rattle.cap_session.specs.declared.counted.Sent.TheVariants as sents
use Rattle.cap_session.specs.declared.session.SessionCause.TheVariants as causes
use Rattle.cap_session.specs.declared.session.Fed.TheVariants as feds
use Rattle.cap_serving.specs.declared.sessions.EndCause.TheVariants as ends
use Rattle.cap_serving.proofs.Receipts.{serves_quiet, serves_then, serves_as, serves_sent}

at_rest_sent : (t : SessionState) (n : ℕ) → IsAtRest t → IsAtRest (after_sent t (sents.All n))
at_rest_sent t n at = record { left = at.left; stream = at.stream; none_open = at.none_open; goes_on = at.goes_on }

all_sent : {old mid : SessionState} {s t : Sitting} (new : SessionState) (n : ℕ) → ServesAll old mid s t → new ≡ after_sent mid (sents.All n) → ServesAll old new s t
all_sent {old} {mid} {s} {t} new n x is = subst (λ (v : SessionState). ServesAll old v s t) (sym is) (record { serves = serves_sent (sents.All n) x.serves; at_rest = at_rest_sent mid n x.at_rest })

-- all was answered and written out, and more was read
pub went_on : (limit : ℕ) (old mid new : SessionState) (s t : Sitting) (sent : Sent) (end : Option EndCause) (more : List ℕ) → ServesAll old mid s t → GoesOn sent (after_sent mid sent) new end → new.fed ≡ mid.fed ++ more → IsRound limit old new s t end
went_on limit old mid new s t (sents.All n) None more x is fed =
    let m = after_sent mid (sents.All n) in
    let now : new ≡ record m { fed = m.fed ++ more } = is ∙ ap (λ (f : List ℕ). record m { fed = f }) fed in
    (serves_then (serves_sent (sents.All n) x.serves) (serves_quiet m new t more [] (continues_fed m new more now)), ap (λ (v : SessionState). v.opens) is ∙ x.at_rest.none_open, ap (λ (v : SessionState). v.ended) is ∙ x.at_rest.goes_on)
went_on limit old mid new s t (sents.All n) (Some ends.InputEnded) more x is fed = all_sent new n x is
went_on limit old mid new s t (sents.All n) (Some ends.Quiet) more x is fed = all_sent new n x is
went_on limit old mid new s t (sents.All n) (Some ends.ReadFault) more x is fed = all_sent new n x is
went_on limit old mid new s t (sents.All n) (Some ends.NoMemory) more x is fed =
    serves_as new (serves_sent (sents.All n) x.serves) (ap (λ (v : SessionState). v.fed) is) (ap (λ (v : SessionState). v.answered) is) (ap (λ (v : SessionState). v.calls) is) (ap all_answers is)
went_on limit old mid new s t (sents.All n) (Some ends.WriteFault) more x is fed = absurd is
went_on limit old mid new s t (sents.All n) (Some ends.Faulted) more x is fed = absurd is
went_on limit old mid new s t (sents.All n) (Some (ends.Sealed q)) more x is fed = absurd is
went_on limit old mid new s t (sents.Fault n) end more x (is, ended) fed =
    subst (λ (e : Option EndCause). IsRound limit old new s t e) (sym ended) (inl (subst (λ (v : SessionState). Serves old v s t [] []) (sym is) (serves_sent (sents.Fault n) x.serves)))

fault_sent : {old mid : SessionState} {s t : Sitting} (new : SessionState) (sent : Sent) → ServesToFault old mid s t → new ≡ after_sent mid sent → ServesToFault old new s t
fault_sent {old} {mid} {s} {t} new sent x is = subst (λ (v : SessionState). ServesToFault old v s t) (sym is) (record { left = x.left; stream = x.stream; serves = serves_sent sent x.serves })

starved_sent : {old mid : SessionState} {s t : Sitting} (new : SessionState) (sent : Sent) → Serves old mid s t [] [] → new ≡ after_sent mid sent → Serves old new s t [] []
starved_sent {old} {mid} {s} {t} new sent x is = subst (λ (v : SessionState). Serves old v s t [] []) (sym is) (serves_sent sent x)

-- a length that no frame has
pub faulted_round : (limit : ℕ) (old mid new : SessionState) (s t : Sitting) (sent : Sent) (end : Option EndCause) → ServesToFault old mid s t → new ≡ after_sent mid sent → end ≡ Some (end_of ends.Faulted sent) → IsRound limit old new s t end
faulted_round limit old mid new s t (sents.All n) end x is ended = subst (λ (e : Option EndCause). IsRound limit old new s t e) (sym ended) (fault_sent new (sents.All n) x is)
faulted_round limit old mid new s t (sents.Fault n) end x is ended = subst (λ (e : Option EndCause). IsRound limit old new s t e) (sym ended) (inr (inl (fault_sent new (sents.Fault n) x is)))

-- a full journal
pub sealed_round : (limit : ℕ) (q : Request resources) (old mid new : SessionState) (s t : Sitting) (sent : Sent) (end : Option EndCause) → IsSealed limit q old mid s t → new ≡ after_sent mid sent → end ≡ Some (end_of (ends.Sealed q) sent) → IsRound limit old new s t end
sealed_round limit q old mid new s t (sents.All n) end x is ended =
    subst (λ (e : Option EndCause). IsRound limit old new s t e) (sym ended)
    (subst (λ (v : SessionState). IsSealed limit q old v s t) (sym is) (record { entries = x.entries; full = x.full; serves = serves_sent (sents.All n) x.serves; waits = x.waits; goes_on = x.goes_on }))
sealed_round limit q old mid new s t (sents.Fault n) end x is ended =
    subst (λ (e : Option EndCause). IsRound limit old new s t e) (sym ended)
    (subst (λ (v : SessionState). IsRound limit old v s t (Some ends.WriteFault)) (sym is) (inr (inr (q, x.entries, x.full, serves_sent (sents.Fault n) x.serves))))

-- no memory
pub starved_round : (limit : ℕ) (old mid new : SessionState) (s t : Sitting) (sent : Sent) (end : Option EndCause) → Serves old mid s t [] [] → new ≡ after_sent mid sent → end ≡ Some (end_of ends.NoMemory sent) → IsRound limit old new s t end
starved_round limit old mid new s t (sents.All n) end x is ended = subst (λ (e : Option EndCause). IsRound limit old new s t e) (sym ended) (starved_sent new (sents.All n) x is)
starved_round limit old mid new s t (sents.Fault n) end x is ended = subst (λ (e : Option EndCause). IsRound limit old new s t e) (sym ended) (inl (starved_sent new (sents.Fault n) x is))

-- a piece that was not taken
pub fed_none : (piece : List ℕ) (old new : SessionState) (c : SessionCause) → old.ended ≡ None → FeedGives piece old new (feds.Ended c) → new ≡ record old { ended = Some causes.NoMemory }
fed_none piece old new c over (inl (was, same)) = absurd cc
fed_none piece old new c over (inr (none, is, now)) = now

-- ---- what is still to be written

-- where nothing is, all went out
all_out : (end : Option EndCause) (unsent : List ℕ) → unsent ≡ [] → IsWrittenOut end unsent
all_out None unsent none = tt
all_out (Some ends.InputEnded) unsent none = none
all_out (Some ends.Quiet) unsent none = none
all_out (Some ends.ReadFault) unsent none = none
all_out (Some ends.WriteFault) unsent none = tt
all_out (Some ends.Faulted) unsent none = none
all_out (Some (ends.Sealed q)) unsent none = none
all_out (Some ends.NoMemory) unsent none = none

drop_all : {A : Type 0} (xs : List A) (n : ℕ) → n ≡ length xs → drop n xs ≡ []
drop_all xs n is = ap (λ k. drop k xs) is ∙ drop-length xs

-- all was written
pub all_written : (cause : EndCause) (n : ℕ) (old new : SessionState) → n ≡ length old.unsent → new ≡ after_sent old (sents.All n) → IsWrittenOut (Some cause) new.unsent
all_written cause n old new count is = all_out (Some cause) new.unsent (ap (λ (v : SessionState). v.unsent) is ∙ drop_all old.unsent n count)

reads_keep : (old new : SessionState) (end : Option EndCause) → ReadsOn old new end → new.unsent ≡ old.unsent
reads_keep old new None is = ap (λ (v : SessionState). v.unsent) is
reads_keep old new (Some ends.InputEnded) is = ap (λ (v : SessionState). v.unsent) is
reads_keep old new (Some ends.Quiet) is = ap (λ (v : SessionState). v.unsent) is
reads_keep old new (Some ends.ReadFault) is = ap (λ (v : SessionState). v.unsent) is
reads_keep old new (Some ends.NoMemory) is = ap (λ (v : SessionState). v.unsent) is
reads_keep old new (Some ends.WriteFault) is = absurd is
reads_keep old new (Some ends.Faulted) is = absurd is
reads_keep old new (Some (ends.Sealed q)) is = absurd is

-- all was written, and then more was read
pub read_out : (n : ℕ) (old mid new : SessionState) (end : Option EndCause) → n ≡ length old.unsent → mid ≡ after_sent old (sents.All n) → ReadsOn mid new end → IsWrittenOut end new.unsent
read_out n old mid new end count is read = all_out end new.unsent (reads_keep mid new end read ∙ ap (λ (v : SessionState). v.unsent) is ∙ drop_all old.unsent n count)

-- ---- more rounds

all_then : {a b : SessionState} {s t : Sitting} (c : SessionState) (u : Sitting) → Serves a b s t [] [] → ServesAll b c t u → ServesAll a c s u
all_then c u x y = record { serves = serves_then x y.serves; at_rest = y.at_rest }

fault_then : {a b : SessionState} {s t : Sitting} (c : SessionState) (u : Sitting) → Serves a b s t [] [] → ServesToFault b c t u → ServesToFault a c s u
fault_then c u x y = record { left = y.left; stream = y.stream; serves = serves_then x y.serves }

pub served_then : {a b : SessionState} {s t : Sitting} (c : SessionState) (u : Sitting) (limit : ℕ) (cause : EndCause) → Serves a b s t [] [] → IsServed limit b c t u cause → IsServed limit a c s u cause
served_then c u limit ends.InputEnded x y = all_then c u x y
served_then c u limit ends.Quiet x y = all_then c u x y
served_then c u limit ends.ReadFault x y = all_then c u x y
served_then c u limit ends.WriteFault x (inl y) = inl (serves_then x y)
served_then c u limit ends.WriteFault x (inr (inl y)) = inr (inl (fault_then c u x y))
served_then c u limit ends.WriteFault x (inr (inr y)) = inr (inr (y.0, y.1, y.2, serves_then x y.3))
served_then c u limit ends.Faulted x y = fault_then c u x y
served_then c u limit (ends.Sealed q) x y = record { entries = y.entries; full = y.full; serves = serves_then x y.serves; waits = y.waits; goes_on = y.goes_on }
served_then c u limit ends.NoMemory x y = serves_then x y
