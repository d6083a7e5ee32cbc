-- What the steps of workers come to.
use Rattle.cap_world.proofs.Prelude.{◌≡◌, ℕ, ◌<◌, ◌≤◌, false, List, [], ◌∷◌, ◌++◌, Option, Some, None, IsSome, Result, Ok, Err, refl, sym, ap, subst, ◌∙◌, append-nil, inl, inr, arith, ◌==◌, AllByRecursion, cases_Bool, eqb-true, eq-eqb, resources, Event, NoMemory, Verdict, Flat, Sight, NodeSight, sight_of, NodeProposal, IsAdmissible, reason_of, IsFirstChoice, ring_from, choice_from, IsOf, IsVerdict, choice_from_is_computed, rejected_exactly, Seen, sight_in, Step, Did, WorkerState, workers_max, with_copy, with_verdict, WorldState, worker_at, choice_in, verdict_in, choice_of, verdict_of, Changes, Copied, made_by, StepOutcome, Attempt, performed, starved, ComesTo, Makes, QuietStepsMakeNoEvent, IsExact, CommitsAreExact, IsNoCopy, ProposalsAreOfCopies, IsMadeOf, IsLeftOf, turn_of, CopiedChoicesAreMade, same_choice}
use Rattle.cap_model.specs.declared.proposal.Verdict.TheVariants as verdicts
use Rattle.cap_model.specs.Events.{Step as ClusterStep}
use Rattle.cap_world.specs.declared.step.Step.TheVariants as steps
use Rattle.cap_world.specs.declared.step.Did.TheVariants as dids

-- ---- steps without events

idle_events : (step : Step) (result : Result Did NoMemory) (old new : WorldState) (before after : List (Event resources)) → StepOutcome step result old new before after → result ≡ Ok dids.Idle → after ≡ before
idle_events step result old new before after o e =
    (subst (λ (r : Result Did NoMemory). StepOutcome step r old new before after) e o).2

pub quiet_steps : QuietStepsMakeNoEvent
quiet_steps step result old new before after o (inr e) = idle_events step result old new before after o e
quiet_steps (steps.Bytes c piece) result old new before after o (inl q) = absurd q
quiet_steps (steps.Commit w) result old new before after o (inl q) = absurd q
quiet_steps (steps.Open c) (Ok dids.Done) old new before after o (inl q) = o.4
quiet_steps (steps.Open c) (Ok dids.Idle) old new before after o (inl q) = o.2
quiet_steps (steps.Open c) (Err e) old new before after o (inl q) = o.2
quiet_steps (steps.End c) (Ok dids.Done) old new before after o (inl q) = o.3
quiet_steps (steps.End c) (Ok dids.Idle) old new before after o (inl q) = o.2
quiet_steps (steps.End c) (Err e) old new before after o (inl q) = absurd o
quiet_steps (steps.Copy w) (Ok dids.Done) old new before after o (inl q) = o.1
quiet_steps (steps.Copy w) (Ok dids.Idle) old new before after o (inl q) = o.2
quiet_steps (steps.Copy w) (Err e) old new before after o (inl q) = o.2
quiet_steps (steps.Propose w start) (Ok dids.Done) old new before after o (inl q) = o.1
quiet_steps (steps.Propose w start) (Ok dids.Idle) old new before after o (inl q) = o.2
quiet_steps (steps.Propose w start) (Err e) old new before after o (inl q) = absurd o

-- ---- commits

-- the worker that changed
changed : (w : ℕ) (value : WorkerState) (old new : List (ℕ × WorkerState)) → Changes w value old new → worker_at w new ≡ Some value
changed w value old new change = rw (change w, eq-eqb w w refl) refl

other_than : (w v : ℕ) (value : WorkerState) (old new : List (ℕ × WorkerState)) → Changes v value old new → (v == w) ≡ false → worker_at w new ≡ worker_at w old
other_than w v value old new change other = rw (change w, other) refl

-- a step that makes what was proposed needs it to be admissible
step_admissible : (p : NodeProposal) (event : Event resources) (old new : Flat resources) → IsOf p event → ClusterStep old event new → IsAdmissible (sight_of old) p
step_admissible p (Event.Call by request reply) old new is step = absurd is
step_admissible p (Event.Grant container) old new is step = subst (λ (x : NodeProposal). IsAdmissible (sight_of old) x) is step.0
step_admissible p (Event.Reserve reservation) old new is step = subst (λ (x : NodeProposal). IsAdmissible (sight_of old) x) is step.0

not_rejected : {A : Type 0} (p : NodeProposal) (old : Flat resources) (reason : Rattle.cap_model.specs.declared.proposal.Reason.Reason) → reason_of (sight_of old) p ≡ Some reason → IsAdmissible (sight_of old) p → A
not_rejected p old reason rejected adm = let none = (rejected_exactly resources (sight_of old) p).1 adm in absurd (cc (none, rejected))

-- the proposal that stands is the one that was tried
same_proposal : (w : ℕ) (old : WorldState) (was : WorkerState) (p q : NodeProposal) → worker_at w old.workers ≡ Some was → was.choice ≡ Some q → choice_of w old ≡ Some p → p ≡ q
same_proposal w old was p q at has stands =
    let both : Some p ≡ Some q = sym stands ∙ ap choice_in at ∙ has in cc both

exact_verdict : (w : ℕ) (p : NodeProposal) (verdict : Verdict resources) (old new : WorldState) (before after : List (Event resources)) → IsVerdict p old.cluster new.cluster verdict → after ≡ before ++ made_by verdict → verdict_of w new ≡ Some verdict → IsExact w p (Ok dids.Done) old new before after
exact_verdict w p (verdicts.Done event) old new before after is events kept = record {
  made = λ adm. inr (event, is.0, events, kept);
  rejected = λ no. absurd (no (step_admissible p event old.cluster new.cluster is.0 is.1));
}
exact_verdict w p (verdicts.Rejected reason) old new before after is events kept = record {
  made = λ adm. not_rejected p old.cluster reason is.0 adm;
  rejected = λ no. (reason, is.0, is.1, events ∙ append-nil before, kept);
}

too_far : {A : Type 0} (w : ℕ) → w < workers_max → workers_max ≤ w → A
too_far w below past = absurd (omega (arith, below, past))

pub commits_exact : CommitsAreExact
commits_exact w p (Ok dids.Done) old new before after below stands o =
    let same = same_proposal w old o.was p o.proposal o.at o.choice stands in
    let kept = ap verdict_in (changed w (with_verdict o.verdict o.was) old.workers new.workers o.change) in
    exact_verdict w p o.verdict old new before after (subst (λ (x : NodeProposal). IsVerdict x old.cluster new.cluster o.verdict) (sym same) o.is) o.events kept
commits_exact w p (Ok dids.Idle) old new before after below stands o = elim o.0 [ inl past ↦ too_far w below past | inr none ↦ absurd (cc (none, stands)) ]
commits_exact w p (Err e) old new before after below stands o =
    let same : p ≡ o.0.proposal = (let both : Some p ≡ Some o.0.proposal = sym stands ∙ o.0.choice in cc both) in
    record { made = λ adm. inl refl; rejected = λ no. absurd (no (subst (λ (x : NodeProposal). IsAdmissible (sight_of old.cluster) x) (sym same) o.0.admissible)) }

-- ---- copies

-- a worker has this snapshot
record HasSeen (w : ℕ) (seen : Seen) (sight : WorldState) : Type 0 where
  worker : WorkerState
  at : worker_at w sight.workers ≡ Some worker
  is : worker.seen ≡ seen

still_seen : (w : ℕ) (seen : Seen) (old new : WorldState) → HasSeen w seen old → new.workers ≡ old.workers → HasSeen w seen new
still_seen w seen old new h e = record { worker = h.worker; at = ap (worker_at w) e ∙ h.at; is = h.is }

-- a worker changes, and keeps its snapshot
seen_kept : (w v : ℕ) (seen : Seen) (old new : WorldState) (was is : WorkerState) → HasSeen w seen old → worker_at v old.workers ≡ Some was → Changes v is old.workers new.workers → is.seen ≡ was.seen → HasSeen w seen new
seen_kept w v seen old new was is h at change keeps =
    elim (cases_Bool (v == w)) [
      | inl t ↦
          let same : v ≡ w = eqb-true v w t in
          let both : Some was ≡ Some h.worker = sym (subst (λ (n : ℕ). worker_at n old.workers ≡ Some was) same at) ∙ h.at in
          let own : was ≡ h.worker = cc both in
          record { worker = is; at = subst (λ (n : ℕ). worker_at n new.workers ≡ Some is) same (changed v is old.workers new.workers change); is = keeps ∙ ap (λ (x : WorkerState). x.seen) own ∙ h.is }
      | inr f ↦ record { worker = h.worker; at = other_than w v is old.workers new.workers change f ∙ h.at; is = h.is }
    ]

seen_performed : (w : ℕ) (seen : Seen) (step : Step) (did : Did) (old new : WorldState) (before after : List (Event resources)) → IsNoCopy w (performed step) → StepOutcome step (Ok did) old new before after → HasSeen w seen old → HasSeen w seen new
seen_performed w seen step dids.Idle old new before after other o h = still_seen w seen old new h (ap (λ (x : WorldState). x.workers) o.1)
seen_performed w seen (steps.Open c) dids.Done old new before after other o h = still_seen w seen old new h o.3
seen_performed w seen (steps.End c) dids.Done old new before after other o h = still_seen w seen old new h o.2
seen_performed w seen (steps.Bytes c piece) dids.Done old new before after other o h = still_seen w seen old new h o.3
seen_performed w seen (steps.Copy v) dids.Done old new before after other o h =
    elim (cases_Bool (v == w)) [
      | inl t ↦ absurd (other (eqb-true v w t))
      | inr f ↦ record { worker = h.worker; at = other_than w v (with_copy o.0.seen (worker_at v old.workers)) old.workers new.workers o.0.change f ∙ h.at; is = h.is }
    ]
seen_performed w seen (steps.Propose v start) dids.Done old new before after other o h = seen_kept w v seen old new o.0.was _ h o.0.at o.0.change refl
seen_performed w seen (steps.Commit v) dids.Done old new before after other o h = seen_kept w v seen old new o.was _ h o.at o.change refl

seen_starved : (w : ℕ) (seen : Seen) (step : Step) (e : NoMemory) (old new : WorldState) (before after : List (Event resources)) → StepOutcome step (Err e) old new before after → HasSeen w seen old → HasSeen w seen new
seen_starved w seen (steps.Open c) e old new before after o h = still_seen w seen old new h (ap (λ (x : WorldState). x.workers) o.1)
seen_starved w seen (steps.End c) e old new before after o h = absurd o
seen_starved w seen (steps.Bytes c piece) e old new before after o h = still_seen w seen old new h o.1
seen_starved w seen (steps.Copy v) e old new before after o h = still_seen w seen old new h (ap (λ (x : WorldState). x.workers) o.1)
seen_starved w seen (steps.Propose v start) e old new before after o h = absurd o
seen_starved w seen (steps.Commit v) e old new before after o h = still_seen w seen old new h (ap (λ (x : WorldState). x.workers) o.1)

seen_after : (w : ℕ) (seen : Seen) (attempt : Attempt) (old new : WorldState) (before after : List (Event resources)) → IsNoCopy w attempt → ComesTo attempt old new before after → HasSeen w seen old → HasSeen w seen new
seen_after w seen (performed step) old new before after other o h = seen_performed w seen step o.0 old new before after other o.1 h
seen_after w seen (starved step) old new before after other o h = seen_starved w seen step o.0 old new before after o.1 h

-- a Copy of a worker, and a Propose of one that has a snapshot, are done
copied_seen : (w : ℕ) (was : Option WorkerState) (seen : Seen) → (with_copy seen was).seen ≡ seen
copied_seen w None seen = refl
copied_seen w (Some was) seen = refl

copy_done : (w : ℕ) (did : Did) (old new : WorldState) (before after : List (Event resources)) → w < workers_max → StepOutcome (steps.Copy w) (Ok did) old new before after → Copied w old new × (after ≡ before)
copy_done w dids.Done old new before after below o = o
copy_done w dids.Idle old new before after below o = too_far w below o.0

copy_seen : (w : ℕ) (old new : WorldState) (c : Copied w old new) → HasSeen w c.seen new
copy_seen w old new c = record { worker = with_copy c.seen (worker_at w old.workers); at = changed w _ old.workers new.workers c.change; is = copied_seen w (worker_at w old.workers) c.seen }

-- what a worker that has a snapshot proposes
record IsProposed (w start : ℕ) (seen : Seen) (old new : WorldState) (before after : List (Event resources)) : Type 0 where
  choice : choice_of w new ≡ choice_from (sight_in resources seen) start
  cluster : new.cluster ≡ old.cluster
  events : after ≡ before

propose_done : (w start : ℕ) (seen : Seen) (did : Did) (old new : WorldState) (before after : List (Event resources)) → w < workers_max → HasSeen w seen old → StepOutcome (steps.Propose w start) (Ok did) old new before after → IsProposed w start seen old new before after
propose_done w start seen dids.Done old new before after below h o =
    let both : Some o.0.was ≡ Some h.worker = sym o.0.at ∙ h.at in
    let own : o.0.was ≡ h.worker = cc both in
    record {
      choice = ap choice_in (changed w _ old.workers new.workers o.0.change) ∙ ap (λ (x : WorkerState). choice_from (sight_in resources x.seen) start) own ∙ ap (λ (x : Seen). choice_from (sight_in resources x) start) h.is;
      cluster = o.0.cluster;
      events = o.1;
    }
propose_done w start seen dids.Idle old new before after below h o = elim o.0 [ inl past ↦ too_far w below past | inr none ↦ (let at = h.at in absurd (cc (none, at))) ]

proposed_after : (w start : ℕ) (seen : Seen) (others : List Attempt) (old new : WorldState) (before after : List (Event resources)) → w < workers_max → AllByRecursion (IsNoCopy w) others → HasSeen w seen old → Makes (others ++ performed (steps.Propose w start) ∷ []) old new before after
    → choice_of w new ≡ choice_from (sight_in resources seen) start
proposed_after w start seen [] old new before after below all h made =
    let p = propose_done w start seen made.2.0 old made.0 before made.1 below h made.2.1 in
    ap (choice_of w) made.3.0 ∙ p.choice
proposed_after w start seen (attempt ∷ others) old new before after below all h made =
    proposed_after w start seen others made.0 new made.1 after below all.1 (seen_after w seen attempt old made.0 before made.1 all.0 made.2 h) made.3

pub proposals_of_copies : ProposalsAreOfCopies
proposals_of_copies w start others old new before after below all made =
    let c = copy_done w made.2.0 old made.0 before made.1 below made.2.1 in
    proposed_after w start c.0.seen others made.0 new made.1 after below all (copy_seen w old made.0 c.0) made.3
    ∙ same_choice (sight_in resources c.0.seen) (sight_of old.cluster) c.0.sight start

-- ---- copy, propose and commit

first_admissible : (sight : Sight resources) (nodes : List NodeSight) (p : NodeProposal) → IsFirstChoice sight nodes (Some p) → IsAdmissible sight p
first_admissible sight [] p h = absurd (cc h)
first_admissible sight (node ∷ nodes) p (inl h) = h.1.1
first_admissible sight (node ∷ nodes) p (inr h) = first_admissible sight nodes p h.1

chosen_admissible : (sight : Sight resources) (start : ℕ) (p : NodeProposal) → choice_from sight start ≡ Some p → IsAdmissible sight p
chosen_admissible sight start p e =
    first_admissible sight (ring_from start sight.nodes) p (subst (λ (o : Option NodeProposal). IsFirstChoice sight (ring_from start sight.nodes) o) e (choice_from_is_computed resources sight start))

made_so : (p : NodeProposal) (verdict : Verdict resources) (old new : WorldState) (before after : List (Event resources)) → IsAdmissible (sight_of old.cluster) p → IsVerdict p old.cluster new.cluster verdict → after ≡ before ++ made_by verdict → IsMadeOf (Some p) old new before after
made_so p (verdicts.Done event) old new before after adm is events = (event, is.0, is.1, events)
made_so p (verdicts.Rejected reason) old new before after adm is events = not_rejected p old.cluster reason is.0 adm

commit_done : (w : ℕ) (choice : Option NodeProposal) (did : Did) (old new : WorldState) (before after : List (Event resources)) → w < workers_max → choice_of w old ≡ choice → ((p : NodeProposal) → choice ≡ Some p → IsAdmissible (sight_of old.cluster) p)
    → StepOutcome (steps.Commit w) (Ok did) old new before after → IsMadeOf choice old new before after
commit_done w None dids.Idle old new before after below stands adm o = (ap (λ (x : WorldState). x.cluster) o.1, o.2)
commit_done w None dids.Done old new before after below stands adm o =
    let has : choice_of w old ≡ Some o.proposal = ap choice_in o.at ∙ o.choice in absurd (cc (has, stands))
commit_done w (Some p) dids.Idle old new before after below stands adm o = elim o.0 [ inl past ↦ too_far w below past | inr none ↦ absurd (cc (none, stands)) ]
commit_done w (Some p) dids.Done old new before after below stands adm o =
    let same = same_proposal w old o.was p o.proposal o.at o.choice stands in
    made_so p o.verdict old new before after (adm p refl) (subst (λ (x : NodeProposal). IsVerdict x old.cluster new.cluster o.verdict) (sym same) o.is) o.events

-- the same of a state whose cluster and events are the same
moved_back : (choice : Option NodeProposal) (old mid new : WorldState) (before between after : List (Event resources)) → mid.cluster ≡ old.cluster → between ≡ before → IsMadeOf choice mid new between after → IsMadeOf choice old new before after
moved_back None old mid new before between after c b m = (m.0 ∙ c, m.1 ∙ b)
moved_back (Some p) old mid new before between after c b m =
    (m.0, m.1, subst (λ (x : Flat resources). ClusterStep x m.0 new.cluster) c m.2, m.3 ∙ ap (λ (es : List (Event resources)). es ++ m.0 ∷ []) b)

-- a worker that has copied and proposed now comes to its commit
record HasProposed (w start : ℕ) (commit : Attempt) (old new : WorldState) (before after : List (Event resources)) : Type 0 where
  mid : WorldState
  between : List (Event resources)
  choice : choice_of w mid ≡ choice_from (sight_of old.cluster) start
  cluster : mid.cluster ≡ old.cluster
  events : between ≡ before
  comes : ComesTo commit mid new between after

has_proposed : (w start : ℕ) (commit : Attempt) (old new : WorldState) (before after : List (Event resources)) → w < workers_max → Makes (turn_of w start commit) old new before after → HasProposed w start commit old new before after
has_proposed w start commit old new before after below made =
    let c = copy_done w made.2.0 old made.0 before made.1 below made.2.1 in
    let second = made.3 in
    let p = propose_done w start c.0.seen second.2.0 made.0 second.0 made.1 second.1 below (copy_seen w old made.0 c.0) second.2.1 in
    let third = second.3 in
    record {
      mid = second.0;
      between = second.1;
      choice = p.choice ∙ same_choice (sight_in resources c.0.seen) (sight_of old.cluster) c.0.sight start;
      cluster = p.cluster ∙ c.0.cluster;
      events = p.events ∙ c.1;
      comes = subst (λ (x : WorldState). ComesTo commit second.0 x second.1 after) (sym third.3.0) (subst (λ (es : List (Event resources)). ComesTo commit second.0 third.0 second.1 es) (sym third.3.1) third.2);
    }

made_choice : (w start : ℕ) (old new : WorldState) (before after : List (Event resources)) → w < workers_max → HasProposed w start (performed (steps.Commit w)) old new before after → IsMadeOf (choice_from (sight_of old.cluster) start) old new before after
made_choice w start old new before after below has =
    let adm : (q : NodeProposal) → choice_from (sight_of old.cluster) start ≡ Some q → IsAdmissible (sight_of has.mid.cluster) q = λ q e. subst (λ (x : Flat resources). IsAdmissible (sight_of x) q) (sym has.cluster) (chosen_admissible (sight_of old.cluster) start q e) in
    moved_back (choice_from (sight_of old.cluster) start) old has.mid new before has.between after has.cluster has.events
    (commit_done w (choice_from (sight_of old.cluster) start) has.comes.0 has.mid new has.between after below has.choice adm has.comes.1)

left_choice : (w start : ℕ) (old new : WorldState) (before after : List (Event resources)) → HasProposed w start (starved (steps.Commit w)) old new before after → IsLeftOf w (choice_from (sight_of old.cluster) start) old new before after
left_choice w start old new before after has =
    let o = has.comes.1 in
    let stands : choice_of w new ≡ choice_from (sight_of old.cluster) start = ap (choice_of w) o.1 ∙ has.choice in (
      subst (λ (x : Option NodeProposal). IsSome x) (sym o.0.choice ∙ has.choice) refl,
      stands,
      ap (λ (x : WorldState). x.cluster) o.1 ∙ has.cluster,
      o.2 ∙ has.events,
    )

pub copied_choices : CopiedChoicesAreMade
copied_choices w start old new before after below = (
  λ made. made_choice w start old new before after below (has_proposed w start (performed (steps.Commit w)) old new before after below made),
  λ made. left_choice w start old new before after (has_proposed w start (starved (steps.Commit w)) old new before after below made),
)
