-- Each step keeps what is said of a world and its past.
use Rattle.cap_world.proofs.Prelude.{◌≡◌, ℕ, false, List, [], ◌∷◌, ◌++◌, Some, Result, Ok, Err, refl, sym, ap, subst, ◌∙◌, append-nil, inl, inr, ◌==◌, cases_Bool, eqb-true, eq-eqb, filter_map-append, All-nil, resources, Event, Verdict, NodeProposal, Flat, IsOf, IsVerdict, rest, IsStream, IsPayload, IsBytes, written_is_read, Standing, Step, Did, NoMemory, nothing, Call, call_by, calls_by, as_events, Connection, new_connection, AnswersAs, HasAnswers, Feeds, WorldState, connection_at, Changes, HasAnswersAt, IsLawful, made_by, Fed, StepOutcome}
use Rattle.cap_model.specs.declared.proposal.Verdict.TheVariants as verdicts
use Rattle.cap_world.specs.declared.connection.Standing.TheVariants as standings
use Rattle.cap_world.specs.declared.step.Step.TheVariants as steps
use Rattle.cap_world.specs.declared.step.Did.TheVariants as dids
use Rattle.cap_world.proofs.ServedRequests.{run_more, answered_more}

-- Whatever run has led to old, with what a step adds leads to new.
abbrev pub Goes : WorldState → WorldState → List (Event resources) → List (Event resources) → Type 0
Goes old new before after = (more : List (Event resources)) × (after ≡ before ++ more) × ((opening : Flat resources) (events : List (Event resources)) → IsLawful opening events old → IsLawful opening (events ++ more) new)

-- ---- what a connection sees of more events

pub own_calls : (c : ℕ) (calls : List (Call resources)) → calls_by c (as_events c calls) ≡ calls
own_calls c [] = refl
own_calls c (x ∷ xs) = rw (eq-eqb c c refl) (ap (λ (ys : List (Call resources)). x ∷ ys) (own_calls c xs))

pub other_calls : (c d : ℕ) (calls : List (Call resources)) → (c == d) ≡ false → calls_by d (as_events c calls) ≡ []
other_calls c d [] e = refl
other_calls c d (x ∷ xs) e = rw e (other_calls c d xs e)

pub calls_more : (c : ℕ) (events more : List (Event resources)) → calls_by c (events ++ more) ≡ calls_by c events ++ calls_by c more
calls_more c events more = filter_map-append (call_by c) events more

-- ---- steps that add nothing

keeps : (old new : WorldState) → new.cluster ≡ old.cluster
    → ((c : ℕ) (calls : List (Call resources)) → HasAnswersAt calls (connection_at c old.connections) → HasAnswersAt calls (connection_at c new.connections))
    → (opening : Flat resources) (events : List (Event resources)) → IsLawful opening events old → IsLawful opening (events ++ []) new
keeps old new e each opening events w = record {
  run = rw (append-nil events, e) w.run;
  each = λ c. rw (append-nil events) (each c (calls_by c events) (w.each c));
}

-- no connection changes
same_connections : (old new : WorldState) → new.connections ≡ old.connections → (c : ℕ) (calls : List (Call resources)) → HasAnswersAt calls (connection_at c old.connections) → HasAnswersAt calls (connection_at c new.connections)
same_connections old new e c calls a = subst (λ (x : List (ℕ × Connection)). HasAnswersAt calls (connection_at c x)) (sym e) a

-- one connection changes, so that what was answered stays so
keeps_one : (c : ℕ) (old new : List (ℕ × Connection)) (is : Connection) → Changes c is old new
    → ((calls : List (Call resources)) → HasAnswersAt calls (connection_at c old) → HasAnswers calls is)
    → (d : ℕ) (calls : List (Call resources)) → HasAnswersAt calls (connection_at d old) → HasAnswersAt calls (connection_at d new)
keeps_one c old new is change one d calls a =
    elim (cases_Bool (c == d)) [
      | inl t ↦
          let same : c ≡ d = eqb-true c d t in
          rw (change d, t) (one calls (rw same a))
      | inr f ↦ rw (change d, f) a
    ]

opens : (calls : List (Call resources)) → calls ≡ [] → HasAnswers calls new_connection
opens calls e =
    let empty : IsStream [] [] (rest []) = written_is_read [] (All-nil IsPayload) (All-nil IsBytes) in
    record { made = sym e; answers = ([], ([], empty, ([], rw e nothing, refl))) }

ends_so : (was : Connection) → was.standing ≡ standings.Open → (calls : List (Call resources)) → HasAnswers calls was → HasAnswers calls (record was { standing = standings.Ended })
ends_so was live calls has = record { made = has.made; answers = subst (λ (s : Standing). AnswersAs s was.session.fed calls was.session.unsent) live has.answers }

-- ---- bytes

fed_own : (c : ℕ) (piece : List ℕ) (old new : List (ℕ × Connection)) (from to : Flat resources) (before after : List (Event resources)) (was is : Connection) → connection_at c old ≡ Some was → was.standing ≡ standings.Open → Changes c is old new → (f : Feeds c piece from to before after was is)
    → (calls : List (Call resources)) → HasAnswersAt calls (connection_at c old) → HasAnswersAt (calls ++ f.serves.calls) (connection_at c new)
fed_own c piece old new from to before after was is at live change f calls a =
    rw (change c, eq-eqb c c refl) (answered_more c piece calls from to before after was is (rw at at a) f)

fed_goes : (c : ℕ) (piece : List ℕ) (old new : WorldState) (before after : List (Event resources)) (was is : Connection) → connection_at c old.connections ≡ Some was → was.standing ≡ standings.Open → Changes c is old.connections new.connections → (f : Feeds c piece old.cluster new.cluster before after was is)
    → (opening : Flat resources) (events : List (Event resources)) → IsLawful opening events old → IsLawful opening (events ++ as_events c f.serves.calls) new
fed_goes c piece old new before after was is at live change f opening events w = record {
  run = run_more events (as_events c f.serves.calls) opening old.cluster new.cluster w.run f.serves.run;
  each = λ d. elim (cases_Bool (c == d)) [
    | inl t ↦
        let same : c ≡ d = eqb-true c d t in
        let P : ℕ → Type 0 = λ k. HasAnswersAt (calls_by k (events ++ as_events c f.serves.calls)) (connection_at k new.connections) in
        subst P same (rw (calls_more c events (as_events c f.serves.calls), own_calls c f.serves.calls) (fed_own c piece old.connections new.connections old.cluster new.cluster before after was is at live change f (calls_by c events) (w.each c)))
    | inr n ↦
        rw (calls_more d events (as_events c f.serves.calls), other_calls c d f.serves.calls n, change d, n, append-nil (calls_by d events)) (w.each d)
  ];
}

-- ---- a proposal that was tried

made_no_call : (c : ℕ) (p : NodeProposal) (event : Event resources) → IsOf p event → calls_by c (event ∷ []) ≡ []
made_no_call c p (Event.Call by request reply) is = absurd is
made_no_call c p (Event.Grant container) is = refl
made_no_call c p (Event.Reserve reservation) is = refl

tried_goes : (p : NodeProposal) (verdict : Verdict resources) (old new : WorldState) → IsVerdict p old.cluster new.cluster verdict → new.connections ≡ old.connections
    → (opening : Flat resources) (events : List (Event resources)) → IsLawful opening events old → IsLawful opening (events ++ made_by verdict) new
tried_goes p (verdicts.Done event) old new is same opening events w = record {
  run = run_more events (event ∷ []) opening old.cluster new.cluster w.run (new.cluster, is.1, refl);
  each = λ c. rw (calls_more c events (event ∷ []), made_no_call c p event is.0, append-nil (calls_by c events)) (same_connections old new same c (calls_by c events) (w.each c));
}
tried_goes p (verdicts.Rejected reason) old new is same opening events w = keeps old new is.1 (same_connections old new same) opening events w

-- ---- any step

quiet : (old new : WorldState) (before after : List (Event resources)) → after ≡ before → ((opening : Flat resources) (events : List (Event resources)) → IsLawful opening events old → IsLawful opening (events ++ []) new) → Goes old new before after
quiet old new before after e keep = ([], e ∙ sym (append-nil before), keep)

same_goes : (old new : WorldState) (before after : List (Event resources)) → after ≡ before → new ≡ old → Goes old new before after
same_goes old new before after e s =
    quiet old new before after e (keeps old new (ap (λ (x : WorldState). x.cluster) s) (λ c calls a. subst (λ (x : WorldState). HasAnswersAt calls (connection_at c x.connections)) (sym s) a))

fed_at_goes : (c : ℕ) (piece : List ℕ) (standing : Standing) (old new : WorldState) (before after : List (Event resources)) → Fed c piece standing old.connections new.connections old.cluster new.cluster before after → Goes old new before after
fed_at_goes c piece standing old new before after x =
    let f = x.5 in
    (as_events c f.serves.calls, f.serves.events, fed_goes c piece old new before after x.0 x.1 x.2 x.3 x.4 f)

pub outcome_goes : (step : Step) (result : Result Did NoMemory) (old new : WorldState) (before after : List (Event resources)) → StepOutcome step result old new before after → Goes old new before after
outcome_goes (steps.Open c) (Ok dids.Done) old new before after o =
    quiet old new before after o.4 (keeps old new o.2 (keeps_one c old.connections new.connections new_connection o.1 (λ calls a. opens calls (rw o.0 at a))))
outcome_goes (steps.End c) (Ok dids.Done) old new before after o =
    let ended = o.0 in
    quiet old new before after o.3 (keeps old new o.1 (keeps_one c old.connections new.connections (record ended.0 { standing = standings.Ended }) ended.3 (λ calls a. ends_so ended.0 ended.2 calls (rw ended.1 at a))))
outcome_goes (steps.Bytes c piece) (Ok dids.Done) old new before after o = fed_at_goes c piece.now o.0 old new before after o.2
outcome_goes (steps.Open c) (Ok dids.Idle) old new before after o = same_goes old new before after o.2 o.1
outcome_goes (steps.End c) (Ok dids.Idle) old new before after o = same_goes old new before after o.2 o.1
outcome_goes (steps.Bytes c piece) (Ok dids.Idle) old new before after o = same_goes old new before after o.2 o.1
outcome_goes (steps.Open c) (Err e) old new before after o = same_goes old new before after o.2 o.1
outcome_goes (steps.End c) (Err e) old new before after o = absurd o
outcome_goes (steps.Bytes c piece) (Err e) old new before after o = fed_at_goes c piece.now standings.Starved old new before after o.0
outcome_goes (steps.Copy w) (Ok dids.Done) old new before after o = quiet old new before after o.1 (keeps old new o.0.cluster (same_connections old new o.0.connections))
outcome_goes (steps.Propose w start) (Ok dids.Done) old new before after o = quiet old new before after o.1 (keeps old new o.0.cluster (same_connections old new o.0.connections))
outcome_goes (steps.Commit w) (Ok dids.Done) old new before after o = (made_by o.verdict, o.events, tried_goes o.proposal o.verdict old new o.is o.connections)
outcome_goes (steps.Copy w) (Ok dids.Idle) old new before after o = same_goes old new before after o.2 o.1
outcome_goes (steps.Propose w start) (Ok dids.Idle) old new before after o = same_goes old new before after o.2 o.1
outcome_goes (steps.Commit w) (Ok dids.Idle) old new before after o = same_goes old new before after o.2 o.1
outcome_goes (steps.Copy w) (Err e) old new before after o = same_goes old new before after o.2 o.1
outcome_goes (steps.Propose w start) (Err e) old new before after o = absurd o
outcome_goes (steps.Commit w) (Err e) old new before after o = same_goes old new before after o.2 o.1
