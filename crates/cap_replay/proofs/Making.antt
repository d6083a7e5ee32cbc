-- Steps that a world makes one after the other.
use Rattle.cap_replay.proofs.Prelude.{◌≡◌, ℕ, List, [], ◌∷◌, ◌++◌, Ok, Err, Result, refl, sym, ap, subst, ◌∙◌, IfOk, OnOk, append_cancel_left, All, All-head, All-tail, resources, Event, Flat, as_events, Connection, Feeds, Step, Did, WorldState, Known, Adds, StepOutcome, Tried, made_by, IsOpeningLine, Simulation, Stop, BringSteps, at_start, passed, brought, IsStepOf, Advances, Brings}
use Rattle.std.proofs.Common.{append-nil}
use denote.Ref.{Bor}
use Rattle.cap_world.specs.declared.step.Step.TheVariants as steps
use Rattle.cap_world.specs.declared.step.Did.TheVariants as dids

nothing_more : (before after more : List (Event resources)) → after ≡ before ++ more → after ≡ before → more ≡ []
nothing_more before after more grows same = append_cancel_left before more [] (sym grows ∙ same ∙ sym (append-nil before))

same_events : (before after more base : List (Event resources)) → after ≡ before ++ more → after ≡ before → base ++ more ≡ base
same_events before after more base grows same = ap (λ (es : List (Event resources)). base ++ es) (nothing_more before after more grows same) ∙ append-nil base

feeds_from : (c : ℕ) (piece : List ℕ) (from to : Flat resources) (before after more base : List (Event resources)) (was is : Connection) → after ≡ before ++ more → Feeds c piece from to before after was is → Feeds c piece from to base (base ++ more) was is
feeds_from c piece from to before after more base was is grows feeds = record {
  more = feeds.more;
  last = feeds.last;
  fits = feeds.fits;
  taken = feeds.taken;
  serves = record {
    calls = feeds.serves.calls;
    continues = feeds.serves.continues;
    events = ap (λ (es : List (Event resources)). base ++ es) (append_cancel_left before more (as_events c feeds.serves.calls) (sym grows ∙ feeds.serves.events));
    run = feeds.serves.run;
  };
  stands = feeds.stands;
  session = feeds.session;
  sent = feeds.sent;
}

tried_from : (w : ℕ) (old new : WorldState) (before after more base : List (Event resources)) → after ≡ before ++ more → Tried w old new before after → Tried w old new base (base ++ more)
tried_from w old new before after more base grows tried = record {
  below = tried.below;
  was = tried.was;
  at = tried.at;
  proposal = tried.proposal;
  choice = tried.choice;
  verdict = tried.verdict;
  is = tried.is;
  change = tried.change;
  connections = tried.connections;
  events = ap (λ (es : List (Event resources)). base ++ es) (append_cancel_left before more (made_by tried.verdict) (sym grows ∙ tried.events));
}

-- the same step, after other events
outcome_from : (step : Step) (did : Did) (old new : WorldState) (before after more base : List (Event resources)) → after ≡ before ++ more → StepOutcome step (Ok did) old new before after → StepOutcome step (Ok did) old new base (base ++ more)
outcome_from step dids.Idle old new before after more base grows o = (o.0, o.1, same_events before after more base grows o.2)
outcome_from (steps.Open c) dids.Done old new before after more base grows o = (o.0, o.1, o.2, o.3, same_events before after more base grows o.4)
outcome_from (steps.End c) dids.Done old new before after more base grows o = (o.0, o.1, o.2, same_events before after more base grows o.3)
outcome_from (steps.Bytes c piece) dids.Done old new before after more base grows o =
    let fed = o.2 in
    (o.0, o.1, (fed.0, fed.1, fed.2, fed.3, fed.4, feeds_from c piece.now old.cluster new.cluster before after more base fed.0 fed.1 grows fed.5, fed.6), o.3)
outcome_from (steps.Copy w) dids.Done old new before after more base grows o = (o.0, same_events before after more base grows o.1)
outcome_from (steps.Propose w start) dids.Done old new before after more base grows o = (o.0, same_events before after more base grows o.1)
outcome_from (steps.Commit w) dids.Done old new before after more base grows o = tried_from w old new before after more base grows o

-- a step by the events that the world keeps
pub outcome_kept : (step : Step) (did : Did) (old new : Known) (before after : List (Event resources)) → Adds old new before after → StepOutcome step (Ok did) old.sight new.sight before after → StepOutcome step (Ok did) old.sight new.sight old.events new.events
outcome_kept step did old new before after adds o =
    subst (λ (es : List (Event resources)). StepOutcome step (Ok did) old.sight new.sight old.events es) (sym adds.kept) (outcome_from step did old.sight new.sight before after adds.more old.events adds.lent o)

-- opening lines bring no step
pub bring_none : (done : List (List ℕ)) → All IsOpeningLine done → BringSteps done []
bring_none [] all = at_start
bring_none (line ∷ done) all = passed (All-head IsOpeningLine line done all) (bring_none done (All-tail IsOpeningLine line done all))

-- one more opening line
pub bring_no_more : {done : List (List ℕ)} {made : List Step} → (line : List ℕ) → IsOpeningLine line → BringSteps done made → BringSteps (done ++ line ∷ []) made
bring_no_more line is at_start = passed is at_start
bring_no_more line is (passed opens later) = passed opens (bring_no_more line is later)
bring_no_more line is (brought asked later) = brought asked (bring_no_more line is later)

-- one more step line
pub bring_more : {done : List (List ℕ)} {made : List Step} → (line : List ℕ) (step : Step) → IsStepOf line step → BringSteps done made → BringSteps (done ++ line ∷ []) (made ++ step ∷ [])
bring_more line step is at_start = brought is at_start
bring_more line step is (passed opens later) = passed opens (bring_more line step is later)
bring_more line step is (brought asked later) = brought asked (bring_more line step is later)

-- a piece that was brought
pub brings : (r : Result Did Stop) (n : ℕ) (piece : Bor (List ℕ)) (old new : Simulation) → IfOk r (λ did. Advances (steps.Bytes n piece) did old new) → OnOk r (Brings n piece.now old new)
brings (Ok did) n piece old new advances = λ digits some writes. record { step = steps.Bytes n piece; did = did; asked = (refl, some, writes); advances = advances }
brings (Err stop) n piece old new advances = tt
