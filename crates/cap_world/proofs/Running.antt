-- Steps made one after the other: their headline, and the attempts of a run.
use Rattle.cap_world.proofs.Prelude.{◌≡◌, ℕ, ◌<◌, ◌+◌, List, [], ◌∷◌, ◌++◌, length, get_or, take, Result, Ok, Err, true, false, is_err, refl, sym, ap, subst, ◌∙◌, arith, append_assoc, append-nil, map-append, take_more, slice_get_past, slice_get-get_or, resources, Event, Flat, Step, Did, NoMemory, calls_by, Known, Adds, WorldState, IsLawful, connection_at, start, StepOutcome, Attempt, performed, starved, all_performed, attempts_of, ComesTo, Makes, MadeStepsHaveTheHeadline, Hearing, unopened, Hears}
use Rattle.cap_world.proofs.Heard.{Agrees, hears_attempt, is_heard}
use Rattle.cap_world.proofs.Lawful.{Goes, outcome_goes}

-- a step in which no allocation failed, and one in which one did
pub went_on : (r : Result Did NoMemory) → false ≡ is_err r → (did : Did) × (r ≡ Ok did)
went_on (Ok did) e = (did, refl)
went_on (Err error) e = absurd (cc e)

pub was_refused : (r : Result Did NoMemory) → true ≡ is_err r → (error : NoMemory) × (r ≡ Err error)
was_refused (Ok did) e = absurd (cc e)
was_refused (Err error) e = (error, refl)

-- the same step by what it answered
as_answered : (step : Step) (r answer : Result Did NoMemory) (old new : WorldState) (before after : List (Event resources)) → r ≡ answer → StepOutcome step r old new before after → StepOutcome step answer old new before after
as_answered step r answer old new before after is outcome = subst (λ (x : Result Did NoMemory). StepOutcome step x old new before after) is outcome

-- ---- the steps one after the other

-- one more step after those that were made
pub makes_more : (first : List Attempt) (attempt : Attempt) (old mid new : WorldState) (before between after : List (Event resources)) → Makes first old mid before between → ComesTo attempt mid new between after → Makes (first ++ attempt ∷ []) old new before after
makes_more [] attempt old mid new before between after made comes =
    (new, after, subst (λ (s : WorldState). ComesTo attempt s new before after) made.0 (subst (λ (es : List (Event resources)). ComesTo attempt mid new es after) made.1 comes), (refl, refl))
makes_more (a ∷ first) attempt old mid new before between after made comes =
    (made.0, made.1, made.2, makes_more first attempt made.0 mid new made.1 between after made.3 comes)

-- one more step that was performed
pub performs_more : (first : List Step) (step : Step) (did : Did) (old mid new : WorldState) (before between after : List (Event resources)) → Makes (all_performed first) old mid before between → StepOutcome step (Ok did) mid new between after → Makes (all_performed (first ++ step ∷ [])) old new before after
performs_more first step did old mid new before between after made outcome =
    rw (map-append (λ (s : Step). performed s) first (step ∷ [])) (makes_more (all_performed first) (performed step) old mid new before between after made (did, outcome))

pub makes_next : (all : List Step) (i : ℕ) (d : Step) (r : Result Did NoMemory) (old mid new : WorldState) (before between after : List (Event resources)) → i < length all → Makes (all_performed (take i all)) old mid before between → false ≡ is_err r → StepOutcome (get_or all i d) r mid new between after → Makes (all_performed (take (i + 1) all)) old new before after
makes_next all i d r old mid new before between after below made fine outcome =
    let went = went_on r fine in
    rw (take_more all i d below) (performs_more (take i all) (get_or all i d) went.0 old mid new before between after made (as_answered (get_or all i d) r (Ok went.0) mid new between after went.1 outcome))

-- the attempts of a run that came to its end, and of one that was cut off
pub made_all : (all : List Step) (i : ℕ) (old new : WorldState) (before after : List (Event resources)) → i ≡ length all → Makes (all_performed (take i all)) old new before after → Makes (attempts_of all (length all)) old new before after
made_all all i old new before after end made =
    rw (slice_get_past all (length all) (omega arith), append-nil (all_performed (take (length all) all))) (subst (λ (n : ℕ). Makes (all_performed (take n all)) old new before after) end made)

pub made_cut : (all : List Step) (i : ℕ) (d : Step) (r : Result Did NoMemory) (old mid new : WorldState) (before between after : List (Event resources)) → i < length all → Makes (all_performed (take i all)) old mid before between → true ≡ is_err r → StepOutcome (get_or all i d) r mid new between after → Makes (attempts_of all i) old new before after
made_cut all i d r old mid new before between after below made failed outcome =
    let refused = was_refused r failed in
    rw (slice_get-get_or all i d below)
    (makes_more (all_performed (take i all)) (starved (get_or all i d)) old mid new before between after made (refused.0, as_answered (get_or all i d) r (Err refused.0) mid new between after refused.1 outcome))

-- ---- the events of a world and those that are lent

pub adds_none : (world : Known) (events : List (Event resources)) → Adds world world events events
adds_none world events = record { opening = refl; more = []; lent = sym (append-nil events); kept = sym (append-nil world.events) }

pub adds_then : (old mid new : Known) (before between after : List (Event resources)) → Adds old mid before between → Adds mid new between after → Adds old new before after
adds_then old mid new before between after first second = record {
  opening = second.opening ∙ first.opening;
  more = first.more ++ second.more;
  lent = second.lent ∙ ap (λ (es : List (Event resources)). es ++ second.more) first.lent ∙ append_assoc before first.more second.more;
  kept = second.kept ∙ ap (λ (es : List (Event resources)). es ++ second.more) first.kept ∙ append_assoc old.events first.more second.more;
}

-- what became of a world that was opened just now, and of events that were none
pub record FromStart (opened : Flat resources) (attempts : List Attempt) (new : Known) (after : List (Event resources)) : Type 0 where
  pub opening : new.opening ≡ opened
  pub events : new.events ≡ after
  pub made : Makes attempts (start opened).sight new.sight [] after

pub from_start : (opening : Flat resources) (attempts : List Attempt) (old new : Known) (before after : List (Event resources)) → old ≡ start opening → before ≡ [] → Adds old new before after → Makes attempts old.sight new.sight before after → FromStart opening attempts new after
from_start opening attempts old new before after opened none adds made =
    let kept : Adds (start opening) new [] after = subst (λ (w : Known). Adds w new [] after) opened (subst (λ (es : List (Event resources)). Adds old new es after) none adds) in
    record {
      opening = kept.opening;
      events = kept.kept ∙ sym kept.lent;
      made = subst (λ (w : Known). Makes attempts w.sight new.sight [] after) opened (subst (λ (es : List (Event resources)). Makes attempts old.sight new.sight es after) none made);
    }

-- ---- steps that were made have the headline

attempt_goes : (attempt : Attempt) (old new : WorldState) (before after : List (Event resources)) → ComesTo attempt old new before after → Goes old new before after
attempt_goes (performed step) old new before after comes = outcome_goes step (Ok comes.0) old new before after comes.1
attempt_goes (starved step) old new before after comes = outcome_goes step (Err comes.0) old new before after comes.1

lawful_made : (opening : Flat resources) (attempts : List Attempt) (old new : WorldState) (before after : List (Event resources)) → Makes attempts old new before after → IsLawful opening before old → IsLawful opening after new
lawful_made opening [] old new before after made lawful =
    subst (λ (s : WorldState). IsLawful opening after s) (sym made.0) (subst (λ (es : List (Event resources)). IsLawful opening es old) (sym made.1) lawful)
lawful_made opening (attempt ∷ attempts) old new before after made lawful =
    let goes = attempt_goes attempt old made.0 before made.1 made.2 in
    lawful_made opening attempts made.0 new made.1 after made.3 (subst (λ (es : List (Event resources)). IsLawful opening es made.0) (sym goes.1) (goes.2 opening before lawful))

heard_made : (c : ℕ) (attempts : List Attempt) (old new : WorldState) (before after : List (Event resources)) (heard : Hearing) → Makes attempts old new before after → Agrees heard (connection_at c old.connections) → (last : Hearing) × Hears c attempts heard last × Agrees last (connection_at c new.connections)
heard_made c [] old new before after heard made a = (heard, refl, subst (λ (s : WorldState). Agrees heard (connection_at c s.connections)) (sym made.0) a)
heard_made c (attempt ∷ attempts) old new before after heard made a =
    let next = hears_attempt c attempt old made.0 before made.1 heard made.2 a in
    let last = heard_made c attempts made.0 new made.1 after next.0 made.3 next.2 in
    (last.0, (next.0, next.1, last.1), last.2)

pub made_steps_have_the_headline : MadeStepsHaveTheHeadline
made_steps_have_the_headline opening attempts sight events made =
    let law = lawful_made opening attempts (start opening).sight sight [] events made (record { run = refl; each = λ c. refl }) in
    record {
      run = law.run;
      each = λ c.
          let was = heard_made c attempts (start opening).sight sight [] events unopened made tt in
          (was.0, was.1, is_heard was.0 (calls_by c events) (connection_at c sight.connections) was.2 (law.each c));
    }
