-- Worlds in which nobody speaks of the third resource.
use Rattle.cap_narrow_worlds.proofs.Prelude.{ℕ, List, subst, sym, ap, ◌∙◌, option_map, sight_of, choice_from, Call, calls_by, is_open, output_of, IsHeard, made_steps_have_the_headline, ProposalsAreOfCopies, narrow_proposal, sights_narrow, sights_show_none, choices_narrow, runs_narrow, TwoResourcesAreKept, ProposalsAreOfTwoResources}
use Rattle.cap_narrow_worlds.proofs.Calls.{calls_narrow, events_ask_none}
use Rattle.cap_narrow_worlds.proofs.Answered.{heard_narrow}

pub two_resources_are_kept : TwoResourcesAreKept
two_resources_are_kept opening attempts events closing output is_open none hear raise headline =
    let narrowed = λ (c : ℕ).
    let h = headline.each c in
    heard_narrow h.0 (calls_by c events) (output c) (is_open c) (hear c h.0 h.1) h.2 in
    let run = runs_narrow 2 events opening closing none (events_ask_none events (λ c. (narrowed c).1) raise) headline.run in (
      record {
        run = run.0;
        each = λ c.
            let h = headline.each c in
            (h.0, h.1, subst (λ (calls : List (Call 2)). IsHeard h.0 calls (output c) (is_open c)) (sym (calls_narrow c events)) (narrowed c).0);
      },
      run.1,
    )

pub proposals_are_of_two_resources : ProposalsAreOfCopies → ProposalsAreOfTwoResources
proposals_are_of_two_resources of_copies opening earlier others w start old new events before after none hear raise few no_copy made copied =
    let headline = made_steps_have_the_headline opening earlier old events made in
    let none' = (two_resources_are_kept opening earlier events old.cluster (λ c. output_of c old) (λ c. is_open c old) none hear raise headline).1 in
    ap (option_map (narrow_proposal 2)) (of_copies w start others old new before after few no_copy copied)
    ∙ sym (ap (λ sight. choice_from sight start) (sights_narrow 2 old.cluster) ∙ choices_narrow 2 (sight_of old.cluster) start (sights_show_none 2 old.cluster none'))
