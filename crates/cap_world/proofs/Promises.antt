-- The run of a world stays within bounds, and each thing happens once in it.
use Rattle.cap_world.proofs.Prelude.{List, subst, resources, Event, Flat, Run, IsBounded, Settings, IsListing, opened_cluster, states_of_runs, granted_once, ended_once, live_is_what_was_not_ended, grants_are_told_over_runs, ends_are_told_over_runs, opened_is_bounded, StaysBounded, HappensOnce, KeepsPromises}
use Rattle.cap_world.proofs.Running.{made_steps_have_the_headline}

pub stays_bounded : (opening : Flat resources) (events : List (Event resources)) (closing : Flat resources) → Run opening events closing → IsBounded opening → StaysBounded opening events closing
stays_bounded opening events closing run bounded first rest is =
    let r = states_of_runs resources first rest opening closing bounded (subst (λ (es : List (Event resources)). Run opening es closing) is run) in
    (r.0, r.1, r.2, r.3, r.4)

pub happens_once : (opening : Flat resources) (events : List (Event resources)) (closing : Flat resources) → Run opening events closing → IsBounded opening → HappensOnce opening events closing
happens_once opening events closing run bounded = record {
  containers = record {
    granted = granted_once resources events opening closing run;
    ended = ended_once resources events opening closing bounded.numbers run;
    kept = live_is_what_was_not_ended resources events opening closing bounded.numbers run;
  };
  news = record {
    grants = λ n. grants_are_told_over_runs resources events opening closing n bounded.formed.apps run;
    ends = λ n. ends_are_told_over_runs resources events opening closing n bounded.formed run;
  };
}

-- from the cluster that settings open
pub keeps_promises : (settings : Settings) → IsListing settings.queues → KeepsPromises (opened_cluster settings)
keeps_promises settings listing attempts sight events made =
    let headline = made_steps_have_the_headline (opened_cluster settings) attempts sight events made in
    let bounded = opened_is_bounded resources settings listing in
    (headline, stays_bounded (opened_cluster settings) events sight.cluster headline.run bounded, happens_once (opened_cluster settings) events sight.cluster headline.run bounded)
