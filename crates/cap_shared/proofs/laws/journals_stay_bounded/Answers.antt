use Rattle.cap_shared.proofs.Prelude.{List, subst, sym, map-append, resources, opened_cluster, Event, Run, LimitsAreMetOrNotRisen, opened_is_bounded, states_of_runs, Entry, events_in, JournalsStayBounded}
use Rattle.cap_shared.proofs.laws.journals_stay_bounded.Goals as goal

bounded_journals : JournalsStayBounded
bounded_journals = λ opening closing first rest bounded run.
    let parts = map-append (λ (e : Entry). e.event) first rest in
    let r = states_of_runs resources (events_in first) (events_in rest) opening closing bounded (subst (λ (events : List (Event resources)). Run opening events closing) parts run) in
    (r.0, r.1, r.2, r.3, r.4, r.5, subst (λ (events : List (Event resources)). LimitsAreMetOrNotRisen opening events closing) (sym parts) r.6)

pub returns-clause-further : goal.returns-clause-further
returns-clause-further c = bounded_journals

pub returns-clause-first : goal.returns-clause-first
returns-clause-first c = λ settings closing first rest listed. bounded_journals (opened_cluster settings) closing first rest (opened_is_bounded resources settings listed)
