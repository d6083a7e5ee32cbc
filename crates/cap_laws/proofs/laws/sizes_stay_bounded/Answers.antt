use Rattle.cap_laws.proofs.bounds.Sizes.{sizes_stay, runs_stay_within_sizes, opened_is_within_sizes}
use Rattle.cap_laws.proofs.laws.sizes_stay_bounded.Goals as goal

pub returns-clause-opened : goal.returns-clause-opened
returns-clause-opened c = opened_is_within_sizes

pub returns-clause-steps : goal.returns-clause-steps
returns-clause-steps c = sizes_stay

pub returns-clause-runs : goal.returns-clause-runs
returns-clause-runs c = runs_stay_within_sizes
