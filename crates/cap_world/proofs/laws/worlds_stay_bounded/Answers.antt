use Rattle.cap_world.proofs.Prelude.{resources, opened_is_bounded, opened_meets_limits, settings_listed}
use Rattle.cap_world.proofs.Promises.{stays_bounded}
use Rattle.cap_world.proofs.laws.worlds_stay_bounded.Goals as goal

pub returns-clause-runs : goal.returns-clause-runs
returns-clause-runs c = λ opening attempts events closing output is_open bounded headline. stays_bounded opening events closing headline.run bounded

pub returns-clause-opening : goal.returns-clause-opening
returns-clause-opening c = λ text settings is. (opened_is_bounded resources settings (settings_listed text settings is), opened_meets_limits resources settings)
