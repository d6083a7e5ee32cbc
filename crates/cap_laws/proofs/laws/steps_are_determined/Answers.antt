use Rattle.cap_laws.proofs.numbers.Balance.{step_is_determined, run_leads_to_one_state}
use Rattle.cap_laws.proofs.laws.steps_are_determined.Goals as goal

pub returns-clause-step : goal.returns-clause-step
returns-clause-step c = step_is_determined

pub returns-clause-run : goal.returns-clause-run
returns-clause-run c = run_leads_to_one_state
