use Rattle.cap_shared.proofs.Pasts.{leads_to_states}
use Rattle.cap_shared.proofs.laws.journals_lead_to_states.Goals as goal

pub returns : goal.returns
returns c = leads_to_states
