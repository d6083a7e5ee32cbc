use Rattle.cap_commit.proofs.Fitting.{apps_fit}
use Rattle.cap_masters.proofs.registration.refusal.Goals as goal

pub apps-requires : goal.apps-requires
apps-requires g c = search apps_fit
