use Rattle.cap_commit.proofs.Fitting.{limits_in_cluster}
use Rattle.cap_masters.proofs.registration.register_master.Goals as goal

pub refusal-requires : goal.refusal-requires
refusal-requires g c = search

pub register-requires : goal.register-requires
register-requires g c = search

pub settings-requires : goal.settings-requires
settings-requires g c = search limits_in_cluster

pub settings-requires-in-None : goal.settings-requires-in-None
settings-requires-in-None g c = search limits_in_cluster
