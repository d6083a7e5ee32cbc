use Rattle.cap_copy.proofs.Fitting.{name_in_seen}
use Rattle.cap_copy.proofs.cap_copy++seen_queue++SeenQueue+Destruct.drop.Goals as goal

pub drop-requires : goal.drop-requires
drop-requires g c = search name_in_seen
