use Rattle.cap_tree.proofs.Sizes.{amounts_in_queue}
use Rattle.cap_tree.proofs.over_limit.InMaximumTestQueue.passes.Goals as goal

pub stays_in_maximum-requires : goal.stays_in_maximum-requires
stays_in_maximum-requires g c = search amounts_in_queue
