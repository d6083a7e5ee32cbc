use Rattle.cap_copy.proofs.Fitting.{name_in_seen}
use Rattle.cap_copy.proofs.seen_queue.SeenQueue.cmp_name.Goals as goal

pub as_slice-requires : goal.as_slice-requires
as_slice-requires g c = search name_in_seen

pub as_slice-requires-2 : goal.as_slice-requires-2
as_slice-requires-2 g c = search name_in_seen
