use Rattle.cap_copy.proofs.Fitting.{amounts_in_seen}
use Rattle.cap_copy.proofs.seen_queue.InMaximumTestSeenQueue.passes.Goals as goal

pub fits_in_maximum-requires : goal.fits_in_maximum-requires
fits_in_maximum-requires g c = search amounts_in_seen
