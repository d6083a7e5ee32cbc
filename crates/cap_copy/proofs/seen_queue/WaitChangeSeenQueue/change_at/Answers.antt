use Rattle.cap_copy.proofs.seen_queue.WaitChangeSeenQueue.change_at.Goals as goal

pub mark_at-requires : goal.mark_at-requires
mark_at-requires g c = search
