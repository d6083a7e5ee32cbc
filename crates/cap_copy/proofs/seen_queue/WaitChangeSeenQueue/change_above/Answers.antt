use Rattle.cap_copy.proofs.seen_queue.WaitChangeSeenQueue.change_above.Goals as goal

pub mark_above-requires : goal.mark_above-requires
mark_above-requires g c = search
