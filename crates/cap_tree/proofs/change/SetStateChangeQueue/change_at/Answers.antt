use Rattle.cap_tree.proofs.change.SetStateChangeQueue.change_at.Goals as goal

pub set_running-requires : goal.set_running-requires
set_running-requires g c = search
