use Rattle.cap_tree.proofs.change.RunningTestQueue.passes.Goals as goal

pub is_running-requires : goal.is_running-requires
is_running-requires g c = search
