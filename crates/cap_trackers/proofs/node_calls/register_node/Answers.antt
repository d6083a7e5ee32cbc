use Rattle.cap_trackers.proofs.node_calls.register_node.Goals as goal

pub refusal-requires : goal.refusal-requires
refusal-requires g c = search
