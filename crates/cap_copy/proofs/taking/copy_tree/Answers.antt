use Rattle.cap_copy.proofs.taking.copy_tree.Goals as goal

pub copy_in-requires : goal.copy_in-requires
copy_in-requires g c = search
