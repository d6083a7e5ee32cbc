use Rattle.cap_masters.proofs.submission.submit.Goals as goal

pub admit-requires : goal.admit-requires
admit-requires g c = search
