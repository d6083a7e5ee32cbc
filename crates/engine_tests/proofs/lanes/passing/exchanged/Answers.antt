use Rattle.std.proofs.Common.{◌∙◌, sym, subst}
use Rattle.cap_lanes.specs.Sides.{LanesId, AllOf}
use Rattle.engine_tests.proofs.Ending.{all_of_same, eight_of}
use Rattle.engine_tests.proofs.lanes.passing.exchanged.Goals as goal

pub close-closed-requires : goal.close-closed-requires
close-closed-requires g c =
    let z = c.in_ok-committer.committer.lanes in
    let b = rw c.in_ok-ended.was at c.join-committer.ensures.second in
    let j = c.in-Ok.ensures.items ∙ c.in_ok-committer.ensures.workers in
    let of : AllOf z c.in_ok-ended.ended.items = all_of_same z _ _ (subst (AllOf z) (sym j) (eight_of z)) b in
    subst (λ (y : LanesId). AllOf y c.in-Ok-try_from.ended) (sym c.join-committer.ensures.first) (subst (AllOf z) (sym c.in-Ok-try_from.ensures.0) of)
