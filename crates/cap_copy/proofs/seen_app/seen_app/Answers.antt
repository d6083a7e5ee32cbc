use Rattle.cap_copy.proofs.Prelude.{arith}
use Rattle.cap_copy.proofs.seen_app.seen_app.Goals as goal

pub user_use-requires : goal.user_use-requires
user_use-requires g c =
    let few = c.requires.resources in
    (c.requires.source.tree, (omega arith, (omega (arith, few), rw c.position-4.ensures c.requires.position)))
