use Rattle.cap_commit.proofs.Prelude.{None, Some, arith, Maximum, User}
use Rattle.cap_commit.proofs.Limiting.{at_leaf, limit_is}
use Rattle.cap_commit.proofs.Sizes.{tree_fits}
use Rattle.cap_commit.proofs.Fitting.{in_cluster}
use Rattle.cap_commit.proofs.cluster.Cluster.limit_reason.Goals as goal

pub accept-requires : goal.accept-requires
accept-requires g c =
    let at = at_leaf _ c.self.invariant.consistent c.args.proposal.now c.args.app.now (rw (← c.self.view_is) at c.requires.app) (rw (← c.self.view_is) at c.requires.account) in
    let kinds = c.self.invariant.consistent.resources in
    (tree_fits _ c.self.invariant.consistent.resources, (omega arith, (omega (arith, kinds), rw (c.deref-tree.ensures, c.position.ensures) (at.present))))

pub returns-in-Ok : goal.returns-in-Ok
returns-in-Ok g c =
    let given = rw (← c.self.view_is) at c.requires in
    rw (← c.self.view_is)
    (limit_is _ c.self.invariant.consistent c.args.proposal.now c.args.app.now given.app given.account None given.seen c.position.ensures c.user.ensures given.old c.resource.ensures.value c.deref-tree.ensures c.in-Ok.ensures.rows c.in-Ok.ensures.ok)

pub returns-in-Err-Maximum : goal.returns-in-Err-Maximum
returns-in-Err-Maximum g c =
    let given = rw (← c.self.view_is) at c.requires in
    let over = rw c.in-Err-Maximum.field-0-is at c.in-Err-Maximum.ensures.err in
    rw (← c.self.view_is)
    (limit_is _ c.self.invariant.consistent c.args.proposal.now c.args.app.now given.app given.account (Some (Maximum c.in-Err-Maximum.level)) given.seen c.position.ensures c.user.ensures given.old c.resource.ensures.value c.deref-tree.ensures c.in-Err-Maximum.ensures.rows over)

pub returns-in-Err-User : goal.returns-in-Err-User
returns-in-Err-User g c =
    let given = rw (← c.self.view_is) at c.requires in
    let over = rw c.in-Err-User.field-0-is at c.in-Err-User.ensures.err in
    rw (← c.self.view_is)
    (limit_is _ c.self.invariant.consistent c.args.proposal.now c.args.app.now given.app given.account (Some User) given.seen c.position.ensures c.user.ensures given.old c.resource.ensures.value c.deref-tree.ensures c.in-Err-User.ensures.rows over)

pub resource-requires : goal.resource-requires
resource-requires g c = search in_cluster
