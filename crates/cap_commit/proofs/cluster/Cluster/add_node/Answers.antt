use Rattle.cap_commit.proofs.Prelude.{◌≡◌, [], false, List, ap, subst, NodeTable, Want, AreOutOfReach, FollowsWaiting, may_join, flat_of, of_each, reserved_joined}
use Rattle.cap_nodes.specs.Tables.{could_take}
use Rattle.cap_commit.proofs.Fitting.{amounts_in_cluster, apps_fit, nodes_in_cluster}
use Rattle.cap_commit.proofs.Followed.{follows_all, follows_nodes, follows_same_table, follows_some}
use Rattle.cap_commit.proofs.Sizes.{tree_fits}
use Rattle.cap_commit.proofs.Holding.{held_nodes, held_same}
use Rattle.cap_commit.proofs.Reach.{node_came}
use Rattle.cap_commit.proofs.cluster.Cluster.add_node.Goals as goal

-- where there is no node, nothing is in reach
nothing_left : (wants : List Want) → AreOutOfReach [] wants
nothing_left wants want m = of_each (λ node. could_take want.place want.resource node ≡ false) [] (λ x never. absurd never)

pub register-requires : goal.register-requires
register-requires g c =
    let x = c.self.inside in
    let may = may_join (flat_of (record { rows = x.tree.value; limits = x.limits; apps = x.apps; nodes = x.nodes })) c.args.host.now c.args.total.now (rw (← c.self.view_is) at c.requires) in
    (search nodes_in_cluster, (search amounts_in_cluster, (may.few, (may.numbered, may.within))))

pub wake-self-inside-requires : goal.wake-self-inside-requires
wake-self-inside-requires g c =
    let x = c.self.inside in
    let some = follows_some [] x.apps.table.active x.tree.value (follows_nodes x.nodes.present [] x.apps.table.active x.tree.value (λ wants h. nothing_left wants) c.self.invariant.waiting) in (
      tree_fits _ c.self.invariant.consistent.resources,
      (
        search apps_fit,
        (
          c.self.invariant.consistent.resources,
          (
            rw c.deref_mut-tree.ensures.value (record { limits = x.limits; nodes = x.nodes; consistent = held_same _ c.self.invariant.consistent c.node_came.new.self c.node_came.ensures.table c.node_came.ensures.accounts }),
            rw c.deref_mut-tree.ensures.value (follows_same_table x.apps.table c.node_came.new.self.table x.tree.value c.node_came.ensures.table some),
          ),
        ),
      ),
    )

pub invariant_of-self-then-self : goal.invariant_of-self-then-self
invariant_of-self-then-self g c =
    let x = c.self.inside in
    let nodes = x.nodes in
    let new = c.register.new.self in
    let is = c.in_ok-number.ensures.ok.1 in
    let joined = reserved_joined c.register.result nodes new _ _ _ _ c.register.ensures.ok c.register.ensures.err c.self.invariant.consistent.reservations in
    let held = held_nodes _ c.self.invariant.consistent new (ap (λ (t : NodeTable). t.live) is) (ap (λ (t : NodeTable). t.reserved) is) (ap (λ (t : NodeTable). t.next_container) is) joined in
    let woken = rw c.deref_mut-tree.ensures.value at c.wake-self-inside.ensures in
    let reach = node_came c.args.host.now c.args.rack.now c.args.total.now nodes new x.apps.impossible c.node_came.new.self.impossible is c.node_came.ensures.impossible c.self.invariant.impossible in
    record {
      consistent = woken.consistent x.limits new (held_same _ held c.node_came.new.self c.node_came.ensures.table c.node_came.ensures.accounts);
      waiting = woken.waiting new.present reach;
      impossible = reach;
    }

pub invariant_of-self-else-self : goal.invariant_of-self-else-self
invariant_of-self-else-self g c =
    let x = c.self.inside in
    let nodes = x.nodes in
    let new = c.register.new.self in
    let is = c.in_ok-number.ensures.ok.1 in
    let joined = reserved_joined c.register.result nodes new _ _ _ _ c.register.ensures.ok c.register.ensures.err c.self.invariant.consistent.reservations in
    let held = held_nodes _ c.self.invariant.consistent new (ap (λ (t : NodeTable). t.live) is) (ap (λ (t : NodeTable). t.reserved) is) (ap (λ (t : NodeTable). t.next_container) is) joined in
    let awake = subst (λ b. FollowsWaiting b nodes.present x.apps.table.active x.tree.value) c.if-self.false c.self.invariant.waiting in
    record {
      consistent = held_same _ held c.node_came.new.self c.node_came.ensures.table c.node_came.ensures.accounts;
      waiting = rw c.if-self.false (follows_same_table x.apps.table c.node_came.new.self.table x.tree.value c.node_came.ensures.table (follows_all nodes.present new.present x.apps.table.active x.tree.value awake));
      impossible = node_came c.args.host.now c.args.rack.now c.args.total.now nodes new x.apps.impossible c.node_came.new.self.impossible is c.node_came.ensures.impossible c.self.invariant.impossible;
    }
