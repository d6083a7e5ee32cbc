use Rattle.cap_asks.proofs.Prelude.{ap, held_at}
use Rattle.cap_asks.proofs.NodeCame.{indexed_after, left_after, none_left, same_accounts_after, same_apps_after}
use Rattle.cap_asks.proofs.apps.Apps.node_came.Goals as goal

pub invariant_of-self : goal.invariant_of-self
invariant_of-self g c =
    let after = c.node_came_to-self-inside.ensures in (
      indexed_after c.args.host.now c.args.rack.now c.args.total.now (held_at c.node_came_to-self-inside.new.apps) (held_at c.self.inside.apps) after.each c.self.inside.index.entries c.self.inside.next c.self.inside.waiting.items _ c.self.invariant.0,
      λ none. none_left c.args.host.now c.args.rack.now c.args.total.now (held_at c.node_came_to-self-inside.new.apps) (held_at c.self.inside.apps) after.each c.self.inside.index.entries (after.clear none),
    )

pub returns-clause-table : goal.returns-clause-table
returns-clause-table g c =
    rw (← c.self.view_is) (ap (λ xs. record { active = xs; next = c.self.inside.next }) (same_apps_after c.args.host.now c.args.rack.now c.args.total.now (held_at c.node_came_to-self-inside.new.apps) (held_at c.self.inside.apps) c.node_came_to-self-inside.ensures.each c.self.inside.index.entries))

pub returns-clause-accounts : goal.returns-clause-accounts
returns-clause-accounts g c =
    rw (← c.self.view_is) (same_accounts_after c.args.host.now c.args.rack.now c.args.total.now (held_at c.node_came_to-self-inside.new.apps) (held_at c.self.inside.apps) c.node_came_to-self-inside.ensures.each c.self.inside.index.entries)

pub returns-clause-impossible : goal.returns-clause-impossible
returns-clause-impossible g c =
    rw (← c.self.view_is) (left_after c.args.host.now c.args.rack.now c.args.total.now (held_at c.node_came_to-self-inside.new.apps) (held_at c.self.inside.apps) c.node_came_to-self-inside.ensures.each c.self.inside.index.entries)
