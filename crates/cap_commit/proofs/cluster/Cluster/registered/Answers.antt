use Rattle.std.proofs.Common.{sym, ◌∙◌}
use Rattle.cap_commit.proofs.Seen.{app_is_seen, app_off, app_gone}
use Rattle.cap_commit.proofs.cluster.Cluster.registered.Goals as goal

pub returns-in_default-clause-seen : goal.returns-in_default-clause-seen
returns-in_default-clause-seen g c = rw (← c.self.view_is) (sym (app_gone _ c.self.invariant.consistent c.numbers_rise.ensures c.args.number (sym c.in_default.ensures.found)))

pub returns-then-not-is_registered-clause-seen : goal.returns-then-not-is_registered-clause-seen
returns-then-not-is_registered-clause-seen g c =
    rw (← c.self.view_is) (sym (app_off _ c.self.invariant.consistent c.numbers_rise.ensures c.args.number c.in-Some.app.now.app (sym c.in-Some.ensures.found) (sym c.is_registered.ensures ∙ c.if-not-is_registered.true)))

pub returns-clause-seen : goal.returns-clause-seen
returns-clause-seen g c =
    rw (← c.self.view_is) (sym (app_is_seen _ c.self.invariant.consistent c.numbers_rise.ensures c.args.number c.in-Some.app.now.app (sym c.in-Some.ensures.found) (sym c.is_registered.ensures ∙ c.if-not-is_registered.false)))
