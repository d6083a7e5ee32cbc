use Rattle.cap_workers.proofs.Prelude.{◌∙◌}
use Rattle.cap_workers.proofs.Closing.{all_of, closed_lanes, one_stays}
use Rattle.cap_workers.proofs.committer.close_lanes.Goals as goal

pub close-nothing_left-requires : goal.close-nothing_left-requires
close-nothing_left-requires g c = all_of c.into_parts-committer.result.0.lanes g.J.LaneNaming.lanes c.in_ok-ends.ends c.into_parts-committer.ensures.is.0 c.in_ok-ends.ensures.lanes

pub returns-in-Ok-push-clause-kept : goal.returns-in-Ok-push-clause-kept
returns-in-Ok-push-clause-kept g c = one_stays c.args.seats.now.items c.push.new.self.items c.into_parts-committer.result.1 c.in-Ok-push.ensures.items

pub returns-in-Ok-push-clause-end : goal.returns-in-Ok-push-clause-end
returns-in-Ok-push-clause-end g c =
    closed_lanes g.J.LaneNaming.lanes g.J.Naming.limit c.args.seats.now.items c.push.new.self.items c.into_parts-committer.result.0 c.into_parts-committer.result.1 c.in-Some.lanes.posted c.close-nothing_left.result.left.items c.args.ended.items c.into_parts-committer.result.2.items c.in_ok-ends.ends
    c.in-Ok-push.ensures.items (c.in_ok-ends.ensures.same ∙ c.in-Ok.ensures.items) c.into_parts-committer.ensures.is c.in_ok-ends.ensures.lanes c.close-nothing_left.ensures.each (c.close-nothing_left.ensures.empty c.into_parts-committer.ensures.over) c.close-nothing_left.ensures.once
