use Rattle.cap_lanes.proofs.Prelude.{ap, ◌∙◌, sym, subst, arith, View, view, Tally}
use Rattle.cap_lanes.proofs.Moves.{pops, tells}
use Rattle.cap_lanes.proofs.Tallies.{settled, each_once}
use Rattle.cap_lanes.proofs.Takes.{so_far_none, so_far_put, so_far_end, so_far_room, weight_bound}
use Rattle.cap_lanes.proofs.taking.take_rest.Goals as goal

pub learn_as-requires-clause-rule : goal.learn_as-requires-clause-rule
learn_as-requires-clause-rule g c = tells _ _ c.requires.takes

pub loop-init : goal.loop-init
loop-init g c = record {
  front = (c.learn_as.ensures.channel.0.0 ∙ sym c.requires.back.0 ∙ c.requires.front.0, c.learn_as.ensures.channel.0.1 ∙ sym c.requires.back.1 ∙ c.requires.front.1, c.learn_as.ensures.channel.0.2, c.requires.front.3);
  so_far = so_far_none (view c.args.pass.now) (view c.learn_as.new.pass) _ c.requires.takes c.learn_as.ensures.channel.2 c.requires.empty;
  weight = weight_bound c.learn_as.ensures.rule.0 (view c.args.pass.now) c.learn_as.ensures.rule.1 c.requires.eight;
  room = c.requires.room;
}

pub try_recv_as-requires-clause-rule : goal.try_recv_as-requires-clause-rule
try_recv_as-requires-clause-rule g c = let t = ap (λ (v : View). v.takes) c.loop.invariant.so_far.now in (pops _ _ t, tells _ _ t)

pub returns-in-Err-clause-each : goal.returns-in-Err-clause-each
returns-in-Err-clause-each g c =
    let s = c.loop.invariant.so_far in
    let h = c.in-Err.ensures.rule.1 in
    settled (view c.args.pass.now).took s.more h.0 (view c.args.pass.now).lanes c.loop.left.items (subst (λ (v : View). Tally v.took h.0 v.lanes) s.now h.2) c.requires.eight h.1 s.left

pub push_reserved-requires : goal.push_reserved-requires
push_reserved-requires g c =
    let i = c.loop.invariant in
    let r = so_far_room _ _ _ _ _ i.so_far c.in-Ok.ensures.rule c.requires.eight i.weight in
    let v = c.loop.left.ok.0 in
    omega (arith, i.room)

pub loop-preserved-in-Some-proposal : goal.loop-preserved-in-Some-proposal
loop-preserved-in-Some-proposal g c =
    let i = c.loop.invariant in record {
      front = c.in-Ok.ensures.channel.0;
      so_far = so_far_put _ _ _ _ _ i.so_far c.in-Ok.ensures.rule c.in-Some-proposal.proposal _ c.in-Some-proposal.ensures.some c.push_reserved.ensures.items;
      weight = i.weight;
      room = omega (arith, c.push_reserved.ensures.capacity, i.room);
    }

pub loop-preserved : goal.loop-preserved
loop-preserved g c =
    let i = c.loop.invariant in record {
      front = c.in-Ok.ensures.channel.0;
      so_far = so_far_end _ _ _ _ _ i.so_far c.in-Ok.ensures.rule c.in-None-proposal.ensures.none;
      weight = i.weight;
      room = i.room;
    }

pub returns-in-Err-clause-once : goal.returns-in-Err-clause-once
returns-in-Err-clause-once g c w h = each_once _ _ (view c.args.pass.now).lanes c.learn_as.ensures.rule.1 c.requires.eight w h
