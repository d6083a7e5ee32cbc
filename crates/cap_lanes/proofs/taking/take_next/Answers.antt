use Rattle.cap_lanes.proofs.Prelude.{◌∷◌, ◌++◌, [], ap, ◌∙◌, sym, View}
use Rattle.cap_lanes.proofs.Moves.{pops, tells}
use Rattle.cap_lanes.proofs.Takes.{taken_takes, taken_flags_put, taken_put, taken_before, taken_flags_end, taken_end, taken_later, taken_kept}
use Rattle.cap_lanes.proofs.taking.take_next.Goals as goal

pub recv_as-requires-clause-rule : goal.recv_as-requires-clause-rule
recv_as-requires-clause-rule g c = let t = ap (λ (v : View). v.takes) c.loop.invariant.takes in (pops _ _ t, tells _ _ t)

pub returns-in-Some-proposal-clause-flags : goal.returns-in-Some-proposal-clause-flags
returns-in-Some-proposal-clause-flags g c = taken_flags_put _ _ _ c.in-Ok.ensures.rule c.loop.over c.in-Some-proposal.proposal c.loop.invariant.flags c.in-Some-proposal.ensures.some

pub returns-in-Some-proposal-clause-some : goal.returns-in-Some-proposal-clause-some
returns-in-Some-proposal-clause-some g c =
    let i = c.loop.invariant in
    (taken_put _ _ _ c.in-Ok.ensures.rule c.in-Some-proposal.proposal c.in-Some-proposal.ensures.some ∙ ap (λ zs. zs ++ (c.in-Ok.item.worker, c.in-Some-proposal.proposal) ∷ []) i.same, c.in-Ok.ensures.rule.1, i.later _ (taken_before _ _ _ c.in-Ok.ensures.rule c.loop.over i.flags))

pub loop-preserved : goal.loop-preserved
loop-preserved g c =
    let i = c.loop.invariant in
    let h = c.in-Ok.ensures.rule in record {
      seat = c.in-Ok.ensures.channel.0;
      table = c.in-Ok.ensures.channel.0.0 ∙ sym c.requires.seat.0;
      key = c.in-Ok.ensures.channel.0.1 ∙ sym c.requires.seat.1;
      takes = taken_takes _ _ _ h i.takes;
      flags = taken_flags_end _ _ _ h c.loop.over i.flags c.in-None-proposal.ensures.none;
      same = taken_end _ _ _ h c.in-None-proposal.ensures.none ∙ i.same;
      kept = λ w s. taken_kept _ _ _ h c.loop.over w (i.kept w s);
      later = λ w s. i.later w (taken_later _ _ _ h c.loop.over i.flags w s);
    }
