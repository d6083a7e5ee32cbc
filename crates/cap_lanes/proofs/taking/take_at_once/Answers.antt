use Rattle.cap_lanes.proofs.Prelude.{ap, View}
use Rattle.cap_lanes.proofs.Moves.{pops, tells}
use Rattle.cap_lanes.proofs.Takes.{taken_flags_put, taken_put, taken_before, taken_flags_end, taken_end, taken_kept}
use Rattle.cap_lanes.proofs.taking.take_at_once.Goals as goal

pub try_recv_as-requires-clause-rule : goal.try_recv_as-requires-clause-rule
try_recv_as-requires-clause-rule g c = let t = ap (λ (v : View). v.takes) c.requires.takes in (pops _ _ t, tells _ _ t)

pub returns-in-Some-clause-flags : goal.returns-in-Some-clause-flags
returns-in-Some-clause-flags g c = taken_flags_put _ _ _ c.in-Ok.ensures.rule c.args.over.now c.in-Some.proposal c.requires.flags c.in-Some.ensures.some

pub returns-in-Some-clause-some : goal.returns-in-Some-clause-some
returns-in-Some-clause-some g c =
    (taken_put _ _ _ c.in-Ok.ensures.rule c.in-Some.proposal c.in-Some.ensures.some, c.in-Ok.ensures.rule.1, taken_before _ _ _ c.in-Ok.ensures.rule c.args.over.now c.requires.flags)

pub returns-in-None-clause-flags : goal.returns-in-None-clause-flags
returns-in-None-clause-flags g c = taken_flags_end _ _ _ c.in-Ok.ensures.rule c.args.over.now c.requires.flags c.in-None.ensures.none

pub returns-in-None-clause-none : goal.returns-in-None-clause-none
returns-in-None-clause-none g c = taken_end _ _ _ c.in-Ok.ensures.rule c.in-None.ensures.none

pub returns-in-None-clause-kept : goal.returns-in-None-clause-kept
returns-in-None-clause-kept g c w s = taken_kept _ _ _ c.in-Ok.ensures.rule c.args.over.now w s
