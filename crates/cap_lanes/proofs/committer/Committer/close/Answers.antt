use Rattle.cap_lanes.proofs.Prelude.{◌++◌, ap, ◌∙◌, sym, subst, View, messages_of, is_over, proposals, puts_in, tagged, puts_by, times, CommitterSide, AllOver}
use Rattle.cap_lanes.proofs.Tallies.{alike_by, alike_times, over_by_flags}
use Rattle.cap_lanes.proofs.committer.Committer.close.Goals as goal

pub returns-clause-each : goal.returns-clause-each
returns-clause-each g c w =
    let l = c.gather_all.ensures.lanes in
    ap (λ zs. tagged w zs ++ tagged w c.take_rest.new.left.items) (sym (ap (λ (d : CommitterSide). d.taken) c.self.view_is) ∙ ap (λ (v : View). puts_in v.took) (sym l.1))
    ∙ c.take_rest.ensures.each w
    ∙ ap (λ (v : View). proposals (puts_by w v.lanes)) l.1
    ∙ alike_by w l.0 c.args.ended l.2

pub returns-clause-empty : goal.returns-clause-empty
returns-clause-empty g c all =
    let l = c.gather_all.ensures.lanes in
    let a : AllOver c.self.inside.over = subst AllOver (sym (ap (λ (d : CommitterSide). d.over) c.self.view_is)) all in
    c.take_rest.ensures.none (λ w h. ap (λ (v : View). is_over (messages_of w v.took)) l.1 ∙ over_by_flags _ _ c.self.invariant.flags a w h)

pub returns-clause-once : goal.returns-clause-once
returns-clause-once g c w h =
    let l = c.gather_all.ensures.lanes in
    sym (alike_times w l.0 c.args.ended l.2) ∙ ap (λ (v : View). times w v.lanes) (sym l.1) ∙ c.take_rest.ensures.once w h
