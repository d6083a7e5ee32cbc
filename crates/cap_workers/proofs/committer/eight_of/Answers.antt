use Rattle.cap_workers.proofs.Prelude.{List, [], ◌∷◌, ◌++◌, ap, subst, sym, ◌∙◌}
use Rattle.std.specs.List.{All}
use Rattle.std.proofs.lemmas.List.Elements.{All-push}
use Rattle.cap_lanes.specs.Sides.{WorkerSide}
use Rattle.cap_workers.specs.Lanes.{IsLane}
use Rattle.cap_workers.proofs.Leavers.{yields_one}
use Rattle.cap_workers.proofs.committer.eight_of.Goals as goal

pub loop-lane-preserved : goal.loop-lane-preserved
loop-lane-preserved g c =
    let i = c.loop-lane.invariant in
    let P : WorkerSide → Type 0 = IsLane g.J.LaneNaming.lanes in
    record {
      all = yields_one c.loop-lane.yielded c.loop-lane.lane-iterator.rest.items c.next.new.self.rest.items c.args.ended.items c.in-Some.lane i.all c.in-Some.ensures.steps.0;
      same = c.in-Ok-push.ensures.items ∙ ap (λ (es : List WorkerSide). es ++ c.into_ended.result ∷ []) i.same ∙ ap (λ (e : WorkerSide). c.loop-lane.yielded ++ e ∷ []) c.into_ended.ensures.ended;
      lanes = subst (λ (es : List WorkerSide). All P es) (sym c.in-Ok-push.ensures.items) (All-push P c.loop-lane.ends.items c.into_ended.result i.lanes c.into_ended.ensures.lane);
    }
