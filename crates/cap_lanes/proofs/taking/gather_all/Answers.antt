use Rattle.cap_lanes.proofs.Prelude.{◌≡◌, ◌∷◌, ◌++◌, [], List, length, ap, ◌∙◌, sym, subst, append_assoc, arith, append-nil, array_into_iter_items, sends_on, View, WorkerSide, LanesId, AllOf, Alike, lanes_id, taker}
use Rattle.cap_lanes.proofs.Tallies.{Alike-push, length_alike}
use Rattle.cap_lanes.proofs.taking.gather_all.Goals as goal

all_of_at : (z : LanesId) (ys : List WorkerSide) (e : WorkerSide) (rest : List WorkerSide) → AllOf z (ys ++ e ∷ rest) → e.lanes ≡ z
all_of_at z [] e rest h = h.0
all_of_at z (y ∷ ys) e rest h = all_of_at z ys e rest h.1

pub gather-requires-clause-lanes : goal.gather-requires-clause-lanes
gather-requires-clause-lanes c =
    all_of_at _ c.loop-e.yielded c.in-Some.e _ (subst (AllOf (lanes_id (sends_on c.args.back.now))) (sym (ap (λ zs. c.loop-e.yielded ++ zs) (sym c.in-Some.ensures.steps) ∙ c.loop-e.invariant.all)) c.requires.lanes)

pub loop-e-preserved : goal.loop-e-preserved
loop-e-preserved c =
    let i = c.loop-e.invariant in
    let m = c.gather.ensures.lane in
    let ls = i.lanes.0 in record {
      seat = (c.gather.ensures.same.0.0 ∙ i.seat.0, c.gather.ensures.same.0.1 ∙ i.seat.1, c.gather.ensures.same.1, i.seat.3);
      table = c.gather.ensures.same.0.0 ∙ i.table;
      key = c.gather.ensures.same.0.1 ∙ i.key;
      lanes = (
        ls ++ m.0 ∷ [],
        m.1 ∙ ap (λ (v : View). taker v.took (v.lanes ++ m.0 ∷ [])) i.lanes.1,
        Alike-push ls c.loop-e.yielded m.0 c.in-Some.e i.lanes.2 m.2 m.3,
      );
      all = append_assoc c.loop-e.yielded (c.in-Some.e ∷ []) (array_into_iter_items c.next.new.self) ∙ ap (λ zs. c.loop-e.yielded ++ zs) (sym c.in-Some.ensures.steps) ∙ i.all;
    }

whole : (ys rest all : List WorkerSide) → length rest ≡ 0 → ys ++ rest ≡ all → ys ≡ all
whole ys [] all e a = sym (append-nil ys) ∙ a
whole ys (x ∷ rest) all e a = absurd (omega arith)

pub returns-clause-lanes : goal.returns-clause-lanes
returns-clause-lanes c =
    let i = c.loop-e.invariant in
    (i.lanes.0, i.lanes.1, subst (Alike i.lanes.0) (whole c.loop-e.yielded _ c.args.ended c.in-None.ensures.steps.0 i.all) i.lanes.2)

pub returns-clause-eight : goal.returns-clause-eight
returns-clause-eight c =
    let i = c.loop-e.invariant in
    let g = c.into_iter-e-iterator.ensures.into_iter_gives in
    ap (λ (v : View). length v.lanes) i.lanes.1 ∙ length_alike i.lanes.0 c.loop-e.yielded i.lanes.2 ∙ ap length (whole c.loop-e.yielded _ c.args.ended c.in-None.ensures.steps.0 i.all) ∙ ap length (sym g.0) ∙ g.1
