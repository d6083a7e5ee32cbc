use Rattle.cap_tree.proofs.Prelude.{queues_of, ◌∙◌, ap, arith, subst, ◌-◌, ◌≡◌, ◌++◌, drop_all, take_all, depth, IsGrowing}
use Rattle.cap_tree.proofs.Growing.{grow_next, next_level, unused_stored, unused_own, grown_few}
use Rattle.cap_tree.proofs.tree.add_all.Goals as goal

pub overflow_sub-levels : goal.overflow_sub-levels
overflow_sub-levels g c =
    let l = next_level g.row.K c.loop-row.root c.args.rows.now c.loop-row.row-index c.row-item.result c.loop-row-test.true c.row-item.is c.loop-row.invariant.growing in
    let d : c.depth-levels.result ≡ depth c.row-item.result.path = c.depth-levels.ensures ∙ ap depth (c.as_bytes.ensures.value ∙ c.path-path.ensures) in
    omega (arith, l, d)

pub add-requires-clause-stored : goal.add-requires-clause-stored
add-requires-clause-stored g c m = unused_stored g.row.K c.in-Ok.queue m c.in-Ok.ensures.1

pub loop-row-preserved : goal.loop-row-preserved
loop-row-preserved g c =
    let d : c.depth-levels.result ≡ depth c.row-item.result.path = c.depth-levels.ensures ∙ ap depth (c.as_bytes.ensures.value ∙ c.path-path.ensures) in
    let n = grow_next g.row.K c.loop-row.root c.add.new.self c.args.root.now c.args.rows.now c.loop-row.row-index (c.depth-levels.result - 1) c.row-item.result c.in-Ok.queue c.loop-row-test.true c.row-item.is
    c.loop-row.invariant.growing c.loop-row.invariant.queues (ap (λ k. k - 1) d) c.in-Ok.ensures.0 c.in-Ok.ensures.1 c.in-Ok-add.ensures.ok in
    record { growing = n.0.growing; queues = n.1; tree = c.add.ensures.tree }

pub new-requires : goal.new-requires
new-requires g c = ((search), ((search), c.path-path.ensures))

pub add-requires-clause-own : goal.add-requires-clause-own
add-requires-clause-own g c m = unused_own g.row.K c.in-Ok.queue m c.in-Ok.ensures.1

pub returns-clause-grown : goal.returns-clause-grown
returns-clause-grown g c = subst (IsGrowing g.row.K c.loop-row.root) (drop_all c.loop-row.row-index c.args.rows.now (omega arith)) c.loop-row.invariant.growing

pub add-requires-clause-few : goal.add-requires-clause-few
add-requires-clause-few g c = let n = grown_few c.loop-row.root c.args.root.now c.args.rows.now c.loop-row.row-index c.loop-row.invariant.queues c.requires.few in omega (arith, n)

pub returns-clause-queues : goal.returns-clause-queues
returns-clause-queues g c =
    c.loop-row.invariant.queues ∙ ap (λ rows. queues_of c.args.root.now ++ rows) (take_all c.loop-row.row-index c.args.rows.now (omega arith))

pub add-requires-room-T-TreeItem : goal.add-requires-room-T-TreeItem
add-requires-room-T-TreeItem g c κs within = search

pub add-requires-room-T-Destruct : goal.add-requires-room-T-Destruct
add-requires-room-T-Destruct g c κs within = search
