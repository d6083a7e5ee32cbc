use Rattle.cap_tree.proofs.Prelude.{arith, inl, inr, ap, length, list_any, ◌==◌, drop_all}
use Rattle.cap_tree.proofs.Names.{dotless_before, name_at_end}
use Rattle.cap_tree.proofs.queue.last_name.Goals.{then-loop-start-test+else-path-start-ne46, else-loop-start-test}
use Rattle.cap_tree.proofs.queue.last_name.Goals as goal

pub loop-start-init : goal.loop-start-init
loop-start-init c = record { within = omega arith; none = ap (list_any (λ x. x == 46)) (drop_all (length c.args.path.now) c.args.path.now (omega arith)) }

pub loop-start-preserved : goal.loop-start-preserved
loop-start-preserved c = record {
  within = omega (arith, c.loop-start.invariant.within);
  none = dotless_before c.args.path.now c.loop-start.start c.loop-start-test.true c.loop-start.invariant.within c.if-path-start-ne46.true c.loop-start.invariant.none;
}

pub returns : goal.returns
returns c =
    name_at_end c.args.path.now c.loop-start.start c.loop-start.invariant.within c.loop-start.invariant.none
    (elim c.loop-start-test.branch [
      | then-loop-start-test+else-path-start-ne46 w ↦ inr (w.loop-start-test.true, w.if-path-start-ne46.false)
      | else-loop-start-test w ↦ inl (let h = w.loop-start-test.false in omega (arith, h))
    ])
