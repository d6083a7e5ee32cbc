use Rattle.cap_world.proofs.Prelude.{◌≡◌, refl, length, arith}
use Rattle.cap_world.proofs.Running.{makes_next, made_all, made_cut, adds_none, adds_then}
use Rattle.cap_world.proofs.world.World.make_all.Goals as goal

pub loop-i-init : goal.loop-i-init
loop-i-init c = record {
  made = (refl, refl);
  adds = adds_none c.args.self.now c.args.events.now.items;
}

pub loop-i-preserved : goal.loop-i-preserved
loop-i-preserved c = record {
  made = makes_next c.args.steps.now c.loop-i.i _ c.step-made.result c.args.self.now.sight c.loop-i.self.sight c.step-made.new.self.sight c.args.events.now.items c.loop-i.events.items c.step-made.new.events.items c.loop-i-test.true c.loop-i.invariant.made c.if-ends_run.ensures c.step-made.ensures.outcome;
  adds = adds_then c.args.self.now c.loop-i.self c.step-made.new.self c.args.events.now.items c.loop-i.events.items c.step-made.new.events.items c.loop-i.invariant.adds c.step-made.ensures.adds;
}

pub returns-clause-made : goal.returns-clause-made
returns-clause-made c =
    let end : c.loop-i.i ≡ length c.args.steps.now = omega arith in
    made_all c.args.steps.now c.loop-i.i c.args.self.now.sight c.loop-i.self.sight c.args.events.now.items c.loop-i.events.items end c.loop-i.invariant.made

pub returns-then-ends_run-clause-made : goal.returns-then-ends_run-clause-made
returns-then-ends_run-clause-made c =
    made_cut c.args.steps.now c.loop-i.i _ c.step-made.result c.args.self.now.sight c.loop-i.self.sight c.step-made.new.self.sight c.args.events.now.items c.loop-i.events.items c.step-made.new.events.items c.loop-i-test.true c.loop-i.invariant.made c.if-ends_run.ensures c.step-made.ensures.outcome

pub returns-then-ends_run-clause-adds : goal.returns-then-ends_run-clause-adds
returns-then-ends_run-clause-adds c =
    adds_then c.args.self.now c.loop-i.self c.step-made.new.self c.args.events.now.items c.loop-i.events.items c.step-made.new.events.items c.loop-i.invariant.adds c.step-made.ensures.adds
