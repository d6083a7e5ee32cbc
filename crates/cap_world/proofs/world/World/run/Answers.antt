use Rattle.cap_world.proofs.Prelude.{attempts_of}
use Rattle.cap_world.proofs.Running.{made_steps_have_the_headline, FromStart, from_start}
use Rattle.cap_world.proofs.Promises.{stays_bounded, happens_once}
use Rattle.cap_world.proofs.world.World.run.Goals as goal

-- what became of the world that was opened
made_from : (c : goal.After-make_all-done) → FromStart c.args.opening.flat (attempts_of c.args.steps.now c.make_all-done.result) c.make_all-done.new.self c.make_all-done.new.events.items
made_from c =
    let made = c.make_all-done.ensures in
    from_start c.args.opening.flat _ c.open-world.result c.make_all-done.new.self c.new-events.result.items c.make_all-done.new.events.items c.open-world.ensures c.new-events.ensures.items made.adds made.made

pub returns-clause-opening : goal.returns-clause-opening
returns-clause-opening c = (made_from c).opening

pub returns-clause-events : goal.returns-clause-events
returns-clause-events c = (made_from c).events

pub returns-clause-made : goal.returns-clause-made
returns-clause-made c = (made_from c).made

pub returns-clause-headline : goal.returns-clause-headline
returns-clause-headline c = made_steps_have_the_headline c.args.opening.flat _ c.make_all-done.new.self.sight c.make_all-done.new.events.items (made_from c).made

pub returns-clause-bounded : goal.returns-clause-bounded
returns-clause-bounded c = stays_bounded c.args.opening.flat c.make_all-done.new.events.items c.make_all-done.new.self.sight.cluster (returns-clause-headline c).run

pub returns-clause-once : goal.returns-clause-once
returns-clause-once c = happens_once c.args.opening.flat c.make_all-done.new.events.items c.make_all-done.new.self.sight.cluster (returns-clause-headline c).run
