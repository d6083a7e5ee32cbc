use Rattle.cap_replay.proofs.Prelude.{◌≡◌, refl, sym, subst, ◌∙◌, Some, Known, settings_text, IsOpened}
use Rattle.cap_replay.proofs.Making.{outcome_kept}
use Rattle.cap_replay.proofs.simulation.Simulation.step.Goals as goal

pub returns-in-Ok-did-clause-advances : goal.returns-in-Ok-did-clause-advances
returns-in-Ok-did-clause-advances c =
    let begins = c.in-Ok.ensures.begins in
    let stood : Some begins.now ≡ Some c.in-Some.world = sym begins.stands ∙ c.in-Some.is in
    let is : begins.now ≡ c.in-Some.world = cc in
    record {
      same = begins.same;
      mid = c.in-Some.world;
      now = c.step-did.new.self;
      stands = refl;
      opened = subst (λ (w : Known). IsOpened (settings_text c.args.self.now.settings) c.args.self.now.world w) is begins.opened;
      opening = c.in-Ok-did.ensures.adds.opening;
      made = outcome_kept c.args.step c.in-Ok-did.did c.in-Some.world c.step-did.new.self c.begin.new.self.events.items c.step-did.new.events.items c.in-Ok-did.ensures.adds c.in-Ok-did.ensures.outcome;
    }
