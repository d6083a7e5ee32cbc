use Rattle.cap_nodes.proofs.Prelude.{◌≡◌, ◌∙◌, sym, true, false, arith, ◌==◌, same_key, Container}
use Rattle.cap_nodes.proofs.Walked.{next_for, next_within, none_for}
use Rattle.cap_nodes.proofs.containers.Containers.next_for.Goals as goal

pub returns-then-is_same : goal.returns-then-is_same
returns-then-is_same g c =
    let cs = c.args.self.now.containers in
    let same : same_key c.in-Some.container.key c.args.key.now ≡ true = rw (← c.key.ensures) (sym c.is_same.ensures ∙ c.if-is_same.true) in
    sym (c.loop-container.invariant ∙ next_for c.args.app c.args.key.now c.loop-container.after cs c.args.self.now.next c.numbers_rise.ensures c.in-Some.container (sym c.next_of_app.ensures ∙ c.in-Some.is) true same)

pub loop-container-smaller : goal.loop-container-smaller
loop-container-smaller g c =
    let within = next_within (λ (d : Container). d.app == c.args.app) c.args.self.now.next c.in-Some.container c.number-after.result c.number-after.ensures c.loop-container.after c.args.self.now.containers c.numbers_rise.ensures (sym c.next_of_app.ensures ∙ c.in-Some.is) in
    omega (arith, within.0, within.1)

pub loop-container-preserved : goal.loop-container-preserved
loop-container-preserved g c =
    let cs = c.args.self.now.containers in
    let same : same_key c.in-Some.container.key c.args.key.now ≡ false = rw (← c.key.ensures) (sym c.is_same.ensures ∙ c.if-is_same.false) in
    rw c.number-after.ensures (c.loop-container.invariant ∙ next_for c.args.app c.args.key.now c.loop-container.after cs c.args.self.now.next c.numbers_rise.ensures c.in-Some.container (sym c.next_of_app.ensures ∙ c.in-Some.is) false same)

pub returns : goal.returns
returns g c = sym (c.loop-container.invariant ∙ none_for c.args.app c.args.key.now c.loop-container.after c.args.self.now.containers (sym c.next_of_app.ensures ∙ c.in_default.is))
