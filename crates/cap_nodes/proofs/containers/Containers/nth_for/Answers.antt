use Rattle.cap_nodes.proofs.Prelude.{ap, refl, sym, ◌∙◌, arith, slice_get, is_kept_for}
use Rattle.cap_nodes.proofs.Walked.{rest_of_all, no_more, one_more, next_within, first_read, later_read}
use Rattle.cap_nodes.proofs.containers.Containers.nth_for.Goals as goal

pub loop-container-init : goal.loop-container-init
loop-container-init g c =
    ap (λ cs. slice_get cs c.args.before) (sym (rest_of_all (is_kept_for c.args.app c.args.key.now) c.args.self.now.containers c.args.self.now.next c.numbers_rise.ensures))

pub returns-then-left-eq0 : goal.returns-then-left-eq0
returns-then-left-eq0 g c =
    let now = c.loop-container in
    let container = c.in-Some.container in
    let more = one_more (is_kept_for c.args.app c.args.key.now) c.args.self.now.next container container.number refl now.after c.args.self.now.containers c.numbers_rise.ensures (sym c.next_for.ensures ∙ c.in-Some.is) in
    sym (now.invariant ∙ first_read _ _ container now.left more c.if-left-eq0.true)

pub loop-container-smaller : goal.loop-container-smaller
loop-container-smaller g c =
    let within = next_within (is_kept_for c.args.app c.args.key.now) c.args.self.now.next c.in-Some.container c.number-after.result c.number-after.ensures c.loop-container.after c.args.self.now.containers c.numbers_rise.ensures (sym c.next_for.ensures ∙ c.in-Some.is) in
    omega (arith, within.0, within.1)

pub loop-container-preserved : goal.loop-container-preserved
loop-container-preserved g c =
    let now = c.loop-container in
    let more = one_more (is_kept_for c.args.app c.args.key.now) c.args.self.now.next c.in-Some.container c.number-after.result c.number-after.ensures now.after c.args.self.now.containers c.numbers_rise.ensures (sym c.next_for.ensures ∙ c.in-Some.is) in
    now.invariant ∙ later_read _ _ c.in-Some.container now.left more c.if-left-eq0.false

pub returns : goal.returns
returns g c =
    let now = c.loop-container in
    sym (now.invariant ∙ ap (λ cs. slice_get cs now.left) (no_more (is_kept_for c.args.app c.args.key.now) now.after c.args.self.now.containers (sym c.next_for.ensures ∙ c.in_default.is)))
