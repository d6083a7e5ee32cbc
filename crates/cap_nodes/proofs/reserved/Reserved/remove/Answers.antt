use Rattle.cap_nodes.proofs.Prelude.{◌-◌, ◌∙◌, ap, sym, arith, List, ◌==◌, Container, ContainerTable, app_key, app_key_of, same_app_key}
use Rattle.cap_nodes.proofs.AppKeys.{same_decides, same_own}
use Rattle.cap_nodes.proofs.Counting.{count_is, counted_removed, has_some}
use Rattle.cap_nodes.proofs.Numbered.{none_gone}
use Rattle.cap_nodes.proofs.reserved.Reserved.remove.Goals as goal

pub returns-in_default : goal.returns-in_default
returns-in_default g c =
    rw (← c.self.view_is)
    (ap (λ (xs : List Container). let t : ContainerTable = record { containers = xs; next = c.self.inside.made.next } in t)
    (sym (none_gone (λ (x : Container). x.number == c.args.number) c.self.inside.made.containers (sym c.in_default.is ∙ c.get.ensures))))

pub overflow_sub-count : goal.overflow_sub-count
overflow_sub-count g c =
    let x = c.self.inside in
    let at = sym c.get.ensures ∙ c.in-Some.is in
    let its = sym (c.new-app_key.ensures ∙ (λ i. app_key (c.app.ensures i) (c.key.ensures i))) in
    let kept = c.get-count.ensures ∙ count_is same_app_key app_key_of x.counts x.made.containers c.new-app_key.result c.self.invariant in
    let some = has_some same_app_key app_key_of same_own same_decides c.in-Some.container c.new-app_key.result its (λ (y : Container). y.number) x.made.next c.args.number x.made.containers c.numbers_rise.ensures at in
    omega (arith, kept, some)

pub unreachable-requires : goal.unreachable-requires
unreachable-requires g c =
    let x = c.self.inside in
    let at = sym c.get.ensures ∙ c.in-Some.is in
    let its = sym (c.new-app_key.ensures ∙ (λ i. app_key (c.app.ensures i) (c.key.ensures i))) in
    let kept = count_is same_app_key app_key_of x.counts x.made.containers c.new-app_key.result c.self.invariant in
    let some = has_some same_app_key app_key_of same_own same_decides c.in-Some.container c.new-app_key.result its (λ (y : Container). y.number) x.made.next c.args.number x.made.containers c.numbers_rise.ensures at in
    let none = c.in_default-set.ensures.absent in
    omega (arith, none, kept, some)

pub invariant_of-self : goal.invariant_of-self
invariant_of-self g c =
    let x = c.self.inside in
    let at = sym c.get.ensures ∙ c.in-Some.is in
    let its = sym (c.new-app_key.ensures ∙ (λ i. app_key (c.app.ensures i) (c.key.ensures i))) in
    let kept = c.get-count.ensures ∙ count_is same_app_key app_key_of x.counts x.made.containers c.new-app_key.result c.self.invariant in
    rw c.remove.ensures
    (counted_removed same_app_key app_key_of same_own same_decides c.in-Some.container c.new-app_key.result its (λ (y : Container). y.number) x.made.next c.args.number x.made.containers c.numbers_rise.ensures at x.counts c.set.new.self (c.get-count.result - 1) c.self.invariant c.in-Ok.ensures.ok (ap (λ n. n - 1) kept))
