use Rattle.cap_nodes.proofs.Prelude.{◌+◌, ◌<◌, ◌∙◌, ap, sym, arith, length, count_by-le-length, live_max, Container, app_key_of, same_app_key}
use Rattle.cap_nodes.proofs.AppKeys.{same_decides, same_own}
use Rattle.cap_nodes.proofs.Counting.{count_is, counted_back, counted_pushed, has, set_is}
use Rattle.cap_nodes.proofs.reserved.Reserved.push.Goals as goal

pub overflow_add-count : goal.overflow_add-count
overflow_add-count g c =
    let x = c.self.inside in
    let kept = c.get-count.ensures ∙ count_is same_app_key app_key_of x.counts x.made.containers c.new-app_key.result c.self.invariant in
    let below = count_by-le-length (has same_app_key app_key_of c.new-app_key.result) x.made.containers in
    let few : length x.made.containers < live_max = rw (← c.self.view_is) at c.requires.few in
    omega (arith, kept, below, few)

pub invariant_of-self-in-Ok-push : goal.invariant_of-self-in-Ok-push
invariant_of-self-in-Ok-push g c =
    let x = c.self.inside in
    let container : Container = record { number = x.made.next; app = c.args.app; key = c.args.key.now; node = c.args.node; resource = c.args.resource.now } in
    let kept = c.get-count.ensures ∙ count_is same_app_key app_key_of x.counts x.made.containers c.new-app_key.result c.self.invariant in
    rw c.in-Ok-push.ensures.ok.1
    (counted_pushed same_app_key app_key_of same_own same_decides container c.new-app_key.result (sym c.new-app_key.ensures) x.counts c.set.new.self x.made.containers (c.get-count.result + 1) c.self.invariant c.in-Ok.ensures.ok (ap (λ n. n + 1) kept))

pub invariant_of-self-in-Err-push : goal.invariant_of-self-in-Err-push
invariant_of-self-in-Err-push g c =
    let x = c.self.inside in
    let kept = c.get-count.ensures ∙ count_is same_app_key app_key_of x.counts x.made.containers c.new-app_key.result c.self.invariant in
    rw c.in-Err-push.ensures.err
    (counted_back same_app_key app_key_of same_own same_decides x.counts c.set.new.self c.set-in-Err-push.new.self x.made.containers c.new-app_key.result (c.get-count.result + 1) c.get-count.result c.self.invariant c.in-Ok.ensures.ok c.in-Ok-set.ensures.ok kept)

pub unreachable-requires : goal.unreachable-requires
unreachable-requires g c =
    let none = c.in_default.ensures.absent in
    let some = set_is same_app_key app_key_of same_own c.self.inside.counts c.set.new.self c.new-app_key.result (c.get-count.result + 1) c.in-Ok.ensures.ok in
    omega (arith, none, some)
