use Rattle.cap_tree.proofs.Sizes.{shares_in_queue}
use Rattle.cap_tree.proofs.Prelude.{shares_cmp, slice_cmp, nat_cmp, ordering_then, ◌∙◌, ap, sym}
use Rattle.cap_tree.proofs.Orders.{alike, told_apart}
use Rattle.cap_tree.proofs.queue.QueueServed.cmp_served.Goals as goal

pub returns-then-is_ne : goal.returns-then-is_ne
returns-then-is_ne g c =
    let by_name = slice_cmp nat_cmp c.self.inside.name.items c.other.inside.name.items in
    let by_shares = c.cmp_shares-order.ensures ∙ (λ i. shares_cmp (c.self.invariant.shares_are i) (c.other.invariant.shares_are i)) in
    rw (← c.self.view_is, ← c.other.view_is)
    (told_apart c.cmp_shares-order.result by_name (sym c.is_ne.ensures ∙ c.if-is_ne.true) ∙ ap (λ o. ordering_then o by_name) by_shares)

pub returns : goal.returns
returns g c =
    let by_name = slice_cmp nat_cmp c.self.inside.name.items c.other.inside.name.items in
    let by_shares = c.cmp_shares-order.ensures ∙ (λ i. shares_cmp (c.self.invariant.shares_are i) (c.other.invariant.shares_are i)) in
    rw (← c.self.view_is, ← c.other.view_is)
    (c.cmp.ensures ∙ (λ i. slice_cmp nat_cmp (c.as_slice.ensures.value i) (c.as_slice-2.ensures.value i))
    ∙ alike c.cmp_shares-order.result by_name (sym c.is_ne.ensures ∙ c.if-is_ne.false) ∙ ap (λ o. ordering_then o by_name) by_shares)

pub cmp_shares-order-requires : goal.cmp_shares-order-requires
cmp_shares-order-requires g c = search shares_in_queue
