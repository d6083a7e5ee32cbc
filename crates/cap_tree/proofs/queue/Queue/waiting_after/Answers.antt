use Rattle.cap_tree.proofs.Prelude.{◌∙◌, sym, subst}
use Rattle.cap_tree.proofs.Numbers.{next_at}
use Rattle.cap_tree.proofs.Orders.{got}
use Rattle.cap_tree.specs.Numbers.{AreNumbers, IsNextNumber}
use Rattle.cap_tree.proofs.queue.Queue.waiting_after.Goals as goal

pub returns : goal.returns
returns g c =
    let ns = c.as_slice-waiting.result.now in
    let n = c.place_of-place.result in
    let a = subst AreNumbers (sym c.as_slice-waiting.ensures.value) (rw (← c.self.view_is) at c.requires) in
    let is = c.copied.ensures ∙ got ns n c.get.result (c.get.ensures.lookup.0, c.get.ensures.lookup.1) in
    rw (← c.self.view_is) (subst (λ xs. IsNextNumber c.args.number xs c.copied.result) c.as_slice-waiting.ensures.value (next_at c.args.number ns a n c.place_of-place.ensures c.copied.result is))
