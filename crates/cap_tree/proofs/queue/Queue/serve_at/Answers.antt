use Rattle.cap_tree.proofs.Prelude.{◌∙◌, ◌-◌, ◌<◌, sym, subst, from_entries}
use Rattle.cap_tree.proofs.Numbers.{last_within, some_before, taken_at}
use Rattle.cap_tree.specs.Numbers.{IsPlaceOf}
use Rattle.cap_tree.proofs.queue.Queue.serve_at.Goals as goal

pub overflow_sub-place : goal.overflow_sub-place
overflow_sub-place g c =
    let ns = c.self.inside.waiting.items in
    let place = subst (λ xs. IsPlaceOf c.args.number xs c.place_of-place.result) c.deref.ensures.value c.place_of-place.ensures in
    some_before c.args.number ns (rw (← c.self.view_is) at c.requires.numbers) c.place_of-place.result place (rw (← c.self.view_is) at c.requires.there)

pub remove-requires : goal.remove-requires
remove-requires g c =
    let ns = c.self.inside.waiting.items in
    let place = subst (λ xs. IsPlaceOf c.args.number xs c.place_of-place.result) c.deref.ensures.value c.place_of-place.ensures in
    let within = last_within c.args.number ns (rw (← c.self.view_is) at c.requires.numbers) c.place_of-place.result place (rw (← c.self.view_is) at c.requires.there) in
    subst (λ n. c.place_of-place.result - 1 < n) (sym c.self.inside.waiting.ok.0) within

pub returns : goal.returns
returns g c =
    let ns = c.self.inside.waiting.items in
    let q = c.self.inside in
    let place = subst (λ xs. IsPlaceOf c.args.number xs c.place_of-place.result) c.deref.ensures.value c.place_of-place.ensures in
    let taken = taken_at c.args.number ns (rw (← c.self.view_is) at c.requires.numbers) c.place_of-place.result place (rw (← c.self.view_is) at c.requires.there) in
    rw (← c.self.view_is)
    (λ i. record { name = q.name.items; guaranteed = q.guaranteed; maximum = q.maximum; factor = q.factor; running = q.running; used = q.count.used; active = q.count.active; users = from_entries q.users.entries; waiting = (c.remove.ensures.items ∙ sym taken) i; waits = q.waits - 1 })
