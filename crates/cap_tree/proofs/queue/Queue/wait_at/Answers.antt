use Rattle.cap_tree.proofs.Prelude.{◌∙◌, ◌+◌, arith, sym, subst, from_entries}
use Rattle.cap_tree.proofs.Numbers.{put_at}
use Rattle.cap_tree.specs.Numbers.{IsPlaceOf}
use Rattle.cap_tree.proofs.queue.Queue.wait_at.Goals as goal

pub returns : goal.returns
returns g c =
    let ns = c.self.inside.waiting.items in
    let q = c.self.inside in
    let place = subst (λ xs. IsPlaceOf c.args.number xs c.place_of-place.result) c.deref.ensures.value c.place_of-place.ensures in
    let put = put_at c.args.number ns (rw (← c.self.view_is) at c.requires.numbers) c.place_of-place.result place (rw (← c.self.view_is) at c.requires.other) in
    rw (← c.self.view_is)
    (λ i. record { name = q.name.items; guaranteed = q.guaranteed; maximum = q.maximum; factor = q.factor; running = q.running; used = q.count.used; active = q.count.active; users = from_entries q.users.entries; waiting = (c.in-Ok.ensures.items ∙ sym put) i; waits = q.waits + 1 })

pub unreachable-requires : goal.unreachable-requires
unreachable-requires g c =
    let room = rw (← c.self.view_is) at c.requires.room in
    let has = c.self.invariant.has_room in
    let full = c.in_default.ensures.full in
    let len = c.self.inside.waiting.ok.0 in
    omega (arith, room, has, full, len)

pub invariant_of-self : goal.invariant_of-self
invariant_of-self g c = record { shares_are = c.self.invariant.shares_are; has_room = let has = c.self.invariant.has_room in let more = c.insert.ensures.capacity in omega (arith, has, more) }
