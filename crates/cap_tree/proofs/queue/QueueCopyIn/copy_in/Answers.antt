use Rattle.cap_tree.proofs.Prelude.{sym, ◌∙◌, ap, arith, from_entries}
use Rattle.cap_tree.proofs.Sizes.{count_in_queue}
use Rattle.cap_tree.proofs.Users.{users_of}
use Rattle.cap_tree.specs.Queue.{active_of}
use Rattle.cap_tree.proofs.queue.QueueCopyIn.copy_in.Goals as goal

pub copy_users-requires : goal.copy_users-requires
copy_users-requires g c = search count_in_queue

pub returns : goal.returns
returns g c =
    let name = sym (c.in-Ok.ensures.items ∙ c.deref.ensures.value) in
    let users = sym c.in-Ok-copy_users.ensures in
    let waiting = sym c.in-Ok-copy_numbers.ensures.items in
    let q = c.self.inside in
    sym (sym c.self.view_is ∙ (λ i. record { name = name i; guaranteed = q.guaranteed; maximum = q.maximum; factor = q.factor; running = q.running; used = q.count.used; active = q.count.active; users = from_entries (users i); waiting = waiting i; waits = q.waits }))

pub invariant_of-result : goal.invariant_of-result
invariant_of-result g c = record {
  shares_are = c.self.invariant.shares_are;
  has_room = let same = ap (λ es. active_of (users_of es)) c.in-Ok-copy_users.ensures in let has = c.self.invariant.has_room in let more = c.in-Ok-copy_numbers.ensures.room in omega (arith, same, has, more);
}
