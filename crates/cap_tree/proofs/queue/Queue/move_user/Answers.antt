use Rattle.cap_tree.proofs.Prelude.{◌≡◌, ◌∙◌, ◌≤◌, ◌⊎◌, arith, ap, sym, subst, inl, inr, rules, Count, Queue, IsPart, MayMove, Measure, queue_count, shares, count_in, count_moved, user_row, vec_capacity, with_count}
use Rattle.cap_tree.specs.QueueLaws.{user_within}
use Rattle.cap_tree.specs.Queue.{active_of}
use Rattle.cap_tree.proofs.Rooms.{room_in_child, room_moved}
use Rattle.cap_tree.proofs.Users.{users_of}
use Rattle.cap_tree.proofs.Sizes.{amounts_in_queue, shares_in_queue}
use Rattle.cap_tree.proofs.queue.Queue.move_user.Goals as goal

pub moved-own-requires : goal.moved-own-requires
moved-own-requires g c =
    let all = user_within g.row.K c.args.user.now c.args.self.now c.requires.sums in (
      (search),
      (
        (search),
        (
          subst (IsPart c.args.old.now) (sym c.user.ensures) c.requires.fits,
          subst (MayMove c.args.old.now c.args.new.now) (sym c.user.ensures) (λ m. room_in_child _ _ _ _ _ (all m) (c.requires.within m)),
        ),
      ),
    )

pub moved-count-requires : goal.moved-count-requires
moved-count-requires g c =
    let all = user_within g.row.K c.args.user.now c.args.self.now c.requires.sums in
    let part : IsPart c.args.old.now (queue_count c.args.self.now) = λ m. omega (arith, all m, c.requires.fits m) in
    (search rules, (search rules, (rw (← c.self.view_is) at part, rw (← c.self.view_is) at c.requires.within)))

pub user-requires : goal.user-requires
user-requires g c = search

pub of-self-inside-requires : goal.of-self-inside-requires
of-self-inside-requires g c = search (amounts_in_queue, shares_in_queue)

pub invariant_of-self-in-Err-set_user : goal.invariant_of-self-in-Err-set_user
invariant_of-self-in-Err-set_user g c = record {
  shares_are = c.self.invariant.shares_are;
  has_room = let same = ap (λ es. active_of (users_of es)) c.in-Err-set_user.ensures.err in let room = c.self.invariant.has_room in let more = c.make_room.ensures.room in omega (arith, same, room, more);
}

pub returns-in-Err-set_user-clause-err : goal.returns-in-Err-set_user-clause-err
returns-in-Err-set_user-clause-err g c =
    let q = c.self.inside in
    rw (← c.self.view_is)
    (λ i. record { name = q.name.items; guaranteed = q.guaranteed; maximum = q.maximum; factor = q.factor; running = q.running; used = q.count.used; active = q.count.active; users = users_of (c.in-Err-set_user.ensures.err i); waiting = c.make_room.ensures.items i; waits = q.waits })

pub returns-in-Err-set_user-clause-grows : goal.returns-in-Err-set_user-clause-grows
returns-in-Err-set_user-clause-grows g c = inl (rw (← c.self.view_is) c.in-Err-set_user.ensures.absent)

pub invariant_of-self-2 : goal.invariant_of-self-2
invariant_of-self-2 g c =
    let q = c.args.self.now in
    let users = users_of c.self.inside.users.entries in
    let own : c.moved-own.result ≡ count_moved c.args.old.now c.args.new.now (count_in g.row.K (user_row c.args.user.now q.users)) = c.moved-own.ensures ∙ ap (count_moved c.args.old.now c.args.new.now) c.user.ensures in
    let enough : (c.new.inside.active ≤ c.old.inside.active) ⊎ (c.count.inside.active ≤ vec_capacity c.make_room.new.numbers) = c.in-Ok.ensures.ok in
    let goes : c.old.inside.active ≡ c.args.old.now.active = ap (λ (u : Count). u.active) c.old.view_is in
    let comes : c.new.inside.active ≡ c.args.new.now.active = ap (λ (u : Count). u.active) c.new.view_is in
    let counts : c.count.inside.active ≡ c.moved-count.result.active = ap (λ (u : Count). u.active) c.count.view_is in
    let count = ap (λ (u : Count). u.active) c.moved-count.ensures in
    let active = ap (λ (x : Queue). x.active) c.self.view_is in
    let set : users_of c.set_user.new.users.entries ≡ with_count c.args.user.now (count_moved c.args.old.now c.args.new.now (count_in g.row.K (user_row c.args.user.now q.users))) q.users = c.in-Ok-set_user.ensures.ok ∙ (λ i. with_count c.args.user.now (own i) (c.self.view_is i).users) in
    record {
      shares_are = c.of-self-inside.ensures ∙ ap (λ (u : Count). shares u.used c.self.inside.guaranteed) c.count.view_is;
      has_room =
          subst (λ us. active_of us ≤ vec_capacity c.make_room.new.numbers) (sym set)
          (room_moved g.row.K c.args.user.now c.args.old.now c.args.new.now q (vec_capacity c.self.inside.waiting) (vec_capacity c.make_room.new.numbers) c.requires.fits (c.requires.sums Measure.active) (rw (← c.self.view_is) c.self.invariant.has_room)
          c.make_room.ensures.room (elim enough [ inl fewer ↦ inl (omega (arith, fewer, goes, comes)) | inr fits ↦ inr (omega (arith, fits, counts, count, active)) ]));
    }

pub returns-clause-ok : goal.returns-clause-ok
returns-clause-ok g c =
    let q = c.self.inside in
    let own = c.moved-own.ensures ∙ ap (count_moved c.args.old.now c.args.new.now) c.user.ensures in
    let set = c.in-Ok-set_user.ensures.ok ∙ (λ i. with_count c.args.user.now (own i) (c.self.view_is i).users) in
    let all = c.moved-count.ensures ∙ (λ i. count_moved c.args.old.now c.args.new.now (queue_count (c.self.view_is i))) in
    λ i. record { name = (c.self.view_is i).name; guaranteed = (c.self.view_is i).guaranteed; maximum = (c.self.view_is i).maximum; factor = (c.self.view_is i).factor; running = (c.self.view_is i).running; used = (all i).used; active = (all i).active; users = set i; waiting = (c.make_room.ensures.items ∙ ap (λ (x : Queue). x.waiting) c.self.view_is) i; waits = (c.self.view_is i).waits }
