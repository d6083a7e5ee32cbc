use Rattle.cap_nodes.proofs.Prelude.{◌+◌, ◌<◌, ap, sym, subst, refl, List, length, values_of, live_max, Container, ContainerTable, IsOwnerIndex}
use Rattle.cap_nodes.proofs.ByNumber.{inserted, fresh}
use Rattle.cap_nodes.proofs.Owned.{index_pushed, index_back}
use Rattle.cap_nodes.proofs.containers.Containers.push.Goals as goal

pub invariant_of-self-in-Err : goal.invariant_of-self-in-Err
invariant_of-self-in-Err g c =
    let none = fresh c.self.invariant.0 in
    rw c.in-Err.ensures.err (
      c.self.invariant.0,
      index_back (λ (x : Container). x.app) (values_of c.self.inside.containers.entries) c.self.inside.of_apps c.self.invariant.1 c.insert.new.self c.remove.new.self c.args.app c.self.inside.next none c.in_ok-insert.ensures.ok c.remove.ensures,
      c.self.invariant.2,
    )

pub invariant_of-self-in-Err-insert : goal.invariant_of-self-in-Err-insert
invariant_of-self-in-Err-insert g c =
    let none = fresh c.self.invariant.0 in
    rw c.in-Err-insert.ensures.err (
      c.self.invariant.0,
      index_back (λ (x : Container). x.app) (values_of c.self.inside.containers.entries) c.self.inside.of_apps c.self.invariant.1 c.insert.new.self c.remove-in-Err-insert.new.self c.args.app c.self.inside.next none c.in_ok-insert.ensures.ok c.remove-in-Err-insert.ensures,
      index_back (λ (x : Container). x.node) (values_of c.self.inside.containers.entries) c.self.inside.on_nodes c.self.invariant.2 c.insert-2.new.self c.remove-in-Err-insert-2.new.self c.args.node c.self.inside.next none c.in-Ok.ensures.ok c.remove-in-Err-insert-2.ensures,
    )

pub invariant_of-self-2 : goal.invariant_of-self-2
invariant_of-self-2 g c =
    let container : Container = record { number = c.self.inside.next; app = c.args.app; key = c.args.key.now; node = c.args.node; resource = c.args.resource.now } in
    let few : length (values_of c.self.inside.containers.entries) < live_max = rw (← c.self.view_is) at c.requires.few in
    let now = inserted c.self.invariant.0 c.insert-3.new.self.entries container few refl c.in-Ok-insert.ensures.entries in
    let none = fresh c.self.invariant.0 in (
      now.numbered,
      subst (λ (cs : List Container). IsOwnerIndex (λ x. x.app) cs c.insert.new.self) (sym now.values)
          (index_pushed (λ (x : Container). x.app) (values_of c.self.inside.containers.entries) c.self.inside.of_apps c.self.invariant.1 c.insert.new.self container none c.in_ok-insert.ensures.ok),
      subst (λ (cs : List Container). IsOwnerIndex (λ x. x.node) cs c.insert-2.new.self) (sym now.values)
          (index_pushed (λ (x : Container). x.node) (values_of c.self.inside.containers.entries) c.self.inside.on_nodes c.self.invariant.2 c.insert-2.new.self container none c.in-Ok.ensures.ok),
    )

pub returns-clause-ok : goal.returns-clause-ok
returns-clause-ok g c =
    let container : Container = record { number = c.self.inside.next; app = c.args.app; key = c.args.key.now; node = c.args.node; resource = c.args.resource.now } in
    let few : length (values_of c.self.inside.containers.entries) < live_max = rw (← c.self.view_is) at c.requires.few in
    rw (← c.self.view_is) (
      refl,
      ap (λ (xs : List Container). let t : ContainerTable = record { containers = xs; next = c.self.inside.next + 1 } in t)
          (inserted c.self.invariant.0 c.insert-3.new.self.entries container few refl c.in-Ok-insert.ensures.entries).values,
    )
