use Rattle.cap_nodes.proofs.Prelude.{nat_cmp, is_at, ◌≡◌, ◌∙◌, ap, sym, subst, List, Some, find, ◌==◌, values_of, Container, ContainerTable, IsOwnerIndex}
use Rattle.cap_nodes.proofs.ByNumber.{removed, found}
use Rattle.cap_nodes.proofs.Numbered.{same_tie}
use Rattle.cap_nodes.proofs.Owned.{index_left}
use Rattle.cap_nodes.proofs.containers.Containers.remove.Goals as goal

pub invariant_of-self : goal.invariant_of-self
invariant_of-self g c =
    let now = removed c.self.invariant.0 (is_at (nat_cmp c.args.number)) c.args.number (same_tie c.args.number) c.remove.new.self.entries c.in-Some.ensures.entries in
    let at = sym (found c.self.invariant.0 c.args.number) ∙ sym c.in-Some.ensures.value in
    let there = subst (λ (x : Container). find (λ y. y.number == c.args.number) (values_of c.self.inside.containers.entries) ≡ Some x) (sym c.container.view_is) at in (
      now.numbered,
      subst (λ (cs : List Container). IsOwnerIndex (λ x. x.app) cs c.remove-in-Some.new.self) (sym now.values)
          (index_left (λ (x : Container). x.app) (values_of c.self.inside.containers.entries) c.self.inside.of_apps c.self.invariant.1 c.remove-in-Some.new.self c.args.number _ there c.remove-in-Some.ensures),
      subst (λ (cs : List Container). IsOwnerIndex (λ x. x.node) cs c.remove-in-Some-2.new.self) (sym now.values)
          (index_left (λ (x : Container). x.node) (values_of c.self.inside.containers.entries) c.self.inside.on_nodes c.self.invariant.2 c.remove-in-Some-2.new.self c.args.number _ there c.remove-in-Some-2.ensures),
    )

pub returns-in-Some : goal.returns-in-Some
returns-in-Some g c =
    rw (← c.self.view_is)
    (ap (λ (xs : List Container). let t : ContainerTable = record { containers = xs; next = c.self.inside.next } in t)
    (removed c.self.invariant.0 (is_at (nat_cmp c.args.number)) c.args.number (same_tie c.args.number) c.remove.new.self.entries c.in-Some.ensures.entries).values)

pub returns-in-None : goal.returns-in-None
returns-in-None g c =
    rw (← c.self.view_is)
    (ap (λ (xs : List Container). let t : ContainerTable = record { containers = xs; next = c.self.inside.next } in t)
    (removed c.self.invariant.0 (is_at (nat_cmp c.args.number)) c.args.number (same_tie c.args.number) c.remove.new.self.entries c.in-None.ensures.entries).values)
