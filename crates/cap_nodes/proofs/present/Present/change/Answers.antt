use Rattle.cap_nodes.proofs.Prelude.{◌∙◌, ap, sym, List, arith, values_of, Load, LoadTable}
use Rattle.cap_nodes.specs.Changes.{Counts, MayChange, changed_by}
use Rattle.cap_nodes.proofs.Changing.{keeps}
use Rattle.cap_nodes.proofs.Presents.{changed, there, of_found, if_found, if_none}
use Rattle.cap_nodes.proofs.ByNumber.{found_by_hash}
use Rattle.cap_nodes.proofs.Reserving.{none_changed}
use Rattle.cap_nodes.proofs.present.Present.change.Goals as goal

pub returns-in_default-clause-loads : goal.returns-in_default-clause-loads
returns-in_default-clause-loads g c =
    rw (← c.self.view_is, c.get_mut.follows.holds-at-none)
    (ap (λ (xs : List Load). let t : LoadTable = record { loads = xs; next = c.self.inside.next } in t)
    (sym (none_changed c.args.number (changed_by c.args.change) (values_of c.self.inside.loads.entries) (c.in_default.ensures.value ∙ found_by_hash c.self.invariant.0 c.args.number))))

pub returns-in_default-clause-count : goal.returns-in_default-clause-count
returns-in_default-clause-count g c = rw (← c.self.view_is) (if_none (Counts c.args.change) _ (c.in_default.ensures.value ∙ found_by_hash c.self.invariant.0 c.args.number))

pub change-requires : goal.change-requires
change-requires g c =
    let at = there c.self.inside.loads.entries c.self.inside.next c.args.number c.in-Some.load.now c.self.invariant.0 c.in-Some.ensures.value in
    (omega arith, (omega arith, of_found (MayChange c.args.change) _ c.in-Some.load.now at (rw (← c.self.view_is) at c.requires)))

pub invariant_of-self-2 : goal.invariant_of-self-2
invariant_of-self-2 g c = (changed c.self.inside.loads.entries (c.get_mut.follows.lender c.change.new.self).entries c.self.inside.next c.self.inside.places c.self.inside.greatest c.self.invariant c.args.number (changed_by c.args.change) (keeps c.args.change) c.in-Some.load.now c.change.new.self c.in-Some.ensures.value c.change.ensures.load (c.get_mut.follows.holds c.change.new.self).0).table

pub returns-clause-loads : goal.returns-clause-loads
returns-clause-loads g c =
    rw (← c.self.view_is)
    (ap (λ (xs : List Load). let t : LoadTable = record { loads = xs; next = c.self.inside.next } in t)
    (changed c.self.inside.loads.entries (c.get_mut.follows.lender c.change.new.self).entries c.self.inside.next c.self.inside.places c.self.inside.greatest c.self.invariant c.args.number (changed_by c.args.change) (keeps c.args.change) c.in-Some.load.now c.change.new.self c.in-Some.ensures.value c.change.ensures.load (c.get_mut.follows.holds c.change.new.self).0).values)

pub returns-clause-count : goal.returns-clause-count
returns-clause-count g c =
    let at = there c.self.inside.loads.entries c.self.inside.next c.args.number c.in-Some.load.now c.self.invariant.0 c.in-Some.ensures.value in
    rw (← c.self.view_is) (if_found (Counts c.args.change) _ c.in-Some.load.now at c.change.ensures.count)
