use Rattle.cap_nodes.proofs.Prelude.{◌∙◌, ap, sym, List, refl, option_and_then, values_of, Load, LoadTable, load_at, beaten_load}
use Rattle.cap_nodes.proofs.Presents.{changed, no_load_at, same_beaten, there}
use Rattle.cap_nodes.proofs.Changes.{load_changed}
use Rattle.cap_nodes.proofs.present.Present.beat.Goals as goal

pub unreachable-requires : goal.unreachable-requires
unreachable-requires g c = no_load_at c.self.inside.loads.entries c.self.inside.next c.args.number c.self.invariant.0 c.in-None.ensures.value (rw (← c.self.view_is) at c.requires)

pub invariant_of-self : goal.invariant_of-self
invariant_of-self g c =
    (changed c.self.inside.loads.entries (c.get_mut.follows.lender c.beat.new.self).entries c.self.inside.next c.self.inside.places c.self.inside.greatest c.self.invariant c.args.number (beaten_load c.args.ignored) (same_beaten c.args.ignored) c.in-Some.load.now c.beat.new.self c.in-Some.ensures.value c.beat.ensures.load (c.get_mut.follows.holds c.beat.new.self).0).table

pub returns-clause-loads : goal.returns-clause-loads
returns-clause-loads g c =
    rw (← c.self.view_is)
    (ap (λ (xs : List Load). let t : LoadTable = record { loads = xs; next = c.self.inside.next } in t)
    (changed c.self.inside.loads.entries (c.get_mut.follows.lender c.beat.new.self).entries c.self.inside.next c.self.inside.places c.self.inside.greatest c.self.invariant c.args.number (beaten_load c.args.ignored) (same_beaten c.args.ignored) c.in-Some.load.now c.beat.new.self c.in-Some.ensures.value c.beat.ensures.load (c.get_mut.follows.holds c.beat.new.self).0).values)

pub returns-clause-kept : goal.returns-clause-kept
returns-clause-kept g c =
    let at = there c.self.inside.loads.entries c.self.inside.next c.args.number c.in-Some.load.now c.self.invariant.0 c.in-Some.ensures.value in
    let now = (changed c.self.inside.loads.entries (c.get_mut.follows.lender c.beat.new.self).entries c.self.inside.next c.self.inside.places c.self.inside.greatest c.self.invariant c.args.number (beaten_load c.args.ignored) (same_beaten c.args.ignored) c.in-Some.load.now c.beat.new.self c.in-Some.ensures.value c.beat.ensures.load (c.get_mut.follows.holds c.beat.new.self).0).values in
    ap (λ (xs : List Load). option_and_then (λ (p : Load). p.node.kept) (load_at xs c.args.number)) now
    ∙ ap (option_and_then (λ (p : Load). p.node.kept)) (load_changed (beaten_load c.args.ignored) (λ p. refl) (values_of c.self.inside.loads.entries) c.args.number c.in-Some.load.now at)
    ∙ ap (λ (p : Load). p.node.kept) (sym c.beat.ensures.load)
    ∙ c.beat.ensures.kept
