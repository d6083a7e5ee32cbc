use Rattle.cap_nodes.proofs.Prelude.{◌∙◌, ap, sym, List, ◌==◌, values_of, ClusterNode, Load, LoadTable, host_of, rack_of}
use Rattle.cap_nodes.proofs.Numbered.{none_gone}
use Rattle.cap_nodes.proofs.PlaceCounts.{has_text}
use Rattle.cap_nodes.proofs.Presents.{removed, there}
use Rattle.cap_nodes.proofs.ByNumber.{found_by_hash}
use Rattle.cap_nodes.proofs.present.Present.remove.Goals as goal

pub returns-in_default : goal.returns-in_default
returns-in_default g c =
    rw (← c.self.view_is)
    (ap (λ (xs : List Load). let t : LoadTable = record { loads = xs; next = c.self.inside.next } in t)
    (sym (none_gone (λ (p : Load). p.node.number == c.args.number) (values_of c.self.inside.loads.entries) (c.in_default.ensures.value ∙ found_by_hash c.self.invariant.0 c.args.number))))

pub remove-requires : goal.remove-requires
remove-requires g c =
    let x = c.self.inside in
    let its = sym (c.host.ensures ∙ ap (λ (x : ClusterNode). x.host) c.node-node.ensures) in
    let own = sym (c.rack.ensures ∙ ap (λ (x : ClusterNode). x.rack) c.node-node.ensures) in
    let at = there x.loads.entries x.next c.args.number c.in-Some.load.now c.self.invariant.0 c.in-Some.ensures.value in
    record {
      hosts = has_text host_of c.in-Some.load.now c.host.result.now its x.next c.args.number (values_of x.loads.entries) c.self.invariant.0.rising at x.places.hosts c.self.invariant.1.hosts;
      racks = has_text rack_of c.in-Some.load.now c.rack.result.now own x.next c.args.number (values_of x.loads.entries) c.self.invariant.0.rising at x.places.racks c.self.invariant.1.racks;
    }

pub invariant_of-self : goal.invariant_of-self
invariant_of-self g c =
    let x = c.self.inside in
    let its = sym (c.host.ensures ∙ ap (λ (x : ClusterNode). x.host) c.node-node.ensures) in
    let own = sym (c.rack.ensures ∙ ap (λ (x : ClusterNode). x.rack) c.node-node.ensures) in
    (removed x.loads.entries c.shift_remove.new.self.entries x.next x.places x.greatest c.self.invariant c.in-Some.load.now c.host.result.now c.rack.result.now its own c.remove.ensures.texts c.args.number c.remove.new.self c.in-Some.ensures.value c.remove.ensures.places c.shift_remove.ensures.entries).table

pub returns : goal.returns
returns g c =
    let x = c.self.inside in
    let its = sym (c.host.ensures ∙ ap (λ (x : ClusterNode). x.host) c.node-node.ensures) in
    let own = sym (c.rack.ensures ∙ ap (λ (x : ClusterNode). x.rack) c.node-node.ensures) in
    rw (← c.self.view_is)
    (ap (λ (xs : List Load). let t : LoadTable = record { loads = xs; next = x.next } in t)
    (removed x.loads.entries c.shift_remove.new.self.entries x.next x.places x.greatest c.self.invariant c.in-Some.load.now c.host.result.now c.rack.result.now its own c.remove.ensures.texts c.args.number c.remove.new.self c.in-Some.ensures.value c.remove.ensures.places c.shift_remove.ensures.entries).values)
