use Rattle.cap_nodes.proofs.Prelude.{ℕ, ◌∙◌, ap, List, refl, ◌<◌, ◌+◌, length, nat_eq, values_of, insert_entry-new, nodes_max, ClusterNode, Load, LoadTable, arith, count_by-le-length, host_of, rack_of, sym, subst, Fits}
use Rattle.indexmap.specs.IndexMap.{insert_entry}
use Rattle.cap_nodes.proofs.PlaceCounts.{kept_count, with_text}
use Rattle.cap_nodes.proofs.Presents.{pushed}
use Rattle.cap_nodes.proofs.ByNumber.{found_by_hash, fresh, pushed as number_pushed}
use Rattle.cap_nodes.proofs.present.Present.push.Goals as goal

pub add-requires-clause-hosts : goal.add-requires-clause-hosts
add-requires-clause-hosts g c =
    let loads = values_of c.self.inside.loads.entries in
    let few : length loads < nodes_max = rw (← c.self.view_is) at c.requires.few in
    let kept = kept_count host_of c.self.inside.places.hosts loads c.args.host.now c.self.invariant.1.hosts in
    let most = count_by-le-length (with_text host_of c.args.host.now) loads in
    omega (arith, few, kept, most)

pub add-requires-clause-racks : goal.add-requires-clause-racks
add-requires-clause-racks g c =
    let loads = values_of c.self.inside.loads.entries in
    let few : length loads < nodes_max = rw (← c.self.view_is) at c.requires.few in
    let kept = kept_count rack_of c.self.inside.places.racks loads c.args.rack.now c.self.invariant.1.racks in
    let most = count_by-le-length (with_text rack_of c.args.rack.now) loads in
    omega (arith, few, kept, most)

pub invariant_of-self-in-Err-add : goal.invariant_of-self-in-Err-add
invariant_of-self-in-Err-add g c = rw c.reserve.ensures.entries (c.self.invariant.0, c.in-Err-add.ensures.err (values_of c.self.inside.loads.entries) c.self.invariant.1, c.self.invariant.2)

pub invariant_of-self-2 : goal.invariant_of-self-2
invariant_of-self-2 g c =
    let load : Load = record { node = c.new.result; held = c.zero.result; live = 0; reservation = c.args.reservation.now } in
    let loads = values_of c.self.inside.loads.entries in
    let few : length loads < nodes_max = rw (← c.self.view_is) at c.requires.few in
    let entries = c.in-Ok-insert.ensures.entries ∙ ap (λ (es : List (ℕ × Load)). insert_entry nat_eq es c.self.inside.next load) c.reserve.ensures.entries ∙ insert_entry-new nat_eq c.self.inside.loads c.self.inside.next load (found_by_hash c.self.invariant.0 c.self.inside.next ∙ fresh c.self.invariant.0) in
    (pushed c.self.inside.loads.entries c.insert.new.self.entries c.self.inside.next c.self.inside.places c.self.inside.greatest c.self.invariant load c.args.host.now c.args.rack.now (ap (λ (n : ClusterNode). n.host) c.new.ensures) (ap (λ (n : ClusterNode). n.rack) c.new.ensures) c.add.ensures.texts
    c.add.new.self c.greater-self-inside.result few (ap (λ (n : ClusterNode). n.number) c.new.ensures) c.in-Ok-add.ensures.ok c.greater-self-inside.ensures.first (subst (λ v. Fits v c.greater-self-inside.result) (sym (ap (λ (n : ClusterNode). n.total) c.new.ensures)) c.greater-self-inside.ensures.second) entries).table

pub returns-clause-ok : goal.returns-clause-ok
returns-clause-ok g c =
    let load : Load = record { node = c.new.result; held = c.zero.result; live = 0; reservation = c.args.reservation.now } in
    let loads = values_of c.self.inside.loads.entries in
    let few : length loads < nodes_max = rw (← c.self.view_is) at c.requires.few in
    let entries = c.in-Ok-insert.ensures.entries ∙ ap (λ (es : List (ℕ × Load)). insert_entry nat_eq es c.self.inside.next load) c.reserve.ensures.entries ∙ insert_entry-new nat_eq c.self.inside.loads c.self.inside.next load (found_by_hash c.self.invariant.0 c.self.inside.next ∙ fresh c.self.invariant.0) in
    let values = (number_pushed c.self.invariant.0 c.insert.new.self.entries load few (ap (λ (n : ClusterNode). n.number) c.new.ensures) entries).values in
    rw (← c.self.view_is, ← c.new.ensures, ← c.zero.ensures) (refl, ap (λ (xs : List Load). let t : LoadTable = record { loads = xs; next = c.self.inside.next + 1 } in t) values)
