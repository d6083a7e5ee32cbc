use Rattle.cap_nodes.proofs.Prelude.{◌∙◌, ap, list_any, host_of, values_of}
use Rattle.cap_nodes.proofs.PlaceCounts.{no_text, some_kept, with_text}
use Rattle.cap_nodes.proofs.present.Present.is_host_taken.Goals as goal

pub returns-in_default : goal.returns-in_default
returns-in_default g c =
    rw (← c.self.view_is) (no_text host_of c.self.inside.places.hosts (values_of c.self.inside.loads.entries) c.args.host.now _ c.self.invariant.1.hosts c.new.ensures.variant c.in_default.is)

pub returns : goal.returns
returns g c =
    let loads = values_of c.self.inside.loads.entries in
    rw (← c.self.view_is) (c.has_host.ensures ∙ some_kept host_of c.self.inside.places.hosts loads c.in-Some.host c.self.invariant.1.hosts ∙ ap (λ h. list_any (with_text host_of h) loads) c.in-Some.ensures.some)
