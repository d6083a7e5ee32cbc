use Rattle.cap_live.proofs.Sizes.{cluster_of_few, nodes_of_few}
use Rattle.cap_live.proofs.Prelude.{◌∙◌, ap, sym, app_sight, in_limits, sight_of}
use Rattle.cap_live.proofs.Shutting.{all_impossible_shut, not_off, over_limits_shut}
use Rattle.cap_live.proofs.live.LiveFarm.is_shut.Goals as goal

pub returns-then-is_impossible : goal.returns-then-is_impossible
returns-then-is_impossible g c _ = all_impossible_shut c.args.self.now.flat c.args.of.now.impossible c.requires.impossible (app_sight c.args.of.now.app) (c.is_impossible.ensures c.if-is_impossible.true)

pub returns : goal.returns
returns g c shut =
    let app = app_sight c.args.of.now.app in
    let sight = sight_of c.args.self.now.flat in
    let over = ap (λ zero. in_limits sight app zero c.least-least.result) (sym c.zero.ensures) ∙ sym c.stays_within.ensures ∙ not_off c.stays_within.result shut in
    over_limits_shut sight app c.least-least.result c.least-least.ensures over

pub nodes-requires : goal.nodes-requires
nodes-requires g c = (cluster_of_few _ c.self.invariant, nodes_of_few _ c.self.invariant)
