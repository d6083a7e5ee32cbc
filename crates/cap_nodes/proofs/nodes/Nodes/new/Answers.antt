use Rattle.cap_nodes.proofs.Sizes.{present_fits, containers_fit, reserved_fits, amounts_fit}
use Rattle.cap_nodes.proofs.Prelude.{[], sym, true, arith, amount_max, ClusterNode, AreTied}
use Rattle.cap_nodes.proofs.Sums.{where-none, zeros_within}
use Rattle.cap_nodes.proofs.nodes.Nodes.new.Goals as goal

pub invariant_of-result : goal.invariant_of-result
invariant_of-result g c =
    let tied : AreTied g.row.K [] [] = record { ties = tt; homes = tt } in
    rw (c.new.ensures, c.new-2.ensures, c.zero.ensures) (tied, sym (where-none g.row.K (λ (x : ClusterNode). true) (λ x. x.total) [] tt), omega arith, zeros_within amount_max g.row.K, tt)

pub new-requires : goal.new-requires
new-requires g c = search present_fits

pub new-requires-2 : goal.new-requires-2
new-requires-2 g c = search containers_fit

pub new-requires-3 : goal.new-requires-3
new-requires-3 g c = search reserved_fits

pub zero-requires : goal.zero-requires
zero-requires g c = search amounts_fit
