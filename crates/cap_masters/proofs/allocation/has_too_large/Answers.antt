use Rattle.cap_masters.proofs.Prelude.{is_too_large, drop_all, list_any, ◌∙◌, ap, sym, ask_in_cluster, amounts_in_cluster, limits_in_cluster}
use Rattle.cap_masters.proofs.TooLarge.{here, not_here, large, fitting, none_wanted}
use Rattle.cap_masters.proofs.allocation.has_too_large.Goals as goal
use Rattle.cap_masters.proofs.allocation.has_too_large.Goals.{else-count-gt0-via-then-count-gt0+else-not-fits, else-count-gt0-via-else-count-gt0}

pub returns-then-not-fits : goal.returns-then-not-fits
returns-then-not-fits g c =
    here c.args.cluster.now.flat c.args.asks.now c.loop-ask.ask-index c.ask-item.result c.loop-ask-test.true c.ask-item.is c.loop-ask.invariant
    (large c.args.cluster.now.flat c.ask-item.result c.fits.result c.count.result c.resource.result c.settings.result.now.maximum_allocation c.count.ensures c.resource.ensures c.settings.ensures.maximum c.if-count-gt0.true c.fits.ensures c.if-not-fits.true)

pub loop-ask-preserved : goal.loop-ask-preserved
loop-ask-preserved g c =
    not_here c.args.cluster.now.flat c.args.asks.now c.loop-ask.ask-index c.ask-item.result c.loop-ask-test.true c.ask-item.is c.loop-ask.invariant
    (elim c.else-count-gt0.branch [
      | else-count-gt0-via-then-count-gt0+else-not-fits w ↦ fitting c.args.cluster.now.flat c.ask-item.result w.fits.result w.resource.result c.settings.result.now.maximum_allocation w.resource.ensures c.settings.ensures.maximum w.fits.ensures w.if-not-fits.false
      | else-count-gt0-via-else-count-gt0 w ↦ none_wanted c.args.cluster.now.flat c.ask-item.result c.count.result c.count.ensures w.if-count-gt0.false
    ])

pub fits-requires : goal.fits-requires
fits-requires g c = search amounts_in_cluster

pub resource-requires : goal.resource-requires
resource-requires g c = search amounts_in_cluster

pub count-requires : goal.count-requires
count-requires g c = search ask_in_cluster

pub settings-requires : goal.settings-requires
settings-requires g c = search limits_in_cluster

pub returns : goal.returns
returns g c = sym (c.loop-ask.invariant ∙ ap (list_any (is_too_large c.args.cluster.now.flat)) (drop_all c.loop-ask.ask-index c.args.asks.now c.loop-ask-test.false))
