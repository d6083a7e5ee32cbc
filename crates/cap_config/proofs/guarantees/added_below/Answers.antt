use Rattle.cap_config.proofs.Prelude.{◌≡◌, ◌∙◌, ap, take_all, guaranteed, child, added_below}
use Rattle.cap_config.proofs.Sums.{sums_more}
use Rattle.cap_config.proofs.guarantees.added_below.Goals as goal

pub returns : goal.returns
returns c = c.loop-name.invariant ∙ ap (added_below c.args.index.now.entries.now c.args.path.now) (take_all c.loop-name.name-index c.args.names.now c.loop-name-test.false)

pub loop-name-preserved : goal.loop-name-preserved
loop-name-preserved c =
    let entries = c.args.index.now.entries.now in
    let path = c.args.path.now in
    let guarantee = c.amounts.result in
    let g : guarantee ≡ guaranteed entries (child path c.name-item.result) =
    c.amounts.ensures.value
    ∙ c.guaranteed.ensures
    ∙ ap (guaranteed entries) c.child_bytes-len.ensures.path in
    c.added-more.ensures
    ∙ sums_more entries path c.args.names.now c.loop-name.name-index c.name-item.result guarantee c.loop-name.sums c.loop-name-test.true c.name-item.is g c.loop-name.invariant
