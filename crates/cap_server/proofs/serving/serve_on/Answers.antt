use Rattle.std.proofs.Common.{◌≡◌, arith, refl}
use Rattle.cap_base.specs.Limits.{resources}
use Rattle.cap_model.specs.Flat.{opened_cluster}
use Rattle.cap_server.specs.Epochs.{Standing, new_workers, standing}
use Rattle.cap_server.proofs.Printing.{refused_ends, listens_then}
use Rattle.cap_server.proofs.serving.serve_on.Goals as goal

pub returns-in-Ok-announce-clause-printed : goal.returns-in-Ok-announce-clause-printed
returns-in-Ok-announce-clause-printed g c = λ less.
    let same : c.announce.new.writer.failures ≡ c.args.writer.now.failures = c.in-Ok-announce.ensures.same in
    let opening : Standing = record { cluster = opened_cluster {K = resources} c.args.config.now; workers = new_workers c.args.sizes.now.workers } in
    let first : Standing = standing c.in-Ok-begin.carried.cluster.flat c.in-Ok-begin.carried.workers.items in
    let is : first ≡ opening = rw (c.in-Ok-begin.ensures.cluster, c.in-Ok-begin.ensures.new) refl in
    listens_then c.args.sizes.now.journal c.new-state.result.limit opening first c.in-Ok.port _ _ _ c.serve_all.result
    c.new-state.ensures is c.in-Ok-announce.ensures.printed (c.serve_all.ensures.printed (omega (arith, less, same)))

pub returns-in-Err-announce-clause-printed : goal.returns-in-Err-announce-clause-printed
returns-in-Err-announce-clause-printed g c = λ less.
    let opening : Standing = record { cluster = opened_cluster {K = resources} c.args.config.now; workers = new_workers c.args.sizes.now.workers } in
    refused_ends c.args.sizes.now.journal opening _ _ c.in-Err-announce.status (c.in-Err-announce.ensures.refused less)
