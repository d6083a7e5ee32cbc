use Rattle.std.proofs.Common.{◌≡◌, rules, arith}
use Rattle.std.proofs.lemmas.Grind.{common_steps}
use Rattle.cap_server.specs.Epochs.{LeadsThrough, standing}
use Rattle.cap_server.specs.Printed.{closed_line}
use Rattle.cap_server.proofs.Printing.{closed_printed}
use Rattle.cap_server.proofs.serving.serve_all.Goals as goal

pub returns-in-Ok-write_out-clause-printed : goal.returns-in-Ok-write_out-clause-printed
returns-in-Ok-write_out-clause-printed g c = λ less.
    let opening = standing c.args.carried.cluster.flat c.args.carried.workers.items in
    let closing = standing c.in-Ok.carried.cluster.flat c.in-Ok.carried.workers.items in
    let journals : LeadsThrough c.args.state.now.limit opening c.in-Ok.totals closing = c.in-Ok.ensures in
    let line : c.as_bytes.result.now ≡ closed_line c.in-Ok.totals =
    first_of (cc (c.as_bytes.ensures.value, c.in-Ok-format.ensures.ok), search (rules, c.as_bytes.ensures.value, c.in-Ok-format.ensures.ok), grind (arith, common_steps, c.as_bytes.ensures.value, c.in-Ok-format.ensures.ok)) in
    closed_printed c.args.state.now.limit opening closing c.in-Ok.totals _ _ c.closing_status.result c.as_bytes.result.now journals c.closing_status.ensures c.in-Ok-write_out.ensures.bytes line
