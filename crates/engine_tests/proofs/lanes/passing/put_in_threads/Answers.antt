use Rattle.std.proofs.Common.{arith}
use Rattle.engine_tests.proofs.Ending.{all_same}
use Rattle.engine_tests.proofs.lanes.passing.put_in_threads.Goals as goal

pub returns-in-Ok : goal.returns-in-Ok
returns-in-Ok g c =
    let n = c.in-Ok.ensures.len in
    let a = c.args.putters.ok.0 in
    let b = c.in-Ok.ended.ok.0 in
    all_same c.args.putters.items c.in-Ok.ended.items (omega arith) (λ i d l. (let k = (c.in-Ok.ensures.each i d l).1 in record { from = k.job; is = k.job_is; same = k.call.met }))
