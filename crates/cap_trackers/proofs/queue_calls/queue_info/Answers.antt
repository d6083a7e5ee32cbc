use Rattle.cap_trackers.proofs.Answering.{report_is}
use Rattle.cap_trackers.proofs.queue_calls.queue_info.Goals as goal

pub returns-in-Some-clause-replies : goal.returns-in-Some-clause-replies
returns-in-Some-clause-replies g c =
    let bytes = c.as_bytes.ensures.value in
    report_is c.args.cluster.now.flat c.args.path.now _ (rw bytes at c.in-Some.ensures.found) (rw bytes at c.in-Some.ensures.report)
