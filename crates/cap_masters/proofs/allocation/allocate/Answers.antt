use Rattle.cap_masters.proofs.Prelude.{ap, subst, sym, ◌∙◌, HasNumbers, full_reply}
use Rattle.cap_masters.proofs.Processing.{fresh_at, fresh_is, repeated_is, answered, repeated_same, fresh_processed, no_memory}
use Rattle.cap_masters.proofs.allocation.allocate.Goals as goal

pub process-requires : goal.process-requires
process-requires g c =
    let fresh = fresh_is c.args.cluster.now.flat c.args.app c.args.response (sym c.in_default.is ∙ c.in-Ok.ensures.repeated) in
    ((search), ((search), fresh_at c.args.cluster.now.flat c.args.app c.args.response c.args.asks.now (rw (c.as_slice.ensures.value) at c.in-Ok.ensures.ok) fresh))

pub returns-in-Some-clause-replies : goal.returns-in-Some-clause-replies
returns-in-Some-clause-replies g c =
    let flat = c.args.cluster.now.flat in
    let repeated = repeated_is flat c.args.app c.args.response c.in-Some.reported (sym c.in-Some.is ∙ c.in-Ok.ensures.repeated) in
    answered flat flat c.args.app c.args.response c.args.asks.now c.args.releases.now _ (rw (c.as_slice.ensures.value) at c.in-Ok.ensures.ok)
    (repeated_same flat c.args.app c.args.response c.args.asks.now c.args.releases.now repeated.0) (ap (full_reply flat) c.reply_of.ensures)

pub returns-in-Ok-process-clause-replies : goal.returns-in-Ok-process-clause-replies
returns-in-Ok-process-clause-replies g c =
    let flat = c.args.cluster.now.flat in
    let fresh = fresh_is flat c.args.app c.args.response (sym c.in_default.is ∙ c.in-Ok.ensures.repeated) in
    answered flat c.process.new.cluster.flat c.args.app c.args.response c.args.asks.now c.args.releases.now _ (rw (c.as_slice.ensures.value) at c.in-Ok.ensures.ok)
    (fresh_processed flat c.process.new.cluster.flat c.args.app c.args.response c.args.asks.now c.args.releases.now fresh c.in-Ok-process.ensures.ok) (ap (full_reply c.process.new.cluster.flat) c.reply_of-in-Ok-process.ensures)

pub returns-in-Err-process-clause-replies : goal.returns-in-Err-process-clause-replies
returns-in-Err-process-clause-replies g c =
    let flat = c.args.cluster.now.flat in
    let fresh = fresh_is flat c.args.app c.args.response (sym c.in_default.is ∙ c.in-Ok.ensures.repeated) in
    no_memory flat c.process.new.cluster.flat c.args.app c.args.response c.args.asks.now c.args.releases.now (rw (c.as_slice.ensures.value) at c.in-Ok.ensures.ok) fresh c.in-Err-process.ensures.err

pub returns-in-Some-clause-numbers : goal.returns-in-Some-clause-numbers
returns-in-Some-clause-numbers g c =
    let flat = c.args.cluster.now.flat in
    let repeated = repeated_is flat c.args.app c.args.response c.in-Some.reported (sym c.in-Some.is ∙ c.in-Ok.ensures.repeated) in
    subst (HasNumbers flat) (sym c.reply_of.ensures) repeated.1

pub returns-in-Ok-process-clause-numbers : goal.returns-in-Ok-process-clause-numbers
returns-in-Ok-process-clause-numbers g c = subst (HasNumbers c.process.new.cluster.flat) (sym c.reply_of-in-Ok-process.ensures) c.in-Ok-process.ensures.told

pub admit-requires : goal.admit-requires
admit-requires g c = search
