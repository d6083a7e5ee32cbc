use Rattle.cap_grammar.proofs.Prelude.{◌≡◌, ap, Err, err_from_is_err_and, NoMemory}
use Rattle.cap_grammar.proofs.ItemLaws.{first_list}
use Rattle.cap_grammar.proofs.requests.heartbeat_of.Goals as goal

pub returns-in_err-ended-clause-memory : goal.returns-in_err-ended-clause-memory
returns-in_err-ended-clause-memory c = λ is.
    let back = err_from_is_err_and c.from_residual-in_err-ended.result c.from_residual-in_err-ended.ensures.1 in
    let same : c.in_err-ended.field-0.0 ≡ NoMemory = cc (back.1, back.2, is) in
    first_list c.args.bytes.now _ _ _ _ c.in_ok-node.ensures c.in_ok-response.ensures (c.in_err-ended.ensures.memory (ap Err same))
