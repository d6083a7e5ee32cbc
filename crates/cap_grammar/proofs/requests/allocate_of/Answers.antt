use Rattle.cap_grammar.proofs.Prelude.{◌≡◌, ap, Err, inl, err_from_is_err_and, NoMemory}
use Rattle.cap_grammar.proofs.ItemLaws.{first_list, second_list}
use Rattle.cap_grammar.proofs.requests.allocate_of.Goals as goal

pub returns-in_err-asks-clause-memory : goal.returns-in_err-asks-clause-memory
returns-in_err-asks-clause-memory c = λ is.
    let back = err_from_is_err_and c.from_residual-in_err-asks.result c.from_residual-in_err-asks.ensures.1 in
    let same : c.in_err-asks.field-0.0 ≡ NoMemory = cc (back.1, back.2, is) in
    inl (first_list c.args.bytes.now _ _ _ _ c.in_ok-app.ensures c.in_ok-response.ensures (c.in_err-asks.ensures.memory (ap Err same)))

pub returns-in_err-releases-clause-memory : goal.returns-in_err-releases-clause-memory
returns-in_err-releases-clause-memory c = λ is.
    let back = err_from_is_err_and c.from_residual-in_err-releases.result c.from_residual-in_err-releases.ensures.1 in
    let same : c.in_err-releases.field-0.0 ≡ NoMemory = cc (back.1, back.2, is) in
    second_list _ _ c.args.bytes.now _ _ _ _ _ _ c.in_ok-app.ensures c.in_ok-response.ensures c.in_ok-asks.ensures.gives (c.in_err-releases.ensures.memory (ap Err same))
