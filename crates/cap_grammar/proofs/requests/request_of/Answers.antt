use Rattle.cap_grammar.proofs.Prelude.{◌≡◌, ◌∙◌, sym, ap, Err, err_from_is_err_and, NoMemory}
use Rattle.cap_grammar.proofs.ItemLaws.{carries_items}
use Rattle.cap_grammar.proofs.requests.request_of.Goals as goal

pub returns-in_err-request-clause-memory : goal.returns-in_err-request-clause-memory
returns-in_err-request-clause-memory c = λ is.
    let back = err_from_is_err_and c.from_residual-in_err-request.result c.from_residual-in_err-request.ensures.1 in
    let same : c.in_err-request.field-0.0 ≡ NoMemory = cc (back.1, back.2, is) in
    carries_items _ _ _ c.in_ok-version.ensures (sym c.has_version.ensures ∙ c.if-not-has_version.false) (c.in_err-request.ensures.memory (ap Err same))
