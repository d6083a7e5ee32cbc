use Rattle.cap_serving.proofs.Prelude.{sym, ap, ◌∙◌, subst, Option, option_to_list, resources, Request, IsBatchMade}
use Rattle.cap_serving.proofs.Receipts.{serves_none}
use Rattle.cap_serving.proofs.Together.{no_requests}
use Rattle.cap_serving.proofs.sessions.answer_pending.Goals as goal

pub returns-in_err-request-clause-batch : goal.returns-in_err-request-clause-batch
returns-in_err-request-clause-batch g c =
    let none = no_requests c.args.session.now.opens (c.requires.pending ∙ ap option_to_list c.in_err-request.was) in
    subst (λ (r : Option (Request resources)). IsBatchMade g.J.Naming.limit c.args.session.now c.args.session.now c.args.seat.now c.args.seat.now r) (sym c.from_residual.ensures) (serves_none c.args.session.now c.args.seat.now, none, c.requires.goes_on)
