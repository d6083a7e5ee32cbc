use Rattle.cap_grammar.proofs.Prelude.{◌≡◌, ◌++◌, ◌∙◌, sym, ap, List, ℕ, w16, w32, w64, to_be_bytes, list_bytes, ask, amounts_in, request_body, resources, Request}
use Rattle.cap_grammar.proofs.Appends.{four}
use Rattle.cap_grammar.proofs.writing.put_request_body.Goals as goal

pub returns-in-Allocate-clause-appends : goal.returns-in-Allocate-clause-appends
returns-in-Allocate-clause-appends c =
    let old = c.args.out.now.items in
    four old _ _ _ _ (to_be_bytes w64 c.in-Allocate.app) (to_be_bytes w32 c.in-Allocate.response) (list_bytes w16 (ask (amounts_in c.args.version)) c.in-Allocate.asks) (list_bytes w16 (to_be_bytes w64) c.in-Allocate.releases) _ c.to_be_bytes.ensures c.put_long.ensures.appends c.extend_reserved.ensures.items c.put_asks.ensures.appends c.put_numbers.ensures.appends
    ∙ ap (λ (r : Request resources). old ++ request_body c.args.version r) (sym c.in-Allocate.is)
