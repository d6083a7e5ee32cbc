use Rattle.std.proofs.Common.{arith}
use Rattle.cap_grammar.proofs.RequestLaws.{found, only, bad}
use Rattle.cap_grammar.proofs.requests.read_request.Goals as goal

pub returns-clause-found : goal.returns-clause-found
returns-clause-found c = found _ _ (λ i. omega (arith, c.type_inv.bytes i)) c.request_of.ensures.gives

pub returns-clause-only : goal.returns-clause-only
returns-clause-only c = only _ _ c.request_of.ensures.gives

pub returns-clause-bad : goal.returns-clause-bad
returns-clause-bad c = bad _ _ c.request_of.ensures.gives
