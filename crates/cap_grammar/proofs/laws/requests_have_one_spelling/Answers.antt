use Rattle.cap_grammar.proofs.Prelude.{refl, node_with_two_amounts, request_bytes}
use Rattle.cap_grammar.proofs.RequestLaws.{one_request, one_version, two_have_one, one_in_version_one, none_in_version_two, none_begins_another, request_is_bytes}
use Rattle.cap_grammar.proofs.laws.requests_have_one_spelling.Goals as goal

pub returns-clause-some : goal.returns-clause-some
returns-clause-some c = λ K head request is id_fits fits. (request_bytes head request, request_is_bytes K head request is fits, record { spelled = refl; version_fits = is; id_fits = id_fits; fits = fits })

pub returns-clause-apart : goal.returns-clause-apart
returns-clause-apart c = one_request

pub returns-clause-whole : goal.returns-clause-whole
returns-clause-whole c = none_begins_another

pub returns-clause-versions : goal.returns-clause-versions
returns-clause-versions c = one_version

pub returns-clause-two : goal.returns-clause-two
returns-clause-two c = two_have_one

pub returns-clause-example : goal.returns-clause-example
returns-clause-example c = (one_in_version_one, none_in_version_two, two_have_one (node_with_two_amounts 2) refl)
