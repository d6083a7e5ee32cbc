use Rattle.cap_audit.proofs.Prelude.{head, request_bytes, encode_lower}
use Rattle.cap_audit.proofs.Blanks.{lacks-encoded, spelled_bytes}
use Rattle.cap_audit.proofs.reading.call_in.Goals as goal

pub returns-in_default-clause-found : goal.returns-in_default-clause-found
returns-in_default-clause-found c = λ by request text.
    c.in_default.ensures by (encode_lower (request_bytes head request)) text.reply text.by_fits (lacks-encoded (request_bytes head request) (spelled_bytes request text.request_fits)) text.text_is

pub returns-in-Ok-clause-found : goal.returns-in-Ok-clause-found
returns-in-Ok-clause-found c = λ by request text.
    let parts = c.in-Some.ensures by (encode_lower (request_bytes head request)) text.reply text.by_fits (lacks-encoded (request_bytes head request) (spelled_bytes request text.request_fits)) text.text_is in
    (parts.0, c.in-Ok.ensures.found request text.request_fits parts.1)

pub returns-in-Err-clause-found : goal.returns-in-Err-clause-found
returns-in-Err-clause-found c = λ by request text.
    let parts = c.in-Some.ensures by (encode_lower (request_bytes head request)) text.reply text.by_fits (lacks-encoded (request_bytes head request) (spelled_bytes request text.request_fits)) text.text_is in
    c.in-Err.ensures.found request text.request_fits parts.1
