use Rattle.cap_grammar.proofs.Prelude.{w16, w32, w64, to_be_bytes, list_bytes}
use Rattle.cap_grammar.proofs.Appends.{three}
use Rattle.cap_grammar.proofs.writing.put_report.Goals as goal

pub returns-clause-appends : goal.returns-clause-appends
returns-clause-appends c =
    three c.args.out.now.items _ _ _ (to_be_bytes w64 c.args.number) (to_be_bytes w32 c.args.response) (list_bytes w16 (to_be_bytes w64) c.args.ended.now) _ c.to_be_bytes.ensures c.put_long.ensures.appends c.extend_reserved.ensures.items c.put_numbers.ensures.appends
