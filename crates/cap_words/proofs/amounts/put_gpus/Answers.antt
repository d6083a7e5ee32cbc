use Rattle.std.proofs.lemmas.Result.{on_ok_weaker}
use Rattle.cap_words.proofs.Said.{gpus_put}
use Rattle.cap_words.proofs.amounts.put_gpus.Goals as goal

pub returns : goal.returns
returns c = on_ok_weaker c.put_number.result (λ e. gpus_put c.args.unsaid c.args.gpus _ _ _ c.if-gpus-unsaid.false c.in_ok-push_str.ensures.bytes e) c.put_number.ensures
