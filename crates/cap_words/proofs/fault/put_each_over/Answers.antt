use Rattle.std.proofs.lemmas.Result.{on_ok_weaker}
use Rattle.cap_words.proofs.Said.{each_put}
use Rattle.cap_words.proofs.fault.put_each_over.Goals as goal

pub returns : goal.returns
returns c =
    on_ok_weaker c.put_over-3.result
    (λ e. each_put c.args.amounts c.args.most _ _ _ _ c.in_ok-put_over.ensures c.in_ok-put_over-2.ensures e)
    c.put_over-3.ensures
