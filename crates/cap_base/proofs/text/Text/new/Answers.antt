use Rattle.cap_base.proofs.Prelude.{◌≡◌, length, arith, true, rules, is_text}
use Rattle.cap_base.proofs.lists.Padding.{held, text_short}
use Rattle.cap_base.proofs.text.Text.new.Goals as goal

pub invariant_of-result : goal.invariant_of-result
invariant_of-result g c =
    let good : is_text g.row.MAX c.args.bytes.now ≡ true = search rules in
    let end : c.loop-i.i ≡ length c.args.bytes.now = omega arith in
    (held g.row.MAX c.args.bytes.now c.loop-i.held c.loop-i.invariant.long (text_short g.row.MAX c.args.bytes.now good) good
    (rw end at c.loop-i.invariant.is)).0

pub returns-clause-some : goal.returns-clause-some
returns-clause-some g c =
    let good : is_text g.row.MAX c.args.bytes.now ≡ true = search rules in
    let end : c.loop-i.i ≡ length c.args.bytes.now = omega arith in
    (held g.row.MAX c.args.bytes.now c.loop-i.held c.loop-i.invariant.long (text_short g.row.MAX c.args.bytes.now good) good
    (rw end at c.loop-i.invariant.is)).1
