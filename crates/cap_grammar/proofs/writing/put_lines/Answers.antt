use Rattle.cap_grammar.proofs.Prelude.{◌≡◌, ap, sym, ◌∙◌, length, length-append, arith, w32, to_be_bytes, list_bytes}
use Rattle.cap_grammar.proofs.Appends.{each_byte, lines_written}
use Rattle.cap_grammar.proofs.writing.put_lines.Goals as goal

pub returns-clause-appends : goal.returns-clause-appends
unfolding list_bytes
returns-clause-appends c = lines_written c.args.out.now.items _ _ _ _ c.args.lines.now c.to_be_bytes.ensures c.as_slice-lines.ensures.value c.extend_reserved.ensures.items c.extend_reserved-2.ensures.items

pub returns-clause-spare : goal.returns-clause-spare
unfolding list_bytes
returns-clause-spare c =
    let first = c.extend_reserved.ensures.spare in
    let second = c.extend_reserved-2.ensures.spare in
    let head = ap length c.to_be_bytes.ensures in
    let lines = ap length c.as_slice-lines.ensures.value in
    rw (each_byte c.args.lines.now) (omega (arith, first, second, head, lines))

pub returns-clause-len : goal.returns-clause-len
unfolding list_bytes
returns-clause-len c =
    let few = c.as_slice-lines.ensures.few in
    let lines = ap length c.as_slice-lines.ensures.value in
    rw (each_byte c.args.lines.now) (omega (arith, few, lines))
