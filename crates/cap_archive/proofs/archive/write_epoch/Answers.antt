use Rattle.std.proofs.Common.{◌∙◌}
use Rattle.cap_session.specs.Counted.{inner_of}
use Rattle.cap_archive.proofs.Written.{passes_entry, ends_epoch, on_ok}
use Rattle.cap_archive.proofs.archive.write_epoch.Goals as goal

pub loop-entry-preserved : goal.loop-entry-preserved
loop-entry-preserved g c =
    let before = c.loop-entry.invariant.passes in
    record {
      passes = passes_entry (g.W.Write.contents (inner_of c.args.writer.now)) (g.W.Write.contents (inner_of c.loop-entry.writer)) (g.W.Write.contents (inner_of c.pass_on.new.writer)) c.args.journal.now c.loop-entry.entry-index c.entry-item.result before.0 c.loop-entry.lines.items c.put_entry.new.lines.items c.pass_on.new.lines.items _ c.loop-entry-test.true c.entry-item.is before.1 before.2 c.in_ok-put_entry.ensures c.in_ok-pass_on.ensures.bytes;
      counts = c.in_ok-pass_on.ensures.counts;
    }

pub returns-clause-bytes : goal.returns-clause-bytes
returns-clause-bytes g c =
    let before = c.loop-entry.invariant.passes in
    on_ok c.write_lines.result c.write_lines.ensures.bytes (λ written.
    ends_epoch (g.W.Write.contents (inner_of c.args.writer.now)) (g.W.Write.contents (inner_of c.loop-entry.writer)) (g.W.Write.contents (inner_of c.write_lines.new.writer)) c.args.number c.args.journal.now c.loop-entry.entry-index before.0 c.loop-entry.lines.items c.deref.result.now c.loop-entry-test.false before.1 before.2 (c.deref.ensures.value ∙ c.in_ok-put_last.ensures) written)
