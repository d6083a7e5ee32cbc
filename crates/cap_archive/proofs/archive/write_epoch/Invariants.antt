use Rattle.std.proofs.Common.{◌≡◌, ℕ, List, ◌++◌, drop}
use Rattle.std.specs.List.{flat_map}
use Rattle.cap_journal.specs.Lines.{ended, epoch_words}
use Rattle.cap_session.specs.Counted.{CanCount, inner_of, state_of}
use Rattle.cap_archive.specs.Archive.{Passes}
use Rattle.cap_archive.proofs.Written.{entry_text}
use Rattle.cap_archive.proofs.archive.write_epoch.Given as goal

-- the lines so far were written out, but for those that are held, and those to come are the rest
abbrev pub invariant-loop-entry : goal.invariant-loop-entry
invariant-loop-entry g l = record {
  passes : (all : List ℕ) × Passes (g.W.Write.contents (inner_of l.fn.writer)) (g.W.Write.contents (inner_of l.writer)) all l.lines.items
      × (all ++ flat_map entry_text (drop l.entry-index l.journal) ≡ ended (epoch_words l.number) ++ flat_map entry_text l.journal);
  counts : CanCount (state_of l.writer);
}
