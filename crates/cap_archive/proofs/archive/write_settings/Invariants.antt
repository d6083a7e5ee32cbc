use Rattle.std.proofs.Common.{◌≡◌, ◌++◌, length}
use Rattle.std.specs.Str.Lines.{lines}
use Rattle.cap_archive.specs.Archive.{settings_lines}
use Rattle.cap_archive.proofs.archive.write_settings.Given as goal

abbrev pub decreases-loop-rest : goal.decreases-loop-rest
decreases-loop-rest g l = length l.rest

-- the lines that are put, and those of the rest, are those of the text
abbrev pub invariant-loop-rest : goal.invariant-loop-rest
invariant-loop-rest g l = l.lines.items ++ settings_lines (lines l.rest) ≡ settings_lines (lines l.text)
