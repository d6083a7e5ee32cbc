use Rattle.cap_shared.proofs.Prelude.{◌≡◌}
use Rattle.std.proofs.Common.{take, drop}
use Rattle.cap_shared.proofs.news.News.after.Given as goal

-- the first so many of the entries from the position on are added
abbrev pub invariant-loop-index : goal.invariant-loop-index
invariant-loop-index l = l.news ≡ take l.index (drop l.position l.journal.items)
