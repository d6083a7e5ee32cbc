use Rattle.cap_config.proofs.Prelude.{◌≡◌, ◌≤◌, drop, line_past}
use Rattle.cap_config.proofs.second_pass.too_many_line.Given as goal

-- so many queues so far
abbrev pub invariant-loop-entry : goal.invariant-loop-entry
invariant-loop-entry l = record {
  few : l.count ≤ 1024;
  so_far : line_past 1 l.entries ≡ line_past l.count (drop l.entry-index l.entries);
}
