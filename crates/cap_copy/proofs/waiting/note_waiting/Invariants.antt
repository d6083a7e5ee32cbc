use Rattle.std.proofs.Common.{◌≡◌, map, take}
use Rattle.cap_copy.proofs.waiting.note_waiting.Given as goal

abbrev pub invariant-loop-app : goal.invariant-loop-app
invariant-loop-app g l = record {
  rows : l.tree.rows ≡ l.initial.tree.rows;
  waiting : l.tree.waiting ≡ map (λ a. a.held.account.position) (take l.app-index l.apps);
  room : l.tree.room ≡ l.initial.tree.room;
}
