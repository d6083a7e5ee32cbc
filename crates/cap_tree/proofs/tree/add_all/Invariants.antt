use Rattle.cap_tree.proofs.Prelude.{◌≡◌, ◌++◌, take, drop, IsGrowing, queues_of, AreSpots, Queue}
use Rattle.cap_tree.proofs.tree.add_all.Given as goal

abbrev pub invariant-loop-row : goal.invariant-loop-row
invariant-loop-row g l = record { growing : IsGrowing g.row.K l.root (drop l.row-index l.rows); queues : queues_of l.root ≡ queues_of l.fn.root ++ take l.row-index l.rows; tree : AreSpots (λ (q : Queue). q.name) l.root }
