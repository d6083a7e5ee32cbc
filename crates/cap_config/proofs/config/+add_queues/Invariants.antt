use Rattle.cap_config.proofs.Prelude.{◌≡◌, ◌-◌, ◌++◌, ◌∷◌, take, flat_map, child, row_of, rows_under}
use Rattle.cap_config.proofs.config.+add_queues.Given as goal

abbrev pub decreases-add_queues : goal.decreases-add_queues
decreases-add_queues l = l.levels

-- the queue's own row, and the rows under the names so far
abbrev pub invariant-loop-name : goal.invariant-loop-name
invariant-loop-name l =
    l.queues.items
    ≡ l.fn.queues.items
    ++ row_of l.index.entries.now l.path
    ∷ flat_map (λ name. rows_under (l.levels - 1) l.index.entries.now (child l.path name)) (take l.name-index l.name-items)
