use Rattle.cap_config.proofs.Prelude.{◌≡◌, length, option_map, above, missing_path, missing_from}
use Rattle.cap_config.proofs.queues.missing_path.Given as goal

-- the last path that was not listed so far
abbrev pub invariant-loop-parent : goal.invariant-loop-parent
invariant-loop-parent l =
    missing_path l.index.entries.now l.path ≡ missing_from l.index.entries.now l.rest (option_map (λ path. path.now) l.missing) (above l.rest)

abbrev pub decreases-loop-parent : goal.decreases-loop-parent
decreases-loop-parent l = length l.rest
