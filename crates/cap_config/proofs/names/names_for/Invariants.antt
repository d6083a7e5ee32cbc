use Rattle.cap_config.proofs.Prelude.{◌≡◌, [], eqb, length, slice_split, HasAll}
use Rattle.cap_config.proofs.NameLists.{names_from}
use Rattle.cap_config.proofs.names.names_for.Given as goal

-- the names so far, and then those of the rest
abbrev pub invariant-loop-part : goal.invariant-loop-part
invariant-loop-part l = record {
  seen : HasAll l.set l.names.items;
  so_far : names_from l.path [] (slice_split (λ b. eqb b 44) l.bytes) ≡ names_from l.path l.names.items (slice_split (λ b. eqb b 44) l.rest);
}

abbrev pub decreases-loop-part : goal.decreases-loop-part
decreases-loop-part l = length l.rest
