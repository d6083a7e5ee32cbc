use Rattle.cap_config.proofs.Prelude.{rules, arith, sym, subst, ◌≡◌, ◌≤◌, List, length, applications_max, queues_max, QueueRow, IsListing, root, rows_under}
use Rattle.cap_config.proofs.Listing.{rows_are_listing}
use Rattle.cap_config.proofs.RowAmounts.{minimum_is_resource, maximum_is_resource}
use Rattle.cap_config.proofs.RowBounds.{few_rows}
use Rattle.cap_config.proofs.config.config_of.Goals as goal

pub new-requires-2 : goal.new-requires-2
unfolding root
new-requires-2 c =
    let entries = c.args.index.now.entries.now in
    let limit : c.application_limit.result ≤ applications_max = c.application_limit.ensures.small in
    let rows : c.add_queues.new.queues.items ≡ rows_under 16 entries root = search rules in
    (omega arith, (omega arith, (omega arith, (subst IsListing (sym rows) (rows_are_listing entries c.requires.bounded c.requires.whole), (subst (λ (x : List QueueRow). length x ≤ queues_max) (sym rows) (few_rows entries c.requires.bounded c.requires.whole), (limit, omega arith))))))

pub allocation-requires : goal.allocation-requires
allocation-requires c = rw c.minimum_allocation.ensures (minimum_is_resource c.args.index.now.entries.now c.requires.bounded)

pub allocation-requires-2 : goal.allocation-requires-2
allocation-requires-2 c = rw c.maximum_allocation.ensures (maximum_is_resource c.args.index.now.entries.now c.requires.bounded)
