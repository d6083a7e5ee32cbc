-- The order of queues is total, and two that are alike in it have one name.
use Rattle.std.specs.Prelude.{◌≡◌}
use Rattle.std.specs.Ordering.{nat_cmp, ordering_then}
use Rattle.std.specs.declared.cmp.Ordering.{Ordering}
use Rattle.std.specs.declared.cmp.Ordering.TheVariants.{Less, Equal, Greater}
use Rattle.std.specs.Cmp.{IsTotalOrder}
use Rattle.std.specs.Cmp.Lexicographic.{slice_cmp}
use Rattle.std.proofs.lemmas.Cmp.{on_total}
use Rattle.std.proofs.lemmas.Map.Lookups.{exact_bytes}
use Rattle.cap_vector.specs.Fullness.{shares_cmp}
use Rattle.cap_base.proofs.Levels.{level_cmp_total}
use Rattle.cap_tree.specs.Queue.{Queue}
use Rattle.cap_tree.specs.Service.{queue_cmp, level_of_queue}

pub queue_cmp_total : IsTotalOrder queue_cmp
queue_cmp_total = on_total level_of_queue level_cmp_total

pub same_name : (p q : Queue) → queue_cmp p q ≡ Equal → p.name ≡ q.name
same_name p q e = exact_bytes p.name q.name (second (shares_cmp (level_of_queue p).fullness (level_of_queue q).fullness) (slice_cmp nat_cmp p.name q.name) e)
  where
    second : (a b : Ordering) → ordering_then a b ≡ Equal → b ≡ Equal
    second Equal b h = h
    second Less b h = absurd (cc h)
    second Greater b h = absurd (cc h)
