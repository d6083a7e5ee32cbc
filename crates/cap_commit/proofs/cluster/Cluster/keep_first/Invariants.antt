use Rattle.cap_commit.proofs.Prelude.{◌≡◌, length, filter, slice_get, is_for}
use Rattle.cap_commit.proofs.Dropping.{IsKeeping}
use Rattle.cap_commit.proofs.cluster.Cluster.keep_first.Given as goal

-- the next to drop is the one that so many come before
abbrev pub invariant-loop-next : goal.invariant-loop-next
invariant-loop-next g l =
    IsKeeping (is_for l.number l.key) l.most l.fn.self l.self × (l.next ≡ slice_get (filter (is_for l.number l.key) l.self.flat.nodes.reserved) l.most)

abbrev pub decreases-loop-next : goal.decreases-loop-next
decreases-loop-next g l = length l.self.flat.nodes.reserved
