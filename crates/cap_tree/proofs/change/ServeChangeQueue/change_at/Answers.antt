use Rattle.cap_tree.proofs.Prelude.{arith}
use Rattle.cap_tree.specs.Measure.{Measure}
use Rattle.cap_tree.specs.QueueLaws.{one_own}
use Rattle.cap_tree.proofs.change.ServeChangeQueue.change_at.Goals as goal

pub serve_at-requires : goal.serve_at-requires
serve_at-requires g c = (
  (search),
  (omega (arith, one_own c.args.self.now.number c.args.item.now Measure.waiting c.requires.can.0 c.requires.can.1, c.requires.sums Measure.waiting), (c.requires.can.0, c.requires.can.1)),
)
