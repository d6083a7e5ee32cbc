use Rattle.cap_tree.specs.QueueLaws.{moves_in_queue, part_of_queue}
use Rattle.cap_tree.proofs.Sizes.{count_in_queue}
use Rattle.cap_tree.proofs.change.MoveChangeQueue.change_above.Goals as goal

pub move_below-requires : goal.move_below-requires
move_below-requires g c = (
  (search),
  (search count_in_queue, (part_of_queue c.args.self.now.old c.args.item.now c.requires.fits, moves_in_queue c.args.self.now.old c.args.self.now.new c.args.item.now c.requires.within)),
)
