use Rattle.cap_tree.specs.QueueLaws.{moves_in_queue}
use Rattle.cap_tree.proofs.Sizes.{count_in_queue}
use Rattle.cap_tree.proofs.change.MoveChangeQueue.change_at.Goals as goal

pub move_user-requires : goal.move_user-requires
move_user-requires g c = ((search), (search count_in_queue, (c.requires.can, (moves_in_queue c.args.self.now.old c.args.self.now.new c.args.item.now c.requires.within, c.requires.sums))))
