-- The room that a path and a queue take.
use Rattle.std.specs.Borrow.{RattleType}
use Rattle.std.specs.Mem.{FitsInMemory}
use Rattle.std.specs.declared.alloc.Allocator.{Ghosts}
use Rattle.smallvec.specs.contracts.small_vec.SmallVec as path
use Rattle.cap_tree.specs.contracts.queue.Queue as queue

-- the types of a path and of a queue are no larger than memory, as is so wherever a value of them exists
pub record TreeFitsInMemory (K A : RattleType) (alloc : Ghosts A.Denot) : Type 0 where
  pub path : FitsInMemory (path.the_row denote.Builtin.u32 (denote.Param.number 16) A alloc)
  pub queue : FitsInMemory (queue.the_row K A alloc)
