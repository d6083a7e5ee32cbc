-- The room that a snapshot takes.
use Rattle.std.specs.Borrow.{RattleType}
use Rattle.std.specs.Mem.{FitsInMemory}
use Rattle.std.specs.declared.alloc.Allocator.{Ghosts}
use Rattle.std.specs.contracts.alloc.Global as global
use Rattle.std.specs.contracts.impls.GlobalAllocator.TheImpl as global_allocator
use Rattle.cap_tree.specs.contracts.tree.QueueTree as tree
use Rattle.cap_copy.specs.contracts.snapshot.Snapshot as snapshot
use Rattle.cap_copy.specs.contracts.copied.ClusterCopy as copied

-- the type of a cluster's tree is no larger than memory, as is so wherever a value of it exists
pub record SourceFitsInMemory (K : RattleType) : Type 0 where
  pub tree : FitsInMemory (tree.the_row K global.the_row global_allocator.ghosts)

-- and the types of a snapshot and of the copy that it is made of
pub record CopyFitsInMemory (K A : RattleType) (alloc : Ghosts A.Denot) : Type 0 where
  pub source : SourceFitsInMemory K
  pub snapshot : FitsInMemory (snapshot.the_row K A alloc)
  pub copied : FitsInMemory (copied.the_row K A alloc)
