-- The room that a snapshot takes.
use Rattle.std.specs.Borrow.{RattleType}
use Rattle.std.specs.Mem.{FitsInMemory}
use Rattle.std.specs.declared.alloc.Allocator.{Ghosts}
use Rattle.cap_vector.specs.Vector.{amount_max}
use Rattle.cap_vector.specs.contracts.vector.Amounts as amounts
use Rattle.cap_model.specs.contracts.proposal.Proposal as proposal
use Rattle.cap_copy.specs.contracts.seen.SeenAsk as ask
use Rattle.cap_copy.specs.contracts.seen.SeenNode as node
use Rattle.cap_copy.specs.contracts.snapshot.Snapshot as snapshot

-- the types of a snapshot and of what is in it are no larger than memory, as is so wherever a value of them exists
pub record SnapshotFitsInMemory (K A : RattleType) (alloc : Ghosts A.Denot) : Type 0 where
  pub snapshot : FitsInMemory (snapshot.the_row K A alloc)
  pub ask : FitsInMemory (ask.the_row K)
  pub node : FitsInMemory (node.the_row K)
  pub resource : FitsInMemory (amounts.the_row K (denote.Param.number amount_max))
  pub proposal : FitsInMemory (proposal.the_row K)
