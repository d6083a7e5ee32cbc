-- The room that what is proposed takes.
use Rattle.std.specs.Borrow.{RattleType}
use Rattle.std.specs.Mem.{FitsInMemory}
use Rattle.cap_vector.specs.Vector.{amount_max}
use Rattle.cap_vector.specs.contracts.vector.Amounts as amounts
use Rattle.cap_model.specs.contracts.ask.Ask as ask
use Rattle.cap_model.specs.contracts.proposal.Proposal as proposal

-- the types of what a proposal looks at are no larger than memory, as is so wherever a value of them exists: what shows it a cluster, an ask,
-- a resource, and a proposal. No record is made of it, since where the type of what shows it has a lifetime only its size is to be looked at
abbrev pub FarmFitsInMemory : RattleType → RattleType → Type 0
FarmFitsInMemory K F = FitsInMemory F × FitsInMemory (ask.the_row K) × FitsInMemory (amounts.the_row K (denote.Param.number amount_max)) × FitsInMemory (proposal.the_row K)
