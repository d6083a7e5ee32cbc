use Rattle.cap_copy.proofs.Prelude.{refl}
use Rattle.cap_copy.proofs.Fitting.{name_in_seen}
use Rattle.cap_tree.proofs.Sizes.{amounts_in_source, shares_in_source}
use Rattle.cap_copy.proofs.seen_queue.QueueGlobalCopyInSeenQueue.copy_in.Goals as goal

pub factor-requires : goal.factor-requires
factor-requires g c = search

pub name-requires : goal.name-requires
name-requires g c = search

pub guaranteed-requires : goal.guaranteed-requires
guaranteed-requires g c = ((search), search amounts_in_source)

pub maximum-requires : goal.maximum-requires
maximum-requires g c = ((search), search amounts_in_source)

pub shares-requires : goal.shares-requires
shares-requires g c = ((search), search shares_in_source)

pub from_slice-requires : goal.from_slice-requires
from_slice-requires g c = search name_in_seen

pub returns : goal.returns
returns g c = rw (c.and.ensures, c.new.ensures) refl
