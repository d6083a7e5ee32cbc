use Rattle.cap_tree.proofs.Prelude.{[], Queue, sym, subst, option_map_or, IsIn}
use Rattle.cap_tree.proofs.NextWaiters.{numbers_are, numbers_at}
use Rattle.cap_tree.proofs.Sizes.{queue_fits}
use Rattle.cap_tree.specs.Numbers.{AreNumbers}
use Rattle.cap_tree.proofs.tree.QueueTree.has_waiting.Goals as goal

pub get-requires-room-T-TreeItem : goal.get-requires-room-T-TreeItem
get-requires-room-T-TreeItem g c κs within = search queue_fits

pub get-requires-room-T-Destruct : goal.get-requires-room-T-Destruct
get-requires-room-T-Destruct g c κs within = search queue_fits

pub has_waiting-requires : goal.has_waiting-requires
has_waiting-requires g c = (
  (search queue_fits),
  subst (λ o. AreNumbers (option_map_or (λ (q : Queue). q.waiting) o [])) c.get.ensures
      (numbers_at c.self.inside.root c.self.invariant.rows_are c.self.invariant.waiting_are c.as_slice.result.now (rw (← c.self.view_is, ← c.as_slice.ensures) at c.requires)),
)

pub returns-clause-there : goal.returns-clause-there
returns-clause-there g c e =
    rw (← c.self.view_is, ← c.as_slice.ensures)
    (subst (IsIn c.args.number) (numbers_are c.self.inside.root c.as_slice.result.now c.get.result.now c.get.ensures) (c.has_waiting.ensures.there e))

pub returns-clause-absent : goal.returns-clause-absent
returns-clause-absent g c e there =
    c.has_waiting.ensures.absent e (subst (IsIn c.args.number) (sym (numbers_are c.self.inside.root c.as_slice.result.now c.get.result.now c.get.ensures)) (rw (← c.self.view_is, ← c.as_slice.ensures) at there))
