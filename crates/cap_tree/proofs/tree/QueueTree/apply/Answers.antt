use Rattle.cap_tree.proofs.Prelude.{ap, arith, inl, inr, sym, subst, Count, IsPart, MayGive, count_in, HasRoomAtRoot, user_row_at}
use Rattle.cap_tree.proofs.Callers.{giving_part, there_holds}
use Rattle.cap_tree.proofs.Within.{room_applying}
use Rattle.cap_tree.proofs.Sizes.{count_fits, move_fits}
use Rattle.cap_tree.proofs.tree.QueueTree.apply.Goals as goal

pub change-requires : goal.change-requires
change-requires g c =
    let rows = c.args.self.now in
    let row = user_row_at c.args.path.now.items c.args.user.now rows in
    let position = there_holds c.args.user.now c.args.path.now.items rows (MayGive c.args.old.now) (λ h. h) c.requires.may in
    let fits = subst (λ (part : Count). IsPart part (count_in g.row.K row)) (sym c.use_alone.ensures) (giving_part g.row.K c.args.old.now row c.requires.may) in
    let within : HasRoomAtRoot c.use_alone.result c.use_alone-2.result rows = rw (c.use_alone.ensures, c.use_alone-2.ensures) (room_applying c.args.old.now c.args.new.now rows c.requires.within) in
    ((search), ((search), (search move_fits, (position, (fits, within)))))

pub unreachable-requires : goal.unreachable-requires
unreachable-requires g c = elim c.in_default.ensures.grows [ inl none ↦ subst (MayGive c.args.old.now) none c.requires.may | inr more ↦ let new = ap (λ (x : Count). x.active) c.use_alone-2.ensures in omega (arith, more, new) ]

pub use_alone-requires : goal.use_alone-requires
use_alone-requires g c = ((search), search count_fits)

pub use_alone-requires-2 : goal.use_alone-requires-2
use_alone-requires-2 g c = ((search), search count_fits)
