use Rattle.cap_tree.proofs.Prelude.{ap, arith, inl, inr, sym, subst, Count, IsPart, MayLeave, count_in, HasRoomAtRoot, user_row_at}
use Rattle.cap_tree.proofs.Callers.{leaving_part, room_falling, there_holds}
use Rattle.cap_tree.proofs.Sizes.{count_fits, move_fits}
use Rattle.cap_tree.proofs.tree.QueueTree.leave.Goals as goal

pub change-requires : goal.change-requires
change-requires g c =
    let rows = c.args.self.now in
    let row = user_row_at c.args.path.now.items c.args.user.now rows in
    let position = there_holds c.args.user.now c.args.path.now.items rows (MayLeave) (λ h. h) c.requires in
    let fits = subst (λ (part : Count). IsPart part (count_in g.row.K row)) (sym c.app.ensures) (leaving_part g.row.K row c.requires) in
    let within = subst (λ (part : Count). HasRoomAtRoot c.app.result part rows) (sym c.zero.ensures) (room_falling g.row.K c.app.result rows) in
    ((search), ((search), (search move_fits, (position, (fits, within)))))

pub unreachable-requires : goal.unreachable-requires
unreachable-requires g c = elim c.in_default.ensures.grows [ inl none ↦ subst (MayLeave) none c.requires | inr more ↦ let old = ap (λ (x : Count). x.active) c.app.ensures in let new = ap (λ (x : Count). x.active) c.zero.ensures in omega (arith, more, old, new) ]

pub zero-requires : goal.zero-requires
zero-requires g c = search count_fits

pub app-requires : goal.app-requires
app-requires g c = search count_fits
