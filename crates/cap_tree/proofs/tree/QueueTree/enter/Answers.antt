use Rattle.cap_tree.proofs.Prelude.{sym, subst, Count, IsPart, count_in, HasRoomAtRoot, user_row_at}
use Rattle.cap_tree.proofs.Callers.{entering_part, room_entering}
use Rattle.cap_tree.proofs.Sizes.{count_fits, move_fits}
use Rattle.cap_tree.proofs.tree.QueueTree.enter.Goals as goal

pub change-requires : goal.change-requires
change-requires g c =
    let rows = c.args.self.now in
    let row = user_row_at c.args.path.now.items c.args.user.now rows in
    let position = c.requires.position in
    let fits = subst (λ (part : Count). IsPart part (count_in g.row.K row)) (sym c.zero.ensures) (entering_part g.row.K row) in
    let within : HasRoomAtRoot c.zero.result c.app.result rows = rw (c.zero.ensures, c.app.ensures) (room_entering g.row.K rows c.requires.few) in
    ((search), ((search), (search move_fits, (position, (fits, within)))))

pub zero-requires : goal.zero-requires
zero-requires g c = search count_fits

pub app-requires : goal.app-requires
app-requires g c = search count_fits
