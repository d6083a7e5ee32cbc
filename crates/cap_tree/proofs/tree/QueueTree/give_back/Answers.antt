use Rattle.cap_tree.proofs.Prelude.{ap, arith, inl, inr, sym, subst, Count, IsPart, MayGive, count_in, HasRoomAtRoot, user_row_at}
use Rattle.cap_tree.proofs.Callers.{giving_part, room_falling, there_holds}
use Rattle.cap_tree.proofs.Sizes.{count_fits, move_fits}
use Rattle.cap_tree.proofs.tree.QueueTree.give_back.Goals as goal

pub change-requires : goal.change-requires
change-requires g c =
    let rows = c.args.self.now in
    let row = user_row_at c.args.path.now.items c.args.user.now rows in
    let position = there_holds c.args.user.now c.args.path.now.items rows (MayGive c.args.r.now) (λ h. h) c.requires in
    let fits = subst (λ (part : Count). IsPart part (count_in g.row.K row)) (sym c.use_alone.ensures) (giving_part g.row.K c.args.r.now row c.requires) in
    let within = subst (λ (part : Count). HasRoomAtRoot c.use_alone.result part rows) (sym c.zero.ensures) (room_falling g.row.K c.use_alone.result rows) in
    ((search), ((search), (search move_fits, (position, (fits, within)))))

pub unreachable-requires : goal.unreachable-requires
unreachable-requires g c = elim c.in_default.ensures.grows [ inl none ↦ subst (MayGive c.args.r.now) none c.requires | inr more ↦ let new = ap (λ (x : Count). x.active) c.zero.ensures in omega (arith, more, new) ]

pub use_alone-requires : goal.use_alone-requires
use_alone-requires g c = ((search), search count_fits)

pub zero-requires : goal.zero-requires
zero-requires g c = search count_fits
