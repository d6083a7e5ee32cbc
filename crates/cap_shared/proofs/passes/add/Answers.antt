use Rattle.cap_shared.proofs.Prelude.{[], ap, sym, ◌∙◌, subst, Me, View, Mark, addition_of, keeper, sitting_of, only_first, with_guest}
use Rattle.cap_shared.proofs.Moves.{splits, joins, adds, may_add, MayAdd}
use Rattle.cap_shared.proofs.passes.add.Goals as goal

pub split_seat-guest-requires : goal.split_seat-guest-requires
split_seat-guest-requires c = (c.requires.tables.1, c.requires.word, splits 0 _ _)

pub join_seat-requires : goal.join_seat-requires
join_seat-requires c =
    let e = c.split_seat-guest.ensures in
    (c.requires.tables.0, e.3 ∙ c.requires.tables.1, ap (λ (m : Me Mark View). m.1) e.4, c.requires.word, joins 0 _ _ _ _)

pub compare_exchange_with-requires : goal.compare_exchange_with-requires
compare_exchange_with-requires c =
    let e = c.split_seat-guest.ensures in
    let j = c.join_seat.ensures in
    let s = sitting_of c.args.seat.now.me.0 in
    let guest = e.4 ∙ ap (λ (m : Me Mark View). (only_first m.0, [])) c.requires.views.1 in
    let lent = j.2 ∙ ap (λ (m : Me Mark View). (with_guest m.0 c.split_seat-guest.result.me.0, m.1)) c.requires.views.0 ∙ ap (λ (m : Me Mark View). (with_guest (keeper c.args.desk.now.me.0.log) m.0, [])) guest in (
      j.0 ∙ c.requires.tables.0,
      c.requires.word,
      adds 0 _ _ _ _ 0 0 (λ n. n) _ (ap (λ (m : Me Mark View). m.0.keeps) lent) (subst (λ (m : Me Mark View). MayAdd (addition_of c.args.mark.now) m.0.sits) (sym lent) (may_add _ s c.requires.mine)),
    )

pub split_seat-guest-requires-2 : goal.split_seat-guest-requires-2
split_seat-guest-requires-2 c = (c.compare_exchange_with.ensures.0 ∙ c.join_seat.ensures.0 ∙ c.requires.tables.0, c.requires.word, splits 0 _ _)

pub join_seat-requires-2 : goal.join_seat-requires-2
join_seat-requires-2 c =
    let e = c.split_seat-guest.ensures in
    let f = c.split_seat-guest-2.ensures in
    (e.0 ∙ c.requires.tables.1, f.3 ∙ c.compare_exchange_with.ensures.0 ∙ c.join_seat.ensures.0 ∙ c.requires.tables.0, ap (λ (m : Me Mark View). m.1) f.4, c.requires.word, joins 0 _ _ _ _)
