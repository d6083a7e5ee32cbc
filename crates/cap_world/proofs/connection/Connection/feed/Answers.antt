use Rattle.cap_world.proofs.Prelude.{◌<◌, ap, refl, ◌∙◌, arith, All-from_get_or, IsBytes, Connection}
use Rattle.cap_world.specs.declared.connection.Standing.TheVariants as standings
use Rattle.cap_world.proofs.ServedRequests.{feeds_served, feeds_starved}
use Rattle.cap_world.proofs.connection.Connection.feed.Goals as goal

pub returns-clause-fed : goal.returns-clause-fed
returns-clause-fed c =
    let old : Connection = record { standing = c.self.inside.standing; session = c.self.inside.session } in
    let new : Connection = record { standing = c.answer_all-self-inside.result; session = c.answer_all-self-inside.new.session } in
    let fits : IsBytes c.args.piece.now = All-from_get_or (λ b. b < 256) c.args.piece.now 0 (λ k _. omega (arith, c.type_inv.piece k)) in
    rw (← c.self.view_is)
    (feeds_served c.args.by c.args.piece.now c.args.cluster.now.flat c.answer_all-self-inside.new.cluster.flat c.args.events.now.items c.answer_all-self-inside.new.events.items old new c.feed.new.self fits c.self.invariant.sent c.in_default.ensures.gives.1 c.answer_all-self-inside.ensures)

pub returns-in-Ended-clause-fed : goal.returns-in-Ended-clause-fed
returns-in-Ended-clause-fed c =
    let old : Connection = record { standing = c.self.inside.standing; session = c.self.inside.session } in
    let new : Connection = record { standing = standings.Starved; session = c.feed.new.self } in
    let fits : IsBytes c.args.piece.now = All-from_get_or (λ b. b < 256) c.args.piece.now 0 (λ k _. omega (arith, c.type_inv.piece k)) in
    let over = c.self.invariant.ended (ap (λ (x : Connection). x.standing) c.self.view_is ∙ c.requires) in
    rw (← c.self.view_is)
    (feeds_starved c.args.by c.in-Ended.field-0 c.args.piece.now c.args.cluster.now.flat c.args.events.now.items old new fits c.self.invariant.sent over c.in-Ended.ensures.gives c.in-Ended.ensures.session refl)
