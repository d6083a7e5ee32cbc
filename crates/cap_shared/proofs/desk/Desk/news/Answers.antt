use Rattle.cap_shared.proofs.Prelude.{◌<◌, ℕ, length, refl, ap, sym, ◌∙◌, arith}
use Rattle.std.proofs.Common.{take, drop, ◌^◌}
use Rattle.cap_shared.specs.declared.history.NotedAnswer.TheVariants as answer
use Rattle.cap_shared.specs.Following.{piece_max}
use Rattle.cap_shared.proofs.Following.{is_news}
use Rattle.cap_shared.proofs.Pasts.{noted_seat}
use Rattle.cap_shared.proofs.desk.Desk.news.Goals as goal

pub invariant_of-seat : goal.invariant_of-seat
invariant_of-seat g c =
    noted_seat _ _ _ _ c.self.inside.journal.items c.self.inside.pass c.note_copied.new.desk c.seat.inside.pass c.note_copied.new.seat _ _ _ c.self.inside.cluster.flat answer.Copied c.seat.invariant c.note_copied.ensures refl c.self.invariant.run tt

pub returns : goal.returns
returns g c =
    let log = c.self.inside.journal.items in
    let len = c.self.inside.journal.ok.0 in
    let ranges = c.self.ranges in
    let few : length log < 2 ^ 64 = omega (arith, ranges) in
    is_news g.J.Naming.opening log c.self.inside.pass c.note_copied.new.desk c.seat.inside.pass c.note_copied.new.seat c.args.seat.now c.self.inside.cluster.flat c.args.replica.now.log c.in-Ok.piece.news c.in-Ok.piece.are_all
    c.seat.view_is c.requires.follows c.note_copied.ensures c.self.invariant.run few (c.in-Ok.ensures.news ∙ ap (λ (n : ℕ). take piece_max (drop n log)) c.followed.ensures) (rw (sym c.followed.ensures) c.in-Ok.ensures.all)
