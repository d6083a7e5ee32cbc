use Rattle.std.proofs.Common.{refl, sym}
use Rattle.cap_audit.proofs.Prelude.{proposal_numbers, reserve_proposal}
use Rattle.cap_audit.proofs.Blanks.{some_is}
use Rattle.cap_audit.proofs.Steps.{of_reserve, reserve_of}
use Rattle.cap_audit.proofs.entries.reserve.Goals as goal

pub returns-in_default-clause-only : goal.returns-in_default-clause-only
returns-in_default-clause-only c = λ after makes.
    let of = reserve_of c.args.line.now c.args.rest.now makes.0 c.requires makes.1 in
    let p = reserve_proposal of.reservation in
    let read = c.in_default.ensures p (proposal_numbers p) (record { kind_is = refl; numbers_are = refl; fits = of.fits }) of.text_is in
    cc read

pub commit-requires : goal.commit-requires
commit-requires c = λ e is.
    let of = reserve_of c.args.line.now c.args.rest.now e c.requires is in
    let p = reserve_proposal of.reservation in
    let read = c.in-Some.ensures p (proposal_numbers p) (record { kind_is = refl; numbers_are = refl; fits = of.fits }) of.text_is in
    of_reserve _ e of.reservation of.event_is (sym (some_is _ p read))
