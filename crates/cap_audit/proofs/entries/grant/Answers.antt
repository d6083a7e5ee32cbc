use Rattle.std.proofs.Common.{refl, sym}
use Rattle.cap_audit.proofs.Prelude.{grant_proposal, proposal_numbers}
use Rattle.cap_audit.proofs.Blanks.{some_is}
use Rattle.cap_audit.proofs.Steps.{grant_of, of_grant}
use Rattle.cap_audit.proofs.entries.grant.Goals as goal

pub returns-in_default-clause-only : goal.returns-in_default-clause-only
returns-in_default-clause-only c = λ after makes.
    let of = grant_of c.args.line.now c.args.rest.now makes.0 c.requires makes.1 in
    c.in_default.ensures of.container.number (proposal_numbers (grant_proposal of.container)) of.number_fits of.text_is

pub returns-in_default-proposal_in-clause-only : goal.returns-in_default-proposal_in-clause-only
returns-in_default-proposal_in-clause-only c = λ after makes.
    let of = grant_of c.args.line.now c.args.rest.now makes.0 c.requires makes.1 in
    let p = grant_proposal of.container in
    let next = c.in-Some.ensures of.container.number (proposal_numbers p) of.number_fits of.text_is in
    let read = c.in_default-proposal_in.ensures p (proposal_numbers p) (record { kind_is = refl; numbers_are = refl; fits = of.fits }) next.1 in
    cc read

pub commit-requires : goal.commit-requires
commit-requires c = λ e is.
    let of = grant_of c.args.line.now c.args.rest.now e c.requires is in
    let p = grant_proposal of.container in
    let next = c.in-Some.ensures of.container.number (proposal_numbers p) of.number_fits of.text_is in
    let read = c.in-Some-proposal_in.ensures p (proposal_numbers p) (record { kind_is = refl; numbers_are = refl; fits = of.fits }) next.1 in
    of_grant _ e of.container of.event_is (sym (some_is _ p read))
