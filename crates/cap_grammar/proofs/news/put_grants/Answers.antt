use Rattle.cap_grammar.proofs.Prelude.{subst, sym, AllByRecursion, drop_all, resources, FitsGrant, amounts_in}
use Rattle.cap_grammar.proofs.VersionLaws.{three_at_most}
use Rattle.cap_grammar.proofs.Lengths.{length_grants}
use Rattle.cap_grammar.proofs.news.put_grants.Goals as goal

pub returns-clause-fits : goal.returns-clause-fits
returns-clause-fits c = c.loop-told.invariant.fits (subst (AllByRecursion (FitsGrant resources)) (sym (drop_all c.loop-told.told-index c.args.grants.now c.loop-told-test.false)) tt)

pub returns-clause-len : goal.returns-clause-len
returns-clause-len c = length_grants (amounts_in c.args.version) c.args.grants.now (three_at_most c.args.version) (returns-clause-fits c)
