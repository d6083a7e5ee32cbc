use Rattle.std.proofs.Common.{◌∷◌, ◌++◌, []}
use Rattle.cap_replay.proofs.Commands.{begins_so, found_so}
use Rattle.cap_replay.proofs.command.command_of.Goals as goal

pub returns-in-Some-strip_prefix-2-clause-found : goal.returns-in-Some-strip_prefix-2-clause-found
returns-in-Some-strip_prefix-2-clause-found c =
    let cases = c.in-Some-strip_prefix-2.ensures.cases in
    let word = 112 ∷ 114 ∷ 111 ∷ 112 ∷ 111 ∷ 115 ∷ 101 ∷ 32 ∷ [] in
    found_so c.proposal_of.result c.args.line.now (word ++ c.in-Some-strip_prefix-2.rest.now) (begins_so c.args.line.now c.in-Some-strip_prefix-2.rest.now word cases.0 cases.1) c.proposal_of.ensures.found
