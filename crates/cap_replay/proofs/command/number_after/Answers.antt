use Rattle.cap_replay.proofs.Commands.{begins_so, begins_otherwise, number_there, no_number_there}
use Rattle.cap_replay.proofs.command.number_after.Goals as goal

pub returns-in-Some-clause-found : goal.returns-in-Some-clause-found
returns-in-Some-clause-found c =
    let cases = c.in-Some.ensures.cases in
    number_there c.number_of.result c.args.line.now c.args.beginning.now c.in-Some.digits.now (begins_so c.args.line.now c.in-Some.digits.now c.args.beginning.now cases.0 cases.1) c.number_of.ensures.found

pub returns-in-Some-clause-none : goal.returns-in-Some-clause-none
returns-in-Some-clause-none c =
    let cases = c.in-Some.ensures.cases in
    no_number_there c.number_of.result c.args.line.now c.args.beginning.now c.in-Some.digits.now (begins_so c.args.line.now c.in-Some.digits.now c.args.beginning.now cases.0 cases.1) c.number_of.ensures.only

pub returns-in-None-clause-none : goal.returns-in-None-clause-none
returns-in-None-clause-none c = λ digits n e is. begins_otherwise c.args.line.now c.args.beginning.now digits c.in-None.ensures.cases e
