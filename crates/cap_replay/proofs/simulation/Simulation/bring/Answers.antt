use Rattle.cap_replay.proofs.Making.{brings}
use Rattle.cap_replay.proofs.simulation.Simulation.bring.Goals as goal

pub returns-clause-brings : goal.returns-clause-brings
returns-clause-brings c = brings c.step.result c.args.number c.args.piece c.args.self.now c.step.new.self c.step.ensures.advances
