use Rattle.cap_workers.proofs.Turns.{schedules_number, works_from}
use Rattle.cap_workers.specs.Scheduling.{seat_of}
use Rattle.cap_workers.proofs.scheduler.Scheduler.schedule.Goals as goal

pub invariant_of-result : goal.invariant_of-result
invariant_of-result g c = works_from g.J.Naming.opening g.J.Naming.limit c.args.self.worker (seat_of c.args.self.seeing) _ _ c.take-ended.result c.args.self.fresh c.take-ended.ensures

pub returns-clause-number : goal.returns-clause-number
returns-clause-number g c = schedules_number g.J.Naming.opening g.J.Naming.limit c.args.self.worker (seat_of c.args.self.seeing) _ _ c.take-ended.result c.take-ended.ensures
