use Rattle.cap_replay.proofs.Prelude.{refl, subst, IsCommand, Open, Bytes, End, Copy, Propose, Commit}
use Rattle.cap_world.specs.declared.step.Step.TheVariants as steps
use Rattle.cap_replay.proofs.Commands.{no_opening, no_later, no_later_conf}
use Rattle.cap_replay.proofs.Results.{on_ok, on_ok_twice}
use Rattle.cap_replay.proofs.Scripts.{no_script, no_script_conf, has_stepped, after_comment, after_property, after_step, after_make, fails_at_step}
use Rattle.cap_replay.proofs.script.Script.play.Goals as goal

pub returns-in-Some-Nothing-clause-good : goal.returns-in-Some-Nothing-clause-good
returns-in-Some-Nothing-clause-good c = λ done stands.
    after_comment done c.args.line.now c.args.self.now.simulation stands (subst (λ x. IsCommand c.args.line.now x) c.in-Some-Nothing.field-0-is c.in-Some-Nothing.ensures.found)

pub returns-in-Some-Conf-clause-good : goal.returns-in-Some-Conf-clause-good
returns-in-Some-Conf-clause-good c =
    on_ok_twice c.add.result c.add.ensures.good c.add.ensures.added (λ closed added. λ done stands.
    after_property done c.args.line.now c.in-Some-Conf.property c.args.self.now.simulation c.add.new.self.simulation stands
    (subst (λ x. IsCommand c.args.line.now x) c.in-Some-Conf.field-0-is c.in-Some-Conf.ensures.found) closed c.add.ensures.world added)

pub returns-in-Some-Conf-clause-bad : goal.returns-in-Some-Conf-clause-bad
returns-in-Some-Conf-clause-bad c = λ n e done stands.
    no_script_conf done c.args.line.now (has_stepped done c.args.self.now.simulation stands (c.add.ensures.bad n e)) (no_later_conf c.args.line.now c.in-Some-Conf.property (subst (λ x. IsCommand c.args.line.now x) c.in-Some-Conf.field-0-is c.in-Some-Conf.ensures.found))

pub returns-in-Some-Open-clause-good : goal.returns-in-Some-Open-clause-good
returns-in-Some-Open-clause-good c =
    on_ok c.make.result c.make.ensures.makes (λ makes. λ done stands.
    after_make done c.args.line.now (Open c.in-Some-Open.number) (steps.Open c.in-Some-Open.number) c.args.self.now.simulation c.make.new.self.simulation stands (subst (λ x. IsCommand c.args.line.now x) c.in-Some-Open.field-0-is c.in-Some-Open.ensures.found) refl makes)

pub returns-in-Some-Open-clause-fault : goal.returns-in-Some-Open-clause-fault
returns-in-Some-Open-clause-fault c = λ fault e done stands.
    fails_at_step done c.args.line.now c.args.self.now.simulation fault stands
    (Open c.in-Some-Open.number, subst (λ x. IsCommand c.args.line.now x) c.in-Some-Open.field-0-is c.in-Some-Open.ensures.found, tt) (c.make.ensures.fault fault e)

pub returns-in-Some-End-clause-good : goal.returns-in-Some-End-clause-good
returns-in-Some-End-clause-good c =
    on_ok c.make-in-Some-End.result c.make-in-Some-End.ensures.makes (λ makes. λ done stands.
    after_make done c.args.line.now (End c.in-Some-End.number) (steps.End c.in-Some-End.number) c.args.self.now.simulation c.make-in-Some-End.new.self.simulation stands (subst (λ x. IsCommand c.args.line.now x) c.in-Some-End.field-0-is c.in-Some-End.ensures.found) refl makes)

pub returns-in-Some-End-clause-fault : goal.returns-in-Some-End-clause-fault
returns-in-Some-End-clause-fault c = λ fault e done stands.
    fails_at_step done c.args.line.now c.args.self.now.simulation fault stands
    (End c.in-Some-End.number, subst (λ x. IsCommand c.args.line.now x) c.in-Some-End.field-0-is c.in-Some-End.ensures.found, tt) (c.make-in-Some-End.ensures.fault fault e)

pub returns-in-Some-Copy-clause-good : goal.returns-in-Some-Copy-clause-good
returns-in-Some-Copy-clause-good c =
    on_ok c.make-in-Some-Copy.result c.make-in-Some-Copy.ensures.makes (λ makes. λ done stands.
    after_make done c.args.line.now (Copy c.in-Some-Copy.worker) (steps.Copy c.in-Some-Copy.worker) c.args.self.now.simulation c.make-in-Some-Copy.new.self.simulation stands (subst (λ x. IsCommand c.args.line.now x) c.in-Some-Copy.field-0-is c.in-Some-Copy.ensures.found) refl makes)

pub returns-in-Some-Copy-clause-fault : goal.returns-in-Some-Copy-clause-fault
returns-in-Some-Copy-clause-fault c = λ fault e done stands.
    fails_at_step done c.args.line.now c.args.self.now.simulation fault stands
    (Copy c.in-Some-Copy.worker, subst (λ x. IsCommand c.args.line.now x) c.in-Some-Copy.field-0-is c.in-Some-Copy.ensures.found, tt) (c.make-in-Some-Copy.ensures.fault fault e)

pub returns-in-Some-Propose-clause-good : goal.returns-in-Some-Propose-clause-good
returns-in-Some-Propose-clause-good c =
    on_ok c.make-in-Some-Propose.result c.make-in-Some-Propose.ensures.makes (λ makes. λ done stands.
    after_make done c.args.line.now (Propose c.in-Some-Propose.worker c.in-Some-Propose.start) (steps.Propose c.in-Some-Propose.worker c.in-Some-Propose.start) c.args.self.now.simulation c.make-in-Some-Propose.new.self.simulation stands (subst (λ x. IsCommand c.args.line.now x) c.in-Some-Propose.field-0-is c.in-Some-Propose.ensures.found) refl makes)

pub returns-in-Some-Propose-clause-fault : goal.returns-in-Some-Propose-clause-fault
returns-in-Some-Propose-clause-fault c = λ fault e done stands.
    fails_at_step done c.args.line.now c.args.self.now.simulation fault stands
    (Propose c.in-Some-Propose.worker c.in-Some-Propose.start, subst (λ x. IsCommand c.args.line.now x) c.in-Some-Propose.field-0-is c.in-Some-Propose.ensures.found, tt) (c.make-in-Some-Propose.ensures.fault fault e)

pub returns-in-Some-Commit-clause-good : goal.returns-in-Some-Commit-clause-good
returns-in-Some-Commit-clause-good c =
    on_ok c.make-in-Some-Commit.result c.make-in-Some-Commit.ensures.makes (λ makes. λ done stands.
    after_make done c.args.line.now (Commit c.in-Some-Commit.worker) (steps.Commit c.in-Some-Commit.worker) c.args.self.now.simulation c.make-in-Some-Commit.new.self.simulation stands (subst (λ x. IsCommand c.args.line.now x) c.in-Some-Commit.field-0-is c.in-Some-Commit.ensures.found) refl makes)

pub returns-in-Some-Commit-clause-fault : goal.returns-in-Some-Commit-clause-fault
returns-in-Some-Commit-clause-fault c = λ fault e done stands.
    fails_at_step done c.args.line.now c.args.self.now.simulation fault stands
    (Commit c.in-Some-Commit.worker, subst (λ x. IsCommand c.args.line.now x) c.in-Some-Commit.field-0-is c.in-Some-Commit.ensures.found, tt) (c.make-in-Some-Commit.ensures.fault fault e)

pub returns-in-Some-Bytes-clause-good : goal.returns-in-Some-Bytes-clause-good
returns-in-Some-Bytes-clause-good c =
    on_ok c.bytes.result c.bytes.ensures.performs (λ performs. λ done stands.
    after_step done c.args.line.now (Bytes c.in-Some-Bytes.number c.in-Some-Bytes.digits) c.args.self.now.simulation c.bytes.new.self.simulation stands (subst (λ x. IsCommand c.args.line.now x) c.in-Some-Bytes.field-0-is c.in-Some-Bytes.ensures.found) performs)

pub returns-in-Some-Bytes-clause-bad : goal.returns-in-Some-Bytes-clause-bad
returns-in-Some-Bytes-clause-bad c = λ n e done stands.
    let is = subst (λ x. IsCommand c.args.line.now x) c.in-Some-Bytes.field-0-is c.in-Some-Bytes.ensures.found in
    no_script done c.args.line.now (no_opening c.args.line.now c.in-Some-Bytes.number c.in-Some-Bytes.digits is) (no_later c.args.line.now c.in-Some-Bytes.number c.in-Some-Bytes.digits is (c.bytes.ensures.bad n e))

pub returns-in-Some-Bytes-clause-fault : goal.returns-in-Some-Bytes-clause-fault
returns-in-Some-Bytes-clause-fault c = λ fault e done stands.
    let fails = c.bytes.ensures.fault fault e in
    fails_at_step done c.args.line.now c.args.self.now.simulation fault stands
    (Bytes c.in-Some-Bytes.number c.in-Some-Bytes.digits, subst (λ x. IsCommand c.args.line.now x) c.in-Some-Bytes.field-0-is c.in-Some-Bytes.ensures.found, fails.0) fails.1
