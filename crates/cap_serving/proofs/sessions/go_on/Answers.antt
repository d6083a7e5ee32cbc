use Rattle.cap_serving.proofs.Prelude.{Some, refl, ap, state_of, inner_of, SessionState}
use Rattle.cap_serving.specs.declared.sessions.EndCause.TheVariants as ends
use Rattle.cap_serving.proofs.Rounds.{read_out}
use Rattle.cap_serving.proofs.Streams.{reads_none}
use Rattle.cap_serving.proofs.sessions.go_on.Goals as goal

pub returns-in-Fault-clause-read : goal.returns-in-Fault-clause-read
returns-in-Fault-clause-read g c = reads_none (Some ends.WriteFault) (state_of c.args.reader.now) (g.R.Read.remaining (inner_of c.args.reader.now)) c.args.session.fed c.write_out-written.new.self.fed refl (ap (λ (t : SessionState). t.fed) c.in-Fault.ensures.session)

pub returns-in-All-clause-out : goal.returns-in-All-clause-out
returns-in-All-clause-out g c = read_out c.in-All.count c.args.session c.write_out-written.new.self c.read_more-end.new.session c.read_more-end.result c.in-All.ensures.count c.in-All.ensures.session c.read_more-end.ensures.step

pub write_out-written-requires : goal.write_out-written-requires
write_out-written-requires g c = c.requires.writer
