use Rattle.cap_session.specs.Counted.{state_of, CanCount}
use Rattle.cap_commands.proofs.input.read_all.Given as goal

-- no call has failed, so all counts may still rise
abbrev pub invariant-loop-reads : goal.invariant-loop-reads
invariant-loop-reads g l = CanCount (state_of l.reader)
