use Rattle.std.specs.Io.KnownBytes.{Keeps}
use Rattle.cap_streams.proofs.sender.Sender.send.Given as goal

-- a write that would block takes no byte
abbrev pub invariant-loop : goal.invariant-loop
invariant-loop g l = Keeps (g.S.Write.contents l.initial.self.stream) (g.S.Write.contents l.self.stream)
