use Rattle.std.specs.Io.KnownBytes.{Keeps}
use Rattle.cap_streams.proofs.uninterrupted.UninterruptedWrite.write.Given as goal

-- an interrupted write takes no byte
abbrev pub invariant-loop : goal.invariant-loop
invariant-loop g l = Keeps (g.W.Write.contents l.initial.self.inner) (g.W.Write.contents l.self.inner)
