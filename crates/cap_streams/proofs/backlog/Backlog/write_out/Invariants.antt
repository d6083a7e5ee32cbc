use Rattle.std.proofs.Common.{◌≡◌}
use Rattle.cap_streams.specs.Sends.{IsLogged}
use Rattle.cap_streams.specs.Backlogs.{sent_bytes, handed_bytes}
use Rattle.cap_streams.proofs.backlog.Backlog.write_out.Given as goal

abbrev pub invariant-loop : goal.invariant-loop
invariant-loop g l = record {
  handed : handed_bytes l.self ≡ handed_bytes l.initial.self;
  logged : IsLogged (g.S.Write.contents l.initial.sender.stream) (g.S.Write.contents l.sender.stream) (sent_bytes l.initial.self) (sent_bytes l.self);
}
