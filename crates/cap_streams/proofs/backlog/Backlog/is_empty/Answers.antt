use Rattle.std.proofs.Common.{◌≡◌, length}
use Rattle.cap_streams.proofs.Sending.{none_left_test}
use Rattle.cap_streams.proofs.backlog.Backlog.is_empty.Goals as goal

pub returns : goal.returns
returns c =
    let count : c.len.result ≡ length c.args.self.now.bytes.items = cc (c.len.ensures, c.args.self.now.bytes.ok.0) in
    none_left_test c.args.self.now.bytes.items c.args.self.now.taken c.len.result count
