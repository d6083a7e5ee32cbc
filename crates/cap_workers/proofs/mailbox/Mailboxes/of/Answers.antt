use Rattle.cap_workers.proofs.Numbers.{number_at}
use Rattle.cap_workers.proofs.mailbox.Mailboxes.of.Goals as goal

pub returns : goal.returns
returns c = number_at (λ m. m.number) c.args.self.now.all c.args.worker c.index-self-worker.result c.args.self.now.numbered c.requires
