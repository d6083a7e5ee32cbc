use Rattle.cap_shared.proofs.Prelude.{List, ℕ, ap, Entry}
use Rattle.cap_shared.specs.Following.{followed_in}
use Rattle.cap_shared.proofs.Following.{follows_nothing}
use Rattle.cap_shared.proofs.replica.Replica.open.Goals as goal

pub returns-clause-follows : goal.returns-clause-follows
returns-clause-follows g c = λ past. follows_nothing (followed_in c.new.result.items) past (ap (λ (xs : List (List Entry × ℕ)). followed_in xs) c.new.ensures)
