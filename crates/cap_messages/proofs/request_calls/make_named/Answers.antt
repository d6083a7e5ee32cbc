use Rattle.std.proofs.Common.{ℕ, List, arith, inl, inr}
use Rattle.std.proofs.lemmas.Grind.{common_steps}
use Rattle.cap_model.specs.Asks.{Ask}
use Rattle.cap_model.specs.Flat.{Flat}
use Rattle.cap_model.specs.News.{Reply}
use Rattle.cap_model.specs.Replies.{Replies}
use Rattle.cap_model.specs.declared.request.Request.TheVariants.{Allocate}
use Rattle.cap_grammar.specs.Spelling.{IsOfKind}
use Rattle.cap_messages.proofs.request_calls.make_named.Goals as goal

answered : (K : ℕ) (old new : Flat K) (app id : ℕ) (asks : List Ask) (releases : List ℕ) (given : Reply K) → Replies old (Allocate app id asks releases) given new → IsOfKind 3 given
answered K old new app id asks releases given (inl (is, after)) = rw is (grind (arith, common_steps))
answered K old new app id asks releases given (inr (lacks, same)) = rw lacks.reply_is tt

pub returns-in-Allocate-clause-kind : goal.returns-in-Allocate-clause-kind
returns-in-Allocate-clause-kind c = rw c.in-Allocate.is (answered _ c.args.cluster.now.flat c.allocate.new.cluster.flat _ _ _ _ _ c.allocate.ensures.replies)
