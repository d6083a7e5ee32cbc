-- What an application is told: the containers that it was granted, and those that have ended.
use Rattle.std.specs.Prelude.{ℕ, List}
use Rattle.cap_model.specs.declared.ask.Key.{Key}
use Rattle.cap_model.specs.declared.news.Cause.{Cause}
use Rattle.cap_model.specs.declared.news.End.{End}
use Rattle.cap_model.specs.declared.reply.ReplyWith.{ReplyWith}

-- the number of a cause in messages
abbrev pub cause_number : Cause → ℕ
cause_number Cause.Released = 1
cause_number Cause.EndedOnNode = 2
cause_number Cause.NodeLost = 3

-- a granted container as its application is told of it
pub record Grant : Type 0 where
  pub container : ℕ
  pub key : Key
  pub node : ℕ
  pub host : List ℕ
  pub resource : List ℕ

-- the answer to a processed allocate: the new response id, how many releases named nothing, and the news
pub record AllocateReply : Type 0 where
  pub response : ℕ
  pub ignored : ℕ
  pub grants : List Grant
  pub ends : List End

-- the answer to a request, whether its grants and ends are lent or owned
abbrev pub Reply : ℕ → Type 0
Reply K = ReplyWith K AllocateReply
