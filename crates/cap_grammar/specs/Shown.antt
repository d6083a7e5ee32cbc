-- What messages show of vectors of amounts: the first amounts of each, and nothing of the others.
use Rattle.std.specs.Prelude.{◌≡◌, ℕ, ◌-◌, List, ◌++◌, length, take, map, option_map}
use Rattle.cap_vector.specs.Vector.{IsVector, zeros}
use Rattle.cap_model.specs.News.{Grant, AllocateReply, Reply}
use Rattle.cap_model.specs.declared.report.QueueReport.{QueueReport}
use Rattle.cap_model.specs.declared.report.ClusterReport.{ClusterReport}
use Rattle.cap_model.specs.declared.reply.ReplyWith.TheVariants as Reply

-- the first n amounts of a vector, and 0 in place of the others
abbrev pub shown_amounts : ℕ → List ℕ → List ℕ
shown_amounts n v = take n v ++ zeros (length v - n)

-- a vector of k amounts, of which those after the first n are 0
pub record IsShownVector (k n bound : ℕ) (v : List ℕ) : Type 0 where
  pub vector : IsVector k bound v
  pub is_shown : shown_amounts n v ≡ v

-- ---- what a reply says where n amounts of each vector are spelled

abbrev pub shown_grant : ℕ → Grant → Grant
shown_grant n g = record g { resource = shown_amounts n g.resource }

abbrev pub shown_news : ℕ → AllocateReply → AllocateReply
shown_news n r = record r { grants = map (shown_grant n) r.grants }

module _ {K : ℕ} where
  abbrev pub shown_queue : ℕ → QueueReport K → QueueReport K
  shown_queue n r = record r { guaranteed = shown_amounts n r.guaranteed; maximum = option_map (shown_amounts n) r.maximum; used = shown_amounts n r.used }

  abbrev pub shown_cluster : ℕ → ClusterReport K → ClusterReport K
  shown_cluster n r = record r { totals = shown_amounts n r.totals; used = shown_amounts n r.used }

  -- the reply with 0 in place of each amount that is not spelled
  abbrev pub shown : ℕ → Reply K → Reply K
  shown n (Reply.RegisterMaster minimum maximum) = Reply.RegisterMaster (shown_amounts n minimum) (shown_amounts n maximum)
  shown n (Reply.Allocate reply) = Reply.Allocate (shown_news n reply)
  shown n (Reply.QueueInfo report) = Reply.QueueInfo (shown_queue n report)
  shown n (Reply.ClusterInfo report) = Reply.ClusterInfo (shown_cluster n report)
  shown n reply = reply
