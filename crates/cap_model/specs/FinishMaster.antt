-- FinishMaster: an application ends, and all that it had with it.
use Rattle.std.specs.Prelude.{ℕ, [], ◌∷◌, Option, length, not, is_none, filter, ◌==◌}
use Rattle.cap_base.specs.Cascade.{earliest, holds_of}
use Rattle.cap_model.specs.declared.refusal.Refusal.{Refusal}
use Rattle.cap_model.specs.declared.reply.ReplyWith.TheVariants as Reply
use Rattle.cap_model.specs.News.{Reply}
use Rattle.cap_model.specs.Flat.{Flat, AppTable, app_at, containers_of, with_reserved}
use Rattle.cap_model.specs.Ending.{without_containers}

-- the table without an application
abbrev pub remove_app : ℕ → AppTable → AppTable
remove_app n table = record table { active = filter (λ app. not (app.number == n)) table.active }

module _ {K : ℕ} where
  -- why it is refused
  abbrev pub finish_master_refusal : Flat K → ℕ → Option Refusal
  finish_master_refusal cluster n = earliest (
      (is_none (app_at cluster n), Refusal.UnknownApplication)
      ∷ (not (holds_of (λ a. a.registered) (app_at cluster n)), Refusal.NotRegistered)
      ∷ [])

  -- the application goes with its asks and what it was not told, its containers end and its reservations are dropped
  abbrev pub after_finish_master : Flat K → ℕ → Flat K
  after_finish_master cluster n =
      let left = without_containers (containers_of cluster.nodes n) cluster in
      let unreserved = with_reserved (filter (λ r. not (r.app == n)) left.nodes.reserved) left in
      record unreserved { apps = remove_app n unreserved.apps }

  -- how many of its containers ended
  abbrev pub finish_master_reply : Flat K → ℕ → Reply K
  finish_master_reply cluster n = Reply.FinishMaster (length (containers_of cluster.nodes n))
