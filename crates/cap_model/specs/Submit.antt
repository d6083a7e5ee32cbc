-- Submit: an application enters a leaf queue.
use Rattle.std.specs.Prelude.{ℕ, ◌+◌, Bool, List, [], ◌∷◌, ◌++◌, Option, None, length, not, is_none, filter, nat_eq, nat_le}
use Rattle.std.specs.List.{list_any, list_all, starts_with}
use Rattle.cap_base.specs.Texts.{dot}
use Rattle.cap_base.specs.Limits.{number_end}
use Rattle.cap_base.specs.Cascade.{earliest}
use Rattle.cap_model.specs.declared.refusal.Refusal.{Refusal}
use Rattle.cap_model.specs.declared.reply.ReplyWith.TheVariants as Reply
use Rattle.cap_model.specs.News.{Reply}
use Rattle.cap_model.specs.Flat.{Flat, App, AppTable, queue_at}
use Rattle.cap_base.specs.Paths.{is_under}

-- an application that enters, of this number, not yet registered
abbrev pub new_app : ℕ → List ℕ → List ℕ → App
new_app number leaf user = record {
  number = number;
  leaf = leaf;
  user = user;
  registered = Bool.false;
  response = 0;
  kept = None;
  asks = [];
  grants = [];
  ends = [];
}

-- the table with one more application, of the next number
abbrev pub add_app : List ℕ → List ℕ → AppTable → AppTable
add_app leaf user table = record { active = table.active ++ new_app table.next leaf user ∷ []; next = table.next + 1 }

module _ {K : ℕ} where
  -- whether a queue has children
  abbrev pub has_children : Flat K → List ℕ → Bool
  has_children cluster path = list_any (λ q. starts_with nat_eq q.path (path ++ dot ∷ [])) cluster.settings.queues

  -- whether a queue takes applications: it and every queue above it are RUNNING
  abbrev pub is_running : Flat K → List ℕ → Bool
  is_running cluster path = list_all (λ q. q.running) (filter (λ q. is_under q.path path) cluster.settings.queues)

  -- why a submit is refused
  abbrev pub submit_refusal : Flat K → List ℕ → Option Refusal
  submit_refusal cluster path = earliest (
      (is_none (queue_at cluster path), Refusal.UnknownQueue)
      ∷ (has_children cluster path, Refusal.NotLeaf)
      ∷ (not (is_running cluster path), Refusal.QueueStopped)
      ∷ (nat_le cluster.settings.application_limit (length cluster.apps.active), Refusal.TooManyApplications)
      ∷ (nat_le number_end cluster.apps.next, Refusal.NumbersSpent)
      ∷ [])

  abbrev pub after_submit : Flat K → List ℕ → List ℕ → Flat K
  after_submit cluster path user = record cluster { apps = add_app path user cluster.apps }

  abbrev pub submit_reply : Flat K → Reply K
  submit_reply cluster = Reply.Submit cluster.apps.next
