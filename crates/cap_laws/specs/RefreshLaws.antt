-- Laws of Refresh: what it changes, and what it keeps.
use Rattle.std.specs.Prelude.{◌≡◌, ℕ, List, Some, find, map, option_map, take, bytes_eq}
use Rattle.cap_base.specs.Settings.{Settings}
use Rattle.cap_base.specs.properties.First.{settings_in}
use Rattle.cap_model.specs.declared.request.Request.{Request}
use Rattle.cap_model.specs.declared.reply.ReplyWith.TheVariants as Reply
use Rattle.cap_model.specs.declared.event.Event.{Event}
use Rattle.cap_model.specs.Flat.{Flat, queue_at}
use Rattle.cap_model.specs.Refresh.{first_of_queue}
use Rattle.cap_model.specs.Events.{Step}

-- A cluster that was refreshed with some settings: whatever the path, the queue there is that of the settings, of as many resources as the
-- cluster has, and so are the limits; the queues stay in their order, and applications, nodes, containers and reservations as they were.
pub record IsRefreshed {K : ℕ} (settings : Settings) (old new : Flat K) : Type 0 where
  pub queues : (path : List ℕ) → queue_at new path ≡ option_map (first_of_queue K) (find (λ row. bytes_eq row.path path) settings.queues)
  pub order : map (λ q. q.path) new.settings.queues ≡ map (λ q. q.path) old.settings.queues
  pub minimum_allocation : new.settings.minimum_allocation ≡ take K settings.minimum_allocation
  pub maximum_allocation : new.settings.maximum_allocation ≡ take K settings.maximum_allocation
  pub application_limit : new.settings.application_limit ≡ settings.application_limit
  pub apps : new.apps ≡ old.apps
  pub nodes : new.nodes ≡ old.nodes

-- a Refresh that is not refused leaves such a cluster, with the settings of its property lines
abbrev pub RefreshSetsAll : Type 0
RefreshSetsAll =
    (K : ℕ) (old new : Flat K) (by : ℕ) (lines : List ℕ) (settings : Settings) → settings_in lines ≡ Some settings →
    Step old (Event.Call by (Request.Refresh lines) Reply.Refresh) new → IsRefreshed settings old new
