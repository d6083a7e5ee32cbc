-- Refresh: the settings of the cluster become those of property lines.
use Rattle.std.specs.Prelude.{ℕ, Bool, true, List, Option, Some, None, map, find, take, bytes_eq, option_map, if◌then◌else◌}
use Rattle.std.specs.Option.{option_map_or}
use Rattle.cap_base.specs.Settings.{QueueRow, Settings}
use Rattle.cap_base.specs.Trees.{has_same_paths}
use Rattle.cap_base.specs.declared.properties.fault.ConfigFault.{ConfigFault}
use Rattle.cap_base.specs.properties.Fault.{fault_number}
use Rattle.cap_base.specs.properties.First.{first_fault, settings_in}
use Rattle.cap_model.specs.declared.refusal.Refusal.{Refusal}
use Rattle.cap_model.specs.Flat.{Flat}

-- a queue with all that the row of its path sets
abbrev pub refreshed_queue : List QueueRow → QueueRow → QueueRow
refreshed_queue rows q = option_map_or (λ (row : QueueRow). record row { path = q.path }) (find (λ row. bytes_eq row.path q.path) rows) q

-- settings that become others: the queues stay in their order
abbrev pub refreshed_settings : Settings → Settings → Settings
refreshed_settings new old = record new { queues = map (refreshed_queue new.queues) old.queues }

-- settings of the first k resources alone
abbrev pub first_of_queue : ℕ → QueueRow → QueueRow
first_of_queue k q = record q { guaranteed = take k q.guaranteed; maximum = option_map (take k) q.maximum }

abbrev pub first_of_settings : ℕ → Settings → Settings
first_of_settings k settings = record settings {
  queues = map (first_of_queue k) settings.queues;
  minimum_allocation = take k settings.minimum_allocation;
  maximum_allocation = take k settings.maximum_allocation;
}

-- why property lines are refused: their first fault, or else that their queues are not those that stand
abbrev pub lines_refusal : Option ConfigFault → Bool → Option Refusal
lines_refusal (Some fault) same = Some (Refusal.BadSettings fault.line (fault_number fault.kind))
lines_refusal None same = if same then None else Some Refusal.OtherQueues

module _ {K : ℕ} where
  -- whether settings have the paths of the cluster's queues, and no other
  abbrev pub has_its_queues : Flat K → Settings → Bool
  has_its_queues cluster settings = has_same_paths settings.queues cluster.settings.queues

  -- why a Refresh is refused, memory aside
  abbrev pub refresh_refusal : Flat K → List ℕ → Option Refusal
  refresh_refusal cluster text = lines_refusal (first_fault text) (option_map_or (has_its_queues cluster) (settings_in text) true)

  -- the cluster with these settings. All else stays: asks as they were kept, active applications, containers and reservations
  abbrev pub with_settings : Settings → Flat K → Flat K
  with_settings settings cluster = record cluster { settings = refreshed_settings settings cluster.settings }

  -- the cluster after a Refresh that is not refused
  abbrev pub after_refresh : Flat K → List ℕ → Flat K
  after_refresh cluster text = record cluster {
    settings = option_map_or (λ settings. refreshed_settings (first_of_settings K settings) cluster.settings) (settings_in text) cluster.settings;
  }
