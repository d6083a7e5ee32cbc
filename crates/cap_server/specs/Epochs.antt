-- What epochs leave.
use Rattle.std.specs.Prelude.{◌≡◌, ◌+◌, ℕ, zero, suc, List, [], ◌∷◌, ◌++◌, length, map, min}
use Rattle.std.specs.List.{flat_map}
use Rattle.cap_base.specs.Limits.{resources}
use Rattle.cap_model.specs.Flat.{Flat}
use Rattle.cap_shared.specs.declared.entry.Entry.{Entry}
use Rattle.cap_shared.specs.Journal.{Replays}
use Rattle.cap_workers.specs.Idle.{ClosesEpoch}
use Rattle.cap_workers.specs.declared.idle.IdleWorker.{IdleWorker}
use Rattle.cap_workers.specs.declared.worker.Worker.{Worker}
use Rattle.cap_server.specs.declared.serving.Totals.{Totals}

-- what goes from one epoch to the next: the cluster, and the workers, in their order
pub record Standing : Type 0 where
  pub cluster : Flat resources
  pub workers : List Worker

abbrev pub standing : Flat resources → List IdleWorker → Standing
standing cluster workers = record { cluster = cluster; workers = map (λ w. w.worker) workers }

-- the workers of a daemon that begins, numbered from 0: the first turn of each starts at the node of its number
abbrev pub new_workers : ℕ → List Worker
new_workers zero = []
new_workers (suc n) = new_workers n ++ record { number = n; start = n } ∷ []

-- a closed epoch whose journal leads from the old cluster to the new one, and in which the workers began as they were before it and left as they are now
pub record IsEpoch (limit : ℕ) (old : Standing) (journal : List Entry) (new : Standing) : Type 0 where
  pub seats : ℕ
  pub spells : List (Worker × Worker)
  pub began : map (λ s. s.0) spells ≡ old.workers
  pub left : map (λ s. s.1) spells ≡ new.workers
  pub closes : ClosesEpoch old.cluster limit seats spells journal new.cluster

-- the same with a journal of so many entries
pub record LeadsTo (limit : ℕ) (old : Standing) (entries : ℕ) (new : Standing) : Type 0 where
  pub journal : List Entry
  pub epoch : IsEpoch limit old journal new
  pub count : length journal ≡ entries

-- epochs one after the other, with these journals, each of which begins as the one before has left
pub data Epochs (limit : ℕ) (old : Standing) : List (List Entry) → Standing → Type 0 where
  epochs_none : Epochs limit old [] old
  epochs_more : {journals : List (List Entry)} {mid new : Standing} → Epochs limit old journals mid → (journal : List Entry) → IsEpoch limit mid journal new → Epochs limit old (journals ++ journal ∷ []) new

-- the largest count
abbrev pub count_max : ℕ
count_max = 18446744073709551615

-- one epoch more, with so many entries
abbrev pub one_more : Totals → ℕ → Totals
one_more t entries = record { epochs = min (t.epochs + 1) count_max; entries = min (t.entries + entries) count_max }

-- how many journals there are, and how many entries they have together
abbrev pub totals_of : List (List Entry) → Totals
totals_of journals = record { epochs = min (length journals) count_max; entries = min (length (flat_map (λ journal. journal) journals)) count_max }

-- Epochs one after the other, whose journals have so many entries together. All of these, one after the other, are one run from one cluster to the
-- other.
pub record LeadsThrough (limit : ℕ) (old : Standing) (totals : Totals) (new : Standing) : Type 0 where
  pub journals : List (List Entry)
  pub run : Replays old.cluster (flat_map (λ journal. journal) journals) new.cluster
  pub counts : totals ≡ totals_of journals
  pub epochs : Epochs limit old journals new
