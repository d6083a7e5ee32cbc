-- The nodes with what their containers hold, and the live containers.
use Rattle.std.specs.Prelude.{◌≡◌, ℕ, ◌+◌, ◌-◌, ◌<◌, ◌≤◌, List, length, not, ◌&&◌, ◌||◌, Option, None, Some, Bool, false, IsSome, map, find, count_by, ◌==◌, if◌then◌else◌, ◌++◌, ◌∷◌, []}
use Rattle.std.specs.List.{AllByRecursion, list_any}
use Rattle.std.specs.BTreeMap.{is_at}
use Rattle.std.specs.Option.{option_or}
use Rattle.std.specs.Map.{values_of}
use Rattle.std.specs.Ordering.{nat_cmp, ordering_then}
use Rattle.std.specs.declared.cmp.Ordering.{Ordering}
use Rattle.cap_vector.specs.Vector.{Fits, IsWithin, amount_max, plus, less, zeros}
use Rattle.cap_base.specs.Limits.{live_max}
use Rattle.cap_base.specs.Amounts.{sum_where}
use Rattle.cap_base.specs.Members.{IsRising}
use Rattle.cap_model.specs.Flat.{ClusterNode, Container, NodeTable, Reservation, change_node, containers_on, is_for}
use Rattle.cap_model.specs.Heartbeat.{after_beat}
use Rattle.cap_model.specs.declared.ask.Key.{Key}
use Rattle.cap_model.specs.Events.{launch}
use Rattle.cap_model.specs.RegisterNode.{new_node}

-- a node, what its live containers hold, how many they are, and its reservation
pub record Load : Type 0 where
  pub node : ClusterNode
  pub held : List ℕ
  pub live : ℕ
  pub reservation : Option Reservation

-- the nodes in order of number, and the number of the next
pub record LoadTable : Type 0 where
  pub loads : List Load
  pub next : ℕ

-- containers in order of number, and the number of the next
pub record ContainerTable : Type 0 where
  pub containers : List Container
  pub next : ℕ

abbrev pub load_at : List Load → ℕ → Option Load
load_at loads n = find (λ p. p.node.number == n) loads

abbrev pub change_load : ℕ → (Load → Load) → List Load → List Load
change_load n change loads = map (λ p. if p.node.number == n then change p else p) loads

-- a node with one more container, of this resource, with one less, and after a heartbeat
abbrev pub held_more : List ℕ → Load → Load
held_more resource p = record p { held = plus p.held resource; live = p.live + 1 }

abbrev pub held_less : List ℕ → Load → Load
held_less resource p = record p { held = less p.held resource; live = p.live - 1 }

abbrev pub beaten_load : ℕ → Load → Load
beaten_load ignored p = record p { node = after_beat ignored p.live p.node }

-- a node with a reservation, where it had none, and with none
abbrev pub reserved_load : Reservation → Load → Load
reserved_load r p = record p { reservation = option_or p.reservation (Some r) }

abbrev pub unreserved_load : Load → Load
unreserved_load p = record p { reservation = None }

-- a container and a reservation of these
abbrev pub new_container : ℕ → ℕ → Key → ℕ → List ℕ → Container
new_container number app key node resource = record { number = number; app = app; key = key; node = node; resource = resource }

abbrev pub new_reservation : ℕ → Key → ℕ → List ℕ → Reservation
new_reservation app key node resource = record { app = app; key = key; node = node; resource = resource }

-- containers with one more, of the next number
abbrev pub push_container : ℕ → Key → ℕ → List ℕ → ContainerTable → ContainerTable
push_container app key node resource table =
    record { containers = table.containers ++ new_container table.next app key node resource ∷ []; next = table.next + 1 }

-- the reservation that a container of the table of reservations stands for, and whether it is for this key of an application
abbrev pub reservation_of : Container → Reservation
reservation_of c = record { app = c.app; key = c.key; node = c.node; resource = c.resource }

abbrev pub is_kept_for : ℕ → Key → Container → Bool
is_kept_for app key c = is_for app key (reservation_of c)

-- the reservations that were made after the one that a node holds
abbrev pub made_after : ℕ → List Reservation → List Reservation
made_after n [] = []
made_after n (r ∷ rs) = if r.node == n then rs else made_after n rs

-- the nodes with one more of K resources, of the next number, with no container and this reservation, and with one of them changed
abbrev pub add_load : ℕ → List ℕ → List ℕ → List ℕ → Option Reservation → LoadTable → LoadTable
add_load K host rack total reservation table =
    record { loads = table.loads ++ record { node = new_node table.next host rack total; held = zeros K; live = 0; reservation = reservation } ∷ []; next = table.next + 1 }

abbrev pub with_load : ℕ → (Load → Load) → LoadTable → LoadTable
with_load n change table = record table { loads = change_load n change table.loads }

-- the table of a cluster with one more container, of the next number, and after one more heartbeat of a node
abbrev pub add_container : ℕ → Key → ℕ → List ℕ → NodeTable → NodeTable
add_container app key node resource table = launch (new_container table.next_container app key node resource) table

abbrev pub after_beat_of : ℕ → ℕ → NodeTable → NodeTable
after_beat_of n ignored table = change_node n (after_beat ignored (length (containers_on table n))) table

-- room for one more container of this resource
pub record CanHold (resource : List ℕ) (p : Load) : Type 0 where
  pub within : IsWithin amount_max (plus p.held resource)
  pub few : p.live < live_max

-- one container of this resource
pub record HasOne (resource : List ℕ) (p : Load) : Type 0 where
  pub held : Fits resource p.held
  pub some : 0 < p.live

-- items by their numbers
abbrev pub tagged_items : {X : Type 0} → (X → ℕ) → List X → List (ℕ × X)
tagged_items num xs = map (λ x. (num x, x)) xs

-- entries are items by number, which rise from 1 and are below the next, and are at most so many
pub record IsNumbered {X : Type 0} (num : X → ℕ) (most : ℕ) (entries : List (ℕ × X)) (next : ℕ) : Type 0 where
  pub tagged : entries ≡ tagged_items num (values_of entries)
  pub rising : IsRising 1 (map num (values_of entries)) next
  pub few : length (values_of entries) ≤ most

-- a node holds what the live containers on it hold, which fits its total
pub record IsTied (K : ℕ) (live : List Container) (p : Load) : Type 0 where
  pub held : p.held ≡ sum_where K (λ c. c.node == p.node.number) (λ c. c.resource) live
  pub count : p.live ≡ count_by (λ c. c.node == p.node.number) live
  pub fits : Fits p.held p.node.total
  pub within : IsWithin amount_max p.node.total

-- so does each node, and each live container is on one of them
pub record AreTied (K : ℕ) (loads : List Load) (live : List Container) : Type 0 where
  pub ties : AllByRecursion (IsTied K live) loads
  pub homes : AllByRecursion (λ c. IsSome (load_at loads c.node)) live

-- each node has the oldest reservation that is for it
abbrev pub HaveReservations : List Reservation → List Load → Type 0
HaveReservations reserved loads = AllByRecursion (λ p. p.reservation ≡ find (λ r. r.node == p.node.number) reserved) loads

-- pairs in the order of their firsts, then of their seconds
abbrev pub pair_cmp : ℕ × ℕ → ℕ × ℕ → Ordering
pair_cmp x y = ordering_then (nat_cmp x.0 y.0) (nat_cmp x.1 y.1)

-- whether an owner has the container of a number, by pairs of both
abbrev pub has_pair : List (ℕ × ℕ) → ℕ → ℕ → Bool
has_pair pairs owner number = list_any (is_at (pair_cmp (owner, number))) pairs

-- the pairs with one more, and without it
abbrev pub HasMore : ℕ → ℕ → List (ℕ × ℕ) → List (ℕ × ℕ) → Type 0
HasMore owner number old new = (o n : ℕ) → has_pair new o n ≡ (owner == o && number == n || has_pair old o n)

abbrev pub HasLess : ℕ → ℕ → List (ℕ × ℕ) → List (ℕ × ℕ) → Type 0
HasLess owner number old new = (o n : ℕ) → has_pair new o n ≡ (not (owner == o && number == n) && has_pair old o n)

-- whether a container is an owner's
abbrev pub is_of : (Container → ℕ) → Option Container → ℕ → Bool
is_of key None owner = false
is_of key (Some c) owner = key c == owner

-- each owner has its containers by the pairs
abbrev pub IsOwnerIndex : (Container → ℕ) → List Container → List (ℕ × ℕ) → Type 0
IsOwnerIndex key live pairs = (owner number : ℕ) → has_pair pairs owner number ≡ is_of key (find (λ c. c.number == number) live) owner
