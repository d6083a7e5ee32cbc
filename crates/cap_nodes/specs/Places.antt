-- The hosts and the racks of present nodes, and amounts of which none has more.
use Rattle.std.specs.Prelude.{◌≡◌, ℕ, ◌+◌, ◌-◌, List, bytes_eq, None, true, false}
use Rattle.std.specs.List.{AllByRecursion}
use Rattle.std.specs.Map.{lookup}
use Rattle.cap_base.specs.Texts.{is_text}
use Rattle.cap_vector.specs.Vector.{Fits}
use Rattle.cap_nodes.specs.Counting.{AreCounted, HasCount, count_in}
use Rattle.cap_nodes.specs.Loads.{Load}
use Rattle.cap_nodes.specs.declared.places.Places.{Places}

-- each text that nodes have, a host or a rack, with how many loads are of nodes that have it, and nothing that is no text
pub record AreTexts (text_of : Load → List ℕ) (entries : List (List ℕ × ℕ)) (loads : List Load) : Type 0 where
  pub counts : AreCounted bytes_eq text_of entries loads
  pub texts : (t : List ℕ) → is_text 64 t ≡ false → lookup (bytes_eq t) entries ≡ None

abbrev pub host_of : Load → List ℕ
host_of p = p.node.host

abbrev pub rack_of : Load → List ℕ
rack_of p = p.node.rack

-- each host and each rack
pub record ArePlaces (places : Places) (loads : List Load) : Type 0 where
  pub hosts : AreTexts host_of places.hosts loads
  pub racks : AreTexts rack_of places.racks loads

-- the hosts and racks with those of one more node, and of one less
pub record HasNodeMore (host rack : List ℕ) (old new : Places) : Type 0 where
  pub hosts : HasCount bytes_eq host (count_in bytes_eq old.hosts host + 1) old.hosts new.hosts
  pub racks : HasCount bytes_eq rack (count_in bytes_eq old.racks rack + 1) old.racks new.racks

pub record HasNodeLess (host rack : List ℕ) (old new : Places) : Type 0 where
  pub hosts : HasCount bytes_eq host (count_in bytes_eq old.hosts host - 1) old.hosts new.hosts
  pub racks : HasCount bytes_eq rack (count_in bytes_eq old.racks rack - 1) old.racks new.racks

-- they are still those of the same loads
abbrev pub KeepsPlaces : Places → Places → Type 0
KeepsPlaces old new = (loads : List Load) → ArePlaces old loads → ArePlaces new loads

-- a host and a rack that are texts
pub record AreBothTexts (host rack : List ℕ) : Type 0 where
  pub of_host : is_text 64 host ≡ true
  pub of_rack : is_text 64 rack ≡ true

-- no node has more than these amounts
abbrev pub AreWithin : List ℕ → List Load → Type 0
AreWithin most loads = AllByRecursion (λ p. Fits p.node.total most) loads
