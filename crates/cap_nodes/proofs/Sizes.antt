-- The parts of a table of nodes are no larger than memory, as the table is.
use Rattle.cap_nodes.proofs.Prelude.{◌≡◌, ℕ, ◌≤◌, ◌<◌, ◌^◌, arith, refl, subst, RattleType, FitsInMemory, resources_max}
use mathlib.Core.Option.{some}
use mir.Syntax.{Sym, Ty, Tys}
use mir.Syntax.Ty.{ty_struct}
use prog.Memory.{size, field_at}
use prog.Align.{field_in}
use denote.Param.{layout, number, param}
use Rattle.cap_vector.specs.contracts.vector.Amounts as amounts
use Rattle.cap_model.specs.contracts.container.Container as container
use Rattle.cap_model.specs.contracts.container.Reservation as reservation
use Rattle.cap_nodes.specs.contracts.containers.Containers as containers
use Rattle.cap_nodes.specs.contracts.load.Load as load
use Rattle.cap_nodes.specs.contracts.node.Node as node
use Rattle.cap_nodes.specs.contracts.nodes.Nodes as nodes
use Rattle.cap_nodes.specs.contracts.present.Present as present
use Rattle.cap_nodes.specs.contracts.reserved.Reserved as reserved
use Rattle.cap_nodes.proofs.Most.{fits_by_most}

-- a field of a struct that fits
field_fits : (τ σ : Ty) (k : ℕ) (ν : Sym) (τs : Tys) → τ ≡ ty_struct ν τs → (d : ℕ) → field_at 0 τs k ≡ some (σ, d) → size τ < 2 ^ 63 → size σ < 2 ^ 63
field_fits τ σ k ν τs is d at fits = let w = field_in ν τs k σ d at in let whole : size (ty_struct ν τs) < 2 ^ 63 = subst (λ t. size t < 2 ^ 63) is fits in omega (arith, w, whole)

module _ (n : ℕ) (fits : FitsInMemory (nodes.the_row (param 0 (number n)))) where
  abbrev K : RattleType
  K = param 0 (number n)

  pub present_fits : FitsInMemory (present.the_row K)
  present_fits = field_fits (layout (nodes.the_row K)) (layout (present.the_row K)) 0 _ _ refl _ refl fits

  pub containers_fit : FitsInMemory (containers.the_row K)
  containers_fit = field_fits (layout (nodes.the_row K)) (layout (containers.the_row K)) 1 _ _ refl _ refl fits

  pub reserved_fits : FitsInMemory (reserved.the_row K)
  reserved_fits = field_fits (layout (nodes.the_row K)) (layout (reserved.the_row K)) 2 _ _ refl _ refl fits

  pub load_fits : FitsInMemory (load.the_row K)
  load_fits = field_fits (layout (present.the_row K)) (layout (load.the_row K)) 2 _ _ refl _ refl present_fits

  pub node_fits : FitsInMemory (node.the_row K)
  node_fits = field_fits (layout (load.the_row K)) (layout (node.the_row K)) 0 _ _ refl _ refl load_fits

  pub container_fits : FitsInMemory (container.the_row K)
  container_fits = field_fits (layout (containers.the_row K)) (layout (container.the_row K)) 4 _ _ refl _ refl containers_fit

  pub reservation_fits : FitsInMemory (reservation.the_row K)
  reservation_fits = let whole = container_fits in omega (arith, whole)

pub amounts_fit : (n max : ℕ) → FitsInMemory (nodes.the_row (param 0 (number n))) → FitsInMemory (amounts.the_row (param 0 (number n)) (number max))
amounts_fit n max fits = field_fits (layout (nodes.the_row (param 0 (number n)))) (layout (amounts.the_row (param 0 (number n)) (number max))) 3 _ _ refl _ refl fits

-- as many kinds of resource as there can be leave the table no larger than memory
pub nodes_of_few : (n : ℕ) → n ≤ resources_max → FitsInMemory (nodes.the_row (param 0 (number n)))
nodes_of_few n few = fits_by_most (layout (nodes.the_row (param 0 (number n)))) (omega (arith, few))
