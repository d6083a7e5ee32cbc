-- The parts of a tree of queues are no larger than memory, as the tree is.
use Rattle.cap_tree.proofs.Prelude.{ℕ, ◌≡◌, ◌<◌, ◌^◌, List, [], ◌∷◌, arith, refl, RattleType, FitsInMemory, Ghosts}
use mathlib.Core.Option.{Option, some, none}
use mir.Syntax.{Ty}
use mir.Syntax.Ty.{ty_int, ty_bool, ty_float, ty_ptr, ty_ref, ty_array, ty_unit, ty_struct, ty_enum, ty_param, ty_const, ty_array_p, ty_named}
use prog.Memory.{size, field_of, field_at}
use prog.Align.{field_in}
use denote.Ref.{NamedLft}
use denote.Param.{layout, number, param}
use Rattle.std.specs.contracts.alloc.Global as global
use Rattle.std.specs.contracts.impls.GlobalAllocator.TheImpl as global_allocator
use Rattle.smallvec.specs.contracts.small_vec.SmallVec as path
use Rattle.cap_vector.specs.contracts.fullness.Shares as shares
use Rattle.cap_vector.specs.contracts.vector.Amounts as amounts
use Rattle.cap_base.specs.contracts.settings.QueueRow as row
use Rattle.cap_tree.specs.contracts.change.Move as move
use Rattle.cap_tree.specs.contracts.count.Count as count
use Rattle.cap_tree.specs.contracts.queue.Queue as queue
use Rattle.cap_tree.specs.contracts.tree.QueueTree as tree

-- what stands in a struct at a field, in that one's field and so on
abbrev pub one_part : Option (Ty × ℕ) → Ty
one_part none = ty_unit
one_part (some field) = field.0

abbrev pub part : Ty → List ℕ → Ty
part τ [] = τ
part τ (k ∷ ks) = part (one_part (field_of τ k)) ks

found_fits : (field : Option (Ty × ℕ)) → ((σ : Ty) (d : ℕ) → field ≡ some (σ, d) → size σ < 2 ^ 63) → size (one_part field) < 2 ^ 63
found_fits none fits = omega arith
found_fits (some (σ, d)) fits = fits σ d refl

field_fits : (τ : Ty) (k : ℕ) → size τ < 2 ^ 63 → size (one_part (field_of τ k)) < 2 ^ 63
field_fits (ty_struct ν τs) k fits = found_fits (field_at 0 τs k) (λ σ d at. let w = field_in ν τs k σ d at in omega (arith, w, fits))
field_fits (ty_int w) k fits = omega arith
field_fits ty_bool k fits = omega arith
field_fits (ty_float f) k fits = omega arith
field_fits ty_ptr k fits = omega arith
field_fits (ty_ref κ μ τ) k fits = omega arith
field_fits (ty_array τ n) k fits = omega arith
field_fits ty_unit k fits = omega arith
field_fits (ty_enum ν τss) k fits = omega arith
field_fits (ty_param ι) k fits = omega arith
field_fits (ty_const ι) k fits = omega arith
field_fits (ty_array_p υ ι) k fits = omega arith
field_fits (ty_named ν θ) k fits = omega arith

pub part_fits : (τ : Ty) (ks : List ℕ) → size τ < 2 ^ 63 → size (part τ ks) < 2 ^ 63
part_fits τ [] fits = fits
part_fits τ (k ∷ ks) fits = part_fits (one_part (field_of τ k)) ks (field_fits τ k fits)

pub path_fits : (K A : RattleType) (alloc : Ghosts A.Denot) → FitsInMemory (tree.the_row K A alloc) → FitsInMemory (path.the_row denote.Builtin.u32 (number 16) A alloc)
path_fits K A alloc = part_fits (layout (tree.the_row K A alloc)) (1 ∷ [])

pub queue_fits : (K A : RattleType) (alloc : Ghosts A.Denot) → FitsInMemory (tree.the_row K A alloc) → FitsInMemory (queue.the_row K A alloc)
queue_fits K A alloc = part_fits (layout (tree.the_row K A alloc)) (0 ∷ 0 ∷ [])

pub count_fits : (K MAX A : RattleType) (alloc : Ghosts A.Denot) → FitsInMemory (tree.the_row K A alloc) → FitsInMemory (count.the_row K MAX)
count_fits K MAX A alloc = part_fits (layout (tree.the_row K A alloc)) (0 ∷ 0 ∷ 5 ∷ [])

pub count_in_queue : (K MAX A : RattleType) (alloc : Ghosts A.Denot) → FitsInMemory (queue.the_row K A alloc) → FitsInMemory (count.the_row K MAX)
count_in_queue K MAX A alloc = part_fits (layout (queue.the_row K A alloc)) (5 ∷ [])

pub amounts_in_queue : (K MAX A : RattleType) (alloc : Ghosts A.Denot) → FitsInMemory (queue.the_row K A alloc) → FitsInMemory (amounts.the_row K MAX)
amounts_in_queue K MAX A alloc = part_fits (layout (queue.the_row K A alloc)) (1 ∷ [])

pub shares_in_queue : (K A : RattleType) (alloc : Ghosts A.Denot) → FitsInMemory (queue.the_row K A alloc) → FitsInMemory (shares.the_row K)
shares_in_queue K A alloc = part_fits (layout (queue.the_row K A alloc)) (6 ∷ [])

-- the queue that one is copied from
pub source_fits : (K : RattleType) → FitsInMemory (tree.the_row K global.the_row global_allocator.ghosts) → FitsInMemory (queue.the_row K global.the_row global_allocator.ghosts)
source_fits K = queue_fits K global.the_row global_allocator.ghosts

pub amounts_in_source : (K MAX : RattleType) → FitsInMemory (queue.the_row K global.the_row global_allocator.ghosts) → FitsInMemory (amounts.the_row K MAX)
amounts_in_source K MAX = amounts_in_queue K MAX global.the_row global_allocator.ghosts

pub shares_in_source : (K : RattleType) → FitsInMemory (queue.the_row K global.the_row global_allocator.ghosts) → FitsInMemory (shares.the_row K)
shares_in_source K = shares_in_queue K global.the_row global_allocator.ghosts

pub row_fits : (n : ℕ) (A : RattleType) (alloc : Ghosts A.Denot) → FitsInMemory (queue.the_row (param 0 (number n)) A alloc) → FitsInMemory (row.the_row (param 0 (number n)))
row_fits n A alloc fits = omega (arith, fits)

pub row_in_tree : (n : ℕ) (A : RattleType) (alloc : Ghosts A.Denot) → FitsInMemory (tree.the_row (param 0 (number n)) A alloc) → FitsInMemory (row.the_row (param 0 (number n)))
row_in_tree n A alloc fits = row_fits n A alloc (queue_fits (param 0 (number n)) A alloc fits)

move_in_queue : (ℓ : NamedLft) (n : ℕ) (A : RattleType) (alloc : Ghosts A.Denot) → FitsInMemory (queue.the_row (param 0 (number n)) A alloc) → FitsInMemory (move.the_row ℓ (param 0 (number n)))
move_in_queue ℓ n A alloc fits = omega (arith, fits)

pub move_fits : (ℓ : NamedLft) (n : ℕ) (A : RattleType) (alloc : Ghosts A.Denot) → FitsInMemory (tree.the_row (param 0 (number n)) A alloc) → FitsInMemory (move.the_row ℓ (param 0 (number n)))
move_fits ℓ n A alloc fits = move_in_queue ℓ n A alloc (queue_fits (param 0 (number n)) A alloc fits)
