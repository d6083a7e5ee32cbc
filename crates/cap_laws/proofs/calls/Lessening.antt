-- What a call leaves: of the live containers and the reservations some, each with its application and its node.
use Rattle.cap_laws.proofs.Prelude.{◌≡◌, ℕ, List, refl, ◌∙◌, ap, subst, inl, inr, Option, Some, None, IsSome, not, ◌==◌, find, option_map, Request, Reply, Flat, App, ClusterNode, Reservation, app_at, node_at, IsIn, of_filter, find_changed, standing}
use Rattle.cap_laws.proofs.lists.Parts.{IsPart, part_itself, part_filter, part_in}
use Rattle.cap_laws.proofs.lists.Tables.{stays}
use Rattle.cap_laws.proofs.calls.Steps.{Effect}
use Rattle.cap_laws.proofs.numbers.ContainerNumbers.{IsThinned, call_thins}
pub use Rattle.cap_laws.proofs.calls.Moves.{IsSite}
use Rattle.cap_laws.proofs.calls.Moves.{AppsChange, AppsMove, NodesMove, asked, call_moves, call_nodes}

-- the total of a node
abbrev pub capacity : Option ClusterNode → Option (List ℕ)
capacity o = option_map (λ node. node.total) o

standing_kept : (f : App → App) → ((a : App) → (f a).leaf ≡ a.leaf) → ((a : App) → (f a).user ≡ a.user) → (o : Option App) → standing (option_map f o) ≡ standing o
standing_kept f l u None = refl
standing_kept f l u (Some a) = λ i. Some (l a i, u a i)

capacity_kept : (f : ClusterNode → ClusterNode) → ((x : ClusterNode) → (f x).total ≡ x.total) → (o : Option ClusterNode) → capacity (option_map f o) ≡ capacity o
capacity_kept f t None = refl
capacity_kept f t (Some x) = λ i. Some (t x i)

module _ {K : ℕ} where
  abbrev pub HasPlaces : Flat K → Type 0
  HasPlaces cluster = (app node : ℕ) → IsSite cluster app node → IsSome (app_at cluster app) × IsSome (node_at cluster node)

  -- live containers and reservations go, and an application or a node goes with all that it had
  pub record IsLessened (old new : Flat K) : Type 0 where
    pub live : IsThinned old new
    pub reserved : IsPart old.nodes.reserved new.nodes.reserved
    pub apps : AppsMove old new
    pub nodes : NodesMove old new

  module _ (old new : Flat K) (less : IsLessened old new) (app node : ℕ) where
    pub site_before : IsSite new app node → IsSite old app node
    site_before (inl (c, m, a, e)) = inl (c, (of_filter less.live.test old.nodes.live c (subst (IsIn c) less.live.live m)).1, a, e)
    site_before (inr (r, m, a, e)) = inr (r, part_in old.nodes.reserved new.nodes.reserved r less.reserved m, a, e)

    module _ (h : HasPlaces old) (s : IsSite new app node) where
      pub its_standing : standing (app_at new app) ≡ standing (app_at old app)
      its_standing = stays standing (λ f k. standing_kept f k.leaf k.user) less.apps app (h app node (site_before s)).0 (λ m gone. gone app node s)

      pub its_capacity : capacity (node_at new node) ≡ capacity (node_at old node)
      its_capacity = stays capacity capacity_kept less.nodes node (h app node (site_before s)).1 (λ m gone. gone app node s)

  pub change_stands : (old new : Flat K) → AppsChange old new → (n : ℕ) → standing (app_at new n) ≡ standing (app_at old n)
  change_stands old new m n =
      ap standing (ap (find (λ (app : App). app.number == n)) m.active ∙ find_changed (λ (app : App). app.number) m.change m.keeps.number n old.apps.active)
      ∙ standing_kept m.change m.keeps.leaf m.keeps.user (app_at old n)

  -- the reservations that a call leaves are some of those before
  pub call_part : (old new : Flat K) {request : Request K} {reply : Reply K} → Effect old request reply new → IsPart old.nodes.reserved new.nodes.reserved
  call_part old new (Effect.allocate app id asks releases there fresh) = (asked app asks old).reserved
  call_part old new (Effect.finish_master m) = part_filter (λ (r : Reservation). not (r.app == m)) old.nodes.reserved
  call_part old new (Effect.node_gone m) = part_filter (λ (r : Reservation). not (r.node == m)) old.nodes.reserved
  call_part old new _ = part_itself old.nodes.reserved

  pub lessened : (old new : Flat K) {request : Request K} {reply : Reply K} → Effect old request reply new → IsLessened old new
  lessened old new call = record { live = call_thins old new call; reserved = call_part old new call; apps = call_moves old new call; nodes = call_nodes old new call }
