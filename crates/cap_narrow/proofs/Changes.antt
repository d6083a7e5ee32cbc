-- Changes of one application, of one node, and ends of containers, without the last resource.
use Rattle.cap_narrow.proofs.Prelude.{◌≡◌, ℕ, suc, List, [], ◌∷◌, ◌++◌, refl, ◌∙◌, ap, Option, Some, None, not, ◌==◌, map, filter, find, option_map, cons_option, All-map, All-filter, find_mapped_at, map_twice, filter_mapped, Cause, Flat, App, ClusterNode, Container, with_app, with_node, is_among, named_among, with_ends, after_ends, EndsInNone, narrow, narrow_app, narrow_node, narrow_container, WantNone, HasNone}
use Rattle.cap_narrow.proofs.Lists.{any_same, maps_meet, change_meets, all_changed_if}

-- ---- ends
module _ (K : ℕ) where
  among_narrow : (gone : List Container) (c : Container) → is_among (map (narrow_container K) gone) c ≡ is_among gone c
  among_narrow gone c = any_same (narrow_container K) (λ (d : Container). d.number == c.number) (λ (d : Container). d.number == c.number) gone (λ d m. refl)

  pub named_narrow : (ns : List ℕ) (live : List Container) → named_among ns (map (narrow_container K) live) ≡ map (narrow_container K) (named_among ns live)
  named_narrow [] live = refl
  named_narrow (n ∷ ns) live =
      (λ i. cons_option (find_mapped_at (narrow_container K) (λ (c : Container). c.number == n) live i)
      ((ap (named_among ns) (filter_mapped (λ (c : Container). not (c.number == n)) (narrow_container K) live) ∙ named_narrow ns (filter (λ (c : Container). not (c.number == n)) live)) i))
      ∙ by (find (λ (c : Container). c.number == n) live) (named_among ns (filter (λ (c : Container). not (c.number == n)) live))
    where
      by : (o : Option Container) (xs : List Container) → cons_option (option_map (narrow_container K) o) (map (narrow_container K) xs) ≡ map (narrow_container K) (cons_option o xs)
      by None xs = refl
      by (Some c) xs = refl

  ends_narrow : (cause : Cause) (gone : List Container) (app : App) → with_ends cause (map (narrow_container K) gone) (narrow_app K app) ≡ narrow_app K (with_ends cause gone app)
  ends_narrow cause gone app =
      ap (λ ends. record (narrow_app K app) { ends = app.ends ++ ends })
      (ap (map (λ (c : Container). record { container = c.number; cause = cause })) (filter_mapped (λ (c : Container). c.app == app.number) (narrow_container K) gone)
      ∙ map_twice (λ (c : Container). record { container = c.number; cause = cause }) (narrow_container K) (filter (λ (c : Container). c.app == app.number) gone))

  pub live_narrow : (gone : List Container) (live : List Container) → filter (λ c. not (is_among (map (narrow_container K) gone) c)) (map (narrow_container K) live) ≡ map (narrow_container K) (filter (λ c. not (is_among gone c)) live)
  live_narrow gone live =
      (λ i. filter (λ c. not (among_narrow gone c i)) (map (narrow_container K) live))
      ∙ filter_mapped (λ c. not (is_among gone c)) (narrow_container K) live

module _ {K : ℕ} where
  pub after_ends_narrow : (cause : Cause) (gone : List Container) (cluster : Flat (suc K)) → after_ends cause (map (narrow_container K) gone) (narrow cluster) ≡ narrow (after_ends cause gone cluster)
  after_ends_narrow cause gone cluster =
      λ i. record (narrow cluster) {
        apps = record (narrow cluster).apps { active = maps_meet (with_ends cause (map (narrow_container K) gone)) (narrow_app K) (narrow_app K) (with_ends cause gone) (ends_narrow K cause gone) cluster.apps.active i };
        nodes = record (narrow cluster).nodes { live = live_narrow K gone cluster.nodes.live i };
      }

  -- a change of one application
  pub with_app_narrow : (n : ℕ) (h k : App → App) → ((a : App) → h (narrow_app K a) ≡ narrow_app K (k a)) → (cluster : Flat (suc K)) → with_app n h (narrow cluster) ≡ narrow (with_app n k cluster)
  with_app_narrow n h k e cluster =
      λ i. record (narrow cluster) { apps = record (narrow cluster).apps { active = change_meets (narrow_app K) h k (λ (a : App). a.number == n) (λ a. refl) e cluster.apps.active i } }

  pub with_node_narrow : (n : ℕ) (h : ClusterNode → ClusterNode) → ((a : ClusterNode) → h (narrow_node K a) ≡ narrow_node K (h a)) → (cluster : Flat (suc K)) → with_node n h (narrow cluster) ≡ narrow (with_node n h cluster)
  with_node_narrow n h e cluster =
      λ i. record (narrow cluster) { nodes = record (narrow cluster).nodes { present = change_meets (narrow_node K) h h (λ (a : ClusterNode). a.number == n) (λ a. refl) e cluster.nodes.present i } }

  -- ---- a cluster with none of the last resource has none after them
  pub none_with_app : (n : ℕ) (h : App → App) → ((a : App) → WantNone K a.asks → WantNone K (h a).asks) → (old : Flat (suc K)) → HasNone old → HasNone (with_app n h old)
  none_with_app n h e old none = record {
    settings = none.settings;
    asks = all_changed_if (λ (a : App). WantNone K a.asks) (λ a. a.number == n) h e old.apps.active none.asks;
    nodes = none.nodes;
    live = none.live;
    reserved = none.reserved;
  }

  pub none_with_node : (n : ℕ) (h : ClusterNode → ClusterNode) → ((a : ClusterNode) → EndsInNone K a.total → EndsInNone K (h a).total) → (old : Flat (suc K)) → HasNone old → HasNone (with_node n h old)
  none_with_node n h e old none = record {
    settings = none.settings;
    asks = none.asks;
    nodes = all_changed_if (λ (a : ClusterNode). EndsInNone K a.total) (λ a. a.number == n) h e old.nodes.present none.nodes;
    live = none.live;
    reserved = none.reserved;
  }

  pub none_after_ends : (cause : Cause) (gone : List Container) (old : Flat (suc K)) → HasNone old → HasNone (after_ends cause gone old)
  none_after_ends cause gone old none = record {
    settings = none.settings;
    asks = All-map (λ (a : App). WantNone K a.asks) (with_ends cause gone) old.apps.active none.asks;
    nodes = none.nodes;
    live = All-filter (λ c. not (is_among gone c)) (λ (c : Container). EndsInNone K c.resource) old.nodes.live none.live;
    reserved = none.reserved;
  }
