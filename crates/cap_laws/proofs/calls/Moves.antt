-- What a step does to the applications and to the nodes.
use Rattle.cap_laws.proofs.Prelude.{◌≡◌, ℕ, Bool, true, false, List, [], ◌∷◌, ◌++◌, refl, sym, ◌∙◌, ap, inl, inr, arith, ◌⊎◌, None, Some, not, ◌==◌, length, ◌-◌, filter, map, if◌then◌else◌, map-id, not-true, nat_tests, Ask, Cause, Request, Reply, Flat, App, ClusterNode, Container, Reservation, with_app, containers_on, is_for, is_among, after_asks, after_ask, put_ask, with_ends, new_app, new_node, submit_refusal, register_node_refusal, after_telling, after_wishes, after_processed_allocate, after_finish_master, after_node_gone, released_by, beat_of, ended_by, Event, Step, after_grant, after_reserve, news_of, take_one, IsIn, of_filter, in_filter, map_twice, kept_if}
use Rattle.cap_laws.proofs.lists.Parts.{IsPart, part_itself, part_of_part, part_keep_first}
use Rattle.cap_laws.proofs.lists.Tables.{TableMoves}
use Rattle.cap_laws.proofs.calls.Steps.{Effect, by_step, over_asks}
use Rattle.cap_laws.proofs.numbers.Balance.{among_itself}

-- a change of an application that keeps what it is
pub record KeepsApp (f : App → App) : Type 0 where
  pub number : (a : App) → (f a).number ≡ a.number
  pub leaf : (a : App) → (f a).leaf ≡ a.leaf
  pub user : (a : App) → (f a).user ≡ a.user

pub only_app : (m : ℕ) (change : App → App) → KeepsApp change → KeepsApp (λ app. if app.number == m then change app else app)
only_app m change k = record {
  number = λ a. kept_if (a.number == m) (λ (x : App). x.number) (change a) a (k.number a);
  leaf = λ a. kept_if (a.number == m) (λ (x : App). x.leaf) (change a) a (k.leaf a);
  user = λ a. kept_if (a.number == m) (λ (x : App). x.user) (change a) a (k.user a);
}

-- of those that are not among some others, none passes the test of these others
not_among : (t : Container → Bool) (cs : List Container) (c : Container) → IsIn c (filter (λ d. not (is_among (filter t cs) d)) cs) → t c ≡ false
not_among t cs c m =
    let f = of_filter (λ d. not (is_among (filter t cs) d)) cs c m in
    by (t c) refl (f.0) (f.1)
  where
    by : (b : Bool) → t c ≡ b → not (is_among (filter t cs) c) ≡ true → IsIn c cs → b ≡ false
    by true e h g = let no : not (is_among (filter t cs) c) ≡ false = ap not (among_itself (filter t cs) c (in_filter t cs c g e)) in absurd (cc (no, h))
    by false e h g = refl

module _ {K : ℕ} where
  -- each application is changed, and stays what it is
  pub record AppsChange (old new : Flat K) : Type 0 where
    pub change : App → App
    pub keeps : KeepsApp change
    pub active : new.apps.active ≡ map change old.apps.active
    pub next : new.apps.next ≡ old.apps.next

  pub no_change : (old new : Flat K) → new.apps.active ≡ old.apps.active → new.apps.next ≡ old.apps.next → AppsChange old new
  no_change old new e n = record { change = λ a. a; keeps = record { number = λ a. refl; leaf = λ a. refl; user = λ a. refl }; active = e ∙ sym (map-id old.apps.active); next = n }

  pub one_change : (m : ℕ) (f : App → App) → KeepsApp f → (old : Flat K) → AppsChange old (with_app m f old)
  one_change m f k old = record { change = λ app. if app.number == m then f app else app; keeps = only_app m f k; active = refl; next = refl }

  two_changes : (a b c : Flat K) → AppsChange a b → AppsChange b c → AppsChange a c
  two_changes a b c p q = record {
    change = λ x. q.change (p.change x);
    keeps = record {
      number = λ x. q.keeps.number (p.change x) ∙ p.keeps.number x;
      leaf = λ x. q.keeps.leaf (p.change x) ∙ p.keeps.leaf x;
      user = λ x. q.keeps.user (p.change x) ∙ p.keeps.user x;
    };
    active = q.active ∙ ap (map q.change) p.active ∙ map_twice q.change p.change a.apps.active;
    next = q.next ∙ p.next;
  }

  -- what the asks of an allocate change
  pub record IsAsked (old new : Flat K) : Type 0 where
    pub settings : new.settings ≡ old.settings
    pub present : new.nodes.present ≡ old.nodes.present
    pub next_node : new.nodes.next_node ≡ old.nodes.next_node
    pub reserved : IsPart old.nodes.reserved new.nodes.reserved

  pub asked : (n : ℕ) (asks : List Ask) (old : Flat K) → IsAsked old (after_asks n asks old)
  asked n asks old =
      over_asks (IsAsked old) n
      (λ c ask is. record {
        settings = is.settings;
        present = is.present;
        next_node = is.next_node;
        reserved = part_of_part old.nodes.reserved c.nodes.reserved (after_ask n c ask).nodes.reserved is.reserved (part_keep_first (is_for n ask.key) _ c.nodes.reserved);
      })
      asks old (record { settings = refl; present = refl; next_node = refl; reserved = part_itself old.nodes.reserved })

  pub ask_change : (n : ℕ) (ask : Ask) (old : Flat K) → AppsChange old (after_ask n old ask)
  ask_change n ask old = record {
    change = λ app. if app.number == n then record app { asks = put_ask ask app.asks } else app;
    keeps = only_app n (λ app. record app { asks = put_ask ask app.asks }) (record { number = λ a. refl; leaf = λ a. refl; user = λ a. refl });
    active = refl;
    next = refl;
  }

  pub asks_change : (n : ℕ) (asks : List Ask) (old : Flat K) → AppsChange old (after_asks n asks old)
  asks_change n asks old = over_asks (AppsChange old) n (λ c ask change. two_changes old c (after_ask n c ask) change (ask_change n ask c)) asks old (no_change old old refl refl)

  pub ends_change : (cause : Cause) (gone : List Container) (old new : Flat K) → new.apps.active ≡ map (with_ends cause gone) old.apps.active → new.apps.next ≡ old.apps.next → AppsChange old new
  ends_change cause gone old new e n = record { change = with_ends cause gone; keeps = record { number = λ a. refl; leaf = λ a. refl; user = λ a. refl }; active = e; next = n }

  pub allocate_change : (old : Flat K) (n id : ℕ) (asks : List Ask) (releases : List ℕ) → AppsChange old (after_processed_allocate old n id asks releases)
  allocate_change old n id asks releases =
      let w = after_wishes old n asks releases in
      let x = after_asks n asks old in
      two_changes old w (after_processed_allocate old n id asks releases)
      (two_changes old x w (asks_change n asks old) (ends_change Cause.Released (released_by old n releases) x w refl refl))
      (one_change n (after_telling id (length releases - length (released_by old n releases))) (record { number = λ a. refl; leaf = λ a. refl; user = λ a. refl }) w)

  pub grant_change : (old : Flat K) (c : Container) → AppsChange old (after_grant old c)
  grant_change old c = record {
    change = λ app. if app.number == c.app then record app { asks = take_one c.key app.asks; grants = app.grants ++ news_of old c ∷ [] } else app;
    keeps = only_app c.app (λ app. record app { asks = take_one c.key app.asks; grants = app.grants ++ news_of old c ∷ [] }) (record { number = λ a. refl; leaf = λ a. refl; user = λ a. refl });
    active = refl;
    next = refl;
  }

  -- a live container or a reservation of this application, on this node
  abbrev pub IsSite : Flat K → ℕ → ℕ → Type 0
  IsSite cluster app node =
      ((c : Container) × IsIn c cluster.nodes.live × (c.app ≡ app) × (c.node ≡ node))
      ⊎ ((r : Reservation) × IsIn r cluster.nodes.reserved × (r.app ≡ app) × (r.node ≡ node))

  -- applications stay what they are, one goes with all that it holds, or one comes that a submit does not refuse
  abbrev pub AppsMove : Flat K → Flat K → Type 0
  AppsMove old new =
      TableMoves (λ (a : App). a.number) KeepsApp (λ n. (app node : ℕ) → IsSite new app node → n == app ≡ false) (λ (a : App). submit_refusal old a.leaf ≡ None)
      old.apps.active old.apps.next new.apps.active new.apps.next

  pub apps_change : (old new : Flat K) → AppsChange old new → AppsMove old new
  apps_change old new c = TableMoves.change c.change c.keeps.number c.keeps c.active c.next

  -- nodes keep their totals, one goes with all that is on it, or one comes whose registration is not refused
  abbrev pub NodesMove : Flat K → Flat K → Type 0
  NodesMove old new =
      TableMoves (λ (x : ClusterNode). x.number) (λ f. (x : ClusterNode) → (f x).total ≡ x.total) (λ n. (app node : ℕ) → IsSite new app node → n == node ≡ false)
      (λ (x : ClusterNode). register_node_refusal old x.host x.total ≡ None) old.nodes.present old.nodes.next_node new.nodes.present new.nodes.next_node

  pub nodes_same : (old new : Flat K) → new.nodes.present ≡ old.nodes.present → new.nodes.next_node ≡ old.nodes.next_node → NodesMove old new
  nodes_same old new e n = TableMoves.change (λ x. x) (λ x. refl) (λ x. refl) (e ∙ sym (map-id old.nodes.present)) n

  -- where an application or a node goes, nothing of it stays
  pub gone_app : (old : Flat K) (m app node : ℕ) → IsSite (after_finish_master old m) app node → m == app ≡ false
  gone_app old m app node (inl (c, g, a, e)) = let other = not_among (λ (d : Container). d.app == m) old.nodes.live c g in grind (arith, nat_tests, other, a)
  gone_app old m app node (inr (r, g, a, e)) =
      let other : r.app == m ≡ false = not-true (r.app == m) (of_filter (λ (x : Reservation). not (x.app == m)) old.nodes.reserved r g).0 in grind (arith, nat_tests, other, a)

  gone_node : (old : Flat K) (m app node : ℕ) → IsSite (after_node_gone old m) app node → m == node ≡ false
  gone_node old m app node (inl (c, g, a, e)) = let other = not_among (λ (d : Container). d.node == m) old.nodes.live c g in grind (arith, nat_tests, other, e)
  gone_node old m app node (inr (r, g, a, e)) =
      let other : r.node == m ≡ false = not-true (r.node == m) (of_filter (λ (x : Reservation). not (x.node == m)) old.nodes.reserved r g).0 in grind (arith, nat_tests, other, e)

  pub call_moves : (old new : Flat K) {request : Request K} {reply : Reply K} → Effect old request reply new → AppsMove old new
  call_moves old new (Effect.submit path user e) = TableMoves.comes (new_app old.apps.next path user) refl e refl refl
  call_moves old new (Effect.register_master app) = apps_change old new (one_change app (λ a. record a { registered = true }) (record { number = λ a. refl; leaf = λ a. refl; user = λ a. refl }) old)
  call_moves old new (Effect.allocate app id asks releases there fresh) = apps_change old new (allocate_change old app id asks releases)
  call_moves old new (Effect.finish_master app) = TableMoves.goes app (gone_app old app) refl refl
  call_moves old new (Effect.heartbeat node id ended fresh) = apps_change old new (ends_change Cause.EndedOnNode (ended_by old node ended) old new refl refl)
  call_moves old new (Effect.node_gone node) = apps_change old new (ends_change Cause.NodeLost (containers_on old.nodes node) old new refl refl)
  call_moves old new _ = apps_change old new (no_change old new refl refl)

  pub call_nodes : (old new : Flat K) {request : Request K} {reply : Reply K} → Effect old request reply new → NodesMove old new
  call_nodes old new (Effect.allocate app id asks releases there fresh) = let a = asked app asks old in nodes_same old new a.present a.next_node
  call_nodes old new (Effect.register_node host rack total e) = TableMoves.comes (new_node old.nodes.next_node host rack total) refl e refl refl
  call_nodes old new (Effect.heartbeat node id ended fresh) =
      let told : ClusterNode → ClusterNode = λ x. record x { response = (beat_of old node id ended).response; kept = Some (beat_of old node id ended) } in
      TableMoves.change (λ x. if x.number == node then told x else x) (λ x. kept_if (x.number == node) (λ (y : ClusterNode). y.number) (told x) x refl) (λ x. kept_if (x.number == node) (λ (y : ClusterNode). y.total) (told x) x refl) refl refl
  call_nodes old new (Effect.node_gone node) = TableMoves.goes node (λ app at. gone_node old node app at) refl refl
  call_nodes old new _ = nodes_same old new refl refl

  pub step_moves : (old new : Flat K) (event : Event K) → Step old event new → AppsMove old new
  step_moves old new event s =
      by_step old (λ e x. AppsMove old x) (λ by request reply x call. call_moves old x call) (λ c admissible number. apps_change old (after_grant old c) (grant_change old c))
      (λ r admissible. apps_change old (after_reserve old r) (no_change old (after_reserve old r) refl refl)) event new s

  pub step_nodes : (old new : Flat K) (event : Event K) → Step old event new → NodesMove old new
  step_nodes old new event s =
      by_step old (λ e x. NodesMove old x) (λ by request reply x call. call_nodes old x call) (λ c admissible number. nodes_same old (after_grant old c) refl refl)
      (λ r admissible. nodes_same old (after_reserve old r) refl refl) event new s
