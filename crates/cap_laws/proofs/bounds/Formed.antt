-- A step keeps a cluster well-formed.
use Rattle.cap_laws.proofs.Prelude.{◌≡◌, ℕ, Bool, true, false, List, [], ◌∷◌, ◌++◌, refl, sym, ◌∙◌, ap, subst, inl, inr, Option, Some, None, IsSome, is_some, not, ◌||◌, ◌==◌, find, map, option_map, bytes_eq, nat_eq, if◌then◌else◌, All, list_any, starts_with, option_map_or, QueueRow, Settings, Request, Reply, Flat, App, Container, Reservation, app_at, queue_at, is_under, submit_refusal, refreshed_queue, refreshed_settings, first_of_settings, after_refresh, Event, Step, after_grant, after_reserve, grant_proposal, reserve_proposal, sight_of, NodeProposal, IsAdmissible, settings_in, HasDistinctPaths, IsTree, StandBelow, IsLeaf, AreThere, IsWellFormed, StepStaysWellFormed, is_refresh, refreshes, kept_if, of_filter, in_either, each_of, of_each, of_map, true_of_none, some_kept}
use Rattle.cap_laws.proofs.choice.Reasons.{none_holds}
use Rattle.cap_laws.proofs.lists.Tables.{numbers_move, each_after}
use Rattle.cap_laws.proofs.calls.Steps.{Effect, by_step}
use Rattle.cap_laws.proofs.calls.Moves.{AppsMove, NodesMove, asked, grant_change, step_moves, step_nodes}
use Rattle.cap_laws.proofs.calls.Lessening.{HasPlaces, IsSite, lessened, change_stands}
use Rattle.cap_laws.proofs.bounds.CallBounds.{places_stay}
use Rattle.cap_laws.proofs.choice.Proposers.{seen_is, node_seen}
use Rattle.cap_laws.proofs.calls.Registering.{submit_tests}
use Rattle.cap_laws.proofs.calls.Refreshing.{find_kept, refreshed_path}

-- the limits of a queue stay
pub record KeepsQueue (f : QueueRow → QueueRow) : Type 0 where
  pub guaranteed : (q : QueueRow) → (f q).guaranteed ≡ q.guaranteed
  pub maximum : (q : QueueRow) → (f q).maximum ≡ q.maximum
  pub factor : (q : QueueRow) → (f q).factor ≡ q.factor

any_kept : (f : QueueRow → QueueRow) → ((q : QueueRow) → (f q).path ≡ q.path) → (t : List ℕ → Bool) (qs : List QueueRow) → list_any (λ q. t q.path) (map f qs) ≡ list_any (λ q. t q.path) qs
any_kept f e t [] = refl
any_kept f e t (q ∷ qs) = λ i. t (e q i) || any_kept f e t qs i

distinct_kept : (f : QueueRow → QueueRow) → ((q : QueueRow) → (f q).path ≡ q.path) → (qs : List QueueRow) → HasDistinctPaths qs → HasDistinctPaths (map f qs)
distinct_kept f e [] d = tt
distinct_kept f e (q ∷ qs) d = (
  (λ i. list_any (λ r. bytes_eq r.path (e q i)) (map f qs)) ∙ any_kept f e (λ p. bytes_eq p q.path) qs ∙ d.0,
  distinct_kept f e qs d.1,
)

order_kept : (f : QueueRow → QueueRow) → ((q : QueueRow) → (f q).path ≡ q.path) → (qs : List QueueRow) → StandBelow qs → StandBelow (map f qs)
order_kept f e [] s = tt
order_kept f e (q ∷ qs) s = (
  (λ i. list_any (λ r. is_under r.path (e q i)) (map f qs)) ∙ any_kept f e (λ p. is_under p q.path) qs ∙ s.0,
  order_kept f e qs s.1,
)

some_mapped : {A B : Type 0} (f : A → B) (o : Option A) → IsSome o → IsSome (option_map f o)
some_mapped f None h = absurd (cc h)
some_mapped f (Some x) h = refl

found_kept : (f : QueueRow → QueueRow) → ((q : QueueRow) → (f q).path ≡ q.path) → (path : List ℕ) (qs : List QueueRow) → IsSome (find (λ r. bytes_eq r.path path) qs) → IsSome (find (λ r. bytes_eq r.path path) (map f qs))
found_kept f e path qs h = subst (λ o. IsSome o) (sym (find_kept f e path qs)) (some_mapped f (find (λ r. bytes_eq r.path path) qs) h)

abbrev HasAbove : List QueueRow → QueueRow → Type 0
HasAbove queues q = (front rest : List ℕ) → q.path ≡ front ++ 46 ∷ rest → IsSome (find (λ r. bytes_eq r.path front) queues)

tree_kept : (f : QueueRow → QueueRow) → ((q : QueueRow) → (f q).path ≡ q.path) → (qs : List QueueRow) → IsTree qs → IsTree (map f qs)
tree_kept f e qs t = record {
  distinct = distinct_kept f e qs t.distinct;
  above = of_each (HasAbove (map f qs)) (map f qs)
      (λ q m front rest h.
      let w = of_map f qs q m in
      found_kept f e front qs (each_of (HasAbove qs) qs t.above (w.0) (w.1) front rest (sym (e (w.0)) ∙ ap (λ (x : QueueRow). x.path) (w.2) ∙ h)));
}

module _ {K : ℕ} where
  -- queues of the same paths, in the same order, and with the same limits unless there was a Refresh
  pub record QueuesMove (refreshed : Bool) (old new : Flat K) : Type 0 where
    pub change : QueueRow → QueueRow
    pub path : (q : QueueRow) → (change q).path ≡ q.path
    pub keeps : refreshed ≡ false → KeepsQueue change
    pub queues : new.settings.queues ≡ map change old.settings.queues

  pub same_queues : {refreshed : Bool} (old new : Flat K) → new.settings ≡ old.settings → QueuesMove refreshed old new
  same_queues old new e = record {
    change = λ q. q;
    path = λ q. refl;
    keeps = λ h. record { guaranteed = λ q. refl; maximum = λ q. refl; factor = λ q. refl };
    queues = ap (λ (s : Settings). s.queues) e ∙ sym (Rattle.std.proofs.lemmas.List.map-id old.settings.queues);
  }

  -- a Refresh sets all but the path of each queue
  refresh_queues : (old : Flat K) (text : List ℕ) → QueuesMove true old (after_refresh old text)
  refresh_queues old text = by (settings_in text)
    where
      by : (o : Option Settings) → QueuesMove true old (record old { settings = option_map_or (λ settings. refreshed_settings (first_of_settings K settings) old.settings) o old.settings })
      by None = same_queues old old refl
      by (Some settings) =
          let rows = (first_of_settings K settings).queues in
          record { change = refreshed_queue rows; path = refreshed_path rows; keeps = λ h. absurd (cc h); queues = refl }

  call_queues : (old new : Flat K) {request : Request K} {reply : Reply K} → Effect old request reply new → QueuesMove (is_refresh request) old new
  call_queues old new (Effect.allocate app id asks releases there fresh) = same_queues old new (asked app asks old).settings
  call_queues old new (Effect.set_queue_state path running) =
      let set : QueueRow → QueueRow = λ q. record q { running = running } in
      record {
        change = λ q. if bytes_eq q.path path then set q else q;
        path = λ q. kept_if (bytes_eq q.path path) (λ (x : QueueRow). x.path) (set q) q refl;
        keeps = λ h. record {
          guaranteed = λ q. kept_if (bytes_eq q.path path) (λ (x : QueueRow). x.guaranteed) (set q) q refl;
          maximum = λ q. kept_if (bytes_eq q.path path) (λ (x : QueueRow). x.maximum) (set q) q refl;
          factor = λ q. kept_if (bytes_eq q.path path) (λ (x : QueueRow). x.factor) (set q) q refl;
        };
        queues = refl;
      }
  call_queues old new (Effect.refresh text) = refresh_queues old text
  call_queues old new _ = same_queues old new refl

  pub step_queues : (old new : Flat K) (event : Event K) → Step old event new → QueuesMove (refreshes event) old new
  step_queues old new event s =
      by_step old (λ event x. QueuesMove (refreshes event) old x) (λ by request reply x call. call_queues old x call) (λ c admissible number. same_queues old (after_grant old c) refl)
      (λ r admissible. same_queues old (after_reserve old r) refl) event new s

  leaf_kept : {refreshed : Bool} (old new : Flat K) → QueuesMove refreshed old new → (path : List ℕ) → IsLeaf old path → IsLeaf new path
  leaf_kept old new s path l = record {
    present = subst (λ qs. IsSome (find (λ (r : QueueRow). bytes_eq r.path path) qs)) (sym s.queues) (found_kept s.change s.path path old.settings.queues l.present);
    childless = ap (list_any (λ (q : QueueRow). starts_with nat_eq q.path (path ++ 46 ∷ []))) s.queues
        ∙ any_kept s.change s.path (λ p. starts_with nat_eq p (path ++ 46 ∷ [])) old.settings.queues
        ∙ l.childless;
  }

  -- a queue to which a submit is not refused is a leaf
  pub unrefused_leaf : (old : Flat K) (path : List ℕ) → submit_refusal old path ≡ None → IsLeaf old path
  unrefused_leaf old path e = let tests = none_holds (submit_tests old path) e in record { present = true_of_none (queue_at old path) tests.0; childless = tests.1.0 }

  leaves_move : {refreshed : Bool} (old new : Flat K) → QueuesMove refreshed old new → AppsMove old new → All (λ app. IsLeaf old app.leaf) old.apps.active → All (λ app. IsLeaf new app.leaf) new.apps.active
  leaves_move old new s m leaves =
      of_each (λ app. IsLeaf new app.leaf) new.apps.active
      (λ app g. leaf_kept old new s app.leaf
      (each_after (λ (a : App). IsLeaf old a.leaf) (λ f number k a leaf. subst (IsLeaf old) (sym (k.leaf a)) leaf) (λ a number e. unrefused_leaf old a.leaf e) m
      (each_of (λ app. IsLeaf old app.leaf) old.apps.active leaves) app g))

  -- places

  there_too : (cluster : Flat K) {a b app node : ℕ} → a ≡ app → b ≡ node → AreThere cluster a b → AreThere cluster app node
  there_too cluster {a} {b} {app} {node} e f there = subst (λ n. AreThere cluster n node) e (subst (λ n. AreThere cluster a n) f there)

  pub places_of : (cluster : Flat K) → IsWellFormed cluster → HasPlaces cluster
  places_of cluster w app node (inl (c, m, a, e)) = there_too cluster a e (each_of (λ (x : Container). AreThere cluster x.app x.node) cluster.nodes.live w.live c m)
  places_of cluster w app node (inr (r, m, a, e)) = there_too cluster a e (each_of (λ (x : Reservation). AreThere cluster x.app x.node) cluster.nodes.reserved w.reserved r m)

  live_placed : (cluster : Flat K) → HasPlaces cluster → All (λ c. AreThere cluster c.app c.node) cluster.nodes.live
  live_placed cluster h = of_each (λ (c : Container). AreThere cluster c.app c.node) cluster.nodes.live (λ c m. h c.app c.node (inl (c, m, refl, refl)))

  reserved_placed : (cluster : Flat K) → HasPlaces cluster → All (λ r. AreThere cluster r.app r.node) cluster.nodes.reserved
  reserved_placed cluster h = of_each (λ (r : Reservation). AreThere cluster r.app r.node) cluster.nodes.reserved (λ r m. h r.app r.node (inr (r, m, refl, refl)))

  -- the parts together
  pub formed : {refreshed : Bool} (old new : Flat K) → IsWellFormed old → QueuesMove refreshed old new → AppsMove old new → NodesMove old new → HasPlaces new → IsWellFormed new
  formed old new w s m n h = record {
    tree = subst (λ qs. IsTree qs) (sym s.queues) (tree_kept s.change s.path old.settings.queues w.tree);
    order = subst (λ qs. StandBelow qs) (sym s.queues) (order_kept s.change s.path old.settings.queues w.order);
    leaves = leaves_move old new s m w.leaves;
    apps = numbers_move m w.apps;
    nodes = numbers_move n w.nodes;
    live = live_placed new h;
    reserved = reserved_placed new h;
  }

  -- the application and the node of an admissible proposal
  pub its_place : (old : Flat K) (p : NodeProposal) → IsWellFormed old → IsAdmissible (sight_of old) p → AreThere old p.app p.node
  its_place old p w a =
      let s = seen_is old w.apps p.app (a.0).registered in
      let n = node_seen old p.node (a.0).present in
      (ap is_some s.at, ap is_some n.at)

  grant_places : (old : Flat K) (c : Container) → HasPlaces old → AreThere old c.app c.node → HasPlaces (after_grant old c)
  grant_places old c h at app node s = (some_kept (λ (a : App). (a.leaf, a.user)) (app_at (after_grant old c) app) (app_at old app) (change_stands old (after_grant old c) (grant_change old c) app) (before s).0, (before s).1)
    where
      before : IsSite (after_grant old c) app node → AreThere old app node
      before (inl (x, m, a, e)) = elim (in_either x old.nodes.live (c ∷ []) m) [
        | inl g ↦ h app node (inl (x, g, a, e))
        | inr (inl g) ↦ there_too old (ap (λ (y : Container). y.app) g ∙ a) (ap (λ (y : Container). y.node) g ∙ e) at
        | inr (inr g) ↦ absurd g
      ]
      before (inr (r, m, a, e)) = h app node (inr (r, (of_filter (λ (x : Reservation). not (x.node == c.node)) old.nodes.reserved r m).1, a, e))

  reserve_places : (old : Flat K) (r : Reservation) → HasPlaces old → AreThere old r.app r.node → HasPlaces (after_reserve old r)
  reserve_places old r h at app node (inl s) = h app node (inl s)
  reserve_places old r h at app node (inr (x, m, a, e)) = elim (in_either x old.nodes.reserved (r ∷ []) m) [
    | inl g ↦ h app node (inr (x, g, a, e))
    | inr (inl g) ↦ there_too old (ap (λ (y : Reservation). y.app) g ∙ a) (ap (λ (y : Reservation). y.node) g ∙ e) at
    | inr (inr g) ↦ absurd g
  ]

  step_places : (old new : Flat K) (event : Event K) → IsWellFormed old → Step old event new → HasPlaces new
  step_places old new event w s =
      let h = places_of old w in
      by_step old (λ e x. HasPlaces x) (λ by request reply x call. places_stay old x (lessened old x call) h)
      (λ c admissible number. grant_places old c h (its_place old (grant_proposal c) w admissible)) (λ r admissible. reserve_places old r h (its_place old (reserve_proposal r) w admissible)) event new s

  pub step_formed : (old new : Flat K) (event : Event K) → IsWellFormed old → Step old event new → IsWellFormed new
  step_formed old new event w s = formed old new w (step_queues old new event s) (step_moves old new event s) (step_nodes old new event s) (step_places old new event w s)

pub step_stays_well_formed : StepStaysWellFormed
step_stays_well_formed K old new event w step = step_formed old new event w step
