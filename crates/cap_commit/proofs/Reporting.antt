-- What is reported of a queue of the tree is what the flat cluster says of it.
use Rattle.cap_commit.proofs.Prelude.{◌≡◌, ℕ, ◌≤◌, Bool, true, List, [], ◌∷◌, Some, refl, sym, ◌∙◌, ap, subst, inl, not, is_some, count_by, applications_max, Flat, App, queue_at, is_under, root_path, IsListedFromRoot, queue_report, queue_use, IsIn, each_of, item_at, path_at, Queue, Row, AreRows, IsAt, queues_of, root_use, settings_of_row, has_children, is_running, QueueReport, Parts, AreConsistent, IsRowOf, flat_of, report_is}
use Rattle.cap_commit.proofs.RowsAt.{IsRowAt, row_at, found_row, active_few}

some_same : {A : Type 0} (x y : A) → Some x ≡ Some y → x ≡ y
some_same x y e = cc e

module _ {K : ℕ} (p : Parts K) (path position : List ℕ) (tree : AreRows p.rows) (at : IsAt p.rows path position) (h : AreConsistent p) where
  abbrev rows : List Row
  rows = p.rows

  abbrev cluster : Flat K
  cluster = flat_of p

  it : IsRowAt rows path position
  it = row_at rows path position at

  its_settings : queue_at cluster path ≡ Some (settings_of_row (it.row))
  its_settings = found_row rows path position tree it

  -- it is there
  pub is_there : is_some (queue_at cluster path) ≡ true
  is_there = ap is_some its_settings

  its_item : (q : Queue) → item_at position rows ≡ Some q → it.row.item ≡ q
  its_item q e = some_same it.row.item q (sym it.item_is ∙ e)

  -- not too many applications are active there
  pub seen_few : (q : Queue) → item_at position rows ≡ Some q → q.active ≤ applications_max
  seen_few q e = subst (λ (x : Queue). x.active ≤ applications_max) (its_item q e) (active_few p h it.row it.member)

  tied : IsRowOf cluster (it.row)
  tied = each_of (IsRowOf cluster) rows h.tied it.row it.member

  -- its use is the queue's
  pub seen_use : (q : Queue) → item_at position rows ≡ Some q → q.used ≡ queue_use cluster path
  seen_use q e = ap (λ (x : Queue). x.used) (sym (its_item q e)) ∙ tied.used ∙ ap (queue_use cluster) it.path_is

  -- what is reported of it
  pub reported : (q : Queue) (running below : Bool) (r : QueueReport K) → item_at position rows ≡ Some q → running ≡ is_running rows (path_at position rows) → has_children rows path ≡ below →
      r ≡ record { running = running; leaf = not below; guaranteed = q.guaranteed; maximum = q.maximum; used = q.used; apps = q.active } → r ≡ queue_report cluster path
  reported q running below r e runs childless is =
      let item = its_item q e in
      is
      ∙ report_is cluster path (settings_of_row (it.row)) running below q.guaranteed q.maximum q.used q.active its_settings
      (runs ∙ ap (is_running rows) at.path_is)
      (sym childless)
      (ap (λ (x : Queue). x.guaranteed) (sym item)) (ap (λ (x : Queue). x.maximum) (sym item)) (seen_use q e)
      (ap (λ (x : Queue). x.active) (sym item) ∙ tied.active ∙ ap (λ x. count_by (λ (a : App). is_under x a.leaf) cluster.apps.active) it.path_is)

-- what the root uses is what the flat cluster says of `root`
module _ {K : ℕ} (p : Parts K) (tree : AreRows p.rows) (h : AreConsistent p) where
  of_first : (rows : List Row) → IsListedFromRoot (queues_of rows) → ((r : Row) → IsIn r rows → IsRowOf (flat_of p) r) → root_use rows ≡ queue_use (flat_of p) root_path
  of_first [] l tied = absurd l
  of_first (r ∷ rows) l tied = (tied r (inl refl)).used ∙ ap (queue_use (flat_of p)) l.0

  pub root_used : (used : List ℕ) → used ≡ root_use p.rows → used ≡ queue_use (flat_of p) root_path
  root_used used e = e ∙ of_first p.rows tree.listing.listed (each_of (IsRowOf (flat_of p)) p.rows h.tied)
