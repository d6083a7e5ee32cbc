-- The rows of a tree keep what the flat cluster counts, as calls change both.
use Rattle.cap_commit.proofs.Prelude.{◌≡◌, ℕ, Bool, true, false, List, [], ◌∷◌, Option, Some, None, map, refl, sym, ◌∙◌, ap, subst, bytes_eq, find, ◌&&◌, if◌then◌else◌, option_map_or, All, amount, amount-zeros, QueueRow, Flat, refreshed_queue, is_under, each_of, of_each, of_map, kept_if, refreshed_path, Test, count_of, used_by, Measure, Queue, IsUnused, of_user, with_running, with_settings, no_user_counts, Row, changed_at, queues_of, settings_of_row, with_row_of_path, with_state, same_path, set_running, state_in_settings, IsRowOf, of_cluster, idle_use}

-- what counts for a queue, and for a user in a leaf
abbrev pub in_queue : List ℕ → Test
in_queue path leaf user = is_under path leaf

abbrev pub of_user_in : List ℕ → List ℕ → Test
of_user_in path user leaf owner = bytes_eq path leaf && bytes_eq user owner

-- where nothing is there, nothing is counted
pub unused_tied : {K : ℕ} (cluster : Flat K) (rows : List Row) → cluster.apps.active ≡ [] → cluster.nodes.live ≡ [] → cluster.nodes.reserved ≡ [] → All (λ r. IsUnused K r.item) rows → All (IsRowOf cluster) rows
unused_tied {K} cluster rows none live reserved a = of_each (IsRowOf cluster) rows (λ r m. tied r (each_of (λ (s : Row). IsUnused K s.item) rows a r m))
  where
    nothing : (path user : List ℕ) (m : Measure) → of_cluster cluster path user m ≡ 0
    nothing path user (Measure.uses k) = ap (λ v. amount v k) (idle_use cluster (of_user_in path user) live reserved) ∙ amount-zeros K k
    nothing path user Measure.active = ap (count_of (of_user_in path user)) none
    nothing path user Measure.waiting = refl

    tied : (r : Row) → IsUnused K r.item → IsRowOf cluster r
    tied r u = record {
      active = u.active ∙ sym (ap (count_of (in_queue r.path)) none);
      used = u.used ∙ sym (idle_use cluster (in_queue r.path) live reserved);
      users = λ user m. ap (of_user user m) u.users ∙ no_user_counts user m ∙ sym (nothing r.path user m);
    }

-- the same is counted of two clusters
pub record CountsSame {K : ℕ} (old new : Flat K) : Type 0 where
  pub counts : (test : Test) → count_of test new.apps.active ≡ count_of test old.apps.active
  pub uses : (test : Test) → used_by new test ≡ used_by old test

module _ {K : ℕ} (old new : Flat K) where
  same_of : CountsSame old new → (path user : List ℕ) (m : Measure) → of_cluster new path user m ≡ of_cluster old path user m
  same_of s path user (Measure.uses k) = ap (λ v. amount v k) (s.uses (of_user_in path user))
  same_of s path user Measure.active = s.counts (of_user_in path user)
  same_of s path user Measure.waiting = refl

  row_stays : CountsSame old new → (r : Row) → IsRowOf old r → IsRowOf new r
  row_stays s r h = record {
    active = h.active ∙ sym (s.counts (in_queue r.path));
    used = h.used ∙ sym (s.uses (in_queue r.path));
    users = λ user m. h.users user m ∙ sym (same_of s r.path user m);
  }

  pub tied_stays : CountsSame old new → (rows : List Row) → All (IsRowOf old) rows → All (IsRowOf new) rows
  tied_stays s rows a = of_each (IsRowOf new) rows (λ r m. row_stays s r (each_of (IsRowOf old) rows a r m))

-- a change of rows that leaves each where it is, with what it counts; and what it changes of the settings that rows show
pub record ChangesSettings (f : Row → Row) (g : QueueRow → QueueRow) : Type 0 where
  pub position : (r : Row) → (f r).position ≡ r.position
  pub path : (r : Row) → (f r).path ≡ r.path
  pub counts : {K : ℕ} (cluster : Flat K) (r : Row) → IsRowOf cluster r → IsRowOf cluster (f r)
  pub queues : (rows : List Row) → queues_of (map f rows) ≡ map g (queues_of rows)
  pub same : (q : QueueRow) → (g q).path ≡ q.path

pub tied_changed : (f : Row → Row) (g : QueueRow → QueueRow) → ChangesSettings f g → {K : ℕ} (cluster : Flat K) (rows : List Row) → All (IsRowOf cluster) rows → All (IsRowOf cluster) (map f rows)
tied_changed f g k cluster rows a =
    of_each (IsRowOf cluster) (map f rows) (λ r m.
    let w = of_map f rows r m in
    subst (IsRowOf cluster) (w.2) (k.counts cluster (w.0) (each_of (IsRowOf cluster) rows a (w.0) (w.1))))

-- a queue's own state is such a change
pub state_changes : (path : List ℕ) (running : Bool) → ChangesSettings (with_state path running) (set_running path running)
state_changes path running = record {
  position = λ r. kept_if (bytes_eq r.path path) (λ (x : Row). x.position) _ r refl;
  path = λ r. kept_if (bytes_eq r.path path) (λ (x : Row). x.path) _ r refl;
  counts = λ cluster r. by cluster r (bytes_eq r.path path);
  queues = state_in_settings path running;
  same = same_path path running;
}
  where
    by : {K : ℕ} (cluster : Flat K) (r : Row) (b : Bool) → IsRowOf cluster r → IsRowOf cluster (if b then record r { item = with_running running r.item } else r)
    by cluster r true h = record { active = h.active; used = h.used; users = h.users }
    by cluster r false h = h

-- and so are all settings of the rows of the same paths
pub rows_change : (qs : List QueueRow) → ChangesSettings (with_row_of_path qs) (refreshed_queue qs)
rows_change qs = record {
  position = λ r. place r (find (λ q. bytes_eq q.path r.path) qs);
  path = λ r. name r (find (λ q. bytes_eq q.path r.path) qs);
  counts = λ cluster r. by cluster r (find (λ q. bytes_eq q.path r.path) qs);
  queues = shown;
  same = refreshed_path qs;
}
  where
    changed : Row → Option QueueRow → Row
    changed r o = option_map_or (λ (q : QueueRow). record r { item = with_settings q r.item }) o r

    place : (r : Row) (o : Option QueueRow) → (changed r o).position ≡ r.position
    place r None = refl
    place r (Some q) = refl

    name : (r : Row) (o : Option QueueRow) → (changed r o).path ≡ r.path
    name r None = refl
    name r (Some q) = refl

    by : {K : ℕ} (cluster : Flat K) (r : Row) (o : Option QueueRow) → IsRowOf cluster r → IsRowOf cluster (changed r o)
    by cluster r None h = h
    by cluster r (Some q) h = record { active = h.active; used = h.used; users = h.users }

    one : (r : Row) (o : Option QueueRow) → settings_of_row (changed r o) ≡ option_map_or (λ (row : QueueRow). record row { path = r.path }) o (settings_of_row r)
    one r None = refl
    one r (Some q) = refl

    shown : (rows : List Row) → queues_of (map (with_row_of_path qs) rows) ≡ map (refreshed_queue qs) (queues_of rows)
    shown [] = refl
    shown (r ∷ rows) = λ i. one r (find (λ q. bytes_eq q.path r.path) qs) i ∷ shown rows i

-- a change at the leaf of a path and at the queues above it
pub changed_row : (above at : Queue → Queue) (leaf : List ℕ) (Q : Row → Type 0) (r : Row) → (bytes_eq r.path leaf ≡ true → Q (record r { item = at r.item })) →
    (bytes_eq r.path leaf ≡ false → is_under r.path leaf ≡ true → Q (record r { item = above r.item })) → (bytes_eq r.path leaf ≡ false → is_under r.path leaf ≡ false → Q r) → Q (changed_at above at leaf r)
changed_row above at leaf Q r f g h = by (bytes_eq r.path leaf) (is_under r.path leaf) refl refl
  where
    by : (b c : Bool) → bytes_eq r.path leaf ≡ b → is_under r.path leaf ≡ c → Q (if b then record r { item = at r.item } else (if c then record r { item = above r.item } else r))
    by true c d e = f d
    by false true d e = g d e
    by false false d e = h d e

-- it keeps the position and the path
pub changed_position : (above at : Queue → Queue) (leaf : List ℕ) (r : Row) → (changed_at above at leaf r).position ≡ r.position
changed_position above at leaf r = changed_row above at leaf (λ s. s.position ≡ r.position) r (λ e. refl) (λ e u. refl) (λ e u. refl)

pub changed_path : (above at : Queue → Queue) (leaf : List ℕ) (r : Row) → (changed_at above at leaf r).path ≡ r.path
changed_path above at leaf r = changed_row above at leaf (λ s. s.path ≡ r.path) r (λ e. refl) (λ e u. refl) (λ e u. refl)

pub changed_rows : (above at : Queue → Queue) (leaf : List ℕ) (P Q : Row → Type 0) (rows : List Row) → ((r : Row) → P r → Q (changed_at above at leaf r)) → All P rows → All Q (map (changed_at above at leaf) rows)
changed_rows above at leaf P Q rows f a =
    of_each Q (map (changed_at above at leaf) rows) (λ r m. let w = of_map (changed_at above at leaf) rows r m in subst Q (w.2) (f (w.0) (each_of P rows a (w.0) (w.1))))
