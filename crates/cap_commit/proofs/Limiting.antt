-- The limits of queues and users, as the tree tests them and as the sight has them.
use Rattle.cap_commit.proofs.Prelude.{◌≡◌, ℕ, ◌+◌, Bool, true, false, cond, List, [], ◌∷◌, length, map, Some, None, refl, sym, ◌∙◌, ap, subst, inl, inr, arith, Option, is_none, unwrap_or, option_map, not, ◌&&◌, nat_lt, filter, find, position, bytes_eq, option_map_or, option_or, list_all, prefix_len, nat_tests, ext_get_or, amount, amounts_exchanged, less, plus, zeros, amount-exchanged, amount-less, amount-zeros, length-less, earliest, holds_of, fits, times, QueueRow, Flat, App, Reservation, app_at, is_under, queue_use, user_use, Sight, QueueSight, AppSight, sight_of, queue_sight, app_sight, seen_app, seen_queue, queues_to, Reason, OverMaximum, OverUser, NodeProposal, is_grant, is_reserved_for, node_reservation, leaf_path, user_name, use_after, stays_in_maximum, stays_in_maxima, stays_in_user_limit, broken_level, fits_maximum, fits_user_limit, IsIn, each_of, find_mapped_at, map_twice, same_test, amounts_fit, fits_amounts, Measure, use_of, user_row, item_at, path_at, over_limit, Row, AreRows, IsAt, queues_of, rows_to, settings_of_row, OverLimit, Maximum, User, Parts, AreConsistent, IsRowOf, flat_of, limit_tests, size_tests, taken_back, user_counts, HeldApp, account_of}
use Rattle.cap_tree.specs.Queue as tree
use Rattle.cap_tree.specs.Limits as limits
use Rattle.cap_commit.proofs.RowsAt.{IsRowAt, row_at, found_row}
use Rattle.cap_commit.proofs.Holding.{placed_at, position_is}

-- the reason that is a limit
abbrev pub reason_for : Option OverLimit → Option Reason
reason_for None = None
reason_for (Some (Maximum level)) = Some (OverMaximum level)
reason_for (Some User) = Some OverUser

-- to take nothing away
less_nothing : (n : ℕ) (v : List ℕ) → less v (zeros n) ≡ v
less_nothing n v = ext_get_or 0 (less v (zeros n)) v (length-less v (zeros n)) (λ k b. let l = amount-less v (zeros n) k in let z = amount-zeros n k in omega (arith, l, z))

less_none : (v : List ℕ) → less v [] ≡ v
less_none v = ext_get_or 0 (less v []) v (length-less v []) (λ k b. let l = amount-less v [] k in omega (arith, l))

pub same_exchange : (n : ℕ) (r used : List ℕ) → amounts_exchanged (zeros n) r used ≡ amounts_exchanged [] r used
same_exchange n r used = ap (λ v. plus v r) (less_nothing n used ∙ sym (less_none used))

taken_or_none : (n : ℕ) (b : Bool) (o : Option Reservation) (r used : List ℕ) → amounts_exchanged (option_map_or (λ x. x.resource) (cond b o None) (zeros n)) r used ≡ amounts_exchanged (cond b (unwrap_or (option_map (λ (x : Reservation). x.resource) o) []) []) r used
taken_or_none n true None r used = same_exchange n r used
taken_or_none n true (Some x) r used = refl
taken_or_none n false o r used = same_exchange n r used

-- tests that agree on all members give the same of both lists
module _ {A B : Type 0} (g : A → B) (f t : A → Bool) (f' t' : B → Bool) where
  same_prefix : (xs : List A) → ((x : A) → f' (g x) ≡ f x) → ((x : A) → IsIn x xs → t' (g x) ≡ t x) → prefix_len t' (filter f' (map g xs)) ≡ prefix_len t (filter f xs)
  same_prefix [] e d = refl
  same_prefix (x ∷ xs) e d =
      ap (λ b. prefix_len t' (cond b (g x ∷ filter f' (map g xs)) (filter f' (map g xs)))) (e x) ∙ by (f x) (same_prefix xs e (λ y m. d y (inr m)))
    where
      by : (b : Bool) → prefix_len t' (filter f' (map g xs)) ≡ prefix_len t (filter f xs) → prefix_len t' (cond b (g x ∷ filter f' (map g xs)) (filter f' (map g xs))) ≡ prefix_len t (cond b (x ∷ filter f xs) (filter f xs))
      by true rest = λ i. cond (d x (inl refl) i) (1 + rest i) 0
      by false rest = rest

  same_count : (xs : List A) → ((x : A) → f' (g x) ≡ f x) → length (filter f' (map g xs)) ≡ length (filter f xs)
  same_count [] e = refl
  same_count (x ∷ xs) e = ap (λ b. length (cond b (g x ∷ filter f' (map g xs)) (filter f' (map g xs)))) (e x) ∙ by (f x) (same_count xs e)
    where
      by : (b : Bool) → length (filter f' (map g xs)) ≡ length (filter f xs) → length (cond b (g x ∷ filter f' (map g xs)) (filter f' (map g xs))) ≡ length (cond b (x ∷ filter f xs) (filter f xs))
      by true r = omega (arith, r)
      by false r = r

-- all pass where no first fails
all_pass : {A : Type 0} (t : A → Bool) (xs : List A) → list_all t xs ≡ is_none (position (λ x. not (t x)) xs)
all_pass {A} t xs = whole xs ∙ sym (by (nat_lt (prefix_len (λ x. not (not (t x))) xs) (length xs)) (prefix_len (λ x. not (not (t x))) xs))
  where
    by : (b : Bool) (n : ℕ) → is_none (cond b (Some n) None) ≡ not b
    by true n = refl
    by false n = refl

    whole : (ys : List A) → list_all t ys ≡ not (nat_lt (prefix_len (λ x. not (not (t x))) ys) (length ys))
    whole [] = refl
    whole (y ∷ ys) = here (t y) (whole ys)
      where
        here : (b : Bool) → list_all t ys ≡ not (nat_lt (prefix_len (λ x. not (not (t x))) ys) (length ys)) →
            (b && list_all t ys) ≡ not (nat_lt (cond (not (not b)) (1 + prefix_len (λ x. not (not (t x))) ys) 0) (length (y ∷ ys)))
        here true r = r ∙ ap not (one_more (prefix_len (λ x. not (not (t x))) ys) (length ys))
          where
            one_more : (m n : ℕ) → nat_lt m n ≡ nat_lt (1 + m) (Rattle.std.proofs.Common.suc n)
            one_more m n = grind (arith, nat_tests)
        here false r = sym (ap not (some_more (length ys)))
          where
            some_more : (n : ℕ) → nat_lt 0 (Rattle.std.proofs.Common.suc n) ≡ true
            some_more n = grind (arith, nat_tests)

-- which of the two limits is passed, or what comes after them
which : (level : Option ℕ) (maxima user : Bool) (rest : Option Reason) → maxima ≡ is_none level →
    cond (not maxima) (Some (OverMaximum (unwrap_or level 0))) (cond (not user) (Some OverUser) rest) ≡ option_or (reason_for (option_map_or (λ n. Some (Maximum n)) level (cond user None (Some User)))) rest
which None maxima true rest e = ap (λ b. cond (not b) (Some (OverMaximum 0)) rest) e
which None maxima false rest e = ap (λ b. cond (not b) (Some (OverMaximum 0)) (Some OverUser)) e
which (Some n) maxima user rest e = ap (λ b. cond (not b) (Some (OverMaximum n)) (cond (not user) (Some OverUser) rest)) e

module _ {K : ℕ} (p : Parts K) (h : AreConsistent p) (q : NodeProposal) where
  abbrev cluster : Flat K
  cluster = flat_of p

  abbrev sight : Sight K
  sight = sight_of cluster

  -- a use as the proposal would leave it
  pub after_is : (used : List ℕ) → amounts_exchanged (taken_back sight q) q.resource used ≡ use_after sight q used
  after_is used = taken_or_none K (is_grant q.kind && is_reserved_for sight q) (node_reservation sight q) q.resource used

  row_stays : (r : Row) → IsIn r p.rows → stays_in_maximum sight q (queue_sight cluster (settings_of_row r)) ≡ tree.stays_in_maximum (taken_back sight q) q.resource r.item
  row_stays r m =
      ap (fits_maximum r.item.maximum)
      (sym (after_is (queue_use cluster r.path)) ∙ ap (amounts_exchanged (taken_back sight q) q.resource) (sym (each_of (IsRowOf cluster) p.rows h.tied r m).used))

  module _ (rows : AreRows p.rows) (app : App) (place : List ℕ) (at : IsAt p.rows app.leaf place) (seen : seen_app sight q.app ≡ Some (app_sight app)) where
    leaf_is : leaf_path sight q ≡ app.leaf
    leaf_is = ap (λ o. unwrap_or (option_map (λ (a : AppSight). a.leaf) o) []) seen

    user_is : user_name sight q ≡ app.user
    user_is = ap (λ o. unwrap_or (option_map (λ (a : AppSight). a.user) o) []) seen

    path_is : path_at place p.rows ≡ leaf_path sight q
    path_is = at.path_is ∙ sym leaf_is

    level_is : broken_level sight q ≡ limits.broken_level (path_at place p.rows) (taken_back sight q) q.resource p.rows
    level_is =
        ap (λ qs. position (λ x. not (stays_in_maximum sight q x)) (filter (λ (x : QueueSight). is_under x.row.path (leaf_path sight q)) qs)) (map_twice (queue_sight cluster) settings_of_row p.rows)
        ∙ (λ i. cond (nat_lt (prefixes i) (counts i)) (Some (prefixes i)) None)
        ∙ ap (λ l. limits.broken_level l (taken_back sight q) q.resource p.rows) (sym path_is)
      where
        prefixes : prefix_len (λ x. not (not (stays_in_maximum sight q x))) (filter (λ (x : QueueSight). is_under x.row.path (leaf_path sight q)) (map (λ r. queue_sight cluster (settings_of_row r)) p.rows))
            ≡ prefix_len (λ (r : Row). not (not (tree.stays_in_maximum (taken_back sight q) q.resource r.item))) (rows_to (leaf_path sight q) p.rows)
        prefixes =
            same_prefix (λ r. queue_sight cluster (settings_of_row r)) (λ (r : Row). is_under r.path (leaf_path sight q)) (λ (r : Row). not (not (tree.stays_in_maximum (taken_back sight q) q.resource r.item)))
            (λ (x : QueueSight). is_under x.row.path (leaf_path sight q)) (λ x. not (not (stays_in_maximum sight q x))) p.rows (λ r. refl) (λ r m. ap (λ b. not (not b)) (row_stays r m))

        counts : length (filter (λ (x : QueueSight). is_under x.row.path (leaf_path sight q)) (map (λ r. queue_sight cluster (settings_of_row r)) p.rows)) ≡ length (rows_to (leaf_path sight q) p.rows)
        counts =
            same_count (λ r. queue_sight cluster (settings_of_row r)) (λ (r : Row). is_under r.path (leaf_path sight q)) (λ (r : Row). true)
            (λ (x : QueueSight). is_under x.row.path (leaf_path sight q)) (λ x. true) p.rows (λ r. refl)

    it : IsRowAt p.rows app.leaf place
    it = row_at p.rows app.leaf place at

    tied : IsRowOf cluster (it.row)
    tied = each_of (IsRowOf cluster) p.rows h.tied it.row it.member

    leaf_seen : seen_queue sight (leaf_path sight q) ≡ Some (queue_sight cluster (settings_of_row it.row))
    leaf_seen =
        find_mapped_at (queue_sight cluster) (λ (x : QueueSight). bytes_eq x.row.path (leaf_path sight q)) (queues_of p.rows)
        ∙ ap (λ l. option_map (queue_sight cluster) (find (λ (x : QueueRow). bytes_eq x.path l) (queues_of p.rows))) leaf_is
        ∙ ap (option_map (queue_sight cluster)) (found_row p.rows app.leaf place rows it)

    -- what the user uses there
    uses_same : (k : ℕ) → amount (use_of K (user_row app.user it.row.item.users)) k ≡ amount (user_use cluster it.row.path app.user) k
    uses_same k = sym (user_counts K app.user it.row.item.users (Measure.uses k)) ∙ tied.users app.user (Measure.uses k)

    same_fit : (most : List ℕ) → fits (amounts_exchanged (taken_back sight q) q.resource (user_use cluster it.row.path app.user)) most ≡ fits (amounts_exchanged (taken_back sight q) q.resource (use_of K (user_row app.user it.row.item.users))) most
    same_fit most =
        same_test _ _
        (λ t. amounts_fit _ most (λ k. let a = fits_amounts _ most t k in let u = uses_same k in let b = amount-exchanged (taken_back sight q) q.resource (user_use cluster it.row.path app.user) k in let c = amount-exchanged (taken_back sight q) q.resource (use_of K (user_row app.user it.row.item.users)) k in omega (arith, a, u, b, c)))
        (λ t. amounts_fit _ most (λ k. let a = fits_amounts _ most t k in let u = uses_same k in let b = amount-exchanged (taken_back sight q) q.resource (user_use cluster it.row.path app.user) k in let c = amount-exchanged (taken_back sight q) q.resource (use_of K (user_row app.user it.row.item.users)) k in omega (arith, a, u, b, c)))

    user_stays : stays_in_user_limit sight q ≡ holds_of (tree.stays_in_user_limit K app.user (taken_back sight q) q.resource) (item_at place p.rows)
    user_stays =
        ap (holds_of (λ (x : QueueSight). fits_user_limit x.row.factor x.row.guaranteed (use_after sight q (x.used_by (user_name sight q))))) leaf_seen
        ∙ ap (λ u. fits_user_limit it.row.item.factor it.row.item.guaranteed (use_after sight q (user_use cluster it.row.path u))) user_is
        ∙ ap (fits_user_limit it.row.item.factor it.row.item.guaranteed) (sym (after_is (user_use cluster it.row.path app.user)))
        ∙ same_fit (times it.row.item.factor it.row.item.guaranteed)
        ∙ ap (holds_of (tree.stays_in_user_limit K app.user (taken_back sight q) q.resource)) (sym it.item_is)

    -- the first of the limits that would be passed, or of what is tested after them
    pub limits_are : earliest (limit_tests sight q) ≡ option_or (reason_for (over_limit K place app.user (taken_back sight q) q.resource p.rows)) (earliest (size_tests sight q))
    limits_are =
        which (broken_level sight q) (stays_in_maxima sight q) (stays_in_user_limit sight q) (earliest (size_tests sight q)) (all_pass (stays_in_maximum sight q) (queues_to sight (leaf_path sight q)))
        ∙ (λ i. option_or (reason_for (option_map_or (λ n. Some (Maximum n)) (level_is i) (cond (user_stays i) None (Some User)))) (earliest (size_tests sight q)))

  -- the same, of what the tree is asked
  module _ (x : HeldApp) (found : app_at cluster q.app ≡ Some x.app) (account : account_of q.app p.apps.accounts ≡ Some x.account) where
    pub at_leaf : IsAt p.rows x.app.leaf x.account.position
    at_leaf = subst (IsAt p.rows x.app.leaf) (sym (position_is p h q.app x (sym found) (sym account))) (placed_at p h q.app x.app found).position

    pub limit_is : {place user old resource : List ℕ} {rows : List Row} (o : Option OverLimit) → seen_app sight q.app ≡ Some (app_sight x.app) →
        place ≡ x.account.position → user ≡ x.app.user → old ≡ taken_back sight q → resource ≡ q.resource → rows ≡ p.rows → AreRows rows → over_limit K place user old resource rows ≡ o →
        earliest (limit_tests sight q) ≡ option_or (reason_for o) (earliest (size_tests sight q))
    limit_is o seen same_place same_user same_old same_resource same_rows are is =
        limits_are (subst AreRows same_rows are) x.app x.account.position at_leaf seen
        ∙ ap (λ y. option_or (reason_for y) (earliest (size_tests sight q))) ((λ i. over_limit K (sym same_place i) (sym same_user i) (sym same_old i) (sym same_resource i) (sym same_rows i)) ∙ is)
