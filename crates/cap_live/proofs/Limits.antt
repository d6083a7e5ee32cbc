-- The limits of an application's queues and user, as the tree tests them and as the sight has them.
use Rattle.cap_live.proofs.Prelude.{◌≡◌, ℕ, Bool, true, false, cond, ◌&&◌, List, map, Option, Some, None, refl, sym, ◌∙◌, ap, arith, All, filter, find, option_map, option_map_or, is_none, is_some, not, list_all, list_all-map, bytes_eq, each_of, filter_mapped, find_mapped_at, same_test, amounts_fit, fits_amounts, holds_of, fits, times, fits_maximum, fits_user_limit, amount, amounts_exchanged, amount-exchanged, is_under, QueueRow, App, Flat, QueueSight, app_sight, queue_sight, queues_to, seen_queue, sight_of, user_use, IsRowOf, Measure, stays_in_maximum, stays_in_user_limit, use_of, user_row, user_counts, AreRows, IsAt, Row, queues_of, rows_to, first_failing, item_at, path_at, along_rows, none_fails, found_row, row_at, over_limit, in_limits}
use Rattle.cap_tree.specs.declared.over_limit.OverLimit.TheVariants.{Maximum, User}
use Rattle.cap_live.proofs.Tied.{queues_are, seen_row}

-- vectors of the same amounts fit alike
fit_alike : (a b most : List ℕ) → ((k : ℕ) → amount a k ≡ amount b k) → fits a most ≡ fits b most
fit_alike a b most same =
    same_test (fits a most) (fits b most)
    (λ t. amounts_fit b most (λ k. let f = fits_amounts a most t k in let s = same k in omega (arith, f, s)))
    (λ t. amounts_fit a most (λ k. let f = fits_amounts b most t k in let s = same k in omega (arith, f, s)))

module _ {K : ℕ} (flat : Flat K) (rows : List Row) (queues : queues_of rows ≡ flat.settings.queues) (tied : All (IsRowOf flat) rows) (are : AreRows rows) (app : App) (place : List ℕ) (at : IsAt rows app.leaf place) (old new : List ℕ) where
  way : list_all (λ (q : QueueSight). fits_maximum q.row.maximum (amounts_exchanged old new q.used)) (queues_to (sight_of flat) app.leaf) ≡ not (is_some (first_failing (stays_in_maximum old new) (rows_to (path_at place rows) rows)))
  way =
      let seen = seen_row flat in
      let stays : QueueSight → Bool = λ q. fits_maximum q.row.maximum (amounts_exchanged old new q.used) in
      ap (λ qs. list_all stays (filter (λ (q : QueueSight). is_under q.row.path app.leaf) qs)) (queues_are flat rows queues tied)
      ∙ ap (list_all stays) (filter_mapped (λ (q : QueueSight). is_under q.row.path app.leaf) seen rows)
      ∙ list_all-map stays seen (rows_to app.leaf rows)
      ∙ sym (ap (λ ss. not (is_some (first_failing (stays_in_maximum old new) ss))) (sym (along_rows place rows are.paths at.present))
      ∙ none_fails (stays_in_maximum old new) place rows are.paths at.present ∙ ap (λ l. list_all (stays_in_maximum old new) (map (λ (r : Row). r.item) (rows_to l rows))) at.path_is
      ∙ list_all-map (stays_in_maximum old new) (λ (r : Row). r.item) (rows_to app.leaf rows))

  user : holds_of (λ (q : QueueSight). fits_user_limit q.row.factor q.row.guaranteed (amounts_exchanged old new (q.used_by app.user))) (seen_queue (sight_of flat) app.leaf) ≡ holds_of (stays_in_user_limit K app.user old new) (item_at place rows)
  user =
      let r = row_at rows app.leaf place at in
      let limit : QueueSight → Bool = λ q. fits_user_limit q.row.factor q.row.guaranteed (amounts_exchanged old new (q.used_by app.user)) in
      let row = each_of (IsRowOf flat) rows tied r.row r.member in
      let used = user_use flat r.row.path app.user in
      let counted = use_of K (user_row app.user r.row.item.users) in
      let same : (k : ℕ) → amount used k ≡ amount counted k = λ k. sym (row.users app.user (Measure.uses k)) ∙ user_counts K app.user r.row.item.users (Measure.uses k) in
      ap (holds_of limit)
      (find_mapped_at (queue_sight flat) (λ (q : QueueSight). bytes_eq q.row.path app.leaf) flat.settings.queues
      ∙ ap (λ qs. option_map (queue_sight flat) (find (λ (q : QueueRow). bytes_eq q.path app.leaf) qs)) (sym queues)
      ∙ ap (option_map (queue_sight flat)) (found_row rows app.leaf place are r))
      ∙ fit_alike (amounts_exchanged old new used) (amounts_exchanged old new counted) (times r.row.item.factor r.row.item.guaranteed)
      (λ k. let s = same k in let b = amount-exchanged old new used k in let c = amount-exchanged old new counted k in omega (arith, s, b, c))
      ∙ ap (holds_of (stays_in_user_limit K app.user old new)) (sym r.item_is)

  pub limits_are : in_limits (sight_of flat) (app_sight app) old new ≡ is_none (over_limit K place app.user old new rows)
  limits_are = (λ i. way i && user i) ∙ by (first_failing (stays_in_maximum old new) (rows_to (path_at place rows) rows)) (holds_of (stays_in_user_limit K app.user old new) (item_at place rows))
    where
      by : (level : Option ℕ) (b : Bool) → not (is_some level) && b ≡ is_none (option_map_or (λ n. Some (Maximum n)) level (cond b None (Some User)))
      by None true = refl
      by None false = refl
      by (Some n) b = refl
