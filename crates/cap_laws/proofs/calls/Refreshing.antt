-- What a Refresh sets.
use Rattle.cap_laws.proofs.Prelude.{◌≡◌, ℕ, Bool, true, false, List, refl, sym, ◌∙◌, ap, subst, Option, Some, None, IsSome, find, map, option_map, bytes_eq, list_all, option_map_or, and_parts, bytes_eq-Decides, QueueRow, Settings, has_path, has_same_paths, ConfigFault, first_fault, settings_in, found, all_in, find_mapped_at, map_twice, map_same, value_of, not_none, Request, Event, Flat, refreshed_queue, refreshed_settings, first_of_queue, first_of_settings, lines_refusal, has_its_queues, with_settings, after_refresh, Step, IsRefreshed, RefreshSetsAll}
use Rattle.cap_model.specs.declared.reply.ReplyWith.TheVariants as Reply
use Rattle.cap_laws.proofs.calls.Steps.{by_reply}

-- a queue that keeps its path is found as before
pub find_kept : (f : QueueRow → QueueRow) → ((q : QueueRow) → (f q).path ≡ q.path) → (path : List ℕ) (qs : List QueueRow) →
    find (λ r. bytes_eq r.path path) (map f qs) ≡ option_map f (find (λ r. bytes_eq r.path path) qs)
find_kept f e path qs = find_mapped_at f (λ (r : QueueRow). bytes_eq r.path path) qs ∙ (λ i. option_map f (find (λ r. bytes_eq (e r i) path) qs))

-- a Refresh keeps the path of each queue
pub refreshed_path : (rows : List QueueRow) (q : QueueRow) → (refreshed_queue rows q).path ≡ q.path
refreshed_path rows q = by (find (λ (r : QueueRow). bytes_eq r.path q.path) rows)
  where
    by : (o : Option QueueRow) → (option_map_or (λ (row : QueueRow). record row { path = q.path }) o q).path ≡ q.path
    by None = refl
    by (Some row) = refl

-- the row of its path takes its place
row_taken : (rows : List QueueRow) (q row : QueueRow) → find (λ r. bytes_eq r.path q.path) rows ≡ Some row → refreshed_queue rows q ≡ row
row_taken rows q row e =
    let path : row.path ≡ q.path = (bytes_eq-Decides row.path q.path).0 (found (λ (r : QueueRow). bytes_eq r.path q.path) rows row e).1 in
    ap (λ o. option_map_or (λ (x : QueueRow). record x { path = q.path }) o q) e ∙ sym (λ i. record row { path = path i })

module _ (K : ℕ) (rows old : List QueueRow) (same : has_same_paths rows old ≡ true) where
  both : (list_all (λ (q : QueueRow). has_path old q.path) rows ≡ true) × (list_all (λ (q : QueueRow). has_path rows q.path) old ≡ true)
  both = and_parts (list_all (λ (q : QueueRow). has_path old q.path) rows) (list_all (λ (q : QueueRow). has_path rows q.path) old) same

  abbrev firsts : List QueueRow
  firsts = map (first_of_queue K) rows

  abbrev at : List ℕ → List QueueRow → Option QueueRow
  at path qs = find (λ (r : QueueRow). bytes_eq r.path path) qs

  queue_is : (path : List ℕ) → at path (map (refreshed_queue firsts) old) ≡ option_map (first_of_queue K) (at path rows)
  queue_is path = find_kept (refreshed_queue firsts) (refreshed_path firsts) path old ∙ by (at path old) refl
    where
      by : (o : Option QueueRow) → at path old ≡ o → option_map (refreshed_queue firsts) o ≡ option_map (first_of_queue K) (at path rows)
      by (Some q) g =
          let f = found (λ (r : QueueRow). bytes_eq r.path path) old q g in
          let its : q.path ≡ path = (bytes_eq-Decides q.path path).0 f.1 in
          let v = value_of (at q.path rows) (all_in (λ (x : QueueRow). has_path rows x.path) old q both.1 f.0) in
          let first : at q.path firsts ≡ Some (first_of_queue K (v.0)) = find_kept (first_of_queue K) (λ r. refl) q.path rows ∙ ap (option_map (first_of_queue K)) (v.1) in
          subst (λ p. Some (refreshed_queue firsts q) ≡ option_map (first_of_queue K) (at p rows)) its
          (ap (λ x. Some x) (row_taken firsts q (first_of_queue K (v.0)) first) ∙ sym (ap (option_map (first_of_queue K)) (v.1)))
      by None g = none (at path rows) refl
        where
          none : (o : Option QueueRow) → at path rows ≡ o → None ≡ option_map (first_of_queue K) o
          none None h = refl
          none (Some row) h =
              let f = found (λ (r : QueueRow). bytes_eq r.path path) rows row h in
              let its : row.path ≡ path = (bytes_eq-Decides row.path path).0 f.1 in
              absurd (not_none (at path old) g (subst (λ p. IsSome (at p old)) its (all_in (λ (x : QueueRow). has_path old x.path) rows row both.0 f.0)))

-- lines that are not refused have the same paths
unrefused : (fault : Option ConfigFault) (same : Bool) → lines_refusal fault same ≡ None → same ≡ true
unrefused (Some fault) same e = absurd (cc e)
unrefused None true e = refl
unrefused None false e = absurd (cc e)

module _ (K : ℕ) (old : Flat K) (lines : List ℕ) (settings : Settings) (is : settings_in lines ≡ Some settings) where
  refreshed : has_its_queues old settings ≡ true → IsRefreshed settings old (with_settings (first_of_settings K settings) old)
  refreshed same =
      let firsts = map (first_of_queue K) settings.queues in
      record {
        queues = queue_is K settings.queues old.settings.queues same;
        order = map_twice (λ (q : QueueRow). q.path) (refreshed_queue firsts) old.settings.queues
            ∙ map_same (λ (q : QueueRow). (refreshed_queue firsts q).path) (λ q. q.path) old.settings.queues (λ q m. refreshed_path firsts q);
        minimum_allocation = refl;
        maximum_allocation = refl;
        application_limit = refl;
        apps = refl;
        nodes = refl;
      }

  refresh_sets : (new : Flat K) (by : ℕ) → Step old (Event.Call by (Request.Refresh lines) Reply.Refresh) new → IsRefreshed settings old new
  refresh_sets new by step =
      by_reply old (Request.Refresh lines) (λ reply x. reply ≡ Reply.Refresh → IsRefreshed settings old x) (λ refusal e. absurd (cc e))
      (λ passed e.
      let same = unrefused (first_fault lines) (has_its_queues old settings) (sym (λ i. lines_refusal (first_fault lines) (option_map_or (has_its_queues old) (is i) true)) ∙ passed) in
      let after : after_refresh old lines ≡ with_settings (first_of_settings K settings) old =
      λ i. record old { settings = option_map_or (λ x. refreshed_settings (first_of_settings K x) old.settings) (is i) old.settings } in
      subst (IsRefreshed settings old) (sym after) (refreshed same)) Reply.Refresh new step refl

pub refresh_sets_all : RefreshSetsAll
refresh_sets_all K old new by lines settings is step = refresh_sets K old lines settings is new by step
