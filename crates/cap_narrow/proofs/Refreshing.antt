-- A Refresh, without the last resource.
use Rattle.cap_narrow.proofs.Prelude.{◌≡◌, ℕ, suc, true, List, [], ◌∷◌, take, length, refl, sym, ◌∙◌, ap, subst, arith, Option, Some, None, ◌&&◌, map, find, option_map, is_some, bytes_eq, All, list_all, option_map_or, take-take, take_all, QueueRow, Settings, has_path, has_same_paths, first_fault, settings_in, each_of, of_each, of_map, found, find_mapped_at, Flat, first_of_queue, first_of_settings, refreshed_queue, refreshed_settings, lines_refusal, has_its_queues, refresh_refusal, after_refresh, EndsInNone, narrow, SetsNone, HasNone}
use Rattle.cap_narrow.proofs.Lists.{some_mapped, all_same, maps_meet}

-- ---- the queues that stand, whatever their amounts
path_there : (K : ℕ) (path : List ℕ) (qs : List QueueRow) → has_path (map (first_of_queue K) qs) path ≡ has_path qs path
path_there K path qs = ap is_some (find_mapped_at (first_of_queue K) (λ (r : QueueRow). bytes_eq r.path path) qs) ∙ some_mapped (first_of_queue K) (find (λ (r : QueueRow). bytes_eq r.path path) qs)

same_paths : (K : ℕ) (rows qs : List QueueRow) → has_same_paths rows (map (first_of_queue K) qs) ≡ has_same_paths rows qs
same_paths K rows qs =
    (λ i. list_all (λ (q : QueueRow). path_there K q.path qs i) rows
    && all_same (first_of_queue K) (λ (q : QueueRow). has_path rows q.path) (λ (q : QueueRow). has_path rows q.path) qs (λ q m. refl) i)

-- ---- the settings that come
first_of_more : (K : ℕ) (q : QueueRow) → first_of_queue K (first_of_queue (suc K) q) ≡ first_of_queue K q
first_of_more K q = λ i. record q { guaranteed = take-take K (suc K) q.guaranteed (omega arith) i; maximum = by q.maximum i }
  where
    by : (o : Option (List ℕ)) → option_map (take K) (option_map (take (suc K)) o) ≡ option_map (take K) o
    by None = refl
    by (Some v) = ap (λ w. Some w) (take-take K (suc K) v (omega arith))

rows_narrow : (K : ℕ) (rows : List QueueRow) → map (first_of_queue K) (map (first_of_queue (suc K)) rows) ≡ map (first_of_queue K) rows
rows_narrow K [] = refl
rows_narrow K (q ∷ rows) = λ i. first_of_more K q i ∷ rows_narrow K rows i

-- a queue takes the row of its path
queue_narrow : (K : ℕ) (rows : List QueueRow) (q : QueueRow) → refreshed_queue (map (first_of_queue K) rows) (first_of_queue K q) ≡ first_of_queue K (refreshed_queue rows q)
queue_narrow K rows q =
    ap (λ o. option_map_or (λ (row : QueueRow). record row { path = q.path }) o (first_of_queue K q)) (find_mapped_at (first_of_queue K) (λ (r : QueueRow). bytes_eq r.path q.path) rows)
    ∙ by (find (λ (r : QueueRow). bytes_eq r.path q.path) rows)
  where
    by : (o : Option QueueRow) → option_map_or (λ (row : QueueRow). record row { path = q.path }) (option_map (first_of_queue K) o) (first_of_queue K q) ≡ first_of_queue K (option_map_or (λ (row : QueueRow). record row { path = q.path }) o q)
    by None = refl
    by (Some row) = refl

settings_narrow : (K : ℕ) (new old : Settings) → refreshed_settings (first_of_settings K new) (first_of_settings K old) ≡ first_of_settings K (refreshed_settings (first_of_settings (suc K) new) old)
settings_narrow K new old = λ i. record new {
  queues = (ap (λ rows. map (refreshed_queue rows) (map (first_of_queue K) old.queues)) (sym (rows_narrow K new.queues))
      ∙ maps_meet (refreshed_queue (map (first_of_queue K) (map (first_of_queue (suc K)) new.queues))) (first_of_queue K) (first_of_queue K) (refreshed_queue (map (first_of_queue (suc K)) new.queues))
      (queue_narrow K (map (first_of_queue (suc K)) new.queues)) old.queues) i;
  minimum_allocation = sym (take-take K (suc K) new.minimum_allocation (omega arith)) i;
  maximum_allocation = sym (take-take K (suc K) new.maximum_allocation (omega arith)) i;
}

-- settings that set none still set none without resources past the last
pub firsts_set_none : (K : ℕ) (settings : Settings) → SetsNone K settings → SetsNone K (first_of_settings (suc K) settings)
firsts_set_none K settings none = record {
  minimum = subst (EndsInNone K) (sym (whole settings.minimum_allocation none.minimum.count)) none.minimum;
  guarantees = of_each (λ (q : QueueRow). length q.guaranteed ≡ suc K) (map (first_of_queue (suc K)) settings.queues)
      (λ q m.
      let w = of_map (first_of_queue (suc K)) settings.queues q m in
      let its = each_of (λ (r : QueueRow). length r.guaranteed ≡ suc K) settings.queues none.guarantees (w.0) (w.1) in
      subst (λ (r : QueueRow). length r.guaranteed ≡ suc K) (w.2) (ap length (whole (w.0).guaranteed its) ∙ its));
}
  where
    whole : (v : List ℕ) → length v ≡ suc K → take (suc K) v ≡ v
    whole v e = take_all (suc K) v (omega (arith, e))

module _ {K : ℕ} (text : List ℕ) (cluster : Flat (suc K)) where
  pub refresh_refused : refresh_refusal (narrow cluster) text ≡ refresh_refusal cluster text
  refresh_refused = ap (lines_refusal (first_fault text)) (by (settings_in text))
    where
      by : (o : Option Settings) → option_map_or (has_its_queues (narrow cluster)) o true ≡ option_map_or (has_its_queues cluster) o true
      by None = refl
      by (Some settings) = same_paths K settings.queues cluster.settings.queues

  pub refreshed_narrow : after_refresh (narrow cluster) text ≡ narrow (after_refresh cluster text)
  refreshed_narrow = λ i. record (narrow cluster) { settings = by (settings_in text) i }
    where
      by : (o : Option Settings) →
          option_map_or (λ settings. refreshed_settings (first_of_settings K settings) (first_of_settings K cluster.settings)) o (first_of_settings K cluster.settings)
          ≡ first_of_settings K (option_map_or (λ settings. refreshed_settings (first_of_settings (suc K) settings) cluster.settings) o cluster.settings)
      by None = refl
      by (Some settings) = settings_narrow K settings cluster.settings

  -- a queue is guaranteed an amount of each: what the row of its path is, or what it was
  has_amounts : (rows : List QueueRow) (q : QueueRow) → All (λ r. length r.guaranteed ≡ suc K) rows → length q.guaranteed ≡ suc K → length (refreshed_queue rows q).guaranteed ≡ suc K
  has_amounts rows q all its = by (find (λ (r : QueueRow). bytes_eq r.path q.path) rows) refl
    where
      by : (o : Option QueueRow) → find (λ (r : QueueRow). bytes_eq r.path q.path) rows ≡ o → length (option_map_or (λ (row : QueueRow). record row { path = q.path }) o q).guaranteed ≡ suc K
      by None e = its
      by (Some row) e = each_of (λ (r : QueueRow). length r.guaranteed ≡ suc K) rows all row (found (λ (r : QueueRow). bytes_eq r.path q.path) rows row e).0

  sets_none : (new old : Settings) → SetsNone K new → SetsNone K old → SetsNone K (refreshed_settings new old)
  sets_none new old n o = record {
    minimum = n.minimum;
    guarantees = of_each (λ (q : QueueRow). length q.guaranteed ≡ suc K) (map (refreshed_queue new.queues) old.queues)
        (λ q m.
        let w = of_map (refreshed_queue new.queues) old.queues q m in
        subst (λ (x : QueueRow). length x.guaranteed ≡ suc K) (w.2)
        (has_amounts new.queues (w.0) n.guarantees (each_of (λ (x : QueueRow). length x.guaranteed ≡ suc K) old.queues o.guarantees (w.0) (w.1))));
  }

  pub none_refreshed : HasNone cluster → ((settings : Settings) → settings_in text ≡ Some settings → SetsNone K (first_of_settings (suc K) settings)) → HasNone (after_refresh cluster text)
  none_refreshed none read = record {
    settings = by (settings_in text) read;
    asks = none.asks;
    nodes = none.nodes;
    live = none.live;
    reserved = none.reserved;
  }
    where
      by : (o : Option Settings) → ((settings : Settings) → o ≡ Some settings → SetsNone K (first_of_settings (suc K) settings)) →
          SetsNone K (option_map_or (λ settings. refreshed_settings (first_of_settings (suc K) settings) cluster.settings) o cluster.settings)
      by None f = none.settings
      by (Some settings) f = sets_none (first_of_settings (suc K) settings) cluster.settings (f settings refl) none.settings
