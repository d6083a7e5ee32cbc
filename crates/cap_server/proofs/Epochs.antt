-- Epochs one after the other.
use Rattle.std.proofs.Common.{◌≡◌, ℕ, suc, ◌+◌, Option, Some, None, List, [], ◌∷◌, ◌++◌, length, length-append, map, min, ap, refl, sym, ◌∙◌, subst, arith}
use Rattle.std.specs.Prelude.{IfSome}
use Rattle.std.specs.List.{flat_map}
use Rattle.std.proofs.lemmas.List.{flat_map_more}
use Rattle.std.proofs.lemmas.List.{map-append}
use Rattle.std.proofs.lemmas.Simd.{map-map}
use Rattle.cap_base.specs.Limits.{resources}
use Rattle.cap_lanes.specs.Sides.{LanesId}
use Rattle.cap_model.specs.Flat.{Flat}
use Rattle.cap_shared.specs.declared.entry.Entry.{Entry}
use Rattle.cap_shared.specs.Journal.{Replays}
use Rattle.cap_server.specs.declared.serving.Totals.{Totals}
use Rattle.cap_workers.specs.Scheduling.{Work, spell}
use Rattle.cap_workers.specs.declared.idle.IdleWorker.{IdleWorker}
use Rattle.cap_server.specs.Epochs.{LeadsTo, LeadsThrough, Standing, count_max, epochs_more, epochs_none, new_workers, one_more, totals_of}

Replays-append : (es fs : List Entry) (a b c : Flat resources) → Replays a es b → Replays b fs c → Replays a (es ++ fs) c
Replays-append [] fs a b c r s = subst (λ (x : Flat resources). Replays x fs c) (sym r) s
Replays-append (e ∷ es) fs a b c r s = (r.0, r.1, Replays-append es fs r.0 b c r.2 s)

min_more : (a b m : ℕ) → min (min a m + b) m ≡ min (a + b) m
min_more a b m = omega arith

totals_more : (journals : List (List Entry)) (journal : List Entry) (totals : Totals) (n : ℕ) → totals ≡ totals_of journals → length journal ≡ n
    → one_more totals n ≡ totals_of (journals ++ journal ∷ [])
totals_more journals journal totals n is count =
    let events : flat_map (λ it. it) journals ++ journal ≡ flat_map (λ it. it) (journals ++ journal ∷ []) = flat_map_more (λ it. it) [] journals journal in
    let all : length (flat_map (λ it. it) (journals ++ journal ∷ [])) ≡ length (flat_map (λ it. it) journals) + n =
    rw (sym events, length-append (flat_map (λ it. it) journals) journal, count) refl in
    let epochs : length (journals ++ journal ∷ []) ≡ length journals + 1 = length-append journals (journal ∷ []) in
    rw (is, all, epochs, min_more (length journals) 1 count_max, min_more (length (flat_map (λ it. it) journals)) n count_max) refl

-- no epoch yet
pub through_none : (limit : ℕ) (s : Standing) → LeadsThrough limit s (record { epochs = 0; entries = 0 }) s
through_none limit s = record { journals = []; run = refl; counts = refl; epochs = epochs_none }

-- one epoch more
pub through_more : (limit n : ℕ) (s m t : Standing) (totals : Totals) → LeadsThrough limit s totals m → LeadsTo limit m n t → LeadsThrough limit s (one_more totals n) t
through_more limit n s m t totals h k = record {
  journals = h.journals ++ k.journal ∷ [];
  run = subst (λ (es : List Entry). Replays s.cluster es t.cluster) (flat_map_more (λ it. it) [] h.journals k.journal)
      (Replays-append (flat_map (λ it. it) h.journals) k.journal s.cluster m.cluster t.cluster h.run k.epoch.closes.run);
  counts = totals_more h.journals k.journal totals n h.counts k.count;
  epochs = epochs_more h.epochs k.journal k.epoch;
}

-- each spell by what it began with, and by what it left
pub firsts_of : (left : List Work) → map (λ s. s.0) (map spell left) ≡ map (λ w. w.first) left
firsts_of left = map-map (λ s. s.0) spell left

pub lasts_of : (left : List Work) → map (λ s. s.1) (map spell left) ≡ map (λ w. w.worker) left
lasts_of left = map-map (λ s. s.1) spell left

-- one worker more
more_workers : (n m : ℕ) → m ≡ n + 1 → new_workers m ≡ new_workers n ++ record { number = n; start = n } ∷ []
more_workers n m is = let next : m ≡ suc n = omega (arith, is) in rw next refl

pub one_worker_more : (n : ℕ) (workers workers' : List IdleWorker) (w : IdleWorker) → workers' ≡ workers ++ w ∷ [] → map (λ x. x.worker) workers ≡ new_workers n → w.worker ≡ record { number = n; start = n } → map (λ x. x.worker) workers' ≡ new_workers (n + 1)
one_worker_more n workers workers' w is same one =
    ap (map (λ x. x.worker)) is ∙ map-append (λ x. x.worker) workers (w ∷ []) ∙ ap (λ zs. zs ++ w.worker ∷ []) same ∙ ap (λ x. new_workers n ++ x ∷ []) one ∙ sym (more_workers n (n + 1) refl)

-- lanes, if there are any, are of the name that is theirs
pub named : (lanes name : Option LanesId) → lanes ≡ name → IfSome lanes (λ blank. Some blank ≡ name)
named None name is = tt
named (Some z) name is = is
