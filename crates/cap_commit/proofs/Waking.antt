-- All applications that wait are followed anew, one after the other.
use Rattle.cap_commit.proofs.Prelude.{◌≡◌, ℕ, zero, suc, ◌+◌, ◌<◌, ◌≤◌, Bool, true, false, List, [], ◌∷◌, length, map, Option, Some, None, refl, sym, ◌∙◌, ap, subst, inl, inr, arith, ◌||◌, ◌==◌, nat_tests, filter, find, All, slice_get, App, AppTable, ClusterNode, NodeTable, IsIn, IsRising, each_of, of_each, of_filter, of_map, in_filter, found, found_by_number, Row, IsAt, path_at, queues_of, HeldApps, Limits, AreAmong, Want, AreConsistent, AreOutOfReach, FollowsWaiting, IsWaitedAt, Parts, position_of}
use Rattle.std.proofs.lemmas.Bool.{cases_lt}
use Rattle.std.specs.Prelude.{if◌then◌else◌}
use Rattle.cap_model.specs.Asks.{Ask}
use Rattle.cap_asks.specs.Apps.{is_waiting, waiting_of}
use Rattle.cap_asks.specs.Impossible.{want_of}
use Rattle.cap_commit.specs.ClusterState.{IsKnown, wants_of}
use Rattle.cap_commit.specs.Waiting.{IsFollowedAs, IsSettled, IsWoken, followed_row}
use Rattle.cap_commit.proofs.Dropping.{read_in}
use Rattle.cap_commit.proofs.Followed.{followed_settings, held_followed}
use Rattle.cap_commit.proofs.RowsAt.{or_no}
use Rattle.cap_commit.proofs.Waiting.{is_it, set_at, set_other, set_there, waited_is, waited_followed}

-- what an application wants that waits and is not followed is known to be impossible
abbrev pub IsLeftOut : Bool → (ℕ → Bool) → List Want → App → Type 0
IsLeftOut asleep followed wants app = followed app.number ≡ false → (asleep ≡ true) × ((ask : Ask) → IsIn ask app.asks → IsIn (want_of ask) wants)

-- the first so many of those that wait have been followed
pub record AreWokenTo (K : ℕ) (apps : HeldApps) (asleep : Bool) (old : List Row) (index : ℕ) (rows : List Row) : Type 0 where
  pub consistent : (limits : Limits K) (nodes : NodeTable) → AreConsistent (record { rows = old; limits = limits; apps = apps; nodes = nodes }) → AreConsistent (record { rows = rows; limits = limits; apps = apps; nodes = nodes })
  pub queues : queues_of rows ≡ queues_of old
  pub followed : ℕ → Bool
  pub waiting : All (IsWaitedAt followed apps.table.active) rows
  pub waits : (app : App) → IsIn app apps.table.active → followed app.number ≡ true → is_waiting app ≡ true
  pub seen : (i : ℕ) (app : App) → i < index → slice_get (waiting_of apps.table.active) i ≡ Some app → IsLeftOut asleep followed apps.impossible app

pub none_woken : (K : ℕ) (apps : HeldApps) (old : List Row) → FollowsWaiting true [] apps.table.active old → AreWokenTo K apps false old 0 old
none_woken K apps old w = record {
  consistent = λ limits nodes h. h;
  queues = refl;
  followed = w.followed;
  waiting = w.waiting;
  waits = λ app m. (each_of (IsKnown [] w.followed) apps.table.active w.known app m).waits;
  seen = λ i app l. absurd (omega (arith, l));
}

both_off : (b : Bool) → b ≡ true → b ≡ false → ⊥
both_off b on off = cc (on, off)

or_first : (a b : Bool) → a ≡ true → a || b ≡ true
or_first true b e = refl
or_first false b e = absurd (cc e)

or_last : (a b : Bool) → b ≡ true → a || b ≡ true
or_last true b e = refl
or_last false b e = e

is_on : (b : Bool) → (b ≡ false → ⊥) → b ≡ true
is_on true h = refl
is_on false h = absurd (h refl)

module _ (K : ℕ) (apps : HeldApps) (rising : IsRising 1 (map (λ (x : App). x.number) apps.table.active) apps.table.next) where
  -- one that waits is found by its number
  pub waiter_in : (i : ℕ) (a : App) → slice_get (waiting_of apps.table.active) i ≡ Some a → (is_waiting a ≡ true) × IsIn a apps.table.active
  waiter_in i a at = of_filter is_waiting apps.table.active a (read_in (waiting_of apps.table.active) i a at)

  pub waiter_found : (i : ℕ) (a : App) → slice_get (waiting_of apps.table.active) i ≡ Some a → find (λ (x : App). x.number == a.number) apps.table.active ≡ Some a
  waiter_found i a at = found_by_number (λ (x : App). x.number) 1 apps.table.active apps.table.next a rising (waiter_in i a at).1

  -- one more is followed
  module _ (old rows : List Row) (index : ℕ) (asleep : Bool) (w : AreWokenTo K apps asleep old index rows) (a : App) (at : slice_get (waiting_of apps.table.active) index ≡ Some a) (position : List ℕ) (there : IsAt rows a.leaf position)
      (wants : List Want) (among : AreAmong wants apps.impossible) (left : Bool) (new : List Row) (s : IsFollowedAs a position wants left rows new) where
    abbrev F : ℕ → Bool
    F = w.followed

    abbrev G : ℕ → Bool
    G = set_at a.number s.waits F

    is_here : find (λ (x : App). x.number == a.number) apps.table.active ≡ Some a
    is_here = waiter_found index a at

    same_of : (x : App) → IsIn x apps.table.active → x.number == a.number ≡ true → x ≡ a
    same_of = is_it F apps.table.active apps.table.next a.number a rising is_here

    rows_are : new ≡ map (followed_row a.number a.leaf s.settled.waited s.waits) rows
    rows_are = s.settled.rows ∙ ap (λ q. map (followed_row a.number q s.settled.waited s.waits) rows) there.path_is

    was : F a.number ≡ s.settled.waited
    was = waited_is F apps.table.active apps.table.next a.number a rising is_here rows w.waiting position there position s.waits new refl s.settled

    itself : (xs : List App) → map (λ (x : App). if x.number == a.number then x else x) xs ≡ xs
    itself [] = refl
    itself (x ∷ xs) = λ i. same (x.number == a.number) i ∷ itself xs i
      where
        same : (b : Bool) → (if b then x else x) ≡ x
        same true = refl
        same false = refl

    own_seen : IsLeftOut (asleep || left) G apps.impossible a
    own_seen off =
        let out : s.waits ≡ false = sym (set_there a.number a.number s.waits F refl) ∙ off in
        let on = (waiter_in index a at).0 in (
          or_last asleep left (is_on left (λ none. both_off s.waits (s.all none on) out)),
          λ ask m. among (want_of ask) (s.none out on ask m),
        )

    seen_then : (i : ℕ) (app : App) → slice_get (waiting_of apps.table.active) i ≡ Some app → IsLeftOut asleep F apps.impossible app → (b : Bool) → app.number == a.number ≡ b → IsLeftOut (asleep || left) G apps.impossible app
    seen_then i app here h true e = subst (IsLeftOut (asleep || left) G apps.impossible) (sym (same_of app (waiter_in i app here).1 e)) own_seen
    seen_then i app here h false e = λ off. let before = h (sym (set_other a.number app.number s.waits F e) ∙ off) in (or_first asleep left before.0, before.1)

    waits_then : (app : App) → IsIn app apps.table.active → (b : Bool) → app.number == a.number ≡ b → G app.number ≡ true → is_waiting app ≡ true
    waits_then app m true e on = subst (λ (x : App). is_waiting x ≡ true) (sym (same_of app m e)) (waiter_in index a at).0
    waits_then app m false e on = w.waits app m (sym (set_other a.number app.number s.waits F e) ∙ on)

    pub one_woken : AreWokenTo K apps (asleep || left) old (index + 1) new
    one_woken = record {
      consistent = λ limits nodes h.
          subst (λ rs. AreConsistent (record { rows = rs; limits = limits; apps = apps; nodes = nodes })) (sym rows_are)
          (held_followed (record { rows = rows; limits = limits; apps = apps; nodes = nodes }) (w.consistent limits nodes h) a.number a.leaf s.settled.waited s.waits);
      queues = ap queues_of rows_are ∙ followed_settings a.number a.leaf s.settled.waited s.waits rows ∙ w.queues;
      followed = G;
      waiting =
          subst (All (IsWaitedAt G apps.table.active)) (sym rows_are)
          (subst (λ xs. All (IsWaitedAt G xs) (map (followed_row a.number a.leaf s.settled.waited s.waits) rows)) (itself apps.table.active)
          (waited_followed F apps.table.active apps.table.next a.number a rising is_here (λ x. x) (record { number = λ x. refl; leaf = λ x. refl; user = λ x. refl }) s.waits s.settled.waited was rows w.waiting));
      waits = λ app m. waits_then app m (app.number == a.number) refl;
      seen = λ i app l here. elim (cases_lt i index) [
        | inl early ↦ seen_then i app here (w.seen i app early here) (app.number == a.number) refl
        | inr late ↦
            let same : i ≡ index = omega (arith, l, late) in
            let it : Some app ≡ Some a = sym here ∙ ap (slice_get (waiting_of apps.table.active)) same ∙ at in
            subst (IsLeftOut (asleep || left) G apps.impossible) (let e : a ≡ app = cc it in e) own_seen
      ];
    }

index_in : {A : Type 0} (xs : List A) (x : A) → IsIn x xs → (i : ℕ) × (i < length xs) × (slice_get xs i ≡ Some x)
index_in [] x m = absurd m
index_in (y ∷ xs) x (inl e) = (zero, omega arith, ap (λ z. Some z) e)
index_in (y ∷ xs) x (inr m) = let r = index_in xs x m in let l = r.1 in (suc (r.0), omega (arith, l), r.2)

-- once all have been
pub all_woken : (K : ℕ) (apps : HeldApps) (asleep : Bool) (old rows : List Row) (index : ℕ) → length (waiting_of apps.table.active) ≤ index → AreWokenTo K apps asleep old index rows → IsWoken K apps asleep old rows
all_woken K apps asleep old rows index end w = record {
  consistent = w.consistent;
  queues = w.queues;
  waiting = λ nodes reach. record {
    followed = w.followed;
    waiting = w.waiting;
    known = of_each (IsKnown nodes w.followed) apps.table.active (λ app m. record {
      waits = w.waits app m;
      reach = λ off on want there.
          let ask = of_map want_of app.asks want there in
          reach want (subst (λ v. IsIn v apps.impossible) (ask.2) ((out app m on off).1 (ask.0) (ask.1)));
    });
    all = λ awake. of_each (λ (app : App). is_waiting app ≡ true → w.followed app.number ≡ true) apps.table.active (λ app m on. is_on (w.followed app.number) (λ off. both_off asleep (out app m on off).0 awake));
  };
}
  where
    out : (app : App) → IsIn app apps.table.active → is_waiting app ≡ true → IsLeftOut asleep w.followed apps.impossible app
    out app m on =
        let i = index_in (waiting_of apps.table.active) app (in_filter is_waiting apps.table.active app m on) in
        let l = i.1 in
        w.seen (i.0) app (omega (arith, l, end)) (i.2)
