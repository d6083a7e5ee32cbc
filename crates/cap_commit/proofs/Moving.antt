-- The rows of a tree keep what the flat cluster counts where a part of what a user counts in a leaf moves.
use Rattle.cap_commit.proofs.Prelude.{◌≡◌, ℕ, ◌+◌, ◌-◌, ◌<◌, ◌≤◌, Bool, true, false, List, length, map, Some, None, refl, sym, ◌∙◌, ap, subst, inl, inr, arith, bytes_eq, ◌&&◌, All, option_map_or, cases_lt, ext_get_or, get_or_past, length-replicate, bytes_eq-Decides, amount, amounts_exchanged, zeros, is_exchanged, Flat, is_under, IsIn, each_of, one_where, Test, count_of, used_by, length_used, bytes_turned, Measure, item_at, Count, IsPart, of_count, zero_count, one_app, use_alone, Queue, MayGive, MayLeave, count_in, moved_above, moved_at, user_row, zero_counts, user_counts, Row, IsAt, moved_row, queues_of, user_row_at, settings_stay, under_itself, count_where, moved_own, some_row, IsRowOf, of_cluster}
use Rattle.cap_commit.proofs.RowsAt.{still_at}
use Rattle.cap_commit.proofs.Ties.{changed_path, changed_position, changed_row, changed_rows, in_queue, of_user_in}

-- what is counted of all applications that pass a test: what they use, or how many are active
abbrev pub of_test : {K : ℕ} → Flat K → Test → Measure → ℕ
of_test cluster test (Measure.uses k) = amount (used_by cluster test) k
of_test cluster test Measure.active = count_of test cluster.apps.active
of_test cluster test Measure.waiting = 0

-- of what a user counts in a leaf, an old part goes and a new one comes, and nothing else is counted in another way
pub record HasMoved {K : ℕ} (before after : Flat K) (leaf user : List ℕ) (old new : Count) : Type 0 where
  pub counts : (test : Test) (m : Measure) → of_test after test m + count_where (test leaf user) old m ≡ of_test before test m + count_where (test leaf user) new m
  pub fits : (test : Test) (m : Measure) → count_where (test leaf user) old m ≤ of_test before test m
  pub short : length new.used ≡ K

-- a move keeps the settings
pub moved_settings : (K : ℕ) (leaf user : List ℕ) (old new : Count) (rows : List Row) → queues_of (map (moved_row K leaf user old new) rows) ≡ queues_of rows
moved_settings K leaf user old new rows = settings_stay (moved_above old new) (moved_at K user old new) (λ r. refl) (λ r. refl) leaf rows

-- a leaf is under itself
pub under_it : (leaf path : List ℕ) → bytes_eq path leaf ≡ true → is_under path leaf ≡ true
under_it leaf path e = subst (λ p. is_under path p ≡ true) ((bytes_eq-Decides path leaf).0 e) (under_itself path)

module _ {K : ℕ} (before after : Flat K) (leaf user : List ℕ) (old new : Count) (h : HasMoved before after leaf user old new) where
  -- where the move counts, what is counted moves, and elsewhere it stays
  count_there : (test : Test) (m : Measure) → test leaf user ≡ true → of_test after test m ≡ (of_test before test m - of_count old m) + of_count new m
  count_there test m e =
      let c = h.counts test m in
      let f = h.fits test m in
      let o : count_where (test leaf user) old m ≡ of_count old m = ap (λ b. count_where b old m) e in
      let n : count_where (test leaf user) new m ≡ of_count new m = ap (λ b. count_where b new m) e in
      omega (arith, c, f, o, n)

  count_elsewhere : (test : Test) (m : Measure) → test leaf user ≡ false → of_test after test m ≡ of_test before test m
  count_elsewhere test m e =
      let c = h.counts test m in
      let o : count_where (test leaf user) old m ≡ 0 = ap (λ b. count_where b old m) e in
      let n : count_where (test leaf user) new m ≡ 0 = ap (λ b. count_where b new m) e in
      omega (arith, c, o, n)

  used_there : (path : List ℕ) → is_under path leaf ≡ true → used_by after (in_queue path) ≡ amounts_exchanged old.used new.used (used_by before (in_queue path))
  used_there path e =
      is_exchanged old.used new.used (used_by before (in_queue path)) (used_by after (in_queue path)) K (length_used before (in_queue path)) h.short (length_used after (in_queue path)) (λ k b. count_there (in_queue path) (Measure.uses k) e)

  used_elsewhere : (path : List ℕ) → is_under path leaf ≡ false → used_by after (in_queue path) ≡ used_by before (in_queue path)
  used_elsewhere path e =
      ext_get_or 0 (used_by after (in_queue path)) (used_by before (in_queue path)) (length_used after (in_queue path) ∙ sym (length_used before (in_queue path)))
      (λ k b. count_elsewhere (in_queue path) (Measure.uses k) e)

  -- for a user of a queue
  is_of_user : (path owner : List ℕ) (m : Measure) (cluster : Flat K) → of_test cluster (of_user_in path owner) m ≡ of_cluster cluster path owner m
  is_of_user path owner (Measure.uses k) cluster = refl
  is_of_user path owner Measure.active cluster = refl
  is_of_user path owner Measure.waiting cluster = refl

  user_elsewhere : (path owner : List ℕ) (m : Measure) → bytes_eq path leaf ≡ false → of_cluster after path owner m ≡ of_cluster before path owner m
  user_elsewhere path owner m e =
      sym (is_of_user path owner m after) ∙ count_elsewhere (of_user_in path owner) m (ap (λ b. b && bytes_eq owner user) e) ∙ is_of_user path owner m before

  user_there : (path owner : List ℕ) (m : Measure) → bytes_eq path leaf ≡ true →
      of_cluster after path owner m + count_where (bytes_eq user owner) old m ≡ of_cluster before path owner m + count_where (bytes_eq user owner) new m
  user_there path owner m e =
      let own : of_user_in path owner leaf user ≡ bytes_eq user owner = ap (λ b. b && bytes_eq owner user) e ∙ bytes_turned owner user in
      (λ i. sym (is_of_user path owner m after) i + count_where (sym own i) old m) ∙ h.counts (of_user_in path owner) m ∙ (λ i. is_of_user path owner m before i + count_where (own i) new m)

  -- the part that goes is the user's, at the row of the leaf
  own_part : (r : Row) → bytes_eq r.path leaf ≡ true → IsRowOf before r → IsPart old (count_in K (user_row user r.item.users))
  own_part r e t m =
      let me : of_user_in r.path user leaf user ≡ true = ap (λ b. b && bytes_eq user user) e ∙ (bytes_eq-Decides user user).1 refl in
      let f = h.fits (of_user_in r.path user) m in
      let o : count_where (of_user_in r.path user leaf user) old m ≡ of_count old m = ap (λ b. count_where b old m) me in
      let u = t.users user m in
      let is = is_of_user r.path user m before in
      let own = user_counts K user r.item.users m in
      omega (arith, f, o, u, is, own)

  row_moves : (r : Row) → IsRowOf before r → IsRowOf after (moved_row K leaf user old new r)
  row_moves r t =
      changed_row (moved_above old new) (moved_at K user old new) leaf (IsRowOf after) r
      (λ e. record {
        active = ap (λ n. (n - old.active) + new.active) t.active ∙ sym (count_there (in_queue r.path) Measure.active (under_it leaf r.path e));
        used = ap (λ v. amounts_exchanged old.used new.used v) t.used ∙ sym (used_there r.path (under_it leaf r.path e));
        users = λ owner m. (let own = moved_own K user old new r.item.users (own_part r e t) owner m in let there = user_there r.path owner m e in let was = t.users owner m in omega (arith, own, there, was));
      })
      (λ e u. record {
        active = ap (λ n. (n - old.active) + new.active) t.active ∙ sym (count_there (in_queue r.path) Measure.active u);
        used = ap (λ v. amounts_exchanged old.used new.used v) t.used ∙ sym (used_there r.path u);
        users = λ owner m. t.users owner m ∙ sym (user_elsewhere r.path owner m e);
      })
      (λ e u. record {
        active = t.active ∙ sym (count_elsewhere (in_queue r.path) Measure.active u);
        used = t.used ∙ sym (used_elsewhere r.path u);
        users = λ owner m. t.users owner m ∙ sym (user_elsewhere r.path owner m e);
      })

  pub tied_moved : (rows : List Row) → All (IsRowOf before) rows → All (IsRowOf after) (map (moved_row K leaf user old new) rows)
  tied_moved rows a = changed_rows (moved_above old new) (moved_at K user old new) leaf (IsRowOf before) (IsRowOf after) rows row_moves a

  -- the row of the user, where the user has an application in the leaf
  pub record IsRowOfUser (r : Row) : Type 0 where
    pub own : Count
    pub found : user_row user r.item.users ≡ Some own
    pub counts : (m : Measure) → of_count own m ≡ of_cluster before leaf user m

  pub user_row_of : 1 ≤ of_cluster before leaf user Measure.active → (r : Row) → r.path ≡ leaf → IsRowOf before r → IsRowOfUser r
  user_row_of some r p t =
      let a = t.users user Measure.active ∙ ap (λ q. of_cluster before q user Measure.active) p in
      let s = some_row user Measure.active r.item.users (omega (arith, a, some)) in
      record {
        own = s.0;
        found = s.1;
        counts = λ m. sym (ap (λ o. option_map_or (λ (c : Count). of_count c m) o 0) s.1) ∙ t.users user m ∙ ap (λ q. of_cluster before q user m) p;
      }

  module _ (some : 1 ≤ of_cluster before leaf user Measure.active) (rows : List Row) (tied : All (IsRowOf before) rows) (position : List ℕ) (r : Row) (there : IsIn r rows) (path : r.path ≡ leaf) (item : item_at position rows ≡ Some r.item) where
    it : IsRowOfUser r
    it = user_row_of some r path (each_of (IsRowOf before) rows tied r there)

    at_position : user_row_at position user rows ≡ Some it.own
    at_position = ap (λ o. option_map_or (λ (q : Queue). user_row user q.users) o None) item ∙ it.found

    own_old : (m : Measure) → of_count old m ≤ of_count it.own m
    own_old m =
        let me : of_user_in leaf user leaf user ≡ true = ap (λ b. b && bytes_eq user user) ((bytes_eq-Decides leaf leaf).1 refl) ∙ (bytes_eq-Decides user user).1 refl in
        let f = h.fits (of_user_in leaf user) m in
        let o : count_where (of_user_in leaf user leaf user) old m ≡ of_count old m = ap (λ b. count_where b old m) me in
        let is = is_of_user leaf user m before in
        let c = it.counts m in
        omega (arith, f, o, is, c)

    -- the user may give the use of the old part back
    pub may_give : MayGive old.used (user_row_at position user rows)
    may_give = subst (MayGive old.used) (sym at_position) (λ k. own_old (Measure.uses k))

    -- and an application may leave
    pub may_leave : ((k : ℕ) → of_cluster before leaf user Measure.active ≡ 1 → of_cluster before leaf user (Measure.uses k) ≡ 0) → MayLeave (user_row_at position user rows)
    may_leave spent =
        let a = it.counts Measure.active in
        subst MayLeave (sym at_position) (omega (arith, a, some), λ one k. it.counts (Measure.uses k) ∙ spent k (sym a ∙ one))

-- each queue is where it was
pub moved_stays : (K : ℕ) (leaf user : List ℕ) (old new : Count) (rows : List Row) (path position : List ℕ) → IsAt rows path position → IsAt (map (moved_row K leaf user old new) rows) path position
moved_stays K leaf user old new rows path position at =
    still_at (moved_row K leaf user old new) (λ r. changed_position (moved_above old new) (moved_at K user old new) leaf r) (λ r. changed_path (moved_above old new) (moved_at K user old new) leaf r) rows path position at

-- the second cluster has one application more, of a user in a leaf, and nothing else is counted in another way
pub record HasOneMore {K : ℕ} (fewer more : Flat K) (leaf user : List ℕ) : Type 0 where
  pub counts : (test : Test) → count_of test more.apps.active ≡ count_of test fewer.apps.active + one_where (test leaf user)
  pub uses : (test : Test) → used_by more test ≡ used_by fewer test

where_nothing : (K : ℕ) (b : Bool) (m : Measure) → count_where b (zero_count K) m ≡ 0
where_nothing K true m = zero_counts K m
where_nothing K false m = refl

one_uses : (K : ℕ) (b : Bool) (k : ℕ) → count_where b (one_app K) (Measure.uses k) ≡ 0
one_uses K true k = zero_counts K (Measure.uses k)
one_uses K false k = refl

-- what moves does not wait
pub none_waits : (b : Bool) (c : Count) → count_where b c Measure.waiting ≡ 0
none_waits true c = refl
none_waits false c = refl

one_counts : (K : ℕ) (b : Bool) → count_where b (one_app K) Measure.active ≡ one_where b
one_counts K true = refl
one_counts K false = refl

zeros_are : (K : ℕ) → length (zeros K) ≡ K
zeros_are K = length-replicate K 0

module _ {K : ℕ} (fewer more : Flat K) (leaf user : List ℕ) (h : HasOneMore fewer more leaf user) where
  -- an application enters, and leaves
  pub enters : HasMoved fewer more leaf user (zero_count K) (one_app K)
  enters = record { counts = counted; fits = λ test m. (let z = where_nothing K (test leaf user) m in omega (arith, z)); short = zeros_are K }
    where
      counted : (test : Test) (m : Measure) → of_test more test m + count_where (test leaf user) (zero_count K) m ≡ of_test fewer test m + count_where (test leaf user) (one_app K) m
      counted test (Measure.uses k) = let u = ap (λ v. amount v k) (h.uses test) in omega (arith, u, where_nothing K (test leaf user) (Measure.uses k), one_uses K (test leaf user) k)
      counted test Measure.active = omega (arith, h.counts test, where_nothing K (test leaf user) Measure.active, one_counts K (test leaf user))
      counted test Measure.waiting = omega (arith, none_waits (test leaf user) (zero_count K), none_waits (test leaf user) (one_app K))

  pub leaves : HasMoved more fewer leaf user (one_app K) (zero_count K)
  leaves = record { counts = counted; fits = fitted; short = zeros_are K }
    where
      counted : (test : Test) (m : Measure) → of_test fewer test m + count_where (test leaf user) (one_app K) m ≡ of_test more test m + count_where (test leaf user) (zero_count K) m
      counted test (Measure.uses k) = let u = ap (λ v. amount v k) (h.uses test) in omega (arith, u, where_nothing K (test leaf user) (Measure.uses k), one_uses K (test leaf user) k)
      counted test Measure.active = omega (arith, h.counts test, where_nothing K (test leaf user) Measure.active, one_counts K (test leaf user))
      counted test Measure.waiting = omega (arith, none_waits (test leaf user) (zero_count K), none_waits (test leaf user) (one_app K))

      fitted : (test : Test) (m : Measure) → count_where (test leaf user) (one_app K) m ≤ of_test more test m
      fitted test m = let c = counted test m in let z = where_nothing K (test leaf user) m in omega (arith, c, z)

-- a user gives some of its use back: it is enough to know it of the amounts that there are
pub gives : {K : ℕ} (before after : Flat K) (leaf user r : List ℕ) → length r ≤ K → ((test : Test) → count_of test after.apps.active ≡ count_of test before.apps.active) →
    ((test : Test) (k : ℕ) → k < K → amount (used_by before test) k ≡ amount (used_by after test) k + count_where (test leaf user) (use_alone r) (Measure.uses k)) → HasMoved before after leaf user (use_alone r) (zero_count K)
gives {K} before after leaf user r few counts uses = record { counts = counted; fits = fitted; short = zeros_are K }
  where
    past_where : (b : Bool) (k : ℕ) → K ≤ k → count_where b (use_alone r) (Measure.uses k) ≡ 0
    past_where true k past = get_or_past r k 0 (omega (arith, past, few))
    past_where false k past = refl

    none_active : (b : Bool) → count_where b (use_alone r) Measure.active ≡ 0
    none_active true = refl
    none_active false = refl

    used : (test : Test) (k : ℕ) → amount (used_by before test) k ≡ amount (used_by after test) k + count_where (test leaf user) (use_alone r) (Measure.uses k)
    used test k = elim (cases_lt k K) [
      | inl below ↦ uses test k below
      | inr past ↦
          let a : amount (used_by before test) k ≡ 0 = get_or_past (used_by before test) k 0 (omega (arith, past, length_used before test)) in
          let b : amount (used_by after test) k ≡ 0 = get_or_past (used_by after test) k 0 (omega (arith, past, length_used after test)) in
          omega (arith, a, b, past_where (test leaf user) k past)
    ]

    counted : (test : Test) (m : Measure) → of_test after test m + count_where (test leaf user) (use_alone r) m ≡ of_test before test m + count_where (test leaf user) (zero_count K) m
    counted test (Measure.uses k) = omega (arith, used test k, where_nothing K (test leaf user) (Measure.uses k))
    counted test Measure.active = omega (arith, counts test, none_active (test leaf user), where_nothing K (test leaf user) Measure.active)
    counted test Measure.waiting = omega (arith, none_waits (test leaf user) (zero_count K), none_waits (test leaf user) (use_alone r))

    fitted : (test : Test) (m : Measure) → count_where (test leaf user) (use_alone r) m ≤ of_test before test m
    fitted test m = let c = counted test m in let z = where_nothing K (test leaf user) m in omega (arith, c, z)
