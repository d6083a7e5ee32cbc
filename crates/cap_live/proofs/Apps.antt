-- The applications that a table gives for a number.
use Rattle.cap_live.proofs.Prelude.{◌≡◌, ℕ, true, false, ◌&&◌, List, [], ◌∷◌, map, length, Option, Some, None, refl, sym, ◌∙◌, ap, subst, arith, nat_tests, not, ◌==◌, find, option_map, IfSome, MatchOption, IsSome, eqb-true, same_Some, found, IsIn, IsRising, found_by_number, seen_is, Account, HeldApp, account_of, is_waiting, App, AppTable, AppSight, Ask, Key, app_in, ask_at, app_sight, seen_app, sight_of, HasWaiter, ClusterState, HasNoNextApp, IsNextApp, Bor, All, each_of, waiting_at, option_map_or, HeldApps, position_of, FollowsWaiting, IsRowOf, IsServed, IsAt, Row, queues_of, HasNoWaiter, IsNextWaiter, AreAmong, AreOutOfReach, Want}
use Rattle.cap_live.proofs.Tied.{AreSame, next_is, none_is, seen_waiter}

module _ {K : ℕ} (c : ClusterState K) (rising : IsRising 1 (map (λ app. app.number) c.flat.apps.active) c.flat.apps.next) where
  -- a handle that was given for a number is that of the active application
  own_number : (n : ℕ) (app : App) → app_in c.flat.apps n ≡ Some app → app.number ≡ n
  own_number n app e = let t = (found (λ (a : App). a.number == n) c.flat.apps.active app e).1 in eqb-true app.number n t

  pub has_waiter : (n : ℕ) (held : HeldApp) → app_in c.flat.apps n ≡ Some held.app → account_of n c.accounts ≡ Some held.account → is_waiting held.app ≡ true → AreOutOfReach c.flat.nodes.present held.impossible → HasWaiter c held
  has_waiter n held e f w reach =
      let own = own_number n held.app e in
      record { found = ap (app_in c.flat.apps) own ∙ e; account = ap (λ k. account_of k c.accounts) own ∙ f; waits = w; impossible = reach }

  -- an active application that waits is seen, and one that is seen and has asks waits
  pub seen_of : (n : ℕ) (app : App) → app_in c.flat.apps n ≡ Some app → is_waiting app ≡ true → seen_app (sight_of c.flat) n ≡ Some (app_sight app)
  seen_of n app e w =
      let member = (found (λ (a : App). a.number == n) c.flat.apps.active app e).0 in
      ap (seen_app (sight_of c.flat)) (sym (own_number n app e)) ∙ (seen_waiter c.flat rising app member w).found

  no_asks : (asks : List Ask) (key : Key) → not (length asks == 0) ≡ false → ask_at key asks ≡ None
  no_asks [] key e = refl
  no_asks (x ∷ asks) key e = absurd (grind (arith, nat_tests, e))

  pub none_of : (n : ℕ) (o : Option App) → app_in c.flat.apps n ≡ o → IfSome o (λ app. is_waiting app ≡ false) → (other : AppSight) (key : Key) → seen_app (sight_of c.flat) n ≡ Some other → ask_at key other.asks ≡ None
  none_of n o e w other key at =
      let s = seen_is c.flat rising n (subst IsSome (sym at) refl) in
      subst (λ (x : AppSight). ask_at key x.asks ≡ None) (same_Some (app_sight s.app) other (sym s.seen ∙ at)) (by o s.app (sym e ∙ s.at) w s.registered)
    where
      by : (p : Option App) (app : App) → p ≡ Some app → IfSome p (λ x. is_waiting x ≡ false) → app.registered ≡ true → ask_at key app.asks ≡ None
      by None app f off on = absurd (cc f)
      by (Some x) app f off on =
          let same = same_Some x app f in
          no_asks app.asks key (let t : app.registered && not (length app.asks == 0) ≡ false = subst (λ (y : App). is_waiting y ≡ false) same off in grind (arith, nat_tests, t, on))

-- where a handle's application is
pub held_at : {K : ℕ} (s : ClusterState K) (apps : HeldApps) → apps.table ≡ s.flat.apps → All (λ app. IsAt s.rows app.leaf (position_of app.number s.accounts)) apps.table.active → (held : HeldApp) → HasWaiter s held → IsAt s.rows held.app.leaf held.account.position
held_at s apps table placed held h =
    let places = subst (λ (t : AppTable). All (λ app. IsAt s.rows app.leaf (position_of app.number s.accounts)) t.active) table placed in
    subst (IsAt s.rows held.app.leaf) (ap (λ (o : Option Account). option_map_or (λ a. a.position) o []) h.account)
    (each_of (λ app. IsAt s.rows app.leaf (position_of app.number s.accounts)) s.flat.apps.active places held.app (found (λ (a : App). a.number == held.app.number) s.flat.apps.active held.app h.found).0)

-- the handle of the number that comes next
pub record IsHandle {K : ℕ} (c : ClusterState K) (after : Option AppSight) (r : Option (Bor HeldApp)) : Type 0 where
  pub has : IfSome r (λ b. HasWaiter c b.now)
  pub served : IfSome r (λ b. IsServed c b.now)
  pub next : MatchOption r (HasNoNextApp (sight_of c.flat) after) (λ b. IsNextApp (sight_of c.flat) after (app_sight b.now.app))

module _ {K : ℕ} (c : ClusterState K) (rising : IsRising 1 (map (λ app. app.number) c.flat.apps.active) c.flat.apps.next) where
  pub handle_is : (after : Option AppSight) (n : ℕ) (app : App) → IsIn app c.flat.apps.active → is_waiting app ≡ true → app.number ≡ n → IsNextApp (sight_of c.flat) after (app_sight app) → ((p : List ℕ) → IsAt c.rows app.leaf p → IsIn app.number (waiting_at p c.rows)) → (apps : HeldApps) → apps.table ≡ c.flat.apps → All (λ app. IsAt c.rows app.leaf (position_of app.number c.accounts)) apps.table.active → (wants : List Want) → AreOutOfReach c.flat.nodes.present wants → (r : Option (Bor HeldApp)) →
      option_map (λ (b : Bor HeldApp). b.now.app) r ≡ app_in c.flat.apps n → option_map (λ (b : Bor HeldApp). b.now.account) r ≡ account_of n c.accounts → IfSome r (λ b. AreAmong b.now.impossible wants) → IsHandle c after r
  handle_is after n app m w number next served apps table placed wants reach r e f among = by r e f among
    where
      there : app_in c.flat.apps n ≡ Some app
      there = subst (λ k. find (λ (a : App). a.number == k) c.flat.apps.active ≡ Some app) number (found_by_number (λ (a : App). a.number) 1 c.flat.apps.active c.flat.apps.next app rising m)

      by : (r : Option (Bor HeldApp)) → option_map (λ (b : Bor HeldApp). b.now.app) r ≡ app_in c.flat.apps n → option_map (λ (b : Bor HeldApp). b.now.account) r ≡ account_of n c.accounts → IfSome r (λ x. AreAmong x.now.impossible wants) → IsHandle c after r
      by None e f a = absurd (cc (e ∙ there))
      by (Some b) e f a =
          let same : app ≡ b.now.app = same_Some app b.now.app (sym there ∙ sym e) in
          let has = has_waiter c rising n b.now (sym e) (sym f) (subst (λ (x : App). is_waiting x ≡ true) same w) (λ want m. reach want (a want m)) in
          record {
            has = has;
            served = subst (λ (x : App). (p : List ℕ) → IsAt c.rows x.leaf p → IsIn x.number (waiting_at p c.rows)) same served b.now.account.position (held_at c apps table placed b.now has);
            next = subst (λ (x : App). IsNextApp (sight_of c.flat) after (app_sight x)) same next;
          }

-- what the tree comes to next, as a handle
module _ {K : ℕ} (s : ClusterState K) (queues : queues_of s.rows ≡ s.flat.settings.queues) (tied : All (IsRowOf s.flat) s.rows) (waiting : FollowsWaiting true s.flat.nodes.present s.flat.apps.active s.rows) (apps : HeldApps) (table : apps.table ≡ s.flat.apps)
    (accounts : apps.accounts ≡ s.accounts) (placed : All (λ app. IsAt s.rows app.leaf (position_of app.number s.accounts)) apps.table.active) (rising : IsRising 1 (map (λ app. app.number) apps.table.active) apps.table.next) (rows : List Row) (rows_are : rows ≡ s.rows) where
  rise : IsRising 1 (map (λ app. app.number) s.flat.apps.active) s.flat.apps.next
  rise = subst (λ (t : AppTable). IsRising 1 (map (λ app. app.number) t.active) t.next) table rising

  places : All (λ app. IsAt s.rows app.leaf (position_of app.number s.accounts)) s.flat.apps.active
  places = subst (λ (t : AppTable). All (λ app. IsAt s.rows app.leaf (position_of app.number s.accounts)) t.active) table placed

  pub some_next : (after : Option AppSight) (at : Option (List ℕ × ℕ)) → AreSame s.rows after at → (n : ℕ) → IsNextWaiter rows at n → (r : Option (Bor HeldApp)) → option_map (λ (b : Bor HeldApp). b.now.app) r ≡ app_in apps.table n →
      option_map (λ (b : Bor HeldApp). b.now.account) r ≡ account_of n apps.accounts → AreOutOfReach s.flat.nodes.present apps.impossible → IfSome r (λ b. AreAmong b.now.impossible apps.impossible) → IsHandle s after r
  some_next after at same n h r e f reach among =
      let x = next_is s.flat s.rows queues tied waiting (λ k. position_of k s.accounts) places rise after at same n (subst (λ ws. IsNextWaiter ws at n) rows_are h) in
      handle_is s rise after n x.app x.member x.waits x.number x.next x.served apps table placed apps.impossible reach r (e ∙ ap (λ t. app_in t n) table) (f ∙ ap (account_of n) accounts) among

  pub no_next : (after : Option AppSight) (at : Option (List ℕ × ℕ)) → AreSame s.rows after at → HasNoWaiter rows at → HasNoNextApp (sight_of s.flat) after
  no_next after at same h = none_is s.flat s.rows queues tied waiting (λ k. position_of k s.accounts) places rise after at same (subst (λ ws. HasNoWaiter ws at) rows_are h)
