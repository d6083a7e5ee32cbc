-- The entries of a table by number.
use Rattle.cap_asks.proofs.Prelude.{◌≡◌, ℕ, ◌+◌, ◌≤◌, ◌<◌, Bool, true, false, cond, List, [], ◌∷◌, ◌++◌, map, refl, sym, ◌∙◌, ap, subst, arith, nat_cmp, Option, Some, None, is_some, IsSome, IfSome, option_and_then, nat_eq, not, find, filter, option_map, ◌==◌, if◌then◌else◌, option_map_or, lookup, set_value, remove_entry, is_at, unsigned_ties, nat_eq_equiv, nat_tests, map_push, lookup-set_value, App, IsRising, remove_app, Account, HeldApp, TakesRoom, HasRoom, reported_of, AreNumbered, UsesRoom, HasRooms, IsEntered, IsLeft, account_of, new_account, AllocateReply, Reported}

abbrev pub apps_of : List (ℕ × HeldApp) → List App
apps_of es = map (λ e. e.1.app) es

abbrev pub accounts_of : List (ℕ × HeldApp) → List (ℕ × Account)
accounts_of es = map (λ e. (e.0, e.1.account)) es

-- the test of a map by number
pub is_number : (n : ℕ) → is_at (nat_cmp n) ≡ nat_eq n
is_number n i k = sym (unsigned_ties n k) i

pub by_number : {X : Type 0} (n : ℕ) (es : List (ℕ × X)) {o : Option X} → o ≡ lookup (is_at (nat_cmp n)) es → lookup (nat_eq n) es ≡ o
by_number n es e = ap (λ t. lookup t es) (sym (is_number n)) ∙ sym e

-- the numbers of the rows are those of the entries
number_is : (low n next : ℕ) (e : ℕ × HeldApp) (es : List (ℕ × HeldApp)) → AreNumbered low (e ∷ es) next → (e.1.app.number == n) ≡ nat_eq n e.0
number_is low n next e es h = let i = h.1 in grind (arith, nat_tests, i)

-- the application and the account of a number
pub app_found : (low n next : ℕ) (es : List (ℕ × HeldApp)) → AreNumbered low es next → find (λ (app : App). app.number == n) (apps_of es) ≡ option_map (λ (h : HeldApp). h.app) (lookup (nat_eq n) es)
app_found low n next [] h = refl
app_found low n next (e ∷ es) h = by (nat_eq n e.0) refl (app_found (e.0 + 1) n next es h.2)
  where
    by : (b : Bool) → nat_eq n e.0 ≡ b → find (λ (app : App). app.number == n) (apps_of es) ≡ option_map (λ (x : HeldApp). x.app) (lookup (nat_eq n) es)
        → cond (e.1.app.number == n) (Some e.1.app) (find (λ (app : App). app.number == n) (apps_of es)) ≡ option_map (λ (x : HeldApp). x.app) (cond (nat_eq n e.0) (Some e.1) (lookup (nat_eq n) es))
    by true b r = ap (λ c. cond c (Some e.1.app) (find (λ (app : App). app.number == n) (apps_of es))) (number_is low n next e es h ∙ b) ∙ sym (ap (λ c. option_map (λ (x : HeldApp). x.app) (cond c (Some e.1) (lookup (nat_eq n) es))) b)
    by false b r = ap (λ c. cond c (Some e.1.app) (find (λ (app : App). app.number == n) (apps_of es))) (number_is low n next e es h ∙ b) ∙ r ∙ sym (ap (λ c. option_map (λ (x : HeldApp). x.app) (cond c (Some e.1) (lookup (nat_eq n) es))) b)

pub account_found : (n : ℕ) (es : List (ℕ × HeldApp)) → account_of n (accounts_of es) ≡ option_map (λ (h : HeldApp). h.account) (lookup (nat_eq n) es)
account_found n [] = refl
account_found n (e ∷ es) = by (nat_eq n e.0) (account_found n es)
  where
    by : (b : Bool) → account_of n (accounts_of es) ≡ option_map (λ (x : HeldApp). x.account) (lookup (nat_eq n) es)
        → cond b (Some e.1.account) (account_of n (accounts_of es)) ≡ option_map (λ (x : HeldApp). x.account) (cond b (Some e.1) (lookup (nat_eq n) es))
    by true r = refl
    by false r = r

-- a change of one application
abbrev pub changed_at : ℕ → (App → App) → List App → List App
changed_at n change apps = map (λ app. if app.number == n then change app else app) apps

-- where there is no such number, nothing changes
pub none_changed : (low n next : ℕ) (es : List (ℕ × HeldApp)) (change : App → App) → AreNumbered low es next → lookup (nat_eq n) es ≡ None → apps_of es ≡ changed_at n change (apps_of es)
none_changed low n next [] change h a = refl
none_changed low n next (e ∷ es) change h a = by (nat_eq n e.0) refl (none_changed (e.0 + 1) n next es change h.2)
  where
    by : (b : Bool) → nat_eq n e.0 ≡ b → (lookup (nat_eq n) es ≡ None → apps_of es ≡ changed_at n change (apps_of es)) → e.1.app ∷ apps_of es ≡ cond (e.1.app.number == n) (change e.1.app) e.1.app ∷ changed_at n change (apps_of es)
    by true b r = absurd (cc (sym (ap (λ c. cond c (Some e.1) (lookup (nat_eq n) es)) b) ∙ a))
    by false b r =
        ap (λ xs. e.1.app ∷ xs) (r (sym (ap (λ c. cond c (Some e.1) (lookup (nat_eq n) es)) b) ∙ a))
        ∙ sym (ap (λ c. cond c (change e.1.app) e.1.app ∷ changed_at n change (apps_of es)) (number_is low n next e es h ∙ b))

pub above_absent : (low n next : ℕ) (es : List (ℕ × HeldApp)) → AreNumbered low es next → n < low → lookup (nat_eq n) es ≡ None
above_absent low n next [] h l = refl
above_absent low n next (e ∷ es) h l =
    let first = h.0 in
    ap (λ c. cond c (Some e.1) (lookup (nat_eq n) es)) (let b : nat_eq n e.0 ≡ false = grind (arith, nat_tests, first, l) in b) ∙ above_absent (e.0 + 1) n next es h.2 (omega (arith, first, l))

pub some_is : (b : Bool) (x y : HeldApp) (o : Option HeldApp) → b ≡ true → cond b (Some x) o ≡ Some y → x ≡ y
some_is true x y o e f = cc
some_is false x y o e f = absurd (cc e)

pub same_number : (n : ℕ) (e : ℕ × HeldApp) → nat_eq n e.0 ≡ true → n ≡ e.0
same_number n e b = grind (arith, nat_tests, b)

pub found_number : (low n next : ℕ) (es : List (ℕ × HeldApp)) (x : HeldApp) → AreNumbered low es next → lookup (nat_eq n) es ≡ Some x → (low ≤ n) × (x.app.number ≡ n)
found_number low n next [] x h a = absurd (cc a)
found_number low n next (e ∷ es) x h a = by (nat_eq n e.0) refl a (found_number (e.0 + 1) n next es x h.2)
  where
    first : low ≤ e.0
    first = h.0

    by : (b : Bool) → nat_eq n e.0 ≡ b → cond b (Some e.1) (lookup (nat_eq n) es) ≡ Some x → (lookup (nat_eq n) es ≡ Some x → (e.0 + 1 ≤ n) × (x.app.number ≡ n)) → (low ≤ n) × (x.app.number ≡ n)
    by true b a r = let n_is = same_number n e b in let x_is : e.1 ≡ x = cc a in (omega (arith, first, n_is), ap (λ (y : HeldApp). y.app.number) (sym x_is) ∙ h.1 ∙ sym n_is)
    by false b a r = let above = (r a).0 in (omega (arith, first, above), (r a).1)

-- where there is, it alone changes
pub one_changed : (low n next : ℕ) (es : List (ℕ × HeldApp)) (old new : HeldApp) (change : App → App) → AreNumbered low es next → lookup (nat_eq n) es ≡ Some old → new.app ≡ change old.app
    → apps_of (set_value (nat_eq n) es new) ≡ changed_at n change (apps_of es)
one_changed low n next [] old new change h a is = absurd (cc a)
one_changed low n next (e ∷ es) old new change h a is = by (nat_eq n e.0) refl (one_changed (e.0 + 1) n next es old new change h.2)
  where
    by : (b : Bool) → nat_eq n e.0 ≡ b → (lookup (nat_eq n) es ≡ Some old → new.app ≡ change old.app → apps_of (set_value (nat_eq n) es new) ≡ changed_at n change (apps_of es))
        → apps_of (cond (nat_eq n e.0) ((e.0, new) ∷ es) (e ∷ set_value (nat_eq n) es new)) ≡ cond (e.1.app.number == n) (change e.1.app) e.1.app ∷ changed_at n change (apps_of es)
    by true b r =
        let old_is = some_is (nat_eq n e.0) e.1 old (lookup (nat_eq n) es) b a in
        let n_is = same_number n e b in
        ap (λ c. apps_of (cond c ((e.0, new) ∷ es) (e ∷ set_value (nat_eq n) es new))) b
        ∙ ap (λ x. x ∷ apps_of es) (is ∙ ap (λ (o : HeldApp). change o.app) (sym old_is))
        ∙ ap (λ xs. change e.1.app ∷ xs) (none_changed (e.0 + 1) n next es change h.2 (above_absent (e.0 + 1) n next es h.2 (omega (arith, n_is))))
        ∙ sym (ap (λ c. cond c (change e.1.app) e.1.app ∷ changed_at n change (apps_of es)) (number_is low n next e es h ∙ b))
    by false b r =
        ap (λ c. apps_of (cond c ((e.0, new) ∷ es) (e ∷ set_value (nat_eq n) es new))) b
        ∙ ap (λ xs. e.1.app ∷ xs) (r (sym (ap (λ c. cond c (Some e.1) (lookup (nat_eq n) es)) b) ∙ a) is)
        ∙ sym (ap (λ c. cond c (change e.1.app) e.1.app ∷ changed_at n change (apps_of es)) (number_is low n next e es h ∙ b))

pub still_numbered : (low n next : ℕ) (es : List (ℕ × HeldApp)) (old new : HeldApp) → AreNumbered low es next → lookup (nat_eq n) es ≡ Some old → new.app.number ≡ old.app.number → AreNumbered low (set_value (nat_eq n) es new) next
still_numbered low n next [] old new h a i = absurd (cc a)
still_numbered low n next (e ∷ es) old new h a i = by (nat_eq n e.0) refl (still_numbered (e.0 + 1) n next es old new h.2)
  where
    by : (b : Bool) → nat_eq n e.0 ≡ b → (lookup (nat_eq n) es ≡ Some old → new.app.number ≡ old.app.number → AreNumbered (e.0 + 1) (set_value (nat_eq n) es new) next)
        → AreNumbered low (cond b ((e.0, new) ∷ es) (e ∷ set_value (nat_eq n) es new)) next
    by true b r =
        let old_is = some_is (nat_eq n e.0) e.1 old (lookup (nat_eq n) es) b a in
        (h.0, i ∙ ap (λ (o : HeldApp). o.app.number) (sym old_is) ∙ h.1, h.2)
    by false b r = (h.0, h.1, r (sym (ap (λ c. cond c (Some e.1) (lookup (nat_eq n) es)) b) ∙ a) i)

-- what is found after a change
found_set : (m n : ℕ) (es : List (ℕ × HeldApp)) (old new : HeldApp) → lookup (nat_eq n) es ≡ Some old → lookup (nat_eq m) (set_value (nat_eq n) es new) ≡ cond (nat_eq n m) (Some new) (lookup (nat_eq m) es)
found_set m n es old new a = lookup-set_value nat_eq_equiv (nat_eq n) (λ x y. nat_eq_equiv.congr n x y) m new es (ap is_some a)

pub found_after : (n : ℕ) (es : List (ℕ × HeldApp)) (old new : HeldApp) → lookup (nat_eq n) es ≡ Some old → lookup (nat_eq n) (set_value (nat_eq n) es new) ≡ Some new
found_after n es old new a = found_set n n es old new a ∙ ap (λ c. cond c (Some new) (lookup (nat_eq n) es)) (nat_eq_equiv.refl n)

-- its account alone changes
account_after : (P : Bool → Option Account → Option Account → Type 0) (m n : ℕ) (es : List (ℕ × HeldApp)) (old new : HeldApp) → lookup (nat_eq n) es ≡ Some old → P true (Some old.account) (Some new.account) → ((o : Option Account) → P false o o)
    → P (m == n) (account_of m (accounts_of es)) (account_of m (accounts_of (set_value (nat_eq n) es new)))
account_after P m n es old new a here others = by (nat_eq n m) refl
  where
    after : (b : Bool) → nat_eq n m ≡ b → account_of m (accounts_of (set_value (nat_eq n) es new)) ≡ option_map (λ (x : HeldApp). x.account) (cond b (Some new) (lookup (nat_eq m) es))
    after b e = account_found m (set_value (nat_eq n) es new) ∙ ap (option_map (λ (x : HeldApp). x.account)) (found_set m n es old new a ∙ ap (λ c. cond c (Some new) (lookup (nat_eq m) es)) e)

    by : (b : Bool) → nat_eq n m ≡ b → P (m == n) (account_of m (accounts_of es)) (account_of m (accounts_of (set_value (nat_eq n) es new)))
    by true e =
        let same : m == n ≡ true = grind (arith, nat_tests, e) in
        let is : m ≡ n = grind (arith, nat_tests, e) in
        rw (same, after true e, account_found m es ∙ ap (option_map (λ (x : HeldApp). x.account)) (ap (λ k. lookup (nat_eq k) es) is ∙ a)) here
    by false e = let other : m == n ≡ false = grind (arith, nat_tests, e) in rw (other, after false e ∙ sym (account_found m es)) (others (account_of m (accounts_of es)))

pub one_uses : (n a g e : ℕ) (es : List (ℕ × HeldApp)) (old new : HeldApp) → lookup (nat_eq n) es ≡ Some old → TakesRoom a g e old.account new.account → UsesRoom n a g e (accounts_of es) (accounts_of (set_value (nat_eq n) es new))
one_uses n a g e es old new found t =
    let live = t.live in
    let asks = t.asks in
    let grants = t.grants in
    let ends = t.ends in
    record {
      positions = λ m. account_after (λ b x y. option_map_or (λ c. c.position) y [] ≡ option_map_or (λ c. c.position) x []) m n es old new found t.position (λ o. refl);
      live = λ m. account_after (λ b x y. option_map_or (λ c. c.live) y 0 + (if b then e else 0) ≡ option_map_or (λ c. c.live) x 0 + (if b then g else 0)) m n es old new found (omega (arith, live)) (λ o. refl);
      asks = λ m. account_after (λ b x y. option_map_or (λ c. c.asks) x 0 ≤ option_map_or (λ c. c.asks) y 0 + (if b then a else 0)) m n es old new found (omega (arith, asks)) (λ o. omega arith);
      grants = λ m. account_after (λ b x y. option_map_or (λ c. c.grants) x 0 ≤ option_map_or (λ c. c.grants) y 0 + (if b then g else 0)) m n es old new found (omega (arith, grants)) (λ o. omega arith);
      ends = λ m. account_after (λ b x y. option_map_or (λ c. c.ends) x 0 ≤ option_map_or (λ c. c.ends) y 0 + (if b then e else 0)) m n es old new found (omega (arith, ends)) (λ o. omega arith);
    }

-- the account of an application that is there
pub account_there : (n : ℕ) (es : List (ℕ × HeldApp)) (old : HeldApp) → lookup (nat_eq n) es ≡ Some old → account_of n (accounts_of es) ≡ Some old.account
account_there n es old found = account_found n es ∙ ap (option_map (λ (x : HeldApp). x.account)) found

-- its room is the table's
pub has_rooms : (n a g e : ℕ) (es : List (ℕ × HeldApp)) (old : HeldApp) → lookup (nat_eq n) es ≡ Some old → HasRoom a g e old.account → HasRooms n a g e (accounts_of es)
has_rooms n a g e es old found has =
    let there = account_there n es old found in
    record { asks = rw there has.asks; grants = rw there has.grants; ends = rw there has.ends }

pub had_room : (n a g e : ℕ) (es : List (ℕ × HeldApp)) (old : HeldApp) → lookup (nat_eq n) es ≡ Some old → HasRooms n a g e (accounts_of es) → HasRoom a g e old.account
had_room n a g e es old found has =
    let there = account_there n es old found in
    record { asks = rw there at has.asks; grants = rw there at has.grants; ends = rw there at has.ends }

-- the numbers of the reply that an application keeps, and the reply of these numbers
pub kept_now : (low n next : ℕ) (es : List (ℕ × HeldApp)) (now : HeldApp) (reported : Reported) → AreNumbered low es next → lookup (nat_eq n) es ≡ Some now → option_map reported_of now.app.kept ≡ Some reported
    → option_map reported_of (option_and_then (λ (a : App). a.kept) (find (λ (app : App). app.number == n) (apps_of es))) ≡ Some reported
kept_now low n next es now reported h found kept =
    ap (λ o. option_map reported_of (option_and_then (λ (a : App). a.kept) o)) (app_found low n next es h ∙ ap (option_map (λ (x : HeldApp). x.app)) found) ∙ kept

pub reply_is : (kept : Option AllocateReply) (reported : Reported) (reply : AllocateReply) → IfSome kept (λ k. reply ≡ record k { response = reported.response; ignored = reported.ignored })
    → option_map reported_of kept ≡ Some reported → kept ≡ Some reply
reply_is None reported reply is numbers = absurd (cc numbers)
reply_is (Some k) reported reply is numbers =
    let same : reported_of k ≡ reported = cc numbers in
    ap Some (ap (λ (r : Reported). record k { response = r.response; ignored = r.ignored }) same ∙ sym is)

pub replied : (o : Option App) (app : App) (reported : Reported) (reply : AllocateReply) → Some app ≡ o → IfSome app.kept (λ k. reply ≡ record k { response = reported.response; ignored = reported.ignored })
    → option_map reported_of (option_and_then (λ (a : App). a.kept) o) ≡ Some reported → option_and_then (λ (a : App). a.kept) o ≡ Some reply
replied o app reported reply e is numbers =
    let there = ap (option_and_then (λ (a : App). a.kept)) (sym e) in
    there ∙ reply_is app.kept reported reply is (ap (option_map reported_of) (sym there) ∙ numbers)

pub unreplied : {A : Type 0} (o : Option App) (reported : Reported) → None ≡ o → option_map reported_of (option_and_then (λ (a : App). a.kept) o) ≡ Some reported → A
unreplied o reported e numbers = absurd (cc (ap (λ p. option_map reported_of (option_and_then (λ (a : App). a.kept) p)) e ∙ numbers))

pub missing_app : {A : Type 0} (low n next : ℕ) (es : List (ℕ × HeldApp)) → AreNumbered low es next → lookup (nat_eq n) es ≡ None → IsSome (find (λ (app : App). app.number == n) (apps_of es)) → A
missing_app low n next es h none there = absurd (cc (subst IsSome (app_found low n next es h ∙ ap (option_map (λ (x : HeldApp). x.app)) none) there))

-- without an application
numbered_from : (low low' next : ℕ) (es : List (ℕ × HeldApp)) → low ≤ low' → AreNumbered low' es next → AreNumbered low es next
numbered_from low low' next [] l h = omega (arith, l, h)
numbered_from low low' next (e ∷ es) l h = let first = h.0 in (omega (arith, l, first), h.1, h.2)

pub still_without : (low n next : ℕ) (es : List (ℕ × HeldApp)) → AreNumbered low es next → AreNumbered low (remove_entry (nat_eq n) es) next
still_without low n next [] h = h
still_without low n next (e ∷ es) h = by (nat_eq n e.0) (still_without (e.0 + 1) n next es h.2)
  where
    by : (b : Bool) → AreNumbered (e.0 + 1) (remove_entry (nat_eq n) es) next → AreNumbered low (cond b es (e ∷ remove_entry (nat_eq n) es)) next
    by true r = let first = h.0 in numbered_from low (e.0 + 1) next es (omega (arith, first)) h.2
    by false r = (h.0, h.1, r)

others_apps : (low n next : ℕ) (es : List (ℕ × HeldApp)) → AreNumbered low es next → n < low → filter (λ (app : App). not (app.number == n)) (apps_of es) ≡ apps_of es
others_apps low n next [] h l = refl
others_apps low n next (e ∷ es) h l =
    let first = h.0 in
    let number = h.1 in
    let no : e.1.app.number == n ≡ false = grind (arith, nat_tests, first, number, l) in
    ap (λ c. cond (not c) (e.1.app ∷ filter (λ (app : App). not (app.number == n)) (apps_of es)) (filter (λ (app : App). not (app.number == n)) (apps_of es))) no
    ∙ ap (λ xs. e.1.app ∷ xs) (others_apps (e.0 + 1) n next es h.2 (omega (arith, first, l)))

apps_without : (low n next : ℕ) (es : List (ℕ × HeldApp)) → AreNumbered low es next → apps_of (remove_entry (nat_eq n) es) ≡ filter (λ (app : App). not (app.number == n)) (apps_of es)
apps_without low n next [] h = refl
apps_without low n next (e ∷ es) h = by (nat_eq n e.0) refl (apps_without (e.0 + 1) n next es h.2)
  where
    others : List App
    others = filter (λ (app : App). not (app.number == n)) (apps_of es)

    by : (b : Bool) → nat_eq n e.0 ≡ b → apps_of (remove_entry (nat_eq n) es) ≡ filter (λ (app : App). not (app.number == n)) (apps_of es)
        → apps_of (cond b es (e ∷ remove_entry (nat_eq n) es)) ≡ cond (not (e.1.app.number == n)) (e.1.app ∷ filter (λ (app : App). not (app.number == n)) (apps_of es)) (filter (λ (app : App). not (app.number == n)) (apps_of es))
    by true b r =
        let n_is = same_number n e b in
        sym (ap (λ c. cond (not c) (e.1.app ∷ filter (λ (app : App). not (app.number == n)) (apps_of es)) (filter (λ (app : App). not (app.number == n)) (apps_of es))) (number_is low n next e es h ∙ b)
        ∙ others_apps (e.0 + 1) n next es h.2 (omega (arith, n_is)))
    by false b r =
        ap (λ xs. e.1.app ∷ xs) r
        ∙ sym (ap (λ c. cond (not c) (e.1.app ∷ filter (λ (app : App). not (app.number == n)) (apps_of es)) (filter (λ (app : App). not (app.number == n)) (apps_of es))) (number_is low n next e es h ∙ b))

pub table_without : (n next : ℕ) (es left : List (ℕ × HeldApp)) → AreNumbered 1 es next → left ≡ remove_entry (nat_eq n) es → record { active = apps_of left; next = next } ≡ remove_app n (record { active = apps_of es; next = next })
table_without n next es left h is = rw (is, apps_without 1 n next es h) refl

-- without its account
pub account_left : (n : ℕ) (es left : List (ℕ × HeldApp)) → lookup (is_at (nat_cmp n)) left ≡ None → ((m : ℕ) → is_at (nat_cmp n) m ≡ false → lookup (is_at (nat_cmp m)) left ≡ lookup (is_at (nat_cmp m)) es) → IsLeft n (accounts_of es) (accounts_of left)
account_left n es left own others = record {
  own = account_found n left ∙ ap (option_map (λ (x : HeldApp). x.account)) (by_number n left (sym own));
  others = λ m o.
      let other : is_at (nat_cmp n) m ≡ false = ap (λ (t : ℕ → Bool). t m) (is_number n) ∙ grind (arith, nat_tests, o) in
      account_found m left ∙ ap (option_map (λ (x : HeldApp). x.account)) (by_number m left (sym (others m other ∙ ap (λ t. lookup t es) (is_number m)))) ∙ sym (account_found m es);
}

-- one more
pub low_below : (low next : ℕ) (es : List (ℕ × HeldApp)) → AreNumbered low es next → low ≤ next
low_below low next [] h = h
low_below low next (e ∷ es) h = let first = h.0 in let rest = low_below (e.0 + 1) next es h.2 in omega (arith, first, rest)

pub next_absent : (low next : ℕ) (es : List (ℕ × HeldApp)) → AreNumbered low es next → lookup (nat_eq next) es ≡ None
next_absent low next [] h = refl
next_absent low next (e ∷ es) h =
    let below = low_below (e.0 + 1) next es h.2 in
    ap (λ c. cond c (Some e.1) (lookup (nat_eq next) es)) (let b : nat_eq next e.0 ≡ false = grind (arith, nat_tests, below) in b) ∙ next_absent (e.0 + 1) next es h.2

pub numbered_push : (low next : ℕ) (es : List (ℕ × HeldApp)) (x : HeldApp) → AreNumbered low es next → x.app.number ≡ next → AreNumbered low (es ++ (next, x) ∷ []) (next + 1)
numbered_push low next [] x h i = (h, i, omega arith)
numbered_push low next (e ∷ es) x h i = (h.0, h.1, numbered_push (e.0 + 1) next es x h.2 i)

pub apps_push : (es : List (ℕ × HeldApp)) (n : ℕ) (x : HeldApp) → apps_of (es ++ (n, x) ∷ []) ≡ apps_of es ++ x.app ∷ []
apps_push [] n x = refl
apps_push (e ∷ es) n x = ap (λ xs. e.1.app ∷ xs) (apps_push es n x)

own_pushed : (n : ℕ) (es : List (ℕ × HeldApp)) (x : HeldApp) → lookup (nat_eq n) es ≡ None → lookup (nat_eq n) (es ++ (n, x) ∷ []) ≡ Some x
own_pushed n [] x a = let me : nat_eq n n ≡ true = grind (arith, nat_tests) in ap (λ c. cond c (Some x) None) me
own_pushed n (e ∷ es) x a = by (nat_eq n e.0) a (own_pushed n es x)
  where
    by : (b : Bool) → cond b (Some e.1) (lookup (nat_eq n) es) ≡ None → (lookup (nat_eq n) es ≡ None → lookup (nat_eq n) (es ++ (n, x) ∷ []) ≡ Some x) → cond b (Some e.1) (lookup (nat_eq n) (es ++ (n, x) ∷ [])) ≡ Some x
    by true h r = absurd (cc h)
    by false h r = r h

pub other_pushed : {X : Type 0} (m n : ℕ) (es : List (ℕ × X)) (x : X) → m == n ≡ false → lookup (nat_eq m) (es ++ (n, x) ∷ []) ≡ lookup (nat_eq m) es
other_pushed m n [] x o = let no : nat_eq m n ≡ false = grind (arith, nat_tests, o) in ap (λ c. cond c (Some x) None) no
other_pushed m n (e ∷ es) x o = ap (λ r. cond (nat_eq m e.0) (Some e.1) r) (other_pushed m n es x o)

pub account_entered : (n : ℕ) (position : List ℕ) (es new : List (ℕ × HeldApp)) (x : HeldApp) → lookup (nat_eq n) es ≡ None → new ≡ es ++ (n, x) ∷ [] → x.account ≡ new_account position → IsEntered n position (accounts_of es) (accounts_of new)
account_entered n position es new x none is account = rw is (record {
  last = map_push (λ (e : ℕ × HeldApp). (e.0, e.1.account)) es (n, x) ∙ ap (λ a. accounts_of es ++ (n, a) ∷ []) account;
  absent = account_found n es ∙ ap (option_map (λ (h : HeldApp). h.account)) none;
  own = account_found n (es ++ (n, x) ∷ []) ∙ ap (option_map (λ (h : HeldApp). h.account)) (own_pushed n es x none) ∙ ap (λ a. Some a) account;
  others = λ m o. account_found m (es ++ (n, x) ∷ []) ∙ ap (option_map (λ (h : HeldApp). h.account)) (other_pushed m n es x o) ∙ sym (account_found m es);
})

-- the numbers rise
pub numbers_rise : (low next : ℕ) (es : List (ℕ × HeldApp)) → AreNumbered low es next → IsRising low (map (λ (app : App). app.number) (apps_of es)) next
numbers_rise low next [] h = h
numbers_rise low next (e ∷ es) h = let number = h.1 in let first = h.0 in (omega (arith, number, first), rw number (numbers_rise (e.0 + 1) next es h.2))

-- an application of which something is known by its number is there, and has it
pub it_has : (f : Account → ℕ) (n : ℕ) (es : List (ℕ × HeldApp)) (old : HeldApp) → lookup (nat_eq n) es ≡ Some old → option_map_or f (account_of n (accounts_of es)) 0 ≡ f old.account
it_has f n es old found = ap (λ o. option_map_or f o 0) (account_there n es old found)

-- of one that is not there it is nothing
pub it_has_none : (f : Account → ℕ) (n : ℕ) (es : List (ℕ × HeldApp)) → lookup (nat_eq n) es ≡ None → option_map_or f (account_of n (accounts_of es)) 0 ≡ 0
it_has_none f n es none = ap (λ o. option_map_or f o 0) (account_found n es ∙ ap (option_map (λ (x : HeldApp). x.account)) none)

-- one that is there is found
pub none_there : (n next : ℕ) (es : List (ℕ × HeldApp)) → AreNumbered 1 es next → lookup (nat_eq n) es ≡ None → is_some (find (λ (app : App). app.number == n) (apps_of es)) ≡ false
none_there n next es h none = ap is_some (app_found 1 n next es h) ∙ ap (λ o. is_some (option_map (λ (x : HeldApp). x.app) o)) none

-- an application that is put back as it was changes none
pub same_apps : (n : ℕ) (es : List (ℕ × HeldApp)) (old new : HeldApp) → lookup (nat_eq n) es ≡ Some old → new.app ≡ old.app → apps_of (set_value (nat_eq n) es new) ≡ apps_of es
same_apps n [] old new a is = refl
same_apps n (e ∷ es) old new a is = by (nat_eq n e.0) refl (same_apps n es old new)
  where
    by : (b : Bool) → nat_eq n e.0 ≡ b → (lookup (nat_eq n) es ≡ Some old → new.app ≡ old.app → apps_of (set_value (nat_eq n) es new) ≡ apps_of es) → apps_of (cond b ((e.0, new) ∷ es) (e ∷ set_value (nat_eq n) es new)) ≡ e.1.app ∷ apps_of es
    by true b r = ap (λ x. x ∷ apps_of es) (is ∙ ap (λ (o : HeldApp). o.app) (sym (some_is (nat_eq n e.0) e.1 old (lookup (nat_eq n) es) b a)))
    by false b r = ap (λ xs. e.1.app ∷ xs) (r (sym (ap (λ c. cond c (Some e.1) (lookup (nat_eq n) es)) b) ∙ a) is)

-- and those before the last stay numbered without it
pub numbered_front : (low next : ℕ) (es : List (ℕ × HeldApp)) (p : ℕ × HeldApp) → AreNumbered low (es ++ p ∷ []) next → AreNumbered low es p.0 × (p.1.app.number ≡ p.0)
numbered_front low next [] p h = (h.0, h.1)
numbered_front low next (e ∷ es) p h = let r = numbered_front (e.0 + 1) next es p h.2 in ((h.0, h.1, r.0), r.1)
