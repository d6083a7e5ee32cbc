-- What is known of the entry that is found for a queue.
use Rattle.cap_config.proofs.Prelude.{◌≡◌, ℕ, List, [], ◌∷◌, Bool, true, false, cond, not, eqb, Option, Some, None, refl, subst, ap, suc, ◌∙◌, ◌+◌, ◌<◌, ◌≤◌, length, length-append, get_or, ltb, leb, arith, find, ◌&&◌, ◌||◌, if◌then◌else◌, ◌==◌, list_all, option_map, bytes_eq, same_Some, bytes_eq-Decides, nat_tests, list_all-append, AllPass-from_list_all, eqb-true, not-true, amount_max, applications_max, factor_max, is_text, is_graphic, Entry, Value, Names, Number, Queues, MaximumApplications, UserLimitFactor, Setting, is_name_under, are_new, contains_bytes, setting_number, child, entry_for, is_entry_for, is_path_at, same_setting, names_below, names_or_none, names_in_value, cluster_entry, number_or, number_in, line_where, too_deep_line, lists_deep, is_deep, level, factor, most_of, is_kept, is_bounded, are_bounded, are_under}

pub same_bytes : (a b : List ℕ) → bytes_eq a b ≡ true → a ≡ b
same_bytes a b h = (bytes_eq-Decides a b).0 h

pub both : (a b : Bool) → (a && b) ≡ true → (a ≡ true) × (b ≡ true)
both true b h = (refl, h)
both false b h = absurd (cc h)

found_by : (test p : Entry → Bool) (e entry : Entry) (here : Bool) (rest : Option Entry) (C : Type 0) → test e ≡ here → cond here (Some e) rest ≡ Some entry →
    (e ≡ entry → test entry ≡ true → C) → (rest ≡ Some entry → C) → C
found_by test p e entry true rest C is h this later = this (same_Some _ _ h) (subst (λ (x : Entry). test x ≡ true) (same_Some _ _ h) is)
found_by test p e entry false rest C is h this later = later h

-- an entry that is found passes, and has what all have
pub found_has : (test p : Entry → Bool) (entries : List Entry) (entry : Entry) → find test entries ≡ Some entry → list_all p entries ≡ true → (test entry ≡ true) × (p entry ≡ true)
found_has test p [] entry h all = absurd (cc h)
found_has test p (e ∷ entries) entry h all =
    let parts = both (p e) (list_all p entries) all in
    found_by test p e entry (test e) (find test entries) ((test entry ≡ true) × (p entry ≡ true)) refl h
    (λ is passes. (passes, subst (λ (x : Entry). p x ≡ true) is parts.0))
    (λ later. found_has test p entries entry later parts.1)

-- a list that is found for a path is in an entry for it
pub names_at : (same : Bool) (queue : Option (List ℕ)) (path : List ℕ) → is_path_at (cond same queue None) path ≡ true → queue ≡ Some path
names_at true (Some p) path h = ap Some (same_bytes p path h)
names_at _ _ path h = absurd (cc h)

under_in : (most : ℕ) (value : Value) (queue : Option (List ℕ)) (path : List ℕ) → queue ≡ Some path → is_kept most value queue ≡ true →
    (list_all (is_name_under path) (names_in_value value) && are_new [] (names_in_value value)) ≡ true
under_in most (Names names) queue path e h = subst (λ (q : Option (List ℕ)). are_under q names ≡ true) e h
under_in most _ queue path e h = refl

under_at : (entries : List Entry) (path : List ℕ) (o : Option Entry) → entry_for entries Queues path ≡ o → are_bounded entries ≡ true →
    (list_all (is_name_under path) (names_or_none o) && are_new [] (names_or_none o)) ≡ true
unfolding entry_for
under_at entries path (Some entry) is all =
    let has = found_has (is_entry_for Queues path) is_bounded entries entry is all in
    under_in (most_of entry.setting) entry.value entry.queue path (names_at (same_setting entry.setting Queues) entry.queue path has.0) has.1
under_at entries path None is all = refl

-- the names that a queue lists make paths below it
pub under_path : (entries : List Entry) (path : List ℕ) → are_bounded entries ≡ true → list_all (is_name_under path) (names_below entries path) ≡ true
under_path entries path all = (both _ (are_new [] (names_below entries path)) (under_at entries path (entry_for entries Queues path) refl all)).0

-- each of them once
pub names_once : (entries : List Entry) (path : List ℕ) → are_bounded entries ≡ true → are_new [] (names_below entries path) ≡ true
names_once entries path all = (both (list_all (is_name_under path) (names_below entries path)) _ (under_at entries path (entry_for entries Queues path) refl all)).1

among_by : (p : List ℕ → Bool) (n name : List ℕ) (here rest : Bool) → bytes_eq n name ≡ here → p n ≡ true → (rest ≡ true → p name ≡ true) → (here || rest) ≡ true → p name ≡ true
among_by p n name true rest is passes later h = subst (λ (x : List ℕ). p x ≡ true) (same_bytes n name is) passes
among_by p n name false rest is passes later h = later h

-- what all names have
pub among_has : (p : List ℕ → Bool) (names : List (List ℕ)) (name : List ℕ) → list_all p names ≡ true → contains_bytes names name ≡ true → p name ≡ true
among_has p [] name all h = absurd (cc h)
among_has p (n ∷ names) name all h =
    let parts = both (p n) (list_all p names) all in
    among_by p n name (bytes_eq n name) (contains_bytes names name) refl parts.0 (λ later. among_has p names name parts.1 later) h

nowhere_by : (test : Entry → Bool) (e : Entry) (here : Bool) (found : Option Entry) → test e ≡ here → option_map (λ x. x.line) (cond here (Some e) found) ≡ None →
    (not (test e) ≡ true) × (option_map (λ x. x.line) found ≡ None)
nowhere_by test e true found is h = absurd (cc h)
nowhere_by test e false found is h = (ap not is, h)

-- no entry passes a test that finds no line
pub nowhere_all : (test : Entry → Bool) (entries : List Entry) → line_where test entries ≡ None → list_all (λ e. not (test e)) entries ≡ true
unfolding line_where
nowhere_all test [] h = refl
nowhere_all test (e ∷ entries) h =
    let parts = nowhere_by test e (test e) (find test entries) refl h in
    rw (parts.0, nowhere_all test entries parts.1) refl

deep_in : (value : Value) (queue : Option (List ℕ)) (path name : List ℕ) → queue ≡ Some path → not (is_deep queue value) ≡ true → contains_bytes (names_in_value value) name ≡ true → eqb (level path) 16 ≡ false
deep_in (Names names) queue path name e h in_list =
    let no : not (is_deep (Some path) (Names names)) ≡ true = subst (λ (q : Option (List ℕ)). not (is_deep q (Names names)) ≡ true) e h in
    not-true (eqb (level path) 16) no
deep_in _ queue path name e h in_list = absurd (cc in_list)

deep_at : (entries : List Entry) (path name : List ℕ) (o : Option Entry) → entry_for entries Queues path ≡ o → too_deep_line entries ≡ None → contains_bytes (names_or_none o) name ≡ true → eqb (level path) 16 ≡ false
unfolding entry_for
deep_at entries path name (Some entry) is none in_list =
    let has = found_has (is_entry_for Queues path) (λ e. not (lists_deep e)) entries entry is (nowhere_all lists_deep entries none) in
    deep_in entry.value entry.queue path name (names_at (same_setting entry.setting Queues) entry.queue path has.0) has.1 in_list
deep_at entries path name None is none in_list = absurd (cc in_list)

-- where no line lists queues too deep, a queue that lists one is not on the last level
pub not_deepest : (entries : List Entry) (path name : List ℕ) → too_deep_line entries ≡ None → contains_bytes (names_below entries path) name ≡ true → eqb (level path) 16 ≡ false
not_deepest entries path name none in_list = deep_at entries path name (entry_for entries Queues path) refl none in_list

number_in_kept : (most : ℕ) (value : Value) (queue : Option (List ℕ)) (default : ℕ) → is_kept most value queue ≡ true → default ≤ most → number_in default value ≤ most
number_in_kept most (Number n) queue default kept small = grind (arith, nat_tests)
number_in_kept most _ queue default kept small = small

most_is : (a b : Setting) → same_setting a b ≡ true → most_of a ≡ most_of b
most_is a b h =
    ap (λ n. if n == setting_number MaximumApplications then applications_max else if n == setting_number UserLimitFactor then factor_max else amount_max) (eqb-true (setting_number a) (setting_number b) h)

number_of_entry : (setting : Setting) (default : ℕ) (entry : Entry) → same_setting entry.setting setting ≡ true → is_bounded entry ≡ true → default ≤ most_of setting → number_in default entry.value ≤ most_of setting
number_of_entry setting default entry same kept small =
    number_in_kept (most_of setting) entry.value entry.queue default (subst (λ (most : ℕ). is_kept most entry.value entry.queue ≡ true) (most_is entry.setting setting same) kept) small

number_at : (entries : List Entry) (setting : Setting) (default : ℕ) (o : Option Entry) → cluster_entry entries setting ≡ o → are_bounded entries ≡ true → default ≤ most_of setting → number_or o default ≤ most_of setting
number_at entries setting default (Some entry) is all small =
    let has = found_has (λ e. same_setting e.setting setting) is_bounded entries entry is all in
    number_of_entry setting default entry has.0 has.1 small
number_at entries setting default None is all small = small

-- a number that a line sets is at most the greatest for its setting, where the one that stands else is
pub number_small : (entries : List Entry) (setting : Setting) (default n : ℕ) → are_bounded entries ≡ true → default ≤ most_of setting → n ≡ number_or (cluster_entry entries setting) default → n ≤ most_of setting
number_small entries setting default n all small e =
    let within : number_or (cluster_entry entries setting) default ≤ most_of setting = number_at entries setting default (cluster_entry entries setting) refl all small in
    rw e within

set_for : (same : Bool) (queue : Option (List ℕ)) (path : List ℕ) → is_path_at (cond same queue None) path ≡ true → same ≡ true
set_for true queue path h = refl
set_for false queue path h = absurd (cc h)

factor_at : (entries : List Entry) (path : List ℕ) (o : Option Entry) → entry_for entries UserLimitFactor path ≡ o → are_bounded entries ≡ true → number_or o 1 ≤ factor_max
unfolding entry_for
factor_at entries path (Some entry) is all =
    let has = found_has (is_entry_for UserLimitFactor path) is_bounded entries entry is all in
    number_of_entry UserLimitFactor 1 entry (set_for (same_setting entry.setting UserLimitFactor) entry.queue path has.0) has.1 (omega arith)
factor_at entries path None is all = omega arith

-- a user limit factor is at most the greatest
pub factor_small : (entries : List Entry) (path : List ℕ) → are_bounded entries ≡ true → factor entries path ≤ factor_max
factor_small entries path all = factor_at entries path (entry_for entries UserLimitFactor path) refl all

graphic_child : (path name : List ℕ) → list_all is_graphic path ≡ true → list_all is_graphic name ≡ true → list_all is_graphic (child path name) ≡ true
graphic_child path name p n = rw (list_all-append is_graphic path (46 ∷ name), p, n) refl

length_child : (path name : List ℕ) → length (child path name) ≡ length path + 1 + length name
length_child path name = length-append path (46 ∷ name) ∙ (let e : length path + suc (length name) ≡ length path + 1 + length name = omega arith in e)

fits_more : (p n : ℕ) → leb (p + 1 + n) 255 ≡ true → (ltb 0 (p + 1 + n) && leb (p + 1 + n) 255) ≡ true
fits_more p n h = grind (arith, nat_tests)

-- the path of a queue below another is a path
pub child_is_text : (path name : List ℕ) → is_text 255 path ≡ true → is_name_under path name ≡ true → is_text 255 (child path name) ≡ true
child_is_text path name p under =
    let named = both _ (leb (length path + 1 + length name) 255) under in
    let graphic : list_all is_graphic (child path name) ≡ true = graphic_child path name (both _ _ p).1 (both _ _ (both _ _ named.0).0).1 in
    let long : (ltb 0 (length (child path name)) && leb (length (child path name)) 255) ≡ true = rw (length_child path name) (fits_more (length path) (length name) named.1) in
    rw (long, graphic) refl

-- so is that of each name that a queue lists
pub path_below : (entries : List Entry) (path : List ℕ) (names : List (List ℕ)) (name : List ℕ) (i : ℕ) → are_bounded entries ≡ true → is_text 255 path ≡ true → names_below entries path ≡ names →
    i < length names → name ≡ get_or names i name → is_text 255 (child path name) ≡ true
path_below entries path names name i all p here h is =
    let under : list_all (is_name_under path) names ≡ true = subst (λ (ns : List (List ℕ)). list_all (is_name_under path) ns ≡ true) here (under_path entries path all) in
    let this : is_name_under path name ≡ true = ap (is_name_under path) is ∙ AllPass-from_list_all (is_name_under path) names under i name h in
    child_is_text path name p this
