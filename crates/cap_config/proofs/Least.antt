-- The queues are the least tree.
use Rattle.cap_config.proofs.Prelude.{◌≡◌, ℕ, zero, suc, ◌+◌, ◌<◌, ◌≤◌, List, length, Bool, true, false, eqb, Option, Some, None, Ok, refl, sym, ap, ◌∙◌, arith, subst, ◌&&◌, lines, nat_tests, Entry, root, parts_at_last_dot, contains_bytes, is_name_under, is_queue, leads_to_root, above, names_below, child, too_deep_line, level, read_lines, are_bounded, HasListed}
use Rattle.cap_config.proofs.Above.{parent_is, no_parent}
use Rattle.cap_config.proofs.Trees.{queue_at_top}
use Rattle.cap_config.proofs.FaultLines.{lines_kept}
use Rattle.cap_config.proofs.Found.{both, same_bytes, under_path, among_has, not_deepest}
use Rattle.cap_config.proofs.Children.{IsCutAt, cut_is, child_parts, level_below, name_no_dot}

-- a path with a queue above it is a queue where that lists it and is one
pub queue_below : (entries : List Entry) (path parent name : List ℕ) → parts_at_last_dot path ≡ Some (parent, name) →
    is_queue entries path ≡ (contains_bytes (names_below entries parent) name && is_queue entries parent)
queue_below entries path parent name parts = ap (leads_to_root entries path) (parent_is path parent name parts).above ∙ rw parts refl

queue_on_top : (entries : List Entry) (path : List ℕ) → parts_at_last_dot path ≡ None → is_queue entries path ≡ true → path ≡ root
queue_on_top entries path parts h = same_bytes path root (sym (queue_at_top entries path (no_parent path parts)) ∙ h)

-- one step from a queue to the one above it
step_up : (entries : List Entry) (C : List ℕ → Type 0) → C root →
    ((path name : List ℕ) → is_queue entries path ≡ true → contains_bytes (names_below entries path) name ≡ true → IsCutAt (child path name) path name → C path → C (child path name)) →
    (path : List ℕ) (o : Option (List ℕ × List ℕ)) → parts_at_last_dot path ≡ o → ((parent : List ℕ) → length parent < length path → is_queue entries parent ≡ true → C parent) →
    is_queue entries path ≡ true → C path
step_up entries C top below path (Some parts) is above h =
    let cut = cut_is path parts.0 parts.1 is in
    let here = both (contains_bytes (names_below entries parts.0) parts.1) (is_queue entries parts.0) (sym (queue_below entries path parts.0 parts.1 is) ∙ h) in
    let shorter : length parts.0 < length path = (parent_is path parts.0 parts.1 is).shorter in
    subst C (sym cut.whole) (below parts.0 parts.1 here.1 here.0 (record { whole = refl; dotless = cut.dotless }) (above parts.0 shorter here.1))
step_up entries C top below path None is above h = subst C (sym (queue_on_top entries path is h)) top

up_to : (entries : List Entry) (C : List ℕ → Type 0) → C root →
    ((path name : List ℕ) → is_queue entries path ≡ true → contains_bytes (names_below entries path) name ≡ true → IsCutAt (child path name) path name → C path → C (child path name)) →
    (n : ℕ) (path : List ℕ) → length path ≤ n → is_queue entries path ≡ true → C path
up_to entries C top below zero path short h = step_up entries C top below path (parts_at_last_dot path) refl (λ parent less q. absurd (omega arith)) h
up_to entries C top below (suc n) path short h = step_up entries C top below path (parts_at_last_dot path) refl (λ parent less q. up_to entries C top below n parent (omega arith) q) h

-- what holds of `root`, and of what a queue lists where it holds of the queue, holds of all queues
pub of_queues : (entries : List Entry) (C : List ℕ → Type 0) → C root →
    ((path name : List ℕ) → is_queue entries path ≡ true → contains_bytes (names_below entries path) name ≡ true → IsCutAt (child path name) path name → C path → C (child path name)) →
    (path : List ℕ) → is_queue entries path ≡ true → C path
of_queues entries C top below path h = up_to entries C top below (length path) path (omega arith) h

-- a name that a queue lists is a queue
pub listed_is : (entries : List Entry) (path name : List ℕ) → are_bounded entries ≡ true → is_queue entries path ≡ true → contains_bytes (names_below entries path) name ≡ true → is_queue entries (child path name) ≡ true
listed_is entries path name all h in_list =
    let under = among_has (is_name_under path) (names_below entries path) name (under_path entries path all) in_list in
    queue_below entries (child path name) path name (child_parts path name (name_no_dot path name under)) ∙ rw (in_list, h) refl

pub root_is : (entries : List Entry) → is_queue entries root ≡ true
unfolding root above
root_is entries = refl

pub least_tree : (text : List ℕ) (entries : List Entry) → read_lines (lines text) ≡ Ok entries →
    HasListed entries (is_queue entries) × ((has : List ℕ → Bool) → HasListed entries has → (path : List ℕ) → is_queue entries path ≡ true → has path ≡ true)
least_tree text entries is =
    let all = lines_kept (lines text) entries is in (
      record { top = root_is entries; below = λ path name h in_list. listed_is entries path name all h in_list },
      λ has tree path h. of_queues entries (λ p. has p ≡ true) tree.top (λ p name q in_list cut here. tree.below p name here in_list) path h,
    )

root_level : level root ≤ 16
unfolding root
root_level = omega arith

deeper : (n m : ℕ) → n ≡ m + 1 → m ≤ 16 → eqb m 16 ≡ false → n ≤ 16
deeper n m e h not_last = grind (arith, nat_tests)

pub level_small : (entries : List Entry) → too_deep_line entries ≡ None → (path : List ℕ) → is_queue entries path ≡ true → level path ≤ 16
level_small entries none path h =
    of_queues entries (λ p. level p ≤ 16) root_level
    (λ p name q in_list cut small. deeper (level (child p name)) (level p) (level_below (child p name) p name cut) small (not_deepest entries p name none in_list))
    path h
