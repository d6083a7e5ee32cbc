-- The line past which there are too many queues, entry by entry, and the first that lists none.
use Rattle.cap_config.proofs.Prelude.{◌≡◌, ℕ, suc, ◌+◌, ◌<◌, ◌≤◌, List, ◌∷◌, length, get_or, drop, drop-cons, Bool, true, false, ltb, Option, Some, None, refl, sym, ap, ◌∙◌, add-one, Entry, drop_all, is_none, option_copied, Queues, root, entry_for, line_where, line_past, listed_by, no_child_line, lists_none}
use denote.Ref.{Bor}

here_first : (test : Entry → Bool) (entries : List Entry) (i : ℕ) (entry : Entry) → i < length entries → entry ≡ get_or entries i entry →
    drop i entries ≡ entry ∷ drop (i + 1) entries
here_first test entries i entry h is = drop-cons entries i entry h ∙ ap (λ (x : Entry). x ∷ drop (suc i) entries) (sym is) ∙ ap (λ n. entry ∷ drop n entries) (sym (add-one i))

pub past_here : (count n : ℕ) (entries : List Entry) (i : ℕ) (entry : Entry) → i < length entries → entry ≡ get_or entries i entry → n ≡ count + listed_by entry.value → ltb 1024 n ≡ true →
    line_past count (drop i entries) ≡ Some entry.line
unfolding line_past
past_here count n entries i entry h is e passes = ap (line_past count) (here_first (λ _. true) entries i entry h is) ∙ rw (← e, passes) refl

pub past_later : (count n : ℕ) (entries : List Entry) (i : ℕ) (entry : Entry) → i < length entries → entry ≡ get_or entries i entry → n ≡ count + listed_by entry.value → ltb 1024 n ≡ false →
    line_past count (drop i entries) ≡ line_past n (drop (i + 1) entries)
unfolding line_past
past_later count n entries i entry h is e fails = ap (line_past count) (here_first (λ _. true) entries i entry h is) ∙ rw (← e, fails) refl

pub past_nowhere : (count : ℕ) (entries : List Entry) (i : ℕ) → length entries ≤ i → line_past count (drop i entries) ≡ None
unfolding line_past
past_nowhere count entries i h = ap (line_past count) (drop_all i entries h)

pub childless_root : (entries : List Entry) (found : Option (Bor Entry)) → option_copied found ≡ entry_for entries Queues root → found ≡ None → no_child_line entries ≡ Some 0
unfolding no_child_line
childless_root entries found is h =
    let missing : is_none (entry_for entries Queues root) ≡ true = ap is_none (sym is) ∙ ap (λ (o : Option (Bor Entry)). is_none (option_copied o)) h in
    rw missing refl

pub childless_later : (entries : List Entry) (found : Option (Bor Entry)) (entry : Bor Entry) → option_copied found ≡ entry_for entries Queues root → found ≡ Some entry →
    no_child_line entries ≡ line_where lists_none entries
unfolding no_child_line
childless_later entries found entry is h =
    let there : is_none (entry_for entries Queues root) ≡ false = ap is_none (sym is) ∙ ap (λ (o : Option (Bor Entry)). is_none (option_copied o)) h in
    rw there refl
