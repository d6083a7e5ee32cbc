-- What each line sets is within its bounds, and the line and the kind of a first fault.
use Rattle.cap_config.proofs.Prelude.{◌≡◌, ℕ, suc, ◌+◌, ◌≤◌, List, [], ◌∷◌, ◌++◌, length, Bool, true, false, cond, leb, max, min, Option, Some, None, Result, Ok, Err, refl, subst, arith, ◌≢◌, ◌==◌, find, is_none, IfSome, list_all, slice_split, onto_first, option_map, lines, lines_of_parts, nat_tests, list_all-append, length-slice_split, Entry, Key, Value, Setting, Queues, MinimumMemory, MinimumVcores, MinimumGpu, MaximumMemory, MaximumVcores, MaximumGpu, amount_max, ConfigFault, ConfigFaultKind, Repeated, BadValue, NoSuchQueue, OverParent, GuaranteeOverMaximum, TooManyQueues, TooDeep, NoChild, NoMemory, fault_at, key_of, root, contains_bytes, value_of, entry_for, same_setting, entry_of, with_value, with_key, with_parts, line_parts, read_after, read_lines, and_then, is_passed_over, key_text, line_where, cluster_entry, line_or_zero, pair_line, lesser, allocation_line, lists_none, no_child_line, is_astray, lists_deep, listed_by, line_past, is_over_maximum, is_over_parent, or_else, or_fault, shape_fault, whole_fault, first_fault, fault_after, is_bounded, are_bounded, FaultsAreInLines, LinesAreFew, FaultsAreOfText}
use Rattle.cap_config.proofs.Found.{both, found_has}
use Rattle.cap_config.proofs.Kept.{value_kept}

-- the entries are of the first n lines
abbrev are_within : ℕ → List Entry → Bool
are_within n entries = list_all (λ e. leb e.line n) entries

abbrev IsAt : ℕ → Option ℕ → Type 0
IsAt n line = IfSome line (λ l. l ≤ n)

-- a fault at one of the first n lines or at none, of a kind that a text has
pub record IsOfText (n : ℕ) (fault : ConfigFault) : Type 0 where
  pub line : fault.line ≤ n
  pub kind : fault.kind ≢ NoMemory

small : (a n : ℕ) → leb a n ≡ true → a ≤ n
small a n h = grind (arith, nat_tests)

found_line : (n : ℕ) (test : Entry → Bool) (entries : List Entry) (o : Option Entry) → find test entries ≡ o → are_within n entries ≡ true → line_or_zero o ≤ n
found_line n test entries (Some e) is all = small e.line n (found_has test (λ x. leb x.line n) entries e is all).1
found_line n test entries None is all = omega arith

line_of : (n : ℕ) (o : Option Entry) → line_or_zero o ≤ n → IsAt n (option_map (λ e. e.line) o)
line_of n (Some e) h = h
line_of n None h = tt

where_is : (n : ℕ) (test : Entry → Bool) (entries : List Entry) → are_within n entries ≡ true → IsAt n (line_where test entries)
unfolding line_where
where_is n test entries all = line_of n (find test entries) (found_line n test entries (find test entries) refl all)

later_of : (n a b : ℕ) → a ≤ n → b ≤ n → max a b ≤ n
later_of n a b ha hb = grind (arith, nat_tests)

lesser_of : (n a b : ℕ) → a ≤ n → b ≤ n → min a b ≤ n
lesser_of n a b ha hb = grind (arith, nat_tests)

pair_by : (n : ℕ) (over : Bool) (a b : ℕ) → a ≤ n → b ≤ n → IsAt n (cond over (Some (max a b)) None)
pair_by n true a b ha hb = later_of n a b ha hb
pair_by n false a b ha hb = tt

pair_is : (n : ℕ) (entries : List Entry) (least most : Setting) (d e : ℕ) → are_within n entries ≡ true → IsAt n (pair_line (cluster_entry entries least) d (cluster_entry entries most) e)
pair_is n entries least most d e all =
    pair_by n _ (line_or_zero (cluster_entry entries least)) (line_or_zero (cluster_entry entries most))
    (found_line n (λ x. same_setting x.setting least) entries (cluster_entry entries least) refl all)
    (found_line n (λ x. same_setting x.setting most) entries (cluster_entry entries most) refl all)

lesser_is : (n : ℕ) (a b : Option ℕ) → IsAt n a → IsAt n b → IsAt n (lesser a b)
lesser_is n (Some a) (Some b) ha hb = lesser_of n a b ha hb
lesser_is n (Some a) None ha hb = ha
lesser_is n None b ha hb = hb

allocation_is : (n : ℕ) (entries : List Entry) → are_within n entries ≡ true → IsAt n (allocation_line entries)
unfolding allocation_line
allocation_is n entries all =
    lesser_is n _ _ (pair_is n entries MinimumMemory MaximumMemory 1024 8192 all)
    (lesser_is n _ _ (pair_is n entries MinimumVcores MaximumVcores 1 4 all) (pair_is n entries MinimumGpu MaximumGpu 0 amount_max all))

childless_by : (n : ℕ) (none : Bool) (line : Option ℕ) → IsAt n line → IsAt n (cond none (Some 0) line)
childless_by n true line h = omega arith
childless_by n false line h = h

childless_is : (n : ℕ) (entries : List Entry) → are_within n entries ≡ true → IsAt n (no_child_line entries)
unfolding no_child_line
childless_is n entries all = childless_by n (is_none (entry_for entries Queues root)) (line_where lists_none entries) (where_is n lists_none entries all)

past_by : (n : ℕ) (over : Bool) (line : ℕ) (later : Option ℕ) → line ≤ n → IsAt n later → IsAt n (cond over (Some line) later)
past_by n true line later h rest = h
past_by n false line later h rest = rest

past_is : (n count : ℕ) (entries : List Entry) → are_within n entries ≡ true → IsAt n (line_past count entries)
unfolding line_past
past_is n count [] all = tt
past_is n count (e ∷ entries) all =
    let parts = both (leb e.line n) (are_within n entries) all in
    past_by n _ e.line _ (small e.line n parts.0) (past_is n (count + listed_by e.value) entries parts.1)

or_is : (n : ℕ) (line : Option ℕ) (kind : ConfigFaultKind) (other : Option ConfigFault) → IsAt n line → kind ≢ NoMemory → IfSome other (IsOfText n) → IfSome (or_else line kind other) (IsOfText n)
or_is n (Some line) kind other at of rest = record { line = at; kind = of }
or_is n None kind other at of rest = rest

shape_is : (n : ℕ) (entries : List Entry) → are_within n entries ≡ true → IfSome (shape_fault entries) (IsOfText n)
unfolding shape_fault
shape_is n entries all =
    or_is n _ BadValue _ (allocation_is n entries all) (λ e. absurd (cc e))
    (or_is n _ NoChild _ (childless_is n entries all) (λ e. absurd (cc e))
    (or_is n _ NoSuchQueue _ (where_is n (is_astray entries) entries all) (λ e. absurd (cc e))
    (or_is n _ TooDeep _ (where_is n lists_deep entries all) (λ e. absurd (cc e))
    (or_is n _ TooManyQueues _ (past_is n 1 entries all) (λ e. absurd (cc e))
    (or_is n _ GuaranteeOverMaximum None (where_is n (is_over_maximum entries) entries all) (λ e. absurd (cc e)) tt)))))

or_fault_is : (n : ℕ) (a b : Option ConfigFault) → IfSome a (IsOfText n) → IfSome b (IsOfText n) → IfSome (or_fault a b) (IsOfText n)
or_fault_is n (Some fault) b ha hb = ha
or_fault_is n None b ha hb = hb

whole_is : (n : ℕ) (entries : List Entry) → are_within n entries ≡ true → IfSome (whole_fault entries) (IsOfText n)
unfolding whole_fault
whole_is n entries all =
    or_fault_is n (shape_fault entries) _ (shape_is n entries all) (or_is n _ OverParent None (where_is n (is_over_parent entries) entries all) (λ e. absurd (cc e)) tt)

its_fault : (n : ℕ) (r : Option ConfigFault) (fault : ConfigFault) → r ≡ Some fault → IfSome r (IsOfText n) → IsOfText n fault
its_fault n r fault e is = subst (λ (o : Option ConfigFault). IfSome o (IsOfText n)) e is

within_more : (n k : ℕ) (entries : List Entry) → are_within n entries ≡ true → are_within (k + n) entries ≡ true
within_more n k [] all = refl
within_more n k (e ∷ entries) all =
    let parts = both (leb e.line n) (are_within n entries) all in
    let here : leb e.line (k + n) ≡ true = grind (arith, nat_tests, parts.0) in
    rw (here, within_more n k entries parts.1) refl

within_some : (entries : List Entry) → (n : ℕ) × (are_within n entries ≡ true)
within_some [] = (0, refl)
within_some (e ∷ entries) =
    let rest = within_some entries in
    let here : leb e.line (e.line + rest.0) ≡ true = grind (arith, nat_tests) in
    (e.line + rest.0, rw (here, within_more rest.0 e.line entries rest.1) refl)

-- a fault of the whole text is never want of memory
pub whole_of_text : (entries : List Entry) (fault : ConfigFault) → whole_fault entries ≡ Some fault → fault.kind ≢ NoMemory
whole_of_text entries fault h =
    let within = within_some entries in
    (its_fault within.0 (whole_fault entries) fault h (whole_is within.0 entries within.1)).kind

-- what line n sets, within its bounds, or the line's fault
abbrev pub IsOfLine : ℕ → Result Entry ConfigFault → Type 0
IsOfLine n (Ok entry) = (entry.line ≡ n) × (is_bounded entry ≡ true)
IsOfLine n (Err fault) = (fault.line ≡ n) × (fault.kind ≢ NoMemory)

value_is : (n : ℕ) (key : Key) (bytes : List ℕ) (o : Option Value) → value_of key bytes ≡ o → IsOfLine n (with_value n key o)
value_is n key bytes (Some value) is = (refl, value_kept key.queue key.setting bytes value is)
value_is n key bytes None is = (refl, λ e. absurd (cc e))

unless_is : (n : ℕ) (stood : Bool) (here : Result Entry ConfigFault) → IsOfLine n here → IsOfLine n (cond stood (Err (fault_at n Repeated)) here)
unless_is n true here h = (refl, λ e. absurd (cc e))
unless_is n false here h = h

key_is : (keys : List (List ℕ)) (n : ℕ) (name bytes : List ℕ) (o : Option Key) → IsOfLine n (with_key keys n name bytes o)
key_is keys n name bytes (Some key) = unless_is n (contains_bytes keys name) _ (value_is n key bytes (value_of key bytes) refl)
key_is keys n name bytes None = (refl, λ e. absurd (cc e))

parts_is : (keys : List (List ℕ)) (n : ℕ) (o : Option (List ℕ × List ℕ)) → IsOfLine n (with_parts keys n o)
parts_is keys n (Some parts) = key_is keys n parts.0 parts.1 (key_of parts.0)
parts_is keys n None = (refl, λ e. absurd (cc e))

pub entry_is : (keys : List (List ℕ)) (n : ℕ) (line : List ℕ) → IsOfLine n (entry_of keys n line)
unfolding entry_of
entry_is keys n line = parts_is keys n (line_parts line)

-- what n lines set, within its bounds, or the first fault of one of them
abbrev IsOfLines : ℕ → Result (List Entry) ConfigFault → Type 0
IsOfLines n (Ok entries) = (are_within n entries ≡ true) × (are_bounded entries ≡ true)
IsOfLines n (Err fault) = IsOfText n fault

weaker : (n m : ℕ) (fault : ConfigFault) → n ≤ m → fault.line ≡ n → fault.kind ≢ NoMemory → IsOfText m fault
weaker n m fault h l k = record { line = omega (arith, l, h); kind = k }

by_line : (n m : ℕ) (passed : Bool) (later : Result (List Entry) ConfigFault) (here : Result Entry ConfigFault) (next : Entry → Result (List Entry) ConfigFault) → n ≤ m →
    IsOfLines m later → IsOfLine n here → ((entry : Entry) → IsOfLine n (Ok entry) → IsOfLines m (next entry)) → IsOfLines m (cond passed later (and_then here next))
by_line n m true later here next h rest is more = rest
by_line n m false later (Ok entry) next h rest is more = more entry is
by_line n m false later (Err fault) next h rest is more = weaker n m fault h is.0 is.1

all_push : (p : Entry → Bool) (entries : List Entry) (entry : Entry) → list_all p entries ≡ true → p entry ≡ true → list_all p (entries ++ entry ∷ []) ≡ true
all_push p entries entry all one = rw (list_all-append p entries (entry ∷ []), all, one) refl

line_within : (n m line : ℕ) → line ≡ n → n ≤ m → leb line m ≡ true
line_within n m line is h = grind (arith, nat_tests)

read_is : (lines : List (List ℕ)) (n m : ℕ) (keys : List (List ℕ)) (entries : List Entry) → n + length lines ≡ m → IsOfLines m (Ok entries) → IsOfLines m (read_after n keys entries lines)
unfolding read_after
read_is [] n m keys entries e all = all
read_is (line ∷ lines) n m keys entries e all =
    let here : n + 1 ≤ m = omega (arith, e) in
    by_line (n + 1) m (is_passed_over line) _ (entry_of keys (n + 1) line) _ here
    (read_is lines (n + 1) m keys entries (omega (arith, e)) all)
    (entry_is keys (n + 1) line)
    (λ entry is.
    read_is lines (n + 1) m (keys ++ key_text line ∷ []) (entries ++ entry ∷ []) (omega (arith, e))
    (all_push (λ (x : Entry). leb x.line m) entries entry all.0 (line_within (n + 1) m entry.line is.0 here), all_push is_bounded entries entry all.1 is.1))

all_is : (lines : List (List ℕ)) → IsOfLines (length lines) (read_lines lines)
all_is lines = read_is lines 0 (length lines) [] [] (omega arith) (refl, refl)

-- what the lines of a text set is within its bounds
pub lines_kept : (lines : List (List ℕ)) (entries : List Entry) → read_lines lines ≡ Ok entries → are_bounded entries ≡ true
lines_kept lines entries h = (subst (IsOfLines (length lines)) h (all_is lines)).1

fault_is : (n : ℕ) (r : Result (List Entry) ConfigFault) → IsOfLines n r → IfSome (fault_after r) (IsOfText n)
fault_is n (Ok entries) all = whole_is n entries all.0
fault_is n (Err fault) is = is

first_is : (text : List ℕ) → IfSome (first_fault text) (IsOfText (length (lines text)))
unfolding first_fault
first_is text = fault_is (length (lines text)) (read_lines (lines text)) (all_is (lines text))

pub faults_in_lines : FaultsAreInLines
faults_in_lines text fault e = (its_fault (length (lines text)) (first_fault text) fault e (first_is text)).line

pub faults_of_text : FaultsAreOfText
faults_of_text text fault e = (its_fault (length (lines text)) (first_fault text) fault e (first_is text)).kind

one_line : (none : Bool) (line : List ℕ) (n : ℕ) → length (cond none [] (line ∷ [])) ≤ suc n
one_line true line n = omega arith
one_line false line n = omega arith

-- one more byte makes at most one line more
more_lines : (feed : Bool) (b n : ℕ) (parts : List (List ℕ)) → 1 ≤ length parts → length (lines_of_parts parts) ≤ n → length (lines_of_parts (cond feed ([] ∷ parts) (onto_first b parts))) ≤ suc n
more_lines feed b n [] some h = absurd (omega (arith, some))
more_lines true b n (part ∷ []) some h = omega (arith, h)
more_lines true b n (part ∷ next ∷ parts) some h = omega (arith, h)
more_lines false b n (part ∷ []) some h = one_line (length (b ∷ part) == 0) (b ∷ part) n
more_lines false b n (part ∷ next ∷ parts) some h = omega (arith, h)

pub lines_few : LinesAreFew
lines_few [] = omega arith
lines_few (b ∷ text) =
    more_lines _ b (length text) (slice_split (λ c. c == 10) text) (omega (arith, length-slice_split (λ c. c == 10) text)) (lines_few text)
