-- A line after those before.
use Rattle.cap_config.proofs.Prelude.{◌≡◌, ℕ, ◌+◌, List, [], ◌∷◌, ◌++◌, length, true, false, Some, None, Result, Ok, Err, refl, sym, ap, ◌∙◌, append_assoc, length-append, arith, lines, Entry, Key, Value, ConfigFault, ConfigFaultKind, BadLine, UnknownKey, Repeated, BadValue, NoMemory, fault_at, FailsBy, key_of, contains_bytes, value_of, line_parts, entry_of, is_passed_over, read_after, read_lines, key_text}

pub entry_no_parts : (keys : List (List ℕ)) (n : ℕ) (line : List ℕ) → line_parts line ≡ None → entry_of keys n line ≡ Err (fault_at n BadLine)
unfolding entry_of
entry_no_parts keys n line h = rw h refl

pub entry_no_key : (keys : List (List ℕ)) (n : ℕ) (line name value : List ℕ) → line_parts line ≡ Some (name, value) → key_of name ≡ None → entry_of keys n line ≡ Err (fault_at n UnknownKey)
unfolding entry_of
entry_no_key keys n line name value h k = rw (h, k) refl

pub entry_repeated : (keys : List (List ℕ)) (n : ℕ) (line name value : List ℕ) (key : Key) → line_parts line ≡ Some (name, value) → key_of name ≡ Some key → contains_bytes keys name ≡ true →
    entry_of keys n line ≡ Err (fault_at n Repeated)
unfolding entry_of
entry_repeated keys n line name value key h k stood = rw (h, k, stood) refl

pub entry_no_value : (keys : List (List ℕ)) (n : ℕ) (line name value : List ℕ) (key : Key) → line_parts line ≡ Some (name, value) → key_of name ≡ Some key → contains_bytes keys name ≡ false →
    value_of key value ≡ None → entry_of keys n line ≡ Err (fault_at n BadValue)
unfolding entry_of
entry_no_value keys n line name value key h k stood v = rw (h, k, stood, v) refl

pub entry_good : (keys : List (List ℕ)) (n : ℕ) (line name value : List ℕ) (key : Key) (is : Value) → line_parts line ≡ Some (name, value) → key_of name ≡ Some key → contains_bytes keys name ≡ false →
    value_of key value ≡ Some is → entry_of keys n line ≡ Ok (record { line = n; queue = key.queue; setting = key.setting; value = is })
unfolding entry_of
entry_good keys n line name value key is h k stood v = rw (h, k, stood, v) refl

pub after_passed : (n : ℕ) (keys : List (List ℕ)) (entries : List Entry) (line : List ℕ) (more : List (List ℕ)) → is_passed_over line ≡ true →
    read_after n keys entries (line ∷ more) ≡ read_after (n + 1) keys entries more
unfolding read_after
after_passed n keys entries line more h = rw h refl

pub after_entry : (n : ℕ) (keys : List (List ℕ)) (entries : List Entry) (line : List ℕ) (more : List (List ℕ)) (entry : Entry) → is_passed_over line ≡ false → entry_of keys (n + 1) line ≡ Ok entry →
    read_after n keys entries (line ∷ more) ≡ read_after (n + 1) (keys ++ key_text line ∷ []) (entries ++ entry ∷ []) more
unfolding read_after
after_entry n keys entries line more entry h is = rw (h, is) refl

pub after_fault : (n : ℕ) (keys : List (List ℕ)) (entries : List Entry) (line : List ℕ) (more : List (List ℕ)) (fault : ConfigFault) → is_passed_over line ≡ false → entry_of keys (n + 1) line ≡ Err fault →
    read_after n keys entries (line ∷ more) ≡ Err fault
unfolding read_after
after_fault n keys entries line more fault h is = rw (h, is) refl

pub after_all : (n : ℕ) (keys : List (List ℕ)) (entries : List Entry) → read_after n keys entries [] ≡ Ok entries
unfolding read_after
after_all n keys entries = refl

pub lines_none : (text : List ℕ) → length text ≡ 0 → lines text ≡ []
lines_none [] h = refl
lines_none (b ∷ text) h = absurd (omega arith)

-- the lines of a text so far, and what they set
pub record SoFar (text rest : List (List ℕ)) (n : ℕ) (keys : List (List ℕ)) (entries : List Entry) : Type 0 where
  pub before : List (List ℕ)
  pub cut : text ≡ before ++ rest
  pub count : length before ≡ n
  pub read : (more : List (List ℕ)) → read_lines (before ++ more) ≡ read_after n keys entries more

pub one_read : (text all rest : List (List ℕ)) (line : List ℕ) (n : ℕ) (keys keys_after : List (List ℕ)) (entries after : List Entry) → all ≡ line ∷ rest → SoFar text all n keys entries →
    ((more : List (List ℕ)) → read_after n keys entries (line ∷ more) ≡ read_after (n + 1) keys_after after more) → SoFar text rest (n + 1) keys_after after
one_read text all rest line n keys keys_after entries after is s next = record {
  before = s.before ++ line ∷ [];
  cut = s.cut ∙ ap (λ (x : List (List ℕ)). s.before ++ x) is ∙ sym (append_assoc s.before (line ∷ []) rest);
  count = length-append s.before (line ∷ []) ∙ ap (λ k. k + 1) s.count;
  read = λ more. ap read_lines (append_assoc s.before (line ∷ []) more) ∙ s.read (line ∷ more) ∙ next more;
}

pub rest_read : (text rest : List (List ℕ)) (n : ℕ) (keys : List (List ℕ)) (entries : List Entry) → SoFar text rest n keys entries → read_lines text ≡ read_after n keys entries rest
rest_read text rest n keys entries s = ap read_lines s.cut ∙ s.read rest

-- what fails so that another fails by it
pub fails_after : {X Y : Type 0} (kind : ConfigFaultKind) (fault : ConfigFault) (r : Result X ConfigFault) (s : Result Y ConfigFault) → (r ≡ Err fault → s ≡ Err fault) →
    FailsBy kind fault r → FailsBy kind fault s
fails_after NoMemory fault r s f h = h
fails_after _ fault r s f h = f h
