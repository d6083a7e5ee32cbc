-- Property lines that do not name the third resource.
use Rattle.cap_narrow.proofs.Prelude.{◌≡◌, ℕ, ◌+◌, Bool, true, false, List, [], ◌∷◌, ◌++◌, length, take, drop, cond, refl, sym, ◌∙◌, ap, subst, inl, inr, Option, Some, None, Result, Ok, Err, ◌==◌, bytes_eq, nat_eq, codes, All, list_all, starts_with, lines, same_Some, All-push, All-nil, bytes_eq-Decides, amount, trimmed_bytes, IsIn, resources, QueueRow, Settings, Entry, Value, Setting, Queues, Capacity, MaximumCapacity, UserLimitFactor, State, MaximumApplications, MinimumMemory, MinimumVcores, MinimumGpu, MaximumMemory, MaximumVcores, MaximumGpu, ConfigFault, spelling, cluster_settings, queue_settings, setting_named, prefix, takes, path_of, last_dot, parts_round, parts_at_last_dot, key_on, key_at, key_of_parts, queue_key, key_or, key_of, contains_bytes, value_of, is_passed_over, is_printable, both_trimmed, line_parts, key_text, with_value, with_key, with_parts, entry_of, and_then, read_after, read_lines, same_setting, cluster_entry, number_or, settings_of, settings_in, found, each_of, of_each, QueueHasAmounts, made_of, settings_have, SetsNone, stands_in, RaisesToNoGpu, TextsWithoutLeastGpus, TextsWithoutGpus, RefreshesAskNone, OpeningsHaveNone}
use Rattle.std.specs.List.{position}
use Rattle.cap_base.specs.declared.properties.key.Key.{Key}
use Rattle.cap_narrow.proofs.Refreshing.{firsts_set_none}
use Rattle.cap_narrow.proofs.Words.{IsPartOf, part_itself, part_of_part, part_taken, part_dropped, part_trimmed, line_of_text, part_stands}

-- ---- a key spells its property
setting_spelled : (settings : List Setting) (bytes : List ℕ) (setting : Setting) → setting_named settings bytes ≡ Some setting → IsPartOf (spelling setting) bytes
unfolding setting_named
setting_spelled settings bytes setting e =
    let same = (bytes_eq-Decides bytes (spelling setting)).0 (found (λ (s : Setting). bytes_eq bytes (spelling s)) settings setting e).1 in
    subst (λ w. IsPartOf w bytes) same (part_itself bytes)

named_spelled : (front rest : List ℕ) (setting : Option Setting) (path : Option (List ℕ)) (key : Key) → setting_named queue_settings rest ≡ setting → key_on front setting path ≡ Some key →
    IsPartOf (spelling key.setting) rest
named_spelled front rest (Some setting) (Some path) key e h = by (takes front setting) h
  where
    by : (b : Bool) → cond b (Some (record { queue = Some path; setting = setting })) None ≡ Some key → IsPartOf (spelling key.setting) rest
    by true g = subst (λ (k : Key). IsPartOf (spelling k.setting) rest) (same_Some _ _ g) (setting_spelled queue_settings rest setting e)
    by false g = absurd (cc g)
named_spelled front rest (Some setting) None key e h = absurd (cc h)
named_spelled front rest None path key e h = absurd (cc h)

at_dot_spelled : (bytes : List ℕ) (at : Option ℕ) (key : Key) → key_of_parts (parts_round at bytes) ≡ Some key → IsPartOf (spelling key.setting) bytes
unfolding key_at
at_dot_spelled bytes None key h = absurd (cc h)
at_dot_spelled bytes (Some i) key h =
    let rest = drop (i + 1) bytes in
    part_of_part (spelling key.setting) rest bytes (named_spelled (take i bytes) rest (setting_named queue_settings rest) (path_of (take i bytes)) key refl h) (part_dropped (i + 1) bytes)

queue_spelled : (bytes : List ℕ) (key : Key) → queue_key bytes ≡ Some key → IsPartOf (spelling key.setting) bytes
unfolding queue_key parts_at_last_dot
queue_spelled bytes key h = by (starts_with nat_eq bytes prefix) h
  where
    after : List ℕ
    after = drop (length prefix) bytes

    by : (b : Bool) → cond b (key_of_parts (parts_round (last_dot after) after)) None ≡ Some key → IsPartOf (spelling key.setting) bytes
    by true g = part_of_part (spelling key.setting) after bytes (at_dot_spelled after (last_dot after) key g) (part_dropped (length prefix) bytes)
    by false g = absurd (cc g)

key_spelled : (bytes : List ℕ) (key : Key) → key_of bytes ≡ Some key → IsPartOf (spelling key.setting) bytes
unfolding key_of
key_spelled bytes key h = by (setting_named cluster_settings bytes) refl h
  where
    by : (o : Option Setting) → setting_named cluster_settings bytes ≡ o → key_or bytes o ≡ Some key → IsPartOf (spelling key.setting) bytes
    by (Some setting) e g = subst (λ (k : Key). IsPartOf (spelling k.setting) bytes) (same_Some _ _ g) (setting_spelled cluster_settings bytes setting e)
    by None e g = queue_spelled bytes key g

-- ---- and so does its line
entry_is : (a b : Entry) → (let r : Result Entry ConfigFault = Ok a in r) ≡ Ok b → a ≡ b
entry_is a b h = cc h

value_spelled : (n : ℕ) (key : Key) (value : Option Value) (entry : Entry) → with_value n key value ≡ Ok entry → key.setting ≡ entry.setting
value_spelled n key (Some value) entry h = ap (λ (e : Entry). e.setting) (entry_is _ _ h)
value_spelled n key None entry h = absurd (cc h)

parts_spelled : (keys : List (List ℕ)) (n : ℕ) (name value : List ℕ) (key : Option Key) (entry : Entry) → key_of name ≡ key → with_key keys n name value key ≡ Ok entry → IsPartOf (spelling entry.setting) name
parts_spelled keys n name value None entry e h = absurd (cc h)
parts_spelled keys n name value (Some key) entry e h = by _ (contains_bytes keys name) h
  where
    by : (fault : ConfigFault) (b : Bool) → cond b (Err fault) (with_value n key (value_of key value)) ≡ Ok entry → IsPartOf (spelling entry.setting) name
    by fault true g = absurd (cc g)
    by fault false g = subst (λ setting. IsPartOf (spelling setting) name) (value_spelled n key (value_of key value) entry g) (key_spelled name key e)

line_spelled : (keys : List (List ℕ)) (n : ℕ) (line : List ℕ) (entry : Entry) → entry_of keys n line ≡ Ok entry → IsPartOf (spelling entry.setting) line
unfolding entry_of line_parts
line_spelled keys n line entry h = by (list_all is_printable line) (position (λ b. b == 61) line) h
  where
    by : (b : Bool) (at : Option ℕ) → with_parts keys n (cond b (both_trimmed (Rattle.std.specs.Option.option_map (λ i. (take i line, drop (i + 1) line)) at)) None) ≡ Ok entry → IsPartOf (spelling entry.setting) line
    by true (Some i) g =
        let name = trimmed_bytes (take i line) in
        part_of_part (spelling entry.setting) name line (parts_spelled keys n name (trimmed_bytes (drop (i + 1) line)) (key_of name) entry refl g)
        (part_of_part name (take i line) line (part_trimmed (take i line)) (part_taken i line))
    by true None g = absurd (cc g)
    by false at g = absurd (cc g)

-- ---- what each line sets has what all set
read_all : (P : Entry → Type 0) (rest : List (List ℕ)) → ((keys : List (List ℕ)) (n : ℕ) (line : List ℕ) (entry : Entry) → IsIn line rest → entry_of keys n line ≡ Ok entry → P entry) →
    (n : ℕ) (keys : List (List ℕ)) (entries out : List Entry) → read_after n keys entries rest ≡ Ok out → All P entries → All P out
unfolding read_after
read_all P [] f n keys entries out h all = subst (All P) (cc h) all
read_all P (line ∷ rest) f n keys entries out h all = by (read_all P rest (λ ks i l e m. f ks i l e (inr m))) (is_passed_over line) (entry_of keys (n + 1) line) refl h
  where
    by : ((i : ℕ) (ks : List (List ℕ)) (es os : List Entry) → read_after i ks es rest ≡ Ok os → All P es → All P os) →
        (b : Bool) (r : Result Entry ConfigFault) → entry_of keys (n + 1) line ≡ r →
        cond b (read_after (n + 1) keys entries rest) (and_then r (λ entry. read_after (n + 1) (keys ++ key_text line ∷ []) (entries ++ entry ∷ []) rest)) ≡ Ok out → All P out
    by later true r e g = later (n + 1) keys entries out g all
    by later false (Ok entry) e g =
        later (n + 1) (keys ++ key_text line ∷ []) (entries ++ entry ∷ []) out g (All-push P entries entry all (f keys (n + 1) line entry (inl refl) e))
    by later false (Err fault) e g = absurd (cc g)

-- each property that a text sets is spelled there
text_spelled : (text : List ℕ) (entries : List Entry) → read_lines (lines text) ≡ Ok entries → All (λ entry. IsPartOf (spelling entry.setting) text) entries
text_spelled text entries h =
    read_all (λ entry. IsPartOf (spelling entry.setting) text) (lines text)
    (λ keys n line entry m e. part_of_part (spelling entry.setting) line text (line_spelled keys n line entry e) (line_of_text text line m)) 0 [] [] entries h (All-nil (λ entry. IsPartOf (spelling entry.setting) text))

-- ---- the least GPUs of a container
is_least : (setting : Setting) → same_setting setting MinimumGpu ≡ true → setting ≡ MinimumGpu
is_least MinimumGpu h = refl
is_least Queues h = absurd (cc h)
is_least Capacity h = absurd (cc h)
is_least MaximumCapacity h = absurd (cc h)
is_least UserLimitFactor h = absurd (cc h)
is_least State h = absurd (cc h)
is_least MaximumApplications h = absurd (cc h)
is_least MinimumMemory h = absurd (cc h)
is_least MinimumVcores h = absurd (cc h)
is_least MaximumMemory h = absurd (cc h)
is_least MaximumVcores h = absurd (cc h)
is_least MaximumGpu h = absurd (cc h)

least_gpus : (entries : List Entry) → amount (settings_of entries).minimum_allocation 2 ≡ number_or (cluster_entry entries MinimumGpu) 0
unfolding settings_of
least_gpus entries = refl

-- a word of the key that sets them stands in a text by which they are more than 0
without_word : (w : ℕ) (word : List ℕ) → IsPartOf (w ∷ word) (spelling MinimumGpu) → (text : List ℕ) → stands_in (w ∷ word) text ≡ false → RaisesToNoGpu text
without_word w word part text without settings h =
    let of = made_of text settings h in
    ap (λ (s : Settings). amount s.minimum_allocation 2) (sym of.made) ∙ least_gpus of.entries ∙ by of.entries of.read (cluster_entry of.entries MinimumGpu) refl
  where
    by : (entries : List Entry) → read_lines (lines text) ≡ Ok entries → (o : Option Entry) → cluster_entry entries MinimumGpu ≡ o → number_or o 0 ≡ 0
    by entries read None e = refl
    by entries read (Some entry) e =
        let is = found (λ (x : Entry). same_setting x.setting MinimumGpu) entries entry e in
        let its = each_of (λ (x : Entry). IsPartOf (spelling x.setting) text) entries (text_spelled text entries read) entry is.0 in
        let key : IsPartOf (spelling MinimumGpu) text = subst (λ setting. IsPartOf (spelling setting) text) (is_least entry.setting is.1) its in
        absurd (cc (sym (part_stands w word text (part_of_part (w ∷ word) (spelling MinimumGpu) text part key)) ∙ without))

pub texts_without_least_gpus : TextsWithoutLeastGpus
unfolding spelling
texts_without_least_gpus = without_word 121 (codes "arn.resource-types.yarn.io/gpu.minimum-allocation") (part_itself (spelling MinimumGpu))

pub texts_without_gpus : TextsWithoutGpus
unfolding spelling
texts_without_gpus = without_word 121 (codes "arn.io/gpu") (codes "yarn.resource-types.", codes ".minimum-allocation", refl)

-- ---- what such settings set
settings_set_none : (text : List ℕ) (settings : Settings) → RaisesToNoGpu text → settings_in text ≡ Some settings → SetsNone 2 settings
settings_set_none text settings raises h =
    let has = settings_have text settings h in
    record {
      minimum = record { count = has.minimum_allocation; none = raises settings h };
      guarantees = of_each (λ (q : QueueRow). length q.guaranteed ≡ 3) settings.queues (λ q m. (each_of (QueueHasAmounts resources) settings.queues has.queues q m).guaranteed);
    }

pub refreshes_ask_none : RefreshesAskNone
refreshes_ask_none text raises settings h = firsts_set_none 2 settings (settings_set_none text settings raises h)

pub openings_have_none : OpeningsHaveNone
openings_have_none text settings raises h = record {
  settings = settings_set_none text settings raises h;
  asks = All-nil _;
  nodes = All-nil _;
  live = All-nil _;
  reserved = All-nil _;
}
