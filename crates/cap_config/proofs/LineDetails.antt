-- What a fault of a line is about, after the lines before.
use Rattle.cap_config.proofs.Prelude.{◌≡◌, ℕ, ◌+◌, ◌-◌, List, [], ◌∷◌, ◌++◌, take, get_or, Result, Ok, Err, refl, sym, ap, subst, ◌∙◌, arith, get_or-append_seam, take-append_seam, append-nil, Entry, ConfigFault, ConfigFaultKind, NoMemory, FailsBy, key_of, key_text, entry_of, read_lines, detail_after, detail_at, line_detail, entries_in}
use Rattle.cap_config.proofs.FaultLines.{IsOfLine, entry_is}
use Rattle.cap_config.proofs.NextLine.{SoFar, after_all}

at_line : (text all rest : List (List ℕ)) (line : List ℕ) (n : ℕ) (keys : List (List ℕ)) (entries : List Entry) (kind : ConfigFaultKind) → all ≡ line ∷ rest → SoFar text all n keys entries →
    line_detail entries kind (key_of (key_text line)) ≡ line_detail (entries_in (read_lines (take n text))) kind (key_of (key_text (get_or text n [])))
at_line text all rest line n keys entries kind is s =
    let cut = s.cut ∙ ap (λ (x : List (List ℕ)). s.before ++ x) is in
    let lines : take n text ≡ s.before = ap (take n) cut ∙ ap (λ k. take k (s.before ++ line ∷ rest)) (sym s.count) ∙ take-append_seam s.before (line ∷ rest) in
    let here : get_or text n [] ≡ line = ap (λ (x : List (List ℕ)). get_or x n []) cut ∙ ap (λ k. get_or (s.before ++ line ∷ rest) k []) (sym s.count) ∙ get_or-append_seam s.before line rest [] in
    let set = ap read_lines (sym (append-nil s.before)) ∙ s.read [] ∙ after_all n keys entries in
    rw (here, lines, set) refl

by_kind : (text : List (List ℕ)) (line : List ℕ) (n : ℕ) (entries : List Entry) (kind : ConfigFaultKind) (fault : ConfigFault) (r : Result Entry ConfigFault) → FailsBy kind fault r → IsOfLine (n + 1) r →
    line_detail entries kind (key_of (key_text line)) ≡ line_detail (entries_in (read_lines (take n text))) kind (key_of (key_text (get_or text n []))) →
    line_detail entries kind (key_of (key_text line)) ≡ line_detail (entries_in (read_lines (take (fault.line - 1) text))) kind (key_of (key_text (get_or text (fault.line - 1) [])))
by_kind text line n entries NoMemory fault r h is at = refl
by_kind text line n entries kind fault r h is at =
    let l = (subst (IsOfLine (n + 1)) h is).0 in
    let e : n ≡ fault.line - 1 = omega (arith, l) in
    subst (λ (k : ℕ). line_detail entries kind (key_of (key_text line)) ≡ line_detail (entries_in (read_lines (take k text))) kind (key_of (key_text (get_or text k [])))) e at

-- a line fails by its own fault, and what that is about is found from the text
pub placed : (text all rest : List (List ℕ)) (line : List ℕ) (n : ℕ) (keys : List (List ℕ)) (entries : List Entry) (fault : ConfigFault) → all ≡ line ∷ rest → SoFar text all n keys entries →
    FailsBy fault.kind fault (entry_of keys (n + 1) line) → line_detail entries fault.kind (key_of (key_text line)) ≡ detail_at text fault
unfolding detail_at
placed text all rest line n keys entries fault is s h =
    by_kind text line n entries fault.kind fault (entry_of keys (n + 1) line) h (entry_is keys (n + 1) line) (at_line text all rest line n keys entries fault.kind is s)

-- a fault that came in place of entries is one of a line, or want of memory
pub detail_of_line : (lines : List (List ℕ)) (fault : ConfigFault) (kind : ConfigFaultKind) (r : Result (List Entry) ConfigFault) → fault.kind ≡ kind → FailsBy kind fault r →
    detail_after lines fault r ≡ detail_at lines fault
unfolding detail_at
detail_of_line lines fault kind (Err other) e h = refl
detail_of_line lines fault NoMemory (Ok entries) e h = rw e refl
detail_of_line lines fault _ (Ok entries) e h = absurd (cc h)
