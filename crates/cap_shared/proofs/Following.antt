-- What a replica follows of the journal, and what it makes again.
use Rattle.cap_shared.proofs.Prelude.{HasMore, ◌≡◌, ℕ, zero, suc, ◌+◌, ◌<◌, ◌≤◌, Bool, true, false, None, Some, List, [], ◌∷◌, ◌++◌, length, refl, ap, sym, ◌∙◌, subst, arith, append_assoc, append-nil, length-append, if◌then◌else◌, step_is_determined, rejected_exactly, reason_of, sight_of, resources, Flat, Step, Request, Reply, Replies, Entry, NotedAnswer, Moment, Entered, Noted, Sitting, Pass, Replays, state_after, NotesBegin, IsNoted, sitting, sitting_of, ⊎_elim}
use Rattle.std.proofs.Common.{take, drop, get_or, take_all, inl, inr, ◌^◌, ◌-◌}
use Rattle.std.specs.Prelude.{IsTrue, IsFalse, ◌↔◌}
use Rattle.std.proofs.lemmas.Bool.{cases_lt}
use Rattle.std.proofs.lemmas.List.{drop_all, length-drop, take-append-drop}
use Rattle.std.proofs.lemmas.List.Prefix.{front_rest}
use mathlib.Core.List.{IsPrefix}
use Rattle.cap_model.specs.Admission.{NodeProposal, IsAdmissible}
use Rattle.cap_model.specs.Events.{is_no_memory, grant_proposal, reserve_proposal, after_grant, after_reserve}
use Rattle.cap_model.specs.Flat.{Container, Reservation}
use Rattle.cap_model.specs.Replies.{after_request}
use Rattle.cap_model.specs.Verdicts.{IsVerdict}
use Rattle.cap_model.specs.declared.event.Event.TheVariants as event
use Rattle.cap_model.specs.declared.proposal.ProposalKind.{ProposalKind}
use Rattle.cap_model.specs.declared.proposal.Reason.{Reason}
use Rattle.cap_model.specs.declared.proposal.Verdict.{Verdict}
use Rattle.cap_model.specs.declared.proposal.Verdict.TheVariants as verdict
use Rattle.cap_shared.specs.declared.deed.Deed.{Deed}
use Rattle.cap_shared.specs.declared.deed.Deed.TheVariants as deed
use Rattle.cap_shared.specs.declared.history.NotedAnswer.TheVariants as answer
use Rattle.cap_shared.specs.Following.{deeds_of, IsMadeAgain, followed_in, IsReplica, Leads, LeadsOn, Follows, IsNews, piece_max}
use Rattle.cap_shared.proofs.Entering.{one_more}
use Rattle.cap_shared.proofs.Lists.{prefix_self}
use Rattle.cap_shared.proofs.Pasts.{state_is, leads_to_states}

-- beginnings of journals

prefix_then : (a b c : List Entry) → IsPrefix a b → IsPrefix b c → IsPrefix a c
prefix_then a b c p q = (p.0 ++ q.0, sym (append_assoc a p.0 q.0) ∙ ap (λ (l : List Entry). l ++ q.0) p.1 ∙ q.1)

nothing_before : (a t : List Entry) → a ++ t ≡ [] → a ≡ []
nothing_before [] t e = refl
nothing_before (x ∷ a) t e = absurd (cc (e))

-- what a seat's notes lead a replica to is a beginning of each journal that the seat fits
pub follows_begins : (log es : List Entry) (ms : List Moment) → Follows es ms → NotesBegin log ms → IsPrefix es log
follows_begins log es [] h b = (log, ap (λ (l : List Entry). l ++ log) h)
follows_begins log es (Entered r ∷ ms) h b = follows_begins log es ms h b
follows_begins log es (Noted fs a ∷ ms) (inl p) b = prefix_then es fs log p b.0
follows_begins log es (Noted fs a ∷ ms) (inr h) b = follows_begins log es ms h b.1

pub follows_nothing : (es : List Entry) (ms : List Moment) → es ≡ [] → Follows es ms
follows_nothing es [] h = h
follows_nothing es (Entered r ∷ ms) h = follows_nothing es ms h
follows_nothing es (Noted fs a ∷ ms) h = inl (fs, ap (λ (l : List Entry). l ++ fs) h)

-- it follows the same after whatever the seat is answered more
pub follows_more : (es : List Entry) (ms ns : List Moment) → Follows es ms → Follows es (ms ++ ns)
follows_more es [] ns h = follows_nothing es ns h
follows_more es (Entered r ∷ ms) ns h = follows_more es ms ns h
follows_more es (Noted fs a ∷ ms) ns (inl p) = inl p
follows_more es (Noted fs a ∷ ms) ns (inr h) = inr (follows_more es ms ns h)

-- so it does with fewer entries
pub follows_less : (short long : List Entry) (ms : List Moment) → IsPrefix short long → Follows long ms → Follows short ms
follows_less short long [] p h = nothing_before short p.0 (p.1 ∙ h)
follows_less short long (Entered r ∷ ms) p h = follows_less short long ms p h
follows_less short long (Noted fs a ∷ ms) p (inl q) = inl (prefix_then short long fs p q)
follows_less short long (Noted fs a ∷ ms) p (inr h) = inr (follows_less short long ms p h)

-- and with all that was noted
pub follows_noted : (es : List Entry) (ms : List Moment) (a : NotedAnswer) → Follows es (ms ++ Noted es a ∷ [])
follows_noted es [] a = inl (prefix_self es)
follows_noted es (Entered r ∷ ms) a = follows_noted es ms a
follows_noted es (Noted fs b ∷ ms) a = inr (follows_noted es ms a)

-- what was noted at a seat, or a beginning of it, a replica follows
pub noted_follows : (log es : List Entry) (old new : Sitting) → IsPrefix log es → HasMore old new (Noted es answer.Copied ∷ []) → Follows log new.past
noted_follows log es old new p more = subst (λ (s : Sitting). Follows log s.past) (sym more) (follows_less log es (old.past ++ Noted es answer.Copied ∷ []) p (follows_noted es old.past answer.Copied))

pub same_follows : (log es : List Entry) (old new : Sitting) → log ≡ es → HasMore old new (Noted es answer.Copied ∷ []) → Follows log new.past
same_follows log es old new same more = noted_follows log es old new ([], append-nil log ∙ same) more

-- the news

length_taken : (n : ℕ) (es : List Entry) → n ≤ length es → length (take n es) ≡ n
length_taken zero es h = refl
length_taken (suc n) [] h = absurd (omega arith)
length_taken (suc n) (e ∷ es) h = ap suc (length_taken n es (omega arith))

new_entries : (log es news : List Entry) → IsPrefix es log → news ≡ drop (length es) log → es ++ news ≡ log
new_entries log es news p is = ap (λ (l : List Entry). es ++ l) (is ∙ front_rest log es p.0 (sym p.1)) ∙ p.1

-- a piece that is not all has as many entries as it may have
taken_many : (n : ℕ) (b : Bool) (k m : ℕ) → (IsTrue b ↔ (k ≤ m + n)) → IsFalse b → n ≤ k - m
taken_many n b k m whole f = ⊎_elim (λ (l : m + n < k). omega arith) (λ (l : k ≤ m + n). absurd (let t = whole.1 l in cc)) (cases_lt (m + n) k)

pub is_news : (o : Flat resources) (log : List Entry) (d d' s s' : Pass) (x : Sitting) (cluster : Flat resources) (es news : List Entry) (all : Bool) → sitting_of s.me.0 ≡ x → Follows es x.past → IsNoted log answer.Copied d d' s s' → Replays o log cluster → length log < 2 ^ 64
    → news ≡ take piece_max (drop (length es) log) → (IsTrue all ↔ (length log ≤ length es + piece_max)) → IsNews o es x (sitting_of s'.me.0) news all
is_news o log d d' s s' x cluster es news all is follows m run few new whole =
    let left = drop (length es) log in
    let rest = drop piece_max left in
    let begins : IsPrefix es log = follows_begins log es x.past follows (subst (λ (y : Sitting). NotesBegin log y.past) is m.fits.notes) in
    let parts : news ++ rest ≡ left = ap (λ (l : List Entry). l ++ rest) new ∙ take-append-drop piece_max left in
    let same : es ++ news ++ rest ≡ log = append_assoc es news rest ∙ ap (λ (l : List Entry). es ++ l) parts ∙ new_entries log es left begins refl in
    let on : Replays o (es ++ news ++ rest) cluster = subst (λ (l : List Entry). Replays o l cluster) (sym same) run in
    let at = leads_to_states o cluster (es ++ news) rest on in
    let count : length left ≡ length log - length es = length-drop (length es) log in
    let sum : length es + length news + length rest ≡ length log = ap (λ (n : ℕ). n + length rest) (sym (length-append es news)) ∙ sym (length-append (es ++ news) rest) ∙ ap length same in
    record {
      rest = rest;
      leads = record { cluster = state_after o (es ++ news); replays = at.0; fits = omega arith };
      noted = one_more s s' x (Noted log answer.Copied) (Noted (es ++ news ++ rest) answer.Copied) is m.sits (ap (λ (l : List Entry). Noted l answer.Copied) (sym same));
      copied = (cluster, on);
      all = λ t. (let l = whole.0 t in drop_all piece_max left (omega arith));
      many = λ f. (let l = taken_many piece_max all (length log) (length es) whole f in ap length new ∙ length_taken piece_max left (omega arith));
    }

-- where the news are all, what is noted are the entries that were followed and the news
pub all_noted : (o : Flat resources) (es news : List Entry) (old new : Sitting) (all : Bool) → IsNews o es old new news all → IsTrue all → HasMore old new (Noted (es ++ news) answer.Copied ∷ [])
all_noted o es news old new all is t =
    is.noted ∙ ap (λ (l : List Entry). sitting old.seat (old.past ++ Noted l answer.Copied ∷ [])) (ap (λ (l : List Entry). es ++ news ++ l) (is.all t) ∙ append-nil (es ++ news))

-- what a replica has made of a piece of news, it follows
pub piece_follows : (o : Flat resources) (log es news : List Entry) (old new : Sitting) (all : Bool) → IsNews o es old new news all → IsPrefix log (es ++ news) → Follows log new.past
piece_follows o log es news old new all is p = noted_follows log (es ++ news ++ is.rest) old new (prefix_then log (es ++ news) (es ++ news ++ is.rest) p (is.rest, refl)) is.noted

pub caught_up_follows : (o : Flat resources) (log es news : List Entry) (old new : Sitting) (all : Bool) → IsNews o es old new news all → log ≡ es ++ news → Follows log new.past
caught_up_follows o log es news old new all is same = piece_follows o log es news old new all is ([], append-nil log ∙ same)

-- making again

module _ (old new : Flat resources) where
  no_call : (b : Bool) (request : Request resources) (p : NodeProposal) → (if b then deed.Nothing else (deed.Call request)) ≡ deed.Propose p → ⊥
  no_call true request p e = absurd (cc (e))
  no_call false request p e = absurd (cc (e))

  -- where a call was made
  called : (b : Bool) (request q : Request resources) → (if b then deed.Nothing else (deed.Call request)) ≡ deed.Call q → (b ≡ false) × (request ≡ q)
  called true request q e = absurd (cc (e))
  called false request q e = (refl, cc (e))

  pub call_made_again : (q : Request resources) (r : Reply resources) → Replies old q r new → is_no_memory r ≡ false → IsMadeAgain old (deed.Call q) new
  call_made_again q r is found (event.Call by request reply) next e step =
      let s = called (is_no_memory reply) request q e in
      let after : new ≡ after_request old q = step_is_determined resources old new (event.Call by q r) is ∙ ap (λ (b : Bool). if b then old else (after_request old q)) found in
      let before : next ≡ after_request old request = step_is_determined resources old next (event.Call by request reply) step ∙ ap (λ (b : Bool). if b then old else (after_request old request)) s.0 in
      after ∙ ap (λ (x : Request resources). after_request old x) (sym s.1) ∙ sym before
  call_made_again q r is found (event.Grant c) next e step = absurd (cc (e))
  call_made_again q r is found (event.Reserve v) next e step = absurd (cc (e))

  -- where a proposal was made
  proposed : (p q : NodeProposal) → deed.Propose p ≡ deed.Propose q → p ≡ q
  proposed p q e = cc (e)

  same_container : (c d : Container) → grant_proposal c ≡ grant_proposal d → c.number ≡ d.number → c ≡ d
  same_container c d e n = λ i. record { number = n i; app = (e i).app; key = (e i).key; node = (e i).node; resource = (e i).resource }

  same_reservation : (r v : Reservation) → reserve_proposal r ≡ reserve_proposal v → r ≡ v
  same_reservation r v e = λ i. record { app = (e i).app; key = (e i).key; node = (e i).node; resource = (e i).resource }

  apart : (c : Container) (r : Reservation) → grant_proposal c ≡ reserve_proposal r → ⊥
  apart c r e = let k : ProposalKind.Grant ≡ ProposalKind.Reserve = ap (λ (p : NodeProposal). p.kind) e in absurd (cc (k))

  admitted : (p q : NodeProposal) (reason : Reason) → IsAdmissible (sight_of old) p → p ≡ q → reason_of (sight_of old) q ≡ Some reason → ⊥
  admitted p q reason a e some =
      let none : reason_of (sight_of old) p ≡ None = (rejected_exactly resources (sight_of old) p).1 a in
      let same : reason_of (sight_of old) p ≡ reason_of (sight_of old) q = ap (λ (x : NodeProposal). reason_of (sight_of old) x) e in
      absurd (cc (none, same, some))

  pub proposal_made_again : (p : NodeProposal) (v : Verdict resources) → IsVerdict p old new v → IsMadeAgain old (deed.Propose p) new
  proposal_made_again p v is (event.Call by request reply) next e step = absurd (no_call (is_no_memory reply) request p e)
  proposal_made_again p (verdict.Done (event.Call by request reply)) is (event.Grant c) next e step = absurd is.0
  proposal_made_again p (verdict.Done (event.Grant d)) is (event.Grant c) next e step =
      let same : d ≡ c = same_container d c (is.0 ∙ sym (proposed (grant_proposal c) p e)) (is.1.1 ∙ sym step.1) in
      is.1.2 ∙ ap (λ (x : Container). after_grant old x) same ∙ sym step.2
  proposal_made_again p (verdict.Done (event.Reserve r)) is (event.Grant c) next e step = absurd (apart c r (proposed (grant_proposal c) p e ∙ sym is.0))
  proposal_made_again p (verdict.Rejected reason) is (event.Grant c) next e step = absurd (admitted (grant_proposal c) p reason step.0 (proposed (grant_proposal c) p e) is.0)
  proposal_made_again p (verdict.Done (event.Call by request reply)) is (event.Reserve v) next e step = absurd is.0
  proposal_made_again p (verdict.Done (event.Grant d)) is (event.Reserve v) next e step = absurd (apart d v (is.0 ∙ sym (proposed (reserve_proposal v) p e)))
  proposal_made_again p (verdict.Done (event.Reserve r)) is (event.Reserve v) next e step =
      let same : r ≡ v = same_reservation r v (is.0 ∙ sym (proposed (reserve_proposal v) p e)) in
      is.1.1 ∙ ap (λ (x : Reservation). after_reserve old x) same ∙ sym step.1
  proposal_made_again p (verdict.Rejected reason) is (event.Reserve v) next e step = absurd (admitted (reserve_proposal v) p reason step.0 (proposed (reserve_proposal v) p e) is.0)

-- following

pub follow_next : (news : List Entry) (i : ℕ) (old now new : Flat resources) (d : Deed) → i < length news → d ≡ get_or (deeds_of news) i d → Replays old (take i news) now → Leads now (drop i news) → IsMadeAgain now d new
    → Replays old (take (suc i) news) new × Leads new (drop (suc i) news)
follow_next [] i old now new d lt is run rest made = absurd (omega arith)
follow_next (e ∷ es) zero old now new d lt is run rest made =
    let same = made e.event rest.1.0 (sym is) rest.1.1 in
    ((rest.1.0, subst (λ (x : Flat resources). Step x e.event rest.1.0) (sym run) rest.1.1, sym same), (rest.0, subst (λ (x : Flat resources). Replays x es rest.0) (sym same) rest.1.2))
follow_next (e ∷ es) (suc i) old now new d lt is run rest made =
    let on = follow_next es i run.0 now new d (omega arith) is run.2 rest made in
    ((run.0, run.1, on.0), on.1)

pub Replays-then : (s m t : Flat resources) (es fs : List Entry) → Replays s es m → Replays m fs t → Replays s (es ++ fs) t
Replays-then s m t [] fs r h = subst (λ (x : Flat resources). Replays x fs t) (sym r) h
Replays-then s m t (e ∷ es) fs r h = (r.0, r.1, Replays-then r.0 m t es fs r.2 h)

-- from the state that it is in, the news lead a replica on
pub leads_from : (o cluster : Flat resources) (log news : List Entry) → Replays o log cluster → LeadsOn o log news → Leads cluster news
leads_from o cluster log news run on =
    let s = leads_to_states o on.cluster log news on.replays in
    (on.cluster, subst (λ (x : Flat resources). Replays x news on.cluster) (sym (state_is o cluster log run)) s.1)

pub followed_more : (items : List (List Entry × ℕ)) (news : List Entry) (n : ℕ) → followed_in (items ++ (news, n) ∷ []) ≡ followed_in items ++ take n news
followed_more [] news n = append-nil (take n news)
followed_more (x ∷ items) news n = ap (λ (l : List Entry). take x.1 x.0 ++ l) (followed_more items news n) ∙ sym (append_assoc (take x.1 x.0) (followed_in items) (take n news))

pub all_followed : (log news : List Entry) (n : ℕ) → length news ≤ n → log ++ take n news ≡ log ++ news
all_followed log news n all = ap (λ (l : List Entry). log ++ l) (take_all n news all)

pub some_followed : (log news : List Entry) (n : ℕ) → IsPrefix (log ++ take n news) (log ++ news)
some_followed log news n = (drop n news, append_assoc log (take n news) (drop n news) ∙ ap (λ (l : List Entry). log ++ l) (take-append-drop n news))

-- with as many as the journal has at most, the news are all that is left of it
pub all_left : (journal news : List Entry) (most at n : ℕ) → news ≡ take most (drop at journal) → length journal ≤ most → at ≡ n → news ≡ drop n journal
all_left journal news most at n is few same = is ∙ take_all most (drop at journal) (let l = length-drop at journal in omega arith) ∙ ap (λ (k : ℕ). drop k journal) same

-- with all entries of a journal that it has followed the first of, a replica is where the journal leads
pub followed_whole : (o cluster closing : Flat resources) (es news journal : List Entry) → IsPrefix es journal → news ≡ drop (length es) journal → Replays o journal closing → Replays o (es ++ news) cluster → cluster ≡ closing
followed_whole o cluster closing es news journal p is run on =
    state_is o cluster (es ++ news) on ∙ ap (λ (l : List Entry). state_after o l) (new_entries journal es news p is) ∙ sym (state_is o closing journal run)

pub closed_leads : (o closing : Flat resources) (es news journal : List Entry) → IsPrefix es journal → news ≡ drop (length es) journal → Replays o journal closing → length journal < 2 ^ 64 → LeadsOn o es news
closed_leads o closing es news journal p is run few =
    let all = new_entries journal es news p is in
    let count : length es + length news ≡ length journal = sym (length-append es news) ∙ ap length all in
    record {
      cluster = closing;
      replays = subst (λ (l : List Entry). Replays o l closing) (sym all) run;
      fits = subst (λ (n : ℕ). n < 2 ^ 64) (sym count) few;
    }

-- a replica of as many entries as the journal has followed all of it
same_length : (es log t : List Entry) → es ++ t ≡ log → length es ≡ length log → es ≡ log
same_length es log [] e n = sym (append-nil es) ∙ e
same_length es log (x ∷ t) e n = let c = length-append es (x ∷ t) in let d = ap length e in absurd (omega arith)

pub follows_all : (log es : List Entry) (ms : List Moment) → Follows es ms → NotesBegin log ms → length es ≡ length log → es ≡ log
follows_all log es ms follows begin n = let p = follows_begins log es ms follows begin in same_length es log p.0 p.1 n

-- a replica that has made again the first so many of the news
module _ (items items' : List (List Entry × ℕ)) (news : List Entry) (n : ℕ) (more : items' ≡ items ++ (news, n) ∷ []) where
  history : followed_in items' ≡ followed_in items ++ take n news
  history = ap (λ (xs : List (List Entry × ℕ)). followed_in xs) more ∙ followed_more items news n

  pub is_followed : (o old new : Flat resources) (followed : ℕ) → IsReplica o old (followed_in items) followed → Replays old (take n news) new → n ≤ length news → IsReplica o new (followed_in items') (followed + n)
  is_followed o old new followed is made few =
      let count : length (followed_in items') ≡ length (followed_in items) + n = ap length history ∙ length-append (followed_in items) (take n news) ∙ ap (λ (k : ℕ). length (followed_in items) + k) (length_taken n news few) in
      record {
        run = subst (λ (l : List Entry). Replays o l new) (sym history) (Replays-then o old new (followed_in items) (take n news) is.run made);
        count = ap (λ (k : ℕ). k + n) is.count ∙ sym count;
      }

  pub is_beginning : (log : List Entry) → followed_in items ≡ log → IsPrefix (followed_in items') (log ++ news)
  is_beginning log same =
      let p = some_followed log news n in
      (p.0, ap (λ (l : List Entry). l ++ p.0) (history ∙ ap (λ (l : List Entry). l ++ take n news) same) ∙ p.1)
