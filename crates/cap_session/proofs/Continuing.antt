-- What was fed and answered since, whatever comes next.
use Rattle.cap_session.proofs.Prelude.{◌≡◌, ℕ, List, [], ◌∷◌, ◌++◌, refl, ap, ap₂, sym, ◌∙◌, subst, append_assoc, append-nil, resources, Reply, frame_of, Call, Answers, nothing, SessionState, OpenRequest, SpellsAnswer, Continues, all_answers, answer_bytes, with_answer}
use Rattle.cap_session.proofs.Answering.{answers_more, one_replied}

pub continues_none : (s : SessionState) → Continues s s [] [] []
continues_none s = record {
  payloads = [];
  frames = [];
  fed = sym (append-nil s.fed);
  answered = sym (append-nil s.answered);
  calls = sym (append-nil s.calls);
  answers = nothing;
  output = sym (append-nil (all_answers s));
}

-- one after the other
pub continues_then : {s t u : SessionState} {more most : List ℕ} {calls later : List (Call resources)} {last : List ℕ} → Continues s t more calls [] → Continues t u most later last → Continues s u (more ++ most) (calls ++ later) last
continues_then {s} {t} {u} {more} {most} {calls} {later} {last} a b = record {
  payloads = a.payloads ++ b.payloads;
  frames = a.frames ++ b.frames;
  fed = b.fed ∙ ap (λ (x : List ℕ). x ++ most) a.fed ∙ append_assoc s.fed more most;
  answered = b.answered ∙ ap (λ (x : List (List ℕ)). x ++ b.payloads) a.answered ∙ append_assoc s.answered a.payloads b.payloads;
  calls = b.calls ∙ ap (λ (x : List (Call resources)). x ++ later) a.calls ∙ append_assoc s.calls calls later;
  answers = answers_more a.answers b.answers;
  output = b.output ∙ ap (λ (x : List ℕ). x ++ (b.frames ++ last)) (a.output ∙ ap (λ (x : List ℕ). all_answers s ++ x) (append-nil a.frames)) ∙ append_assoc (all_answers s) a.frames (b.frames ++ last)
      ∙ ap (λ (x : List ℕ). all_answers s ++ x) (sym (append_assoc a.frames b.frames last));
}

-- payloads that are no requests were answered, and then perhaps a length that no frame has
pub continues_bad : (s t : SessionState) (payloads : List (List ℕ)) (frames last : List ℕ) → Answers {K = resources} payloads [] frames → t.fed ≡ s.fed → t.answered ≡ s.answered ++ payloads → t.calls ≡ s.calls → t.sent ≡ s.sent → t.unsent ≡ s.unsent ++ (frames ++ last) → Continues s t [] [] last
continues_bad s t payloads frames last answers fed answered calls sent unsent = record {
  payloads = payloads;
  frames = frames;
  fed = fed ∙ sym (append-nil s.fed);
  answered = answered;
  calls = calls ∙ sym (append-nil s.calls);
  answers = answers;
  output = ap₂ (λ (x y : List ℕ). x ++ y) sent unsent ∙ sym (append_assoc s.sent s.unsent (frames ++ last));
}

-- the first open request was answered
pub continues_answer : (s t : SessionState) (o : OpenRequest) (opens : List OpenRequest) (reply : Reply resources) → SpellsAnswer (o ∷ opens) reply → t ≡ with_answer s (o ∷ opens) reply → Continues s t [] (record { request = o.request; reply = reply } ∷ []) []
continues_answer s t o opens reply spells now = subst (λ (x : SessionState). Continues s x [] (record { request = o.request; reply = reply } ∷ []) []) (sym now) (record {
  payloads = o.payload ∷ [];
  frames = frame_of (answer_bytes o reply);
  fed = sym (append-nil s.fed);
  answered = refl;
  calls = refl;
  answers = one_replied o reply spells;
  output = sym (append_assoc s.sent s.unsent (frame_of (answer_bytes o reply))) ∙ ap (λ (x : List ℕ). all_answers s ++ x) (sym (append-nil (frame_of (answer_bytes o reply))));
})

-- a piece was fed
pub continues_fed : (s t : SessionState) (piece : List ℕ) → t ≡ record s { fed = s.fed ++ piece } → Continues s t piece [] []
continues_fed s t piece now = subst (λ (x : SessionState). Continues s x piece [] []) (sym now) (record {
  payloads = [];
  frames = [];
  fed = refl;
  answered = sym (append-nil s.answered);
  calls = sym (append-nil s.calls);
  answers = nothing;
  output = sym (append-nil (all_answers s));
})
