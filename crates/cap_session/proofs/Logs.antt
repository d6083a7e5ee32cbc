-- What is kept in logs.
use Rattle.cap_session.proofs.Prelude.{◌≡◌, ℕ, List, [], ◌∷◌, ◌++◌, sym, take, flat_map_more, Filled, Log, resources, Reply, AnswerLog, calls_in, answered_in, calls_of, sent_in, ReadResult, payloads_in}

pub answered_more : (log : AnswerLog) (l : Log Filled ReadResult) (r : Log (Reply resources) (Unit {0})) → answered_in (log ++ (l, r) ∷ []) ≡ answered_in log ++ payloads_in l.items
answered_more log l r = sym (flat_map_more (λ (e : Log Filled ReadResult × Log (Reply resources) (Unit {0})). payloads_in e.0.items) [] log (l, r))

pub calls_more : (log : AnswerLog) (l : Log Filled ReadResult) (r : Log (Reply resources) (Unit {0})) → calls_of (log ++ (l, r) ∷ []) ≡ calls_of log ++ calls_in l.items r.items
calls_more log l r = sym (flat_map_more (λ (e : Log Filled ReadResult × Log (Reply resources) (Unit {0})). calls_in e.0.items e.1.items) [] log (l, r))

pub sent_more : (log : List (Filled × ℕ)) (b : Filled) (n : ℕ) → sent_in (log ++ (b, n) ∷ []) ≡ sent_in log ++ take n b.items
sent_more log b n = sym (flat_map_more (λ (e : Filled × ℕ). take e.1 e.0.items) [] log (b, n))
