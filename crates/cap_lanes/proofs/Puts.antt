-- Message callers see after a step.
use Rattle.cap_lanes.proofs.Prelude.{◌≡◌, ℕ, List, [], ◌∷◌, ◌++◌, false, ap, sym, ◌∙◌, subst, Result, Ok, Err, MatchResult, append-nil, Badge, Key, Doing, Rows, Pass, view, IsSeatAt, NodeProposal, PutFault, Message, Put, End, Item, View, proposals, is_over, sender, lane_of, IsPut, LanesId, WorkerSide, worker_side, IsSender, IsOpen, IsShut, put_in}
use Rattle.cap_lanes.proofs.Lists.{proposals-append, is_over-push_put, is_over-push_end}

pub side_put : (z : LanesId) (n : ℕ) (old new : List NodeProposal) (p : NodeProposal) (s : WorkerSide) (r : Result (Unit {0}) PutFault) → worker_side z n old ≡ s → MatchResult r (λ _. new ≡ old ++ p ∷ []) (λ e. (e.back ≡ p) × (new ≡ old))
    → MatchResult r (λ _. worker_side z n new ≡ worker_side s.lanes s.worker (s.put ++ p ∷ [])) (λ e. (e.back ≡ p) × (worker_side z n new ≡ s))
side_put z n old new p s (Ok x) is h = ap (worker_side z n) h ∙ ap (λ (t : WorkerSide). worker_side t.lanes t.worker (t.put ++ p ∷ [])) is
side_put z n old new p s (Err e) is h = (h.0, ap (worker_side z n) h.1 ∙ is)

module _ {Q M L A : Type 0} (c : Rows (Badge (Key Item)) (Doing Item View) Q M (Key Item) L A) (n : ℕ) (pass now : Pass Item View) (is : IsSender c n pass) (seat : IsSeatAt c now) where
  -- a worker's pass after a put
  sender_now : (y : Message) → IsPut (view pass) (record { worker = n; message = y }) (view now) → IsSender c n now × ((lane_of (view now)).put ≡ (lane_of (view pass)).put ++ y ∷ [])
  sender_now y h =
      let v : view now ≡ sender (record { worker = (lane_of (view pass)).worker; put = (lane_of (view pass)).put ++ y ∷ [] }) = subst (λ (u : View). IsPut u (record { worker = n; message = y }) (view now)) is.sends h in (
        record {
          seat = seat;
          room = is.room;
          sends = v ∙ ap (λ (u : View). sender (lane_of u)) (sym v);
          worker = ap (λ (u : View). (lane_of u).worker) v ∙ is.worker;
          below = is.below;
        },
        ap (λ (u : View). (lane_of u).put) v,
      )

  pub open_put : (p : NodeProposal) → is_over (lane_of (view pass)).put ≡ false → IsPut (view pass) (record { worker = n; message = Put p }) (view now) → IsOpen c n now × (put_in now ≡ put_in pass ++ p ∷ [])
  open_put p o h =
      let s = sender_now (Put p) h in
      (record { is = s.0; is_open = ap is_over s.1 ∙ is_over-push_put (lane_of (view pass)).put p ∙ o }, ap proposals s.1 ∙ proposals-append (lane_of (view pass)).put (Put p ∷ []))

  pub shut_put : IsPut (view pass) (record { worker = n; message = End }) (view now) → IsShut c n now × (put_in now ≡ put_in pass)
  shut_put h =
      let s = sender_now End h in
      (record { is = s.0; is_shut = ap is_over s.1 ∙ is_over-push_end (lane_of (view pass)).put }, ap proposals s.1 ∙ proposals-append (lane_of (view pass)).put (End ∷ []) ∙ append-nil (put_in pass))
