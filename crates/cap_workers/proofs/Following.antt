-- What a turn on a replica chooses and commits.
use Rattle.cap_workers.proofs.Prelude.{◌≡◌, ℕ, Option, Some, Result, Ok, Err, MatchResult, List, [], ◌∷◌, ◌++◌, inl, inr, ap, refl, sym, ◌∙◌, subst, resources, NodeProposal, choice_from, Flat, HasMore, Entry, Moment, Noted, Sitting, IsCommitted}
use Rattle.cap_model.specs.Sight.{sight_of}
use Rattle.cap_shared.specs.declared.history.NotedAnswer.TheVariants as answer
use Rattle.cap_shared.specs.Following.{Follows, IsNews}
use Rattle.cap_shared.specs.Journal.{Replays}
use Rattle.std.specs.Prelude.{Bool, true}
use Rattle.cap_shared.proofs.Following.{all_noted, follows_more}
use Rattle.cap_lanes.specs.Sides.{WorkerSide}
use Rattle.cap_shared.specs.Parts.{Content}
use Rattle.cap_workers.specs.Following.{CatchesUp, ChoosesNow, IsFollowingOffer, IsFollowingTurn, Notes, TakesPiece, notes_none, notes_one}
use Rattle.cap_workers.specs.Worker.{IsPut}
use Rattle.cap_workers.specs.declared.worker.OfferEnd.{OfferEnd}
use Rattle.cap_workers.specs.declared.worker.OfferEnd.TheVariants as offers
use Rattle.cap_workers.specs.declared.worker.TurnEnd.{TurnEnd}
use Rattle.cap_workers.specs.declared.worker.TurnEnd.TheVariants as ends

-- a replica follows the same once its seat was answered more
more_follows : (log : List Entry) (old new : Sitting) (ms : List Moment) → HasMore old new ms → Follows log old.past → Follows log new.past
more_follows log old new ms more h = subst (λ (s : Sitting). Follows log s.past) (sym more) (follows_more log old.past ms h)

pub committed_follows : (log : List Entry) (p : NodeProposal) (limit : ℕ) (old new : Sitting) (end : TurnEnd) → IsCommitted p limit old new end → Follows log old.past → Follows log new.past
committed_follows log p limit old new ends.Nothing h f = absurd h
committed_follows log p limit old new (ends.Done event) h f = more_follows log old new _ h.1.1 f
committed_follows log p limit old new (ends.Rejected reason) h f = more_follows log old new _ h.1 f
committed_follows log p limit old new (ends.Sealed back) h f = more_follows log old new _ h.1.2 f
committed_follows log p limit old new ends.NoMemory h f = more_follows log old new _ h.1.2 f

-- the choice on a replica that has caught up
pub chosen_on_replica : {opening : Flat resources} {old new : Sitting} {choice : Option NodeProposal} (start : ℕ) (replica : Content) (flat : Flat resources) → CatchesUp opening replica old new →
    flat ≡ replica.cluster → choice ≡ choice_from (sight_of flat) start → ChoosesNow opening start old new choice
chosen_on_replica start replica flat caught same is = (
  caught.mid,
  caught.notes,
  record {
    entries = replica.log;
    cluster = replica.cluster;
    replays = caught.run;
    noted = caught.noted;
    chosen = is ∙ ap (λ (x : Flat resources). choice_from (sight_of x) start) same;
  },
)

-- a piece of the news was followed
pub piece_taken : {opening : Flat resources} {old new : Sitting} {news : List Entry} {are_all : Bool} (log : List Entry) (replica : Content) → IsNews opening log old new news are_all → replica.log ≡ log ++ news → Replays opening replica.log replica.cluster → TakesPiece opening replica old new are_all
piece_taken {opening} {old} {new} {news} {are_all} log replica is followed run = record {
  copied = (log ++ news ++ is.rest, is.copied.0, is.copied.1, is.noted);
  run = run;
  all = λ t. subst (λ (l : List Entry). HasMore old new (Noted l answer.Copied ∷ [])) (sym followed) (all_noted opening log news old new are_all is t);
}

-- a piece is noted, whatever of it was followed
pub piece_noted : {opening : Flat resources} {old new : Sitting} {news : List Entry} {are_all : Bool} (log : List Entry) → IsNews opening log old new news are_all → Notes opening old new
piece_noted {news = news} log is = notes_one notes_none (log ++ news ++ is.rest, is.copied.0, is.copied.1, is.noted)

pub notes_then : {opening : Flat resources} {old mid new : Sitting} → Notes opening old mid → Notes opening mid new → Notes opening old new
notes_then x notes_none = x
notes_then x (notes_one y copied) = notes_one (notes_then x y) copied

-- the last piece was all
pub caught_up : {opening : Flat resources} {old mid new : Sitting} {is_all : Bool} (replica : Content) → Notes opening old mid → TakesPiece opening replica mid new is_all → is_all ≡ true → CatchesUp opening replica old new
caught_up {mid = mid} replica notes piece is = record { mid = mid; notes = notes; run = piece.run; noted = piece.all is }

-- copies were noted, whether all was followed or not
pub notes_of : {A E : Type 0} {opening : Flat resources} {old new : Sitting} (r : Result A E) (replica : Content) → MatchResult r (λ x. CatchesUp opening replica old new) (λ e. Notes opening old new) → Notes opening old new
notes_of (Ok x) replica caught = notes_one caught.notes (replica.log, replica.cluster, caught.run, caught.noted)
notes_of (Err e) replica notes = notes

-- the choice went to one commit
pub following_turn : (opening : Flat resources) (limit start : ℕ) (old mid new : Sitting) (p : NodeProposal) (end : TurnEnd) → ChoosesNow opening start old mid (Some p) → IsCommitted p limit mid new end → IsFollowingTurn opening limit start old new end
following_turn opening limit start old mid new p ends.Nothing c h = absurd h
following_turn opening limit start old mid new p (ends.Done event) c h = (c.0, c.1, (mid, p, c.2, h))
following_turn opening limit start old mid new p (ends.Rejected reason) c h = (c.0, c.1, (mid, p, c.2, h))
following_turn opening limit start old mid new p (ends.Sealed back) c h = (c.0, c.1, (mid, p, c.2, h))
following_turn opening limit start old mid new p ends.NoMemory c h = (c.0, c.1, inr (mid, p, c.2, h))

pub unchosen_turn : (opening : Flat resources) (limit start : ℕ) (old new : Sitting) → Notes opening old new → IsFollowingTurn opening limit start old new ends.NoMemory
unchosen_turn opening limit start old new notes = (new, notes, inl refl)

-- the choice went to one put
pub following_offer : (opening : Flat resources) (start : ℕ) (old new : Sitting) (before after : WorkerSide) (p : NodeProposal) (end : OfferEnd) → ChoosesNow opening start old new (Some p) → IsPut p before after end → IsFollowingOffer opening start old new before after end
following_offer opening start old new before after p offers.Nothing c h = absurd h
following_offer opening start old new before after p offers.Put c h = (c.0, c.1, (p, c.2, h))
following_offer opening start old new before after p (offers.Refused back) c h = (c.0, c.1, (p, c.2, h))
following_offer opening start old new before after p offers.NoMemory c h = absurd h
