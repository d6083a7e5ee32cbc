-- Limits that are met, or under which nothing has risen since they were: a Refresh may lower a limit below what is used.
use Rattle.std.specs.Prelude.{◌≡◌, ◌⊎◌, ℕ, Bool, true, false, ◌&&◌, List, [], ◌∷◌, ◌++◌, IfSome, bytes_eq}
use Rattle.cap_base.specs.Cascade.{holds_of}
use Rattle.cap_base.specs.Amounts.{fits, times}
use Rattle.cap_base.specs.Paths.{is_under}
use Rattle.cap_model.specs.Flat.{Flat, app_at, queue_at}
use Rattle.cap_model.specs.Uses.{queue_use, user_use}
use Rattle.cap_model.specs.declared.event.Event.{Event}
use Rattle.cap_model.specs.Events.{Run, Step}
use Rattle.cap_model.specs.Bounds.{FitsMaximum}

-- whose use counts, by leaf queue and user: all in a queue and under it, and a user's in a leaf queue
abbrev pub in_queue : List ℕ → List ℕ → List ℕ → Bool
in_queue path leaf user = is_under path leaf

abbrev pub of_user : List ℕ → List ℕ → List ℕ → List ℕ → Bool
of_user path name leaf user = bytes_eq path leaf && bytes_eq name user

module _ {K : ℕ} where
  -- whether an event is a grant or a reservation for an application that counts
  abbrev pub raises : (List ℕ → List ℕ → Bool) → Flat K → Event K → Bool
  raises counts old (Event.Call by request reply) = false
  raises counts old (Event.Grant c) = holds_of (λ app. counts app.leaf app.user) (app_at old c.app)
  raises counts old (Event.Reserve r) = holds_of (λ app. counts app.leaf app.user) (app_at old r.app)

  -- a run without grants and reservations for those that count
  abbrev pub QuietRun : (List ℕ → List ℕ → Bool) → Flat K → List (Event K) → Flat K → Type 0
  QuietRun counts old [] new = old ≡ new
  QuietRun counts old (event ∷ events) new = (mid : Flat K) × Step old event mid × (raises counts old event ≡ false) × QuietRun counts mid events new

  -- since a state of the run in which the limit was met, or since the opening, no grant and no reservation has come for those that count
  pub record NotRisen (IsMet : Flat K → Type 0) (counts : List ℕ → List ℕ → Bool) (opening : Flat K) (events : List (Event K)) (now : Flat K) : Type 0 where
    pub before : List (Event K)
    pub after : List (Event K)
    pub since : Flat K
    pub parts : events ≡ before ++ after
    pub run : Run opening before since
    pub met : (before ≡ []) ⊎ IsMet since
    pub quiet : QuietRun counts since after now

  -- a queue's use is within its maximum, and a user's use there within the user limit, where there is a queue of that path
  abbrev pub MeetsMaximum : List ℕ → Flat K → Type 0
  MeetsMaximum path cluster = IfSome (queue_at cluster path) (λ q. FitsMaximum (queue_use cluster path) q.maximum)

  abbrev pub MeetsUserLimit : List ℕ → List ℕ → Flat K → Type 0
  MeetsUserLimit path user cluster = IfSome (queue_at cluster path) (λ q. fits (user_use cluster path user) (times q.factor q.guaranteed) ≡ true)

  -- after these events of a run each maximum and each user limit is met, or the use that it bounds has not risen since it was
  pub record LimitsAreMetOrNotRisen (opening : Flat K) (events : List (Event K)) (now : Flat K) : Type 0 where
    pub maxima : (path : List ℕ) → MeetsMaximum path now ⊎ NotRisen (MeetsMaximum path) (in_queue path) opening events now
    pub users : (path user : List ℕ) → MeetsUserLimit path user now ⊎ NotRisen (MeetsUserLimit path user) (of_user path user) opening events now
