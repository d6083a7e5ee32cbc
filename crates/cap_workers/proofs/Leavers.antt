-- Workers at the end of an epoch.
use Rattle.cap_workers.proofs.Prelude.{◌≡◌, ℕ, zero, suc, ◌+◌, List, [], ◌∷◌, ◌++◌, Option, Some, None, inl, inr, ap, arith, refl, sym, subst, ◌∙◌, append_assoc, drop, take, drop-append_seam, take-append_seam, length, length-append, map, map-append, resources, Flat, Entry, Sitting, sitting}
use mathlib.Core.List.{IsPrefix}
use Rattle.std.specs.Prelude.{IfSome}
use Rattle.std.specs.Option.{option_to_list}
use Rattle.cap_lanes.specs.Sides.{WorkerSide}
use Rattle.std.specs.List.{All}
use Rattle.std.proofs.lemmas.List.Elements.{All-cons, All-drop, All-head, All-nil, All-push, All-take, All-weaker}
use Rattle.cap_base.proofs.lists.Members.{in_left, in_right}
use Rattle.cap_shared.specs.Following.{Follows}
use Rattle.cap_shared.specs.WordRule.{AllFit, Fits, fresh}
use Rattle.cap_shared.proofs.Following.{follows_begins}
use Rattle.cap_base.specs.Members.{IsIn}
use Rattle.cap_workers.specs.Idle.{AllAre, AllBegin, AllFollowed, HasFollowed, HasSpell, IsFresh}
use Rattle.cap_workers.specs.Lanes.{StayIn}
use Rattle.cap_workers.specs.Scheduling.{spell, Work, Works}
use Rattle.cap_workers.specs.declared.idle.IdleWorker.{IdleWorker}
use Rattle.cap_shared.specs.Parts.{Content}
use Rattle.cap_workers.specs.declared.worker.Worker.{Worker}

-- what holds of all holds of the one that is yielded
pub at_middle : {X : Type 0} (P : X → Type 0) (yielded rest later all : List X) (x : X) → yielded ++ rest ≡ all → rest ≡ x ∷ later → All P all → P x
at_middle {X} P yielded rest later all x whole step h =
    All-head P x later (subst (λ (xs : List X). All P xs) (ap (drop (length yielded)) (sym whole) ∙ drop-append_seam yielded rest ∙ step) (All-drop P (length yielded) all h))

-- one worker more leaves: its seat comes to the others, and its lane, if it had one
still_among : (ended : Option WorkerSide) (ends more : List WorkerSide) → IfSome ended (λ e. IsIn e ends) → IfSome ended (λ e. IsIn e (ends ++ more))
still_among None ends more h = tt
still_among (Some e) ends more h = in_left e ends more h

own_among : (ended : Option WorkerSide) (ends : List WorkerSide) → IfSome ended (λ e. IsIn e (ends ++ option_to_list ended))
own_among None ends = tt
own_among (Some e) ends = in_right e ends (e ∷ []) (inl refl)

still_seated : (opening : Flat resources) (limit : ℕ) (seats : List Sitting) (s : Sitting) (ends more : List WorkerSide) (w : Worker × Worker) → HasSpell opening limit seats ends w → HasSpell opening limit (seats ++ s ∷ []) (ends ++ more) w
still_seated opening limit seats s ends more w h = record { seat = h.seat; member = in_left h.seat seats (s ∷ []) h.member; ended = h.ended; among = still_among h.ended ends more h.among; works = h.works }

pub one_works : (opening : Flat resources) (limit : ℕ) (seats seats' : List Sitting) (ends ends' : List WorkerSide) (yielded : List Work) (one : Work) (s : Sitting) (ended : Option WorkerSide) → seats' ≡ seats ++ s ∷ [] → ends' ≡ ends ++ option_to_list ended → s ≡ one.seat → ended ≡ one.ended →
    Works opening limit one.first one.worker one.seat one.ended → All (HasSpell opening limit seats ends) (map spell yielded) → All (HasSpell opening limit seats' ends') (map spell (yielded ++ one ∷ []))
one_works opening limit seats seats' ends ends' yielded one s ended seats_are ends_are is is_ended works all =
    let P : Worker × Worker → Type 0 = HasSpell opening limit (seats ++ s ∷ []) (ends ++ option_to_list ended) in
    let own : Works opening limit one.first one.worker s ended = rw (is, is_ended) works in
    let new : P (spell one) = record { seat = s; member = in_right s seats (s ∷ []) (inl refl); ended = ended; among = own_among ended ends; works = own } in
    let pushed : All P (map spell yielded ++ spell one ∷ []) = All-push P (map spell yielded) (spell one) (All-weaker (HasSpell opening limit seats ends) P (λ (x : Worker × Worker) h. still_seated opening limit seats s ends (option_to_list ended) x h) (map spell yielded) all) new in
    rw (seats_are, ends_are, map-append spell yielded (one ∷ [])) pushed

-- the committer's seat comes to the others
pub more_seats : (opening : Flat resources) (limit : ℕ) (seats seats' : List Sitting) (ends : List WorkerSide) (spells : List (Worker × Worker)) → StayIn seats seats' → All (HasSpell opening limit seats ends) spells → All (HasSpell opening limit seats' ends) spells
more_seats opening limit seats seats' ends spells stay all =
    All-weaker (HasSpell opening limit seats ends) (HasSpell opening limit seats' ends) (λ (x : Worker × Worker) h. record { seat = h.seat; member = stay h.seat h.member; ended = h.ended; among = h.among; works = h.works }) spells all

-- and its replica, if it has one, has followed what the seat was noted
followed_in_more : (seats seats' : List Sitting) (own : Option Content) → StayIn seats seats' → IfSome own (λ r. (seat : Sitting) × IsIn seat seats × Follows r.log seat.past) → IfSome own (λ r. (seat : Sitting) × IsIn seat seats' × Follows r.log seat.past)
followed_in_more seats seats' None stay h = tt
followed_in_more seats seats' (Some r) stay (seat, member, follows) = (seat, stay seat member, follows)

pub more_followed : (seats seats' : List Sitting) (leaving : List (Worker × Option Content)) → StayIn seats seats' → AllFollowed seats leaving → AllFollowed seats' leaving
more_followed seats seats' leaving stay all = All-weaker (HasFollowed seats) (HasFollowed seats') (λ (x : Worker × Option Content) h. followed_in_more seats seats' x.1 stay h) leaving all

own_followed : (seats : List Sitting) (s : Sitting) (own : Option Content) → IfSome own (λ r. Follows r.log s.past) → IfSome own (λ r. (seat : Sitting) × IsIn seat (seats ++ s ∷ []) × Follows r.log seat.past)
own_followed seats s None h = tt
own_followed seats s (Some r) h = (s, in_right s seats (s ∷ []) (inl refl), h)

pub one_followed : (seats seats' : List Sitting) (leaving leaving' : List (Worker × Option Content)) (s : Sitting) (w : Worker × Option Content) → seats' ≡ seats ++ s ∷ [] → leaving' ≡ leaving ++ w ∷ [] → AllFollowed seats leaving → IfSome w.1 (λ r. Follows r.log s.past) → AllFollowed seats' leaving'
one_followed seats seats' leaving leaving' s w seats_are leaving_are all follows =
    rw (seats_are, leaving_are) (All-push (HasFollowed (seats ++ s ∷ [])) leaving w (more_followed seats (seats ++ s ∷ []) leaving (λ x member. in_left x seats (s ∷ []) member) all) (own_followed seats s w.1 follows))

fits_in : (journal : List Entry) (seats : List Sitting) (s : Sitting) → AllFit journal seats → IsIn s seats → Fits journal s
fits_in journal [] s fit h = absurd h
fits_in journal (x ∷ xs) s fit (inl same) = subst (λ (y : Sitting). Fits journal y) same fit.0
fits_in journal (x ∷ xs) s fit (inr later) = fits_in journal xs s fit.1 later

left_begins : (journal : List Entry) (seats : List Sitting) (own : Option Content) → AllFit journal seats → IfSome own (λ r. (seat : Sitting) × IsIn seat seats × Follows r.log seat.past) → IfSome own (λ r. IsPrefix r.log journal)
left_begins journal seats None fit h = tt
left_begins journal seats (Some r) fit (s, member, follows) = follows_begins journal r.log s.past follows (fits_in journal seats s fit member).notes

-- what all have followed is a beginning of the journal that all seats fit
pub all_begin : (journal : List Entry) (seats : List Sitting) (leaving : List (Worker × Option Content)) → AllFit journal seats → AllFollowed seats leaving → AllBegin journal leaving
all_begin journal seats leaving fit all =
    All-weaker (HasFollowed seats) (λ (x : Worker × Option Content). IfSome x.1 (λ own. IsPrefix own.log journal)) (λ (x : Worker × Option Content) h. left_begins journal seats x.1 fit h) leaving all

-- seats that were opened were answered nothing
all_fresh : (n k : ℕ) → All IsFresh (fresh n k)
all_fresh n zero = All-nil IsFresh
all_fresh n (suc k) = All-cons IsFresh (sitting n []) (fresh (suc n) k) refl (all_fresh (suc n) k)

pub are_fresh : (k : ℕ) (seats : List Sitting) → seats ≡ fresh 0 k → All IsFresh seats
are_fresh k seats is = subst (λ (ss : List Sitting). All IsFresh ss) (sym is) (all_fresh 0 k)

-- neither were the others, where one is taken, nor that one
pub others_fresh : (seats rest last : List Sitting) → seats ≡ rest ++ last → All IsFresh seats → All IsFresh rest
others_fresh seats rest last is all = subst (λ (ss : List Sitting). All IsFresh ss) (ap (take (length rest)) is ∙ take-append_seam rest last) (All-take IsFresh (length rest) seats all)

pub last_fresh : (seats rest last : List Sitting) (s : Sitting) → seats ≡ rest ++ last → last ≡ s ∷ [] → All IsFresh seats → IsFresh s
last_fresh seats rest last s is one all = at_middle IsFresh rest last [] seats s (sym is) one all

-- one more of each list, which are the same in this
pub maps_one : {X Y Z : Type 0} (f : X → Z) (g : Y → Z) (xs xs' : List X) (x : X) (ys : List Y) (y : Y) → xs' ≡ xs ++ x ∷ [] → map f xs ≡ map g ys → f x ≡ g y → map f xs' ≡ map g (ys ++ y ∷ [])
maps_one f g xs xs' x ys y is same one = ap (map f) is ∙ map-append f xs (x ∷ []) ∙ ap (λ zs. zs ++ f x ∷ []) same ∙ ap (λ z. map g ys ++ z ∷ []) one ∙ sym (map-append g ys (y ∷ []))

-- one more, by what it is seen as
pub one_more : {X Y : Type 0} (f : X → Y) (xs xs' : List X) (x : X) (ys : List Y) (y : Y) → xs' ≡ xs ++ x ∷ [] → map f xs ≡ ys → f x ≡ y → map f xs' ≡ ys ++ y ∷ []
one_more f xs xs' x ys y is same one = ap (map f) is ∙ map-append f xs (x ∷ []) ∙ ap (λ zs. zs ++ f x ∷ []) same ∙ ap (λ z. ys ++ z ∷ []) one

pub mapped_one : {X Y : Type 0} (f : Y → X) (xs xs' : List X) (ys : List Y) (y : Y) → xs' ≡ xs ++ f y ∷ [] → xs ≡ map f ys → xs' ≡ map f (ys ++ y ∷ [])
mapped_one f xs xs' ys y is same = is ∙ ap (λ zs. zs ++ f y ∷ []) same ∙ sym (map-append f ys (y ∷ []))

-- one seat more
pub one_seat_more : {X : Type 0} (seats after : List Sitting) (s : Sitting) (n : ℕ) (yielded : List X) (x : X) → after ≡ seats ++ s ∷ [] → length seats ≡ n + length yielded → length after ≡ n + length (yielded ++ x ∷ [])
one_seat_more seats after s n yielded x is count = omega (arith, ap length is, length-append seats (s ∷ []), length-append yielded (x ∷ []), count)

-- what was yielded and what is left, where one is yielded more
pub yields_one : {X : Type 0} (yielded rest later all : List X) (x : X) → yielded ++ rest ≡ all → rest ≡ x ∷ later → (yielded ++ x ∷ []) ++ later ≡ all
yields_one {X} yielded rest later all x whole step = append_assoc yielded (x ∷ []) later ∙ ap (λ (xs : List X). yielded ++ xs) (sym step) ∙ whole

-- one worker more with this cluster
pub one_is : (cluster : Flat resources) (workers workers' : List IdleWorker) (w : IdleWorker) → workers' ≡ workers ++ w ∷ [] → AllAre cluster workers → IfSome w.cluster (λ own. own.flat ≡ cluster) → AllAre cluster workers'
one_is cluster workers workers' w are all one = let P : IdleWorker → Type 0 = λ x. IfSome x.cluster (λ own. own.flat ≡ cluster) in subst (λ (ws : List IdleWorker). All P ws) (sym are) (All-push P workers w all one)
