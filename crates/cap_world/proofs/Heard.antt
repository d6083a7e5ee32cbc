-- What each connection heard of the steps that were made, and what it was answered for it.
use Rattle.cap_world.proofs.Prelude.{◌≡◌, ◌≢◌, ◌<◌, ℕ, Bool, true, false, List, [], ◌++◌, Option, Some, None, Ok, Err, IsSome, refl, sym, ap, subst, ◌∙◌, append_assoc, append-nil, inl, inr, All-nil, ◌⊎◌, ◌==◌, if◌then◌else◌, MatchBool, cases_Bool, eqb-true, resources, Event, Flat, rest, fault, IsStream, IsBytes, stream_goes_on, Standing, Step, Did, SessionCause, Call, SessionState, AnswersBy, IsSession, AnswersSome, Connection, new_connection, is_open_standing, AnswersAs, Feeds, StandsAfter, WorldState, connection_at, is_open, is_open_connection, output_from, Changes, HasAnswersAt, StepOutcome, NoMemory, Hearing, unopened, live, over, cut, cut_short, Attempt, performed, starved, ComesTo, opened, ended, HearsPiece, HearsStep, after_starved, HearsAttempt, IsHeard}
use Rattle.cap_world.specs.declared.connection.Standing.TheVariants as standings
use Rattle.cap_world.specs.declared.step.Step.TheVariants as steps
use Rattle.cap_world.specs.declared.step.Did.TheVariants as dids
use Rattle.cap_session.specs.declared.session.SessionCause.TheVariants as causes

abbrev IsOver : Standing → Type 0
IsOver standings.Open = ⊥
IsOver standings.Ended = Unit {0}
IsOver standings.Faulted = Unit {0}
IsOver standings.Starved = ⊥

-- a connection is what was heard of it
abbrev pub Agrees : Hearing → Option Connection → Type 0
Agrees unopened None = Unit {0}
Agrees unopened (Some is) = ⊥
Agrees (live taken) None = ⊥
Agrees (live taken) (Some is) = (is.standing ≡ standings.Open) × (is.session.fed ≡ taken)
Agrees (over taken) None = ⊥
Agrees (over taken) (Some is) = IsOver is.standing × (is.session.fed ≡ taken)
Agrees (cut taken) None = ⊥
Agrees (cut taken) (Some is) = (is.standing ≡ standings.Starved) × ((later : List ℕ) × IsBytes later × (is.session.fed ++ later ≡ taken))

not_cut : {A : Type 0} (standing : Standing) → standing ≡ standings.Open → standing ≡ standings.Starved → A
not_cut standing lives starves = let both : standings.Open ≡ standings.Starved = sym lives ∙ starves in absurd (cc both)

-- what a connection hears next
abbrev Next : (Hearing → Type 0) → Option Connection → Type 0
Next Heard new = (next : Hearing) × Heard next × Agrees next new

-- ---- one step

-- nothing changed, and the step was not for it or has no effect
no_open : (heard : Hearing) (o : Option Connection) → IsSome o → Agrees heard o → opened heard ≡ heard
no_open unopened None some a = absurd cc
no_open unopened (Some is) some a = absurd a
no_open (live taken) o some a = refl
no_open (over taken) o some a = refl
no_open (cut taken) o some a = refl

no_end : (heard : Hearing) (o : Option Connection) → is_open_connection o ≡ false → Agrees heard o → ended heard ≡ heard
no_end unopened o closed a = refl
no_end (live taken) None closed a = absurd a
no_end (live taken) (Some is) closed a = let lives : true ≡ false = rw a.0 at closed in absurd (cc lives)
no_end (over taken) o closed a = refl
no_end (cut taken) o closed a = refl

no_piece : (piece : List ℕ) (heard : Hearing) (o : Option Connection) → is_open_connection o ≡ false → Agrees heard o → HearsPiece piece heard heard
no_piece piece unopened o closed a = refl
no_piece piece (live taken) None closed a = absurd a
no_piece piece (live taken) (Some is) closed a = let lives : true ≡ false = rw a.0 at closed in absurd (cc lives)
no_piece piece (over taken) o closed a = refl
no_piece piece (cut taken) o closed a = refl

-- a connection opens
opens : (heard : Hearing) (o : Option Connection) → o ≡ None → Agrees heard o → Next (λ next. next ≡ opened heard) (Some new_connection)
opens unopened o e a = (live [], refl, (refl, refl))
opens (live taken) o e a = absurd (rw e at a)
opens (over taken) o e a = absurd (rw e at a)
opens (cut taken) o e a = absurd (rw e at a)

-- an open connection ends
ends : (heard : Hearing) (was : Connection) → was.standing ≡ standings.Open → Agrees heard (Some was) → Next (λ next. next ≡ ended heard) (Some (record was { standing = standings.Ended }))
ends unopened was lives a = absurd a
ends (live taken) was lives a = (over taken, refl, (tt, a.1))
ends (over taken) was lives a = absurd (subst IsOver lives a.0)
ends (cut taken) was lives a = not_cut was.standing lives a.0

-- all of a piece was taken, or none of it for want of memory
abbrev Takes : List ℕ → List ℕ → Standing → Type 0
Takes piece more standing = (more ≡ piece) ⊎ ((more ≡ []) × (standing ≡ standings.Starved))

-- an open connection hears a piece
hears : (standing : Standing) (s : SessionState) (before piece more last : List ℕ) → standing ≢ standings.Starved → StandsAfter standing s last → IsSession s → s.fed ≡ before ++ more → Takes piece more standing → Next (HearsPiece piece (live before)) (Some (record { standing = standing; session = s }))
hears standings.Open s before piece more last fine stands session fed (inl is) =
    let taken : s.fed ≡ before ++ piece = fed ∙ ap (λ (x : List ℕ). before ++ x) is in
    (live (before ++ piece), inl ((s.answered, stands.3.0, subst (λ (x : List ℕ). IsStream x s.answered (rest stands.3.0)) taken stands.3.1), refl), (refl, taken))
hears standings.Faulted s before piece more last fine stands session fed (inl is) =
    let taken : s.fed ≡ before ++ piece = fed ∙ ap (λ (x : List ℕ). before ++ x) is in
    let at : AnswersBy (Some causes.BadLength) s = subst (λ (c : Option SessionCause). AnswersBy c s) stands.0 session.answers in
    (over (before ++ piece), inr ((s.answered, at.0, subst (λ (x : List ℕ). IsStream x s.answered (fault at.0)) taken at.2), refl), (tt, taken))
hears standings.Ended s before piece more last fine stands session fed taken = absurd stands
hears standings.Starved s before piece more last fine stands session fed taken = absurd (fine refl)
hears standings.Open s before piece more last fine stands session fed (inr stuck) = absurd (fine stuck.1)
hears standings.Faulted s before piece more last fine stands session fed (inr stuck) = absurd (fine stuck.1)

hears_piece : (by : ℕ) (piece : List ℕ) (from to : Flat resources) (before after : List (Event resources)) (heard : Hearing) (was is : Connection) → was.standing ≡ standings.Open → Agrees heard (Some was) → is.standing ≢ standings.Starved → Feeds by piece from to before after was is → Next (HearsPiece piece heard) (Some is)
hears_piece by piece from to before after unopened was is lives a fine f = absurd a
hears_piece by piece from to before after (over taken) was is lives a fine f = absurd (subst IsOver lives a.0)
hears_piece by piece from to before after (cut taken) was is lives a fine f = not_cut was.standing lives a.0
hears_piece by piece from to before after (live taken) was is lives a fine f =
    subst (λ (x : List ℕ). Next (HearsPiece piece (live x)) (Some is)) a.1
    (hears is.standing is.session was.session.fed piece f.more f.last fine f.stands f.session f.serves.continues.fed f.taken)

-- its own step or another's
own_or_other : (c d : ℕ) (is : Connection) (old new : List (ℕ × Connection)) (heard : Hearing) (Own : Hearing → Type 0) → Changes d is old new → Agrees heard (connection_at c old) → (c ≡ d → Next Own (Some is)) → Next (λ next. MatchBool (d == c) (Own next) (next ≡ heard)) (connection_at c new)
own_or_other c d is old new heard Own change a own =
    elim (cases_Bool (d == c)) [
      | inl t ↦
          let next = own (sym (eqb-true d c t)) in
          (next.0, rw t next.1, rw (change c, t) next.2)
      | inr f ↦ (heard, rw f refl, rw (change c, f) a)
    ]

-- the same for a step whose effect is a function
as_choice : (b : Bool) (next own heard : Hearing) → MatchBool b (next ≡ own) (next ≡ heard) → next ≡ (if b then own else heard)
as_choice true next own heard h = h
as_choice false next own heard h = h

chosen : {o : Option Connection} (b : Bool) (own heard : Hearing) → Next (λ next. MatchBool b (next ≡ own) (next ≡ heard)) o → Next (λ next. next ≡ (if b then own else heard)) o
chosen b own heard n = (n.0, as_choice b n.0 own heard n.1, n.2)

same_choice : (b : Bool) (own heard : Hearing) → (b ≡ true → own ≡ heard) → heard ≡ (if b then own else heard)
same_choice true own heard e = sym (e refl)
same_choice false own heard e = refl

same_match : (b : Bool) (P Q : Type 0) → (b ≡ true → P) → Q → MatchBool b P Q
same_match true P Q p q = p refl
same_match false P Q p q = q

-- a step of a worker is heard by none
same_heard : (heard : Hearing) (c : ℕ) (old new : WorldState) → new.connections ≡ old.connections → Agrees heard (connection_at c old.connections) → Next (λ next. next ≡ heard) (connection_at c new.connections)
same_heard heard c old new e a = (heard, refl, subst (λ (x : List (ℕ × Connection)). Agrees heard (connection_at c x)) (sym e) a)

hears_done : (c : ℕ) (step : Step) (did : Did) (old new : WorldState) (before after : List (Event resources)) (heard : Hearing) → StepOutcome step (Ok did) old new before after → Agrees heard (connection_at c old.connections) → Next (HearsStep c step heard) (connection_at c new.connections)
hears_done c (steps.Open d) dids.Done old new before after heard o a =
    chosen (d == c) (opened heard) heard (own_or_other c d new_connection old.connections new.connections heard (λ next. next ≡ opened heard) o.1 a
    (λ same. opens heard (connection_at c old.connections) (rw same o.0) a))
hears_done c (steps.End d) dids.Done old new before after heard o a =
    let e = o.0 in
    chosen (d == c) (ended heard) heard (own_or_other c d (record e.0 { standing = standings.Ended }) old.connections new.connections heard (λ next. next ≡ ended heard) e.3 a
    (λ same. ends heard e.0 e.2 (subst (λ (x : Option Connection). Agrees heard x) (rw same e.1) a)))
hears_done c (steps.Bytes d piece) dids.Done old new before after heard o a =
    let f = o.2 in
    own_or_other c d f.1 old.connections new.connections heard (HearsPiece piece.now heard) f.4 a
    (λ same. hears_piece d piece.now old.cluster new.cluster before after heard f.0 f.1 f.3 (subst (λ (x : Option Connection). Agrees heard x) (rw same f.2) a) (λ starves. o.1 (sym f.6 ∙ starves)) f.5)
hears_done c (steps.Open d) dids.Idle old new before after heard o a = (
  heard,
  same_choice (d == c) (opened heard) heard (λ t. no_open heard (connection_at c old.connections) (subst (λ (x : ℕ). IsSome (connection_at x old.connections)) (eqb-true d c t) o.0) a),
  subst (λ (x : WorldState). Agrees heard (connection_at c x.connections)) (sym o.1) a,
)
hears_done c (steps.End d) dids.Idle old new before after heard o a = (
  heard,
  same_choice (d == c) (ended heard) heard (λ t. no_end heard (connection_at c old.connections) (subst (λ (x : ℕ). is_open x old ≡ false) (eqb-true d c t) o.0) a),
  subst (λ (x : WorldState). Agrees heard (connection_at c x.connections)) (sym o.1) a,
)
hears_done c (steps.Bytes d piece) dids.Idle old new before after heard o a = (
  heard,
  same_match (d == c) (HearsPiece piece.now heard heard) (heard ≡ heard) (λ t. no_piece piece.now heard (connection_at c old.connections) (subst (λ (x : ℕ). is_open x old ≡ false) (eqb-true d c t) o.0) a) refl,
  subst (λ (x : WorldState). Agrees heard (connection_at c x.connections)) (sym o.1) a,
)
hears_done c (steps.Copy w) dids.Done old new before after heard o a = same_heard heard c old new o.0.connections a
hears_done c (steps.Propose w start) dids.Done old new before after heard o a = same_heard heard c old new o.0.connections a
hears_done c (steps.Commit w) dids.Done old new before after heard o a = same_heard heard c old new o.connections a
hears_done c (steps.Copy w) dids.Idle old new before after heard o a = same_heard heard c old new (ap (λ (x : WorldState). x.connections) o.1) a
hears_done c (steps.Propose w start) dids.Idle old new before after heard o a = same_heard heard c old new (ap (λ (x : WorldState). x.connections) o.1) a
hears_done c (steps.Commit w) dids.Idle old new before after heard o a = same_heard heard c old new (ap (λ (x : WorldState). x.connections) o.1) a

-- ---- a step that was refused memory

-- an open connection ends in a piece: all of it was taken, or none
cuts : (by : ℕ) (piece : List ℕ) (from to : Flat resources) (before after : List (Event resources)) (heard : Hearing) (was is : Connection) → was.standing ≡ standings.Open → Agrees heard (Some was) → is.standing ≡ standings.Starved → Feeds by piece from to before after was is → Next (λ next. next ≡ cut_short piece heard) (Some is)
cuts by piece from to before after unopened was is lives a starves f = absurd a
cuts by piece from to before after (over taken) was is lives a starves f = absurd (subst IsOver lives a.0)
cuts by piece from to before after (cut taken) was is lives a starves f = not_cut was.standing lives a.0
cuts by piece from to before after (live taken) was is lives a starves f = (cut (taken ++ piece), refl, (starves, later f.taken))
  where
    fed : is.session.fed ≡ taken ++ f.more
    fed = f.serves.continues.fed ∙ ap (λ (x : List ℕ). x ++ f.more) a.1

    later : Takes piece f.more is.standing → (later : List ℕ) × IsBytes later × (is.session.fed ++ later ≡ taken ++ piece)
    later (inl whole) = ([], All-nil (λ (b : ℕ). b < 256), append-nil is.session.fed ∙ fed ∙ ap (λ (x : List ℕ). taken ++ x) whole)
    later (inr stuck) = (piece, f.fits, ap (λ (x : List ℕ). x ++ piece) (fed ∙ ap (λ (x : List ℕ). taken ++ x) stuck.0 ∙ append-nil taken))

hears_starved : (c : ℕ) (step : Step) (e : NoMemory) (old new : WorldState) (before after : List (Event resources)) (heard : Hearing) → StepOutcome step (Err e) old new before after → Agrees heard (connection_at c old.connections) → Next (λ next. next ≡ after_starved c step heard) (connection_at c new.connections)
hears_starved c (steps.Open d) e old new before after heard o a = same_heard heard c old new (ap (λ (x : WorldState). x.connections) o.1) a
hears_starved c (steps.End d) e old new before after heard o a = absurd o
hears_starved c (steps.Copy w) e old new before after heard o a = same_heard heard c old new (ap (λ (x : WorldState). x.connections) o.1) a
hears_starved c (steps.Propose w start) e old new before after heard o a = absurd o
hears_starved c (steps.Commit w) e old new before after heard o a = same_heard heard c old new (ap (λ (x : WorldState). x.connections) o.1) a
hears_starved c (steps.Bytes d piece) e old new before after heard o a =
    let f = o.0 in
    chosen (d == c) (cut_short piece.now heard) heard (own_or_other c d f.1 old.connections new.connections heard (λ next. next ≡ cut_short piece.now heard) f.4 a
    (λ same. cuts d piece.now old.cluster new.cluster before after heard f.0 f.1 f.3 (subst (λ (x : Option Connection). Agrees heard x) (rw same f.2) a) f.6 f.5))

pub hears_attempt : (c : ℕ) (attempt : Attempt) (old new : WorldState) (before after : List (Event resources)) (heard : Hearing) → ComesTo attempt old new before after → Agrees heard (connection_at c old.connections) → Next (HearsAttempt c attempt heard) (connection_at c new.connections)
hears_attempt c (performed step) old new before after heard o a = hears_done c step o.0 old new before after heard o.1 a
hears_attempt c (starved step) old new before after heard o a = hears_starved c step o.0 old new before after heard o.1 a

-- ---- what was answered for what was heard

-- a beginning of the payloads is one also with more bytes
some_more : (taken piece : List ℕ) (calls : List (Call resources)) (output : List ℕ) → IsBytes piece → AnswersSome taken calls output → AnswersSome (taken ++ piece) calls output
some_more taken piece calls output fits has =
    let on = stream_goes_on taken piece (has.0 ++ has.1) has.2 has.3 fits in
    (has.0, has.1 ++ on.0, on.1, subst (λ (x : List (List ℕ)). IsStream (taken ++ piece) x on.1) (append_assoc has.0 has.1 on.0) on.2, has.4)

pub is_heard : (heard : Hearing) (calls : List (Call resources)) (o : Option Connection) → Agrees heard o → HasAnswersAt calls o → IsHeard heard calls (output_from o) (is_open_connection o)
is_heard unopened calls None a has = (has, refl, refl)
is_heard unopened calls (Some is) a has = absurd a
is_heard (live taken) calls None a has = absurd a
is_heard (live taken) calls (Some is) a has =
    let all : AnswersAs standings.Open taken calls is.session.unsent = subst (λ (x : List ℕ). AnswersAs standings.Open x calls is.session.unsent) a.1 (subst (λ (s : Standing). AnswersAs s is.session.fed calls is.session.unsent) a.0 has.answers) in
    (rest all.0, all.1, ap is_open_standing a.0)
is_heard (cut taken) calls None a has = absurd a
is_heard (cut taken) calls (Some is) a has =
    let some : AnswersSome is.session.fed calls is.session.unsent = subst (λ (s : Standing). AnswersAs s is.session.fed calls is.session.unsent) a.0 has.answers in
    (subst (λ (x : List ℕ). AnswersSome x calls is.session.unsent) a.1.2 (some_more is.session.fed a.1.0 calls is.session.unsent a.1.1 some), ap is_open_standing a.0)
is_heard (over taken) calls None a has = absurd a
is_heard (over taken) calls (Some is) a has =
    subst (λ (x : List ℕ). IsHeard (over x) calls is.session.unsent (is_open_standing is.standing)) a.1 (over_heard is.standing is.session.fed calls is.session.unsent a.0 has.answers)
  where
    over_heard : (standing : Standing) (taken : List ℕ) (calls : List (Call resources)) (output : List ℕ) → IsOver standing → AnswersAs standing taken calls output → IsHeard (over taken) calls output (is_open_standing standing)
    over_heard standings.Open taken calls output is has = absurd is
    over_heard standings.Ended taken calls output is has = (rest has.0, has.1, refl)
    over_heard standings.Faulted taken calls output is has = (fault has.0, has.1, refl)
    over_heard standings.Starved taken calls output is has = absurd is
