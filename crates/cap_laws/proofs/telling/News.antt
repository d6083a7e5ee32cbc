-- The grants and the ends: what events tell of them, and what they add.
use Rattle.cap_laws.proofs.Prelude.{◌≡◌, ℕ, Bool, true, false, List, [], ◌∷◌, ◌++◌, refl, sym, Option, Some, None, cond, not, ◌&&◌, ◌==◌, if◌then◌else◌, option_map_or, take-append-drop, append-nil, Ask, Cause, End, Grant, AllocateReply, Request, Flat, App, Container, app_at, with_ends, new_app, news_max, news_report, after_telling, is_repeated_allocate, released_by, is_repeated_heartbeat, ended_by, Event, after_event, news_of, told_grants, new_grants, ever_told_grants, ever_new_grants, told_ends, new_ends, ever_told_ends, ever_new_ends, ends_of}
use Rattle.cap_model.specs.declared.reply.ReplyWith.TheVariants as Reply
use Rattle.cap_laws.proofs.calls.Steps.{told_reply, gone_at}

-- A kind of news, the grants or the ends: what an application keeps of it until it is told, what a reply tells, and what ends and a grant add.
pub record News (N : Type 0) : Type 0 where
  pub of : App → List N
  pub from : AllocateReply → List N
  pub ends : Cause → ℕ → List Container → List N
  pub grants : Grant → List N

pub record IsNews {N : Type 0} (k : News N) : Type 0 where
  pub entering : (number : ℕ) (leaf user : List ℕ) → k.of (new_app number leaf user) ≡ []
  pub registering : (a : App) → k.of (record a { registered = true }) ≡ k.of a
  pub asking : (asks : List Ask) (a : App) → k.of (record a { asks = asks }) ≡ k.of a
  pub telling : (id ignored : ℕ) (a : App) → k.from (news_report id ignored a) ++ k.of (after_telling id ignored a) ≡ k.of a
  pub ending : (cause : Cause) (gone : List Container) (a : App) → k.of (with_ends cause gone a) ≡ k.of a ++ k.ends cause a.number gone
  pub granting : (asks : List Ask) (grant : Grant) (a : App) → k.of (record a { asks = asks; grants = a.grants ++ grant ∷ [] }) ≡ k.of a ++ k.grants grant

-- what an event tells an application of it, and what it adds
module _ {N : Type 0} (k : News N) {K : ℕ} where
  abbrev pub untold : Flat K → ℕ → List N
  untold c n = option_map_or k.of (app_at c n) []

  abbrev pub told_of : Flat K → ℕ → Event K → List N
  told_of old n event = option_map_or k.from (told_reply old n event) []

  abbrev pub new_of : Flat K → ℕ → Event K → List N
  new_of old n (Event.Grant c) = if c.app == n then k.grants (news_of old c) else []
  new_of old n event = option_map_or (λ g. k.ends (g.0) n (g.1)) (gone_at old event) []

-- functions that say so, of an event and of the events of a run
pub record AreTold {N : Type 0} (k : News N) {K : ℕ} (told new : Flat K → ℕ → Event K → List N) (ever_told ever_new : Flat K → ℕ → List (Event K) → List N) : Type 0 where
  pub told_is : (old : Flat K) (n : ℕ) (event : Event K) → told old n event ≡ told_of k old n event
  pub new_is : (old : Flat K) (n : ℕ) (event : Event K) → new old n event ≡ new_of k old n event
  pub start : (old : Flat K) (n : ℕ) → (ever_told old n [] ≡ []) × (ever_new old n [] ≡ [])
  pub more : (old : Flat K) (n : ℕ) (event : Event K) (events : List (Event K)) →
      (ever_told old n (event ∷ events) ≡ told old n event ++ ever_told (after_event old event) n events) × (ever_new old n (event ∷ events) ≡ new old n event ++ ever_new (after_event old event) n events)

-- the grants are news, and so are the ends

abbrev pub grants : News Grant
grants = record { of = λ a. a.grants; from = λ r. r.grants; ends = λ cause n gone. []; grants = λ grant. grant ∷ [] }

abbrev pub ends : News End
ends = record { of = λ a. a.ends; from = λ r. r.ends; ends = ends_of; grants = λ grant. [] }

pub grants_are : IsNews grants
grants_are = record {
  entering = λ number leaf user. refl;
  registering = λ a. refl;
  asking = λ asks a. refl;
  telling = λ id ignored a. take-append-drop news_max a.grants;
  ending = λ cause gone a. sym (append-nil a.grants);
  granting = λ asks grant a. refl;
}

pub ends_are : IsNews ends
ends_are = record {
  entering = λ number leaf user. refl;
  registering = λ a. refl;
  asking = λ asks a. refl;
  telling = λ id ignored a. take-append-drop news_max a.ends;
  ending = λ cause gone a. refl;
  granting = λ asks grant a. sym (append-nil a.ends);
}

pub nothing_either : {A : Type 0} (b : Bool) → cond {A = List A} b [] [] ≡ []
nothing_either true = refl
nothing_either false = refl

told_where : {N : Type 0} (from : AllocateReply → List N) (b : Bool) (reply : AllocateReply) → cond b (from reply) [] ≡ option_map_or from (cond b (Some reply) None) []
told_where from true reply = refl
told_where from false reply = refl

gone_where : {N : Type 0} (f : (Cause × List Container) → List N) (b : Bool) (g : Cause × List Container) → cond b [] (f g) ≡ option_map_or f (cond b None (Some g)) []
gone_where f true g = refl
gone_where f false g = refl

nothing_of : {A N : Type 0} (o : Option A) → [] ≡ option_map_or {U = List N} (λ x. []) o []
nothing_of None = refl
nothing_of (Some x) = refl

module _ {K : ℕ} where
  told_grants_are : (old : Flat K) (n : ℕ) (event : Event K) → told_grants old n event ≡ told_of grants old n event
  told_grants_are old n (Event.Call by (Request.Allocate app id asks releases) (Reply.Allocate reply)) = told_where (λ r. r.grants) (app == n && not (is_repeated_allocate old app id)) reply
  told_grants_are old n _ = refl

  told_ends_are : (old : Flat K) (n : ℕ) (event : Event K) → told_ends old n event ≡ told_of ends old n event
  told_ends_are old n (Event.Call by (Request.Allocate app id asks releases) (Reply.Allocate reply)) = told_where (λ r. r.ends) (app == n && not (is_repeated_allocate old app id)) reply
  told_ends_are old n _ = refl

  new_grants_are : (old : Flat K) (n : ℕ) (event : Event K) → new_grants old n event ≡ new_of grants old n event
  new_grants_are old n (Event.Grant c) = refl
  new_grants_are old n (Event.Call by request reply) = nothing_of (gone_at old (Event.Call by request reply))
  new_grants_are old n (Event.Reserve r) = refl

  new_ends_are : (old : Flat K) (n : ℕ) (event : Event K) → new_ends old n event ≡ new_of ends old n event
  new_ends_are old n (Event.Grant c) = sym (nothing_either (c.app == n))
  new_ends_are old n (Event.Call by (Request.Allocate app id asks releases) (Reply.Allocate reply)) = gone_where (λ g. ends_of (g.0) n (g.1)) (is_repeated_allocate old app id) (Cause.Released, released_by old app releases)
  new_ends_are old n (Event.Call by (Request.Heartbeat node id ended) (Reply.Heartbeat reply)) = gone_where (λ g. ends_of (g.0) n (g.1)) (is_repeated_heartbeat old node id) (Cause.EndedOnNode, ended_by old node ended)
  new_ends_are old n (Event.Call by (Request.NodeGone node) (Reply.NodeGone count)) = refl
  new_ends_are old n _ = refl

  pub grants_told : AreTold grants {K = K} told_grants new_grants ever_told_grants ever_new_grants
  grants_told = record { told_is = told_grants_are; new_is = new_grants_are; start = λ old n. (refl, refl); more = λ old n event events. (refl, refl) }

  pub ends_told : AreTold ends {K = K} told_ends new_ends ever_told_ends ever_new_ends
  ends_told = record { told_is = told_ends_are; new_is = new_ends_are; start = λ old n. (refl, refl); more = λ old n event events. (refl, refl) }
