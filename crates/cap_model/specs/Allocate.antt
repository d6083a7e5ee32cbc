-- Allocate: a master asks for containers, releases some, and is told the news of its application.
use Rattle.std.specs.Prelude.{ℕ, ◌-◌, Bool, not, ◌&&◌, List, [], ◌∷◌, Option, Some, length, is_none, take, drop, unwrap_or, option_and_then, if◌then◌else◌, nat_lt, nat_le}
use Rattle.std.specs.List.{fold, list_any}
use Rattle.cap_base.specs.Cascade.{earliest, holds_of}
use Rattle.cap_base.specs.Amounts.{fits}
use Rattle.cap_base.specs.Limits.{keys_max, news_max}
use Rattle.cap_model.specs.Asks.{Ask}
use Rattle.cap_model.specs.declared.news.Cause.{Cause}
use Rattle.cap_model.specs.News.{AllocateReply, Reply}
use Rattle.cap_model.specs.declared.refusal.Refusal.{Refusal}
use Rattle.cap_model.specs.declared.reply.ReplyWith.TheVariants as Reply
use Rattle.cap_model.specs.Flat.{Flat, App, Container, app_at, containers_of, with_app}
use Rattle.cap_model.specs.ResponseIds.{next_response, is_repeated, is_bad_id}
use Rattle.cap_model.specs.Ending.{named_among, after_ends}
use Rattle.cap_model.specs.Asking.{put_ask, after_asks}

-- the reply before there is one
abbrev pub nothing_told : AllocateReply
nothing_told = record { response = 0; ignored = 0; grants = []; ends = [] }

-- whether more keys than allowed would stand after all the asks
abbrev pub has_too_many_keys : App → List Ask → Bool
has_too_many_keys app asks = nat_lt keys_max (length (fold (λ kept ask. put_ask ask kept) app.asks asks))

-- what an application is told: the oldest grants and the oldest ends of those not yet told
abbrev pub news_report : ℕ → ℕ → App → AllocateReply
news_report id ignored app = record {
  response = next_response id;
  ignored = ignored;
  grants = take news_max app.grants;
  ends = take news_max app.ends;
}

-- the application after it was told: the rest waits, and the reply is kept
abbrev pub after_telling : ℕ → ℕ → App → App
after_telling id ignored app = record app {
  response = next_response id;
  kept = Some (news_report id ignored app);
  grants = drop news_max app.grants;
  ends = drop news_max app.ends;
}

module _ {K : ℕ} where
  -- whether the request repeats the last processed one
  abbrev pub is_repeated_allocate : Flat K → ℕ → ℕ → Bool
  is_repeated_allocate cluster n id = holds_of (λ app. is_repeated app.response app.kept id) (app_at cluster n)

  -- whether an ask passes the maximum allocation before it is rounded; one that takes its key away may
  abbrev pub is_too_large : Flat K → Ask → Bool
  is_too_large cluster ask = nat_le 1 ask.count && not (fits ask.resource cluster.settings.maximum_allocation)

  -- why an allocate is refused
  abbrev pub allocate_refusal : Flat K → ℕ → ℕ → List Ask → Option Refusal
  allocate_refusal cluster n id asks =
      let app = app_at cluster n in
      let fresh = not (is_repeated_allocate cluster n id) in
      earliest (
      (is_none app, Refusal.UnknownApplication)
      ∷ (not (holds_of (λ a. a.registered) app), Refusal.NotRegistered)
      ∷ (holds_of (λ a. is_bad_id a.response a.kept id) app, Refusal.BadResponseId)
      ∷ (fresh && list_any (is_too_large cluster) asks, Refusal.AskTooLarge)
      ∷ (fresh && holds_of (λ a. has_too_many_keys a asks) app, Refusal.TooManyAsks)
      ∷ [])

  -- the live containers of the application that its releases name
  abbrev pub released_by : Flat K → ℕ → List ℕ → List Container
  released_by cluster n releases = named_among releases (containers_of cluster.nodes n)

  -- the cluster after the asks and the releases
  abbrev pub after_wishes : Flat K → ℕ → List Ask → List ℕ → Flat K
  after_wishes cluster n asks releases = after_ends Cause.Released (released_by cluster n releases) (after_asks n asks cluster)

  -- the cluster after a processed allocate: a release that names nothing is counted as ignored
  abbrev pub after_processed_allocate : Flat K → ℕ → ℕ → List Ask → List ℕ → Flat K
  after_processed_allocate cluster n id asks releases =
      with_app n (after_telling id (length releases - length (released_by cluster n releases))) (after_wishes cluster n asks releases)

  -- the cluster after an allocate that is not refused: a repeated one changes nothing
  abbrev pub after_allocate : Flat K → ℕ → ℕ → List Ask → List ℕ → Flat K
  after_allocate cluster n id asks releases =
      if is_repeated_allocate cluster n id then cluster else after_processed_allocate cluster n id asks releases

  -- the reply that an application keeps
  abbrev pub kept_reply : Flat K → ℕ → AllocateReply
  kept_reply cluster n = unwrap_or (option_and_then (λ app. app.kept) (app_at cluster n)) nothing_told

  -- its reply is the one that is kept after it
  abbrev pub allocate_reply : Flat K → ℕ → ℕ → List Ask → List ℕ → Reply K
  allocate_reply cluster n id asks releases = Reply.Allocate (kept_reply (after_allocate cluster n id asks releases) n)
