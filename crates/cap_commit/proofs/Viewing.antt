-- The reply in full, and room for it.
use Rattle.cap_commit.proofs.Prelude.{◌≡◌, ℕ, List, refl, sym, ap, subst, ◌∙◌, Option, Some, length, unwrap_or, option_map, option_map_or, Ask, AllocateReply, AllocateNumbers, Request, ReplyWith, Flat, App, AppTable, app_in, nothing_told, IfAllocate, NewsRoom, reported_of, full_reply, HasNumbers, HasRoomForReplies, no_news, news_most, reports_most, IsNoAllocate, some_room, other_room, kept_of}
use Rattle.cap_model.specs.declared.reply.ReplyWith.TheVariants as Reply

module _ {K : ℕ} (flat : Flat K) where
  pub viewed : (numbers : AllocateNumbers) (reply : ReplyWith K AllocateNumbers) (table : AppTable) (result : AllocateReply) → reply ≡ Reply.Allocate numbers → table ≡ flat.apps → HasNumbers flat reply
      → (option_map reported_of (kept_of numbers.app table) ≡ Some numbers.reported → kept_of numbers.app table ≡ Some result) → Reply.Allocate result ≡ full_reply flat reply
  viewed numbers reply table result is same has gives =
      let numbered : HasNumbers flat (Reply.Allocate numbers) = subst (λ r. HasNumbers flat r) is has in
      let kept = gives (ap (λ (t : AppTable). option_map reported_of (kept_of numbers.app t)) same ∙ numbered) in
      ap (λ r. Reply.Allocate (unwrap_or r nothing_told)) (sym kept ∙ ap (kept_of numbers.app) same) ∙ ap (full_reply flat) (sym is)

  pub has_some : (n id : ℕ) (asks : List Ask) (releases : List ℕ) (table : AppTable) (app : App) (room : NewsRoom) (request : Request K) → request ≡ Request.Allocate n id asks releases → table ≡ flat.apps
      → app_in table n ≡ Some app → room ≡ news_most app id (length releases) → HasRoomForReplies flat request room
  has_some n id asks releases table app room request is same there most =
      subst (λ q. HasRoomForReplies flat q room) (sym is)
      (subst (λ m. HasRoomForReplies flat (Request.Allocate n id asks releases) m) (sym most) (some_room flat n id asks releases app (ap (λ (t : AppTable). app_in t n) (sym same) ∙ there)))

  no_allocate : (request : Request K) → ((n id : ℕ) (asks : List Ask) (releases : List ℕ) → request ≡ Request.Allocate n id asks releases → ⊥) → IsNoAllocate request
  no_allocate (Request.Allocate app id asks releases) none = none app id asks releases refl
  no_allocate other none = tt

  pub has_other : (request : Request K) (room : NewsRoom) → ((n id : ℕ) (asks : List Ask) (releases : List ℕ) → request ≡ Request.Allocate n id asks releases → ⊥) → HasRoomForReplies flat request room
  has_other request room none = other_room flat request room (no_allocate request none)

  pub most_other : (request : Request K) (room : NewsRoom) → ((n id : ℕ) (asks : List Ask) (releases : List ℕ) → request ≡ Request.Allocate n id asks releases → ⊥) → room ≡ no_news → room ≡ reports_most flat request
  most_other request room none is = is ∙ nothing request (no_allocate request none)
    where
      nothing : (q : Request K) → IsNoAllocate q → no_news ≡ reports_most flat q
      nothing (Request.Allocate app id asks releases) h = absurd h
      nothing other h = refl

  pub most_of : (n id : ℕ) (asks : List Ask) (releases : List ℕ) (table : AppTable) (app : Option App) (room : NewsRoom) (request : Request K) → request ≡ Request.Allocate n id asks releases → table ≡ flat.apps
      → app_in table n ≡ app → room ≡ option_map_or (λ a. news_most a id (length releases)) app no_news → room ≡ reports_most flat request
  most_of n id asks releases table app room request is same there most =
      most
      ∙ ap (λ o. option_map_or (λ a. news_most a id (length releases)) o no_news) (sym there ∙ ap (λ (t : AppTable). app_in t n) same)
      ∙ ap (reports_most flat) (sym is)

-- a reply that isn't an allocate's is none
pub not_numbers : {K : ℕ} (reply : ReplyWith K AllocateNumbers) → ((n : AllocateNumbers) → reply ≡ Reply.Allocate n → ⊥) → IfAllocate (λ _. ⊥) reply
not_numbers (Reply.Allocate reply) none = none reply refl
not_numbers other none = tt
