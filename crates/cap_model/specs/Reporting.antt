-- The reply that a call gives, in numbers; the reply in full, whose grants and ends lie with its application; and room to own them.
use Rattle.std.specs.Prelude.{◌≡◌, ℕ, ◌≤◌, ◌+◌, min, Some, length, option_map, option_and_then, if◌then◌else◌}
use Rattle.std.specs.Option.{option_map_or}
use Rattle.cap_base.specs.Limits.{news_max}
use Rattle.cap_model.specs.ResponseIds.{is_repeated}
use Rattle.cap_model.specs.declared.request.Request.{Request}
use Rattle.cap_model.specs.declared.replies.Reported.{Reported}
use Rattle.cap_model.specs.declared.replies.AllocateNumbers.{AllocateNumbers}
use Rattle.cap_model.specs.declared.reply.ReplyWith.{ReplyWith}
use Rattle.cap_model.specs.declared.reply.ReplyWith.TheVariants as Reply
use Rattle.cap_model.specs.News.{AllocateReply, Reply}
use Rattle.cap_model.specs.Flat.{Flat, App, app_at}
use Rattle.cap_model.specs.Allocate.{kept_reply}
use Rattle.cap_model.specs.Replies.{map_reply, Replies, RepliesAlways}

-- the numbers of the answer to an allocate
abbrev pub reported_of : AllocateReply → Reported
reported_of reply = record { response = reply.response; ignored = reply.ignored; grants = length reply.grants; ends = length reply.ends }

-- for how many grants and ends there is room
pub record NewsRoom : Type 0 where
  pub grants : ℕ
  pub ends : ℕ

abbrev pub no_news : NewsRoom
no_news = record { grants = 0; ends = 0 }

-- how many grants and ends an application is told at most by an allocate of this response id with so many releases
abbrev pub news_most : App → ℕ → ℕ → NewsRoom
news_most app id releases =
    if is_repeated app.response app.kept id
    then option_map_or (λ kept. record { grants = length kept.grants; ends = length kept.ends }) app.kept no_news
    else record { grants = min news_max (length app.grants); ends = min news_max (length app.ends + releases) }

module _ {K : ℕ} where
  -- what holds of the answer to an allocate, where the reply is one
  abbrev pub IfAllocate : {A : Type 0} → (A → Type 0) → ReplyWith K A → Type 0
  IfAllocate P (Reply.Allocate reply) = P reply
  IfAllocate P other = Unit {0}

  -- the reply in full
  abbrev pub full_reply : Flat K → ReplyWith K AllocateNumbers → Reply K
  full_reply cluster reply = map_reply (λ n. kept_reply cluster n.app) reply

  -- the numbers of a reply are those of the one that its application keeps
  abbrev pub HasNumbers : Flat K → ReplyWith K AllocateNumbers → Type 0
  HasNumbers cluster reply = IfAllocate (λ n. option_map reported_of (option_and_then (λ app. app.kept) (app_at cluster n.app)) ≡ Some n.reported) reply

  -- the reply function's reply is the one that was given, in full
  abbrev pub RepliesInFull : Flat K → Request K → ReplyWith K AllocateNumbers → Flat K → Type 0
  RepliesInFull old request reply new = Replies old request (full_reply new reply) new

  abbrev pub RepliesInFullAlways : Flat K → Request K → ReplyWith K AllocateNumbers → Flat K → Type 0
  RepliesInFullAlways old request reply new = RepliesAlways old request (full_reply new reply) new

  -- the grants and ends of a reply have room
  abbrev pub HasRoomFor : Reply K → NewsRoom → Type 0
  HasRoomFor reply room = IfAllocate (λ r. (length r.grants ≤ room.grants) × (length r.ends ≤ room.ends)) reply

  -- a call that isn't an allocate
  abbrev pub IsNoAllocate : Request K → Type 0
  IsNoAllocate (Request.Allocate app id asks releases) = ⊥
  IsNoAllocate other = Unit {0}

  -- whatever the call is answered, its grants and ends have room
  abbrev pub HasRoomForReplies : Flat K → Request K → NewsRoom → Type 0
  HasRoomForReplies old request room = (reply : Reply K) (new : Flat K) → Replies old request reply new → HasRoomFor reply room

  -- how many grants and ends the reply to a request reports at most, whatever it is answered
  abbrev pub reports_most : Flat K → Request K → NewsRoom
  reports_most cluster (Request.Allocate app id asks releases) = option_map_or (λ a. news_most a id (length releases)) (app_at cluster app) no_news
  reports_most cluster other = no_news
