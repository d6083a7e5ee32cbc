-- The room of a call, made before it.
use Rattle.std.specs.Prelude.{◌≡◌, ◌==◌, ◌&&◌, Bool, true, Option, Some, None}
use Rattle.cap_base.specs.Limits.{resources}
use Rattle.cap_model.specs.Flat.{Flat}
use Rattle.cap_model.specs.News.{Reply}
use Rattle.cap_model.specs.Replies.{Replies}
use Rattle.cap_model.specs.Reporting.{HasRoomFor, no_news}
use Rattle.cap_model.specs.declared.replies.AllocateNumbers.{AllocateNumbers}
use Rattle.cap_model.specs.declared.reply.ReplyWith.{ReplyWith}
use Rattle.cap_model.specs.declared.reply.ReplyWith.TheVariants as reply
use Rattle.cap_model.specs.declared.request.Request.{Request}
use Rattle.cap_shared.specs.declared.call_room.CallRoom.{CallRoom}
use Rattle.cap_shared.specs.declared.call_room.NewsRooms.{NewsRooms}
use Rattle.cap_shared.specs.declared.call_room.ReplyCopies.{ReplyCopies}

-- each of the rooms has room for the grants and ends of a reply; where there are no rooms, it has none
abbrev pub HasRoomsFor : Reply resources → Option NewsRooms → Type 0
HasRoomsFor reply (Some rooms) = HasRoomFor reply rooms.entry × HasRoomFor reply rooms.receipt
HasRoomsFor reply None = HasRoomFor reply no_news

-- the same, whatever the call is answered
abbrev pub AreRoomsFor : Flat resources → Request resources → Option NewsRooms → Type 0
AreRoomsFor old request rooms = (reply : Reply resources) (new : Flat resources) → Replies old request reply new → HasRoomsFor reply rooms

-- the memory for a call: its request, for its entry and for its receipt, and room for its reply
pub record IsRoomFor (cluster : Flat resources) (request : Request resources) (room : CallRoom) : Type 0 where
  pub entry : room.entry ≡ request
  pub receipt : room.receipt ≡ request
  pub news : AreRoomsFor cluster request room.news

pub record AreCopiesOf (reply : Reply resources) (copies : ReplyCopies) : Type 0 where
  pub entry : copies.entry ≡ reply
  pub receipt : copies.receipt ≡ reply

-- whether a reply reports no grant and no end
abbrev pub tells_nothing : ReplyWith resources AllocateNumbers → Bool
tells_nothing (reply.Allocate n) = (n.reported.grants == 0) && (n.reported.ends == 0)
tells_nothing other = true
