use Rattle.cap_shared.proofs.Prelude.{◌≡◌, length, ap, sym, ◌∙◌, HasRoomForReplies, NewsRoom, news_most, has_some}
use Rattle.cap_shared.proofs.call_room.news_rooms.Goals as goal

pub returns : goal.returns
returns c =
    let cluster = c.args.cluster.now.flat in
    let app = c.in-Some.app.now.app in
    let id = c.in-Allocate.response in
    let one : (room : NewsRoom) → room ≡ news_most app id (length c.as_slice-releases.result.now) → HasRoomForReplies cluster c.args.request.now room =
    λ room most. has_some cluster c.in-Allocate.app id c.in-Allocate.asks c.in-Allocate.releases c.apps.result.now.table app room c.args.request.now c.in-Allocate.is c.apps.ensures.table (sym c.in-Some.ensures.found)
    (most ∙ ap (λ rs. news_most app id (length rs)) c.as_slice-releases.ensures.value) in
    λ reply new is. (one _ c.in_ok-reply_room.ensures reply new is, one _ c.in_ok-reply_room-2.ensures reply new is)
