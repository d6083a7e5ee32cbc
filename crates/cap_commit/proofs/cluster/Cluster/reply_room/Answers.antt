use Rattle.cap_commit.proofs.Fitting.{apps_fit}
use Rattle.cap_commit.proofs.Prelude.{◌≡◌, ◌∙◌, ap, sym, length, Some, IfOk-weaker, HasRoomForReplies, NewsRoom, news_most, reports_most}
use Rattle.cap_commit.proofs.Viewing.{has_some, has_other, most_of, most_other}
use Rattle.cap_commit.proofs.cluster.Cluster.reply_room.Goals as goal

pub returns-in_default-clause-room : goal.returns-in_default-clause-room
returns-in_default-clause-room g c =
    IfOk-weaker c.new.result _ (λ room. HasRoomForReplies c.args.self.now.flat c.args.request.now room)
    (λ room is. has_other c.args.self.now.flat c.args.request.now room (λ n id asks releases e. c.in_default.not-Allocate n id asks releases e)) c.new.ensures

pub returns-in_default-clause-most : goal.returns-in_default-clause-most
returns-in_default-clause-most g c =
    IfOk-weaker c.new.result _ (λ (room : NewsRoom). room ≡ reports_most c.args.self.now.flat c.args.request.now)
    (λ room is. most_other c.args.self.now.flat c.args.request.now room (λ n id asks releases e. c.in_default.not-Allocate n id asks releases e) is) c.new.ensures

pub returns-in-Some-clause-room : goal.returns-in-Some-clause-room
returns-in-Some-clause-room g c =
    let is = c.in-Allocate.is in
    let found = c.in-Some.ensures.found in
    IfOk-weaker c.reply_room.result _ (λ room. HasRoomForReplies c.args.self.now.flat c.args.request.now room)
    (λ room most. has_some c.args.self.now.flat c.in-Allocate.app c.in-Allocate.response c.in-Allocate.asks c.in-Allocate.releases c.apps.result.now.table c.in-Some.app.now.app room c.args.request.now is c.apps.ensures.table (sym found)
    (most ∙ ap (λ rs. news_most c.in-Some.app.now.app c.in-Allocate.response (length rs)) c.as_slice.ensures.value)) c.reply_room.ensures

pub returns-in-Some-clause-most : goal.returns-in-Some-clause-most
returns-in-Some-clause-most g c =
    IfOk-weaker c.reply_room.result _ (λ (room : NewsRoom). room ≡ reports_most c.args.self.now.flat c.args.request.now)
    (λ room most. most_of c.args.self.now.flat c.in-Allocate.app c.in-Allocate.response c.in-Allocate.asks c.in-Allocate.releases c.apps.result.now.table (Some c.in-Some.app.now.app) room c.args.request.now c.in-Allocate.is c.apps.ensures.table (sym c.in-Some.ensures.found)
    (most ∙ ap (λ rs. news_most c.in-Some.app.now.app c.in-Allocate.response (length rs)) c.as_slice.ensures.value)) c.reply_room.ensures

pub apps-requires : goal.apps-requires
apps-requires g c = search apps_fit
