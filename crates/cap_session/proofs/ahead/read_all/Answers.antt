use Rattle.cap_session.proofs.Prelude.{◌≤◌, ◌∙◌, ◌++◌, ◌∷◌, [], ℕ, List, ap, ap₂, sym, subst, arith, resources, Request, after_gift, OpenRequest}
use Rattle.cap_session.proofs.Reading.{opens, opens_request, opened_is, same_payload, reads_more, has_room}
use Rattle.cap_session.proofs.Owing.{rooms_few, read_room_few, rooms_read}
use Rattle.cap_session.proofs.ahead.read_all.Goals as goal

pub new-requires-in-loop-alloc : goal.new-requires-in-loop-alloc
new-requires-in-loop-alloc c =
    let p = c.in-Ok-Some.payload in
    let gift = rw c.in-Ok-Some.field-0-is at c.in-Ok-Some.ensures.frame in
    let same = same_payload c.loop-alloc.framer c.next.new.self c.in-Some.bytes.now p.items c.in-Some.ensures.comes c.next.ensures.reading gift in
    opens_request p c.read_request-read.result c.and-opened.result.items c.in-Ok.head c.in-Ok.request
    (opens p c.in-Some.bytes.now c.read_request-read.result c.new.result.items c.and-opened.result.items same c.read_request-read.ensures.found c.read_request-read.ensures.bad c.new.ensures c.and-opened.ensures) c.in-Ok.is

pub loop-alloc-preserved : goal.loop-alloc-preserved
loop-alloc-preserved c =
    let (was, reading, unsent, room, owed) = c.loop-alloc.invariant in
    let p = c.in-Ok-Some.payload in
    let o = c.new-in-loop-alloc.result in
    let gift = rw c.in-Ok-Some.field-0-is at c.in-Ok-Some.ensures.frame in
    let same = same_payload c.loop-alloc.framer c.next.new.self c.in-Some.bytes.now p.items c.in-Some.ensures.comes c.next.ensures.reading gift in
    let (payload, request, read) = opened_is p c.read_request-read.result c.and-opened.result.items c.in-Ok.head c.in-Ok.request o
    (opens p c.in-Some.bytes.now c.read_request-read.result c.new.result.items c.and-opened.result.items same c.read_request-read.ensures.found c.read_request-read.ensures.bad c.new.ensures c.and-opened.ensures) c.in-Ok.is c.new-in-loop-alloc.ensures in
    let made = has_room c.make_room.result c.if-is_err-3.ensures.value c.make_room.ensures.made in
    let added = c.push_back_reserved.ensures.items ∙ ap (λ (x : List OpenRequest). x ++ o ∷ []) c.make_room.ensures.asked in
    let now = rooms_read c.loop-alloc.asked.items c.push_back_reserved.new.self.items o c.read_request-read.result c.in-Ok.head c.in-Ok.request c.loop-alloc.room c.room_after-room.result owed c.room_after-room.ensures c.in-Ok.is request added in (
      reads_more c.next.new.self o c.push_back_reserved.new.self.items c.push_back_reserved-in-loop-alloc.new.self.items was (gift ∙ ap (λ x. after_gift c.loop-alloc.framer x) (sym payload)) read
          added
          (c.push_back_reserved-in-loop-alloc.ensures.items ∙ ap₂ (λ (x : List (Request resources)) (y : Request resources). x ++ y ∷ []) c.reserve.ensures.items (sym request)),
      c.next.ensures.reading,
      c.make_room.ensures.unsent ∙ unsent,
      subst (λ (n : ℕ). n ≤ c.make_room.new.unsent.spare) now made.1,
      now,
    )

pub overflow_add-room : goal.overflow_add-room
overflow_add-room c =
    let (was, reading, unsent, room, owed) = c.loop-alloc.invariant in
    omega (arith, rooms_few c.loop-alloc.asked.items, read_room_few c.read_request-read.result, owed, c.room_after-room.ensures, c.loop-alloc-test.true, c.len-in-loop-alloc.ensures, c.loop-alloc.asked.ok.0)
