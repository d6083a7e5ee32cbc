-- Worked examples: proposals that are made, admitted and rejected.
use Rattle.std.specs.Prelude.{◌≡◌, ℕ, true, false, not, [], ◌∷◌, Some, None, filter, bytes_eq, codes}
use Rattle.cap_base.specs.Settings.{Settings}
use Rattle.cap_model.specs.declared.request.Request.{Request}
use Rattle.cap_model.specs.declared.reply.ReplyWith.TheVariants as Reply
use Rattle.cap_model.specs.Flat.{Flat, Reservation, opened_cluster}
use Rattle.cap_model.specs.Uses.{queue_use}
use Rattle.cap_model.specs.Sight.{sight_of}
use Rattle.cap_model.specs.Admission.{reason_of}
use Rattle.cap_model.specs.declared.proposal.Reason.{Reason}
use Rattle.cap_model.specs.Candidates.{choice_from}
use Rattle.cap_base.specs.Trees.{is_tree}
use Rattle.cap_model.specs.Replies.{reply_to, after_request}
use Rattle.cap_examples.specs.ExampleClusters.{mb_and_vcores, key, ask_anywhere, queue, with_queues, two_queues, two_masters, after_calls, small, asks_of, grant_of, reserve_of, after_grants, with_room_reserved}

-- a middle queue of guarantee (2048, 4) and maximum (3072, 8), with two children of maximum (2048, 8) and a leaf in each
abbrev pub middle_queue : Settings
middle_queue = with_queues (
    queue (codes "root") (mb_and_vcores 0 0) None 1
    ∷ queue (codes "root.g") (mb_and_vcores 2048 4) (Some (mb_and_vcores 3072 8)) 1
    ∷ queue (codes "root.g.p") (mb_and_vcores 1024 2) (Some (mb_and_vcores 2048 8)) 1
    ∷ queue (codes "root.g.p.l") (mb_and_vcores 1024 2) (Some (mb_and_vcores 2048 8)) 4
    ∷ queue (codes "root.g.q") (mb_and_vcores 1024 2) (Some (mb_and_vcores 2048 8)) 1
    ∷ queue (codes "root.g.q.l") (mb_and_vcores 1024 2) (Some (mb_and_vcores 2048 8)) 4
    ∷ [])

-- root.g.q.l holds two containers of (1024, 1), and application 1 in root.g.p.l asks for two more
abbrev pub under_middle : Flat 2
under_middle =
    after_calls (after_grants 2 2 (key 0 0) 1 (mb_and_vcores 1024 1)
    (after_calls (opened_cluster middle_queue) (
    Request.RegisterNode (codes "n1") (codes "/r1") (mb_and_vcores 8192 8)
    ∷ Request.Submit (codes "root.g.p.l") (codes "u1")
    ∷ Request.Submit (codes "root.g.q.l") (codes "u2")
    ∷ Request.RegisterMaster 1
    ∷ Request.RegisterMaster 2
    ∷ [])))
    (asks_of 1 0 (ask_anywhere (key 1 0) 2 (mb_and_vcores 1024 1) ∷ []) ∷ [])

-- the first container is admissible and brings root.g to its maximum; the second would pass it at level 1, though every leaf has room
abbrev pub MiddleMaximum : Type 0
MiddleMaximum =
    let once = after_grants 1 1 (key 1 0) 1 (mb_and_vcores 1024 1) under_middle in
    (reason_of (sight_of under_middle) (grant_of 1 (key 1 0) 1 (mb_and_vcores 1024 1)) ≡ None)
    × (queue_use once (codes "root.g") ≡ mb_and_vcores 3072 3)
    × (reason_of (sight_of once) (grant_of 1 (key 1 0) 1 (mb_and_vcores 1024 1)) ≡ Some (Reason.OverMaximum 1))

-- application 1 holds six containers of (1024, 1) on the only node, and asks for one of (3072, 1)
abbrev pub crowded_cluster : Flat 2
crowded_cluster = after_calls (after_grants 6 1 (key 0 0) 1 (mb_and_vcores 1024 1) small) (asks_of 1 0 (ask_anywhere (key 1 1) 1 (mb_and_vcores 3072 1) ∷ []) ∷ [])

-- room is reserved for it, and then application 2 asks for one of (1024, 1)
abbrev pub crowded_reserved : Flat 2
crowded_reserved = after_calls (with_room_reserved 1 (key 1 1) 1 (mb_and_vcores 3072 1) crowded_cluster) (asks_of 2 0 (ask_anywhere (key 1 0) 1 (mb_and_vcores 1024 1) ∷ []) ∷ [])

-- the ask does not fit now, so room is reserved, and that counts as use of its queue
abbrev pub RoomIsReserved : Type 0
RoomIsReserved =
    (choice_from (sight_of crowded_cluster) 0 ≡ Some (reserve_of 1 (key 1 1) 1 (mb_and_vcores 3072 1)))
    × (queue_use crowded_reserved (codes "root.a") ≡ mb_and_vcores 9216 7)

-- while the reservation stands nobody else gets a container there, though one would fit
abbrev pub ReservationKeepsOthersOut : Type 0
ReservationKeepsOthersOut =
    (choice_from (sight_of crowded_reserved) 0 ≡ None)
    × (reason_of (sight_of crowded_reserved) (grant_of 2 (key 1 0) 1 (mb_and_vcores 1024 1)) ≡ Some Reason.ReservedByOther)

-- the first container ends on the node
abbrev pub one_ended : Request 2
one_ended = Request.Heartbeat 1 0 (1 ∷ [])

-- once a container has ended there is room: the reservation is converted, and the use stays as it is
abbrev pub ReservationIsConverted : Type 0
ReservationIsConverted =
    let ended = after_request crowded_reserved one_ended in
    let converted = after_grants 1 1 (key 1 1) 1 (mb_and_vcores 3072 1) ended in
    (reply_to crowded_reserved one_ended ≡ Reply.Heartbeat (record { response = 1; ignored = 0; live = 5 }))
    × (queue_use ended (codes "root.a") ≡ mb_and_vcores 8192 6)
    × (choice_from (sight_of ended) 0 ≡ Some (grant_of 1 (key 1 1) 1 (mb_and_vcores 3072 1)))
    × (queue_use converted (codes "root.a") ≡ mb_and_vcores 8192 6)
    × (converted.nodes.reserved ≡ [])

-- two nodes of (4096, 4); application 1 holds (2048, 1) on each, asks for two of (3072, 1), and room is reserved on both nodes
abbrev pub two_reservations : Flat 2
two_reservations =
    with_room_reserved 1 (key 3 0) 2 (mb_and_vcores 3072 1) (with_room_reserved 1 (key 3 0) 1 (mb_and_vcores 3072 1)
    (after_calls (after_grants 1 1 (key 0 0) 2 (mb_and_vcores 2048 1) (after_grants 1 1 (key 0 0) 1 (mb_and_vcores 2048 1)
    (after_calls (after_calls (opened_cluster two_queues) (
    Request.RegisterNode (codes "n1") (codes "/r1") (mb_and_vcores 4096 4)
    ∷ Request.RegisterNode (codes "n2") (codes "/r1") (mb_and_vcores 4096 4)
    ∷ []))
    two_masters)))
    (asks_of 1 0 (ask_anywhere (key 3 0) 2 (mb_and_vcores 3072 1) ∷ []) ∷ [])))

-- an ask for one container less drops the newer reservation
abbrev pub SmallerAskDropsNewest : Type 0
SmallerAskDropsNewest =
    let fewer = after_request two_reservations (asks_of 1 1 (ask_anywhere (key 3 0) 1 (mb_and_vcores 3072 1) ∷ [])) in
    (queue_use two_reservations (codes "root.a") ≡ mb_and_vcores 10240 4)
    × (fewer.nodes.reserved ≡ record { app = 1; key = key 3 0; node = 1; resource = mb_and_vcores 3072 1 } ∷ [])
    × (queue_use fewer (codes "root.a") ≡ mb_and_vcores 7168 3)
    × (queue_use fewer (codes "root") ≡ mb_and_vcores 7168 3)

-- the ask of another resource or another place drops both; one that is rounded to the same resource drops none
abbrev pub ChangedAskDropsAll : Type 0
ChangedAskDropsAll =
    let larger = after_request two_reservations (asks_of 1 1 (ask_anywhere (key 3 0) 2 (mb_and_vcores 3073 1) ∷ [])) in
    let placed = after_request two_reservations (asks_of 1 1 (record { key = key 3 0; count = 2; resource = mb_and_vcores 3072 1; place = codes "n1" } ∷ [])) in
    let same = after_request two_reservations (asks_of 1 1 (ask_anywhere (key 3 0) 2 (mb_and_vcores 3000 1) ∷ [])) in
    let on : ℕ → Reservation = λ node. record { app = 1; key = key 3 0; node = node; resource = mb_and_vcores 3072 1 } in
    (larger.nodes.reserved ≡ []) × (placed.nodes.reserved ≡ []) × (same.nodes.reserved ≡ on 1 ∷ on 2 ∷ [])

-- application 2 holds two containers of (1024, 1) and asks for a third: the user would pass (2048, 8)
abbrev pub UserLimit : Type 0
UserLimit =
    let full = after_calls (after_grants 2 2 (key 0 0) 1 (mb_and_vcores 1024 1) small) (asks_of 2 0 (ask_anywhere (key 1 0) 1 (mb_and_vcores 1024 1) ∷ []) ∷ []) in
    reason_of (sight_of full) (grant_of 2 (key 1 0) 1 (mb_and_vcores 1024 1)) ≡ Some Reason.OverUser

-- application 1 asks for one container of (1024, 1)
abbrev pub one_asked : Flat 2
one_asked = after_calls small (asks_of 1 0 (ask_anywhere (key 1 0) 1 (mb_and_vcores 1024 1) ∷ []) ∷ [])

-- two workers propose the same: the first proposal is admissible, and then nothing more is wanted
abbrev pub SecondProposalRejected : Type 0
SecondProposalRejected =
    let after = after_grants 1 1 (key 1 0) 1 (mb_and_vcores 1024 1) one_asked in
    (choice_from (sight_of one_asked) 0 ≡ Some (grant_of 1 (key 1 0) 1 (mb_and_vcores 1024 1)))
    × (reason_of (sight_of one_asked) (grant_of 1 (key 1 0) 1 (mb_and_vcores 1024 1)) ≡ None)
    × (reason_of (sight_of after) (grant_of 1 (key 1 0) 1 (mb_and_vcores 1024 1)) ≡ Some Reason.NoAsk)
    × (queue_use after (codes "root.a") ≡ mb_and_vcores 1024 1)

-- the ask was replaced by one of another resource since the proposal was made
abbrev pub ReplacedAskRejected : Type 0
ReplacedAskRejected =
    let replaced = after_calls one_asked (
    asks_of 1 1 (ask_anywhere (key 1 0) 0 (mb_and_vcores 1024 1) ∷ [])
    ∷ asks_of 1 2 (ask_anywhere (key 1 0) 1 (mb_and_vcores 2048 1) ∷ [])
    ∷ []) in
    reason_of (sight_of replaced) (grant_of 1 (key 1 0) 1 (mb_and_vcores 1024 1)) ≡ Some Reason.OtherAsk

-- the node went and came back under a new number, so an old proposal names no node
abbrev pub ReturnedNodeIsAnother : Type 0
ReturnedNodeIsAnother =
    let gone = after_request one_asked (Request.NodeGone 1) in
    let back = Request.RegisterNode (codes "n1") (codes "/r1") (mb_and_vcores 8192 8) in
    (reply_to gone back ≡ Reply.RegisterNode 2)
    × (reason_of (sight_of (after_request gone back)) (grant_of 1 (key 1 0) 1 (mb_and_vcores 1024 1)) ≡ Some Reason.NoNode)
    × (choice_from (sight_of (after_request gone back)) 0 ≡ Some (grant_of 1 (key 1 0) 2 (mb_and_vcores 1024 1)))

-- application 1 asks for five containers of (4096, 1); the node has room for two, and when it goes both end
abbrev pub NodeFillsUp : Type 0
NodeFillsUp =
    let asked = after_calls small (asks_of 1 0 (ask_anywhere (key 1 0) 5 (mb_and_vcores 4096 1) ∷ []) ∷ []) in
    let full = after_grants 2 1 (key 1 0) 1 (mb_and_vcores 4096 1) asked in
    (reason_of (sight_of (after_grants 1 1 (key 1 0) 1 (mb_and_vcores 4096 1) asked)) (grant_of 1 (key 1 0) 1 (mb_and_vcores 4096 1)) ≡ None)
    × (reason_of (sight_of full) (grant_of 1 (key 1 0) 1 (mb_and_vcores 4096 1)) ≡ Some Reason.NoRoom)
    × (reply_to full (Request.NodeGone 1) ≡ Reply.NodeGone 2)
    × (queue_use (after_request full (Request.NodeGone 1)) (codes "root") ≡ mb_and_vcores 0 0)

-- the nodes are gone round from the starting position, counted from 0 and modulo their number
abbrev pub RingFromTheStart : Type 0
RingFromTheStart =
    let two = after_calls one_asked (Request.RegisterNode (codes "n2") (codes "/r1") (mb_and_vcores 8192 8) ∷ []) in
    (choice_from (sight_of two) 1 ≡ Some (grant_of 1 (key 1 0) 2 (mb_and_vcores 1024 1)))
    × (choice_from (sight_of two) 2 ≡ Some (grant_of 1 (key 1 0) 1 (mb_and_vcores 1024 1)))

-- the reasons that no other example shows: no registered application, a wrong place, too many live, a reservation for what fits now or
-- never fits, and no number left; of several that hold, the first
abbrev pub OtherReasons : Type 0
OtherReasons =
    let sight = sight_of one_asked in
    let placed = sight_of (after_calls small (asks_of 1 0 (record { key = key 1 0; count = 1; resource = mb_and_vcores 1024 1; place = codes "n2" } ∷ []) ∷ [])) in
    let large = sight_of (after_calls (opened_cluster two_queues) (
    Request.RegisterNode (codes "n1") (codes "/r1") (mb_and_vcores 4096 4)
    ∷ Request.Submit (codes "root.a") (codes "u1")
    ∷ Request.RegisterMaster 1
    ∷ asks_of 1 0 (ask_anywhere (key 1 0) 1 (mb_and_vcores 8192 1) ∷ [])
    ∷ [])) in
    (reason_of sight (grant_of 3 (key 1 0) 1 (mb_and_vcores 1024 1)) ≡ Some Reason.NoApp)
    × (reason_of placed (grant_of 1 (key 1 0) 1 (mb_and_vcores 1024 1)) ≡ Some Reason.WrongPlace)
    × (reason_of (record sight { live = 65536 }) (grant_of 1 (key 1 0) 1 (mb_and_vcores 1024 1)) ≡ Some Reason.TooManyLive)
    × (reason_of sight (reserve_of 1 (key 1 0) 1 (mb_and_vcores 1024 1)) ≡ Some Reason.FitsNow)
    × (reason_of large (reserve_of 1 (key 1 0) 1 (mb_and_vcores 8192 1)) ≡ Some Reason.NeverFits)
    × (reason_of (record sight { next_container = 4611686018427387904 }) (grant_of 1 (key 1 0) 1 (mb_and_vcores 1024 1)) ≡ Some Reason.NumbersSpent)
    × (reason_of sight (grant_of 3 (key 9 9) 7 (mb_and_vcores 9999 9)) ≡ Some Reason.NoApp)
    × (reason_of (record sight { live = 65536; next_container = 4611686018427387904 }) (grant_of 1 (key 1 0) 1 (mb_and_vcores 1024 1)) ≡ Some Reason.TooManyLive)
    × (reason_of (record sight { next_container = 4611686018427387904 }) (reserve_of 1 (key 1 0) 1 (mb_and_vcores 1024 1)) ≡ Some Reason.FitsNow)
    × (reason_of (record large { next_container = 4611686018427387904 }) (reserve_of 1 (key 1 0) 1 (mb_and_vcores 8192 1)) ≡ Some Reason.NeverFits)

-- the queues of the examples are trees; without the queue between two others they are none
abbrev pub ExamplesAreTrees : Type 0
ExamplesAreTrees =
    (is_tree two_queues.queues ≡ true)
    × (is_tree middle_queue.queues ≡ true)
    × (is_tree (filter (λ q. not (bytes_eq q.path (codes "root.g.p"))) middle_queue.queues) ≡ false)
