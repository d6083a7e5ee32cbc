-- Worked examples: calls, their refusals and their replies.
use Rattle.std.specs.Prelude.{◌≡◌, ℕ, ◌+◌, true, false, List, [], ◌∷◌, Some, None, codes, map}
use Rattle.std.specs.List.{range_with_len}
use Rattle.cap_model.specs.Asks.{Ask}
use Rattle.cap_model.specs.declared.news.Cause.{Cause}
use Rattle.cap_model.specs.News.{Grant, Reply}
use Rattle.cap_model.specs.declared.refusal.Refusal.{Refusal}
use Rattle.cap_model.specs.Refusals.{status_of}
use Rattle.cap_model.specs.declared.request.Request.{Request}
use Rattle.cap_model.specs.declared.reply.ReplyWith.TheVariants as Reply
use Rattle.cap_model.specs.Flat.{Flat, opened_cluster, app_at, with_app}
use Rattle.cap_model.specs.Submit.{new_app}
use Rattle.cap_model.specs.Replies.{reply_to, after_request}
use Rattle.cap_examples.specs.ExampleClusters.{mb_and_vcores, key, ask_anywhere, two_queues, after_calls, small, asks_of, after_grants, container}

-- the reply to an allocate that has nothing to tell
abbrev pub told_nothing : ℕ → ℕ → Reply 2
told_nothing response ignored = Reply.Allocate (record { response = response; ignored = ignored; grants = []; ends = [] })

-- a cluster of two queues in which root.a is STOPPED
abbrev pub stopped_cluster : Flat 2
stopped_cluster = after_calls small (Request.SetQueueState (codes "root.a") false ∷ [])

-- the same with so many applications active
abbrev pub with_active : ℕ → Flat 2
with_active count = record stopped_cluster {
  apps = record {
    active = map (λ n. new_app n (codes "root.b") (codes "u1")) (range_with_len 1 count);
    next = count + 1;
  };
}

-- the status of a reply: the number of its refusal, and 0 where it is none
abbrev pub status_of_reply : Reply 2 → ℕ
status_of_reply (Reply.Refused refusal) = status_of refusal
status_of_reply _ = 0

-- the statuses of submits to a queue that is not there, to a parent, to a queue that is STOPPED, at the limit of 10,000, and below it
abbrev pub SubmitStatuses : Type 0
SubmitStatuses =
    (status_of_reply (reply_to (with_active 10000) (Request.Submit (codes "root.c") (codes "u1"))) ≡ 1)
    × (status_of_reply (reply_to (with_active 10000) (Request.Submit (codes "root") (codes "u1"))) ≡ 2)
    × (status_of_reply (reply_to (with_active 10000) (Request.Submit (codes "root.a") (codes "u1"))) ≡ 3)
    × (status_of_reply (reply_to (with_active 10000) (Request.Submit (codes "root.b") (codes "u1"))) ≡ 4)
    × (status_of_reply (reply_to (with_active 9999) (Request.Submit (codes "root.b") (codes "u1"))) ≡ 0)

-- no such queue; not a leaf; the queue is stopped; the limit is reached; and of several the smallest number
abbrev pub SubmitRefusals : Type 0
SubmitRefusals =
    (reply_to small (Request.Submit (codes "root.c") (codes "u1")) ≡ Reply.Refused Refusal.UnknownQueue)
    × (reply_to small (Request.Submit (codes "root") (codes "u1")) ≡ Reply.Refused Refusal.NotLeaf)
    × (reply_to stopped_cluster (Request.Submit (codes "root.a") (codes "u1")) ≡ Reply.Refused Refusal.QueueStopped)
    × (reply_to (with_active 10000) (Request.Submit (codes "root.b") (codes "u1")) ≡ Reply.Refused Refusal.TooManyApplications)
    × (reply_to (after_request stopped_cluster (Request.SetQueueState (codes "root") false)) (Request.Submit (codes "root") (codes "u1")) ≡ Reply.Refused Refusal.NotLeaf)
    × (reply_to small (Request.Submit (codes "root.b") (codes "u1")) ≡ Reply.Submit 3)

-- a master is registered once, and finished once
abbrev pub MasterComesAndGoes : Type 0
MasterComesAndGoes =
    (reply_to small (Request.RegisterMaster 1) ≡ Reply.Refused Refusal.AlreadyRegistered)
    × (reply_to small (Request.RegisterMaster 3) ≡ Reply.Refused Refusal.UnknownApplication)
    × (reply_to small (Request.FinishMaster 1) ≡ Reply.FinishMaster 0)
    × (reply_to (after_request small (Request.FinishMaster 1)) (Request.FinishMaster 1) ≡ Reply.Refused Refusal.UnknownApplication)
    × (reply_to (after_request small (Request.Submit (codes "root.b") (codes "u1"))) (Request.RegisterMaster 3) ≡ Reply.RegisterMaster (mb_and_vcores 1024 1) (mb_and_vcores 8192 4))

-- container 1 is application 1's, container 2 application 2's; application 1 releases 1, 1 and 2
abbrev pub ReleasedOnce : Type 0
ReleasedOnce =
    let before = after_grants 1 2 (key 0 0) 1 (mb_and_vcores 1024 1) (after_grants 1 1 (key 0 0) 1 (mb_and_vcores 1024 1) small) in
    let quiet = with_app 1 (λ app. record app { grants = [] }) before in
    let release = Request.Allocate 1 0 [] (1 ∷ 1 ∷ 2 ∷ []) in
    let after = after_request quiet release in
    (reply_to quiet release ≡ Reply.Allocate (record { response = 1; ignored = 2; grants = []; ends = record { container = 1; cause = Cause.Released } ∷ [] }))
    × (after.nodes.live ≡ container 2 2 (key 0 0) 1 (mb_and_vcores 1024 1) ∷ [])

-- the last response id that application 1 was answered is 4
abbrev pub allocated_four : Flat 2
allocated_four = with_app 1 (λ app. record app { response = 4 }) small

-- the next id is processed; the same again gets the kept reply, and the one after it is the next as before; an older one, and one before
-- the first, is refused
abbrev pub ResponseIds : Type 0
ResponseIds =
    let fifth = after_request allocated_four (asks_of 1 4 []) in
    (reply_to allocated_four (asks_of 1 4 []) ≡ told_nothing 5 0)
    × (reply_to fifth (asks_of 1 4 (ask_anywhere (key 1 0) 1 (mb_and_vcores 9000 1) ∷ [])) ≡ told_nothing 5 0)
    × (reply_to (after_request fifth (asks_of 1 4 (ask_anywhere (key 1 0) 1 (mb_and_vcores 1024 1) ∷ []))) (asks_of 1 5 []) ≡ told_nothing 6 0)
    × (reply_to fifth (asks_of 1 2 []) ≡ Reply.Refused Refusal.BadResponseId)
    × (reply_to fifth (asks_of 1 6 []) ≡ Reply.Refused Refusal.BadResponseId)
    × (reply_to small (asks_of 1 2147483647 []) ≡ Reply.Refused Refusal.BadResponseId)

-- ids begin again at 0 after 2^31 - 1, and there the kept reply stands too
abbrev pub ResponseIdsWrap : Type 0
ResponseIdsWrap =
    let late = with_app 1 (λ app. record app { response = 2147483647 }) small in
    let wrapped = after_request late (asks_of 1 2147483647 []) in
    (reply_to late (asks_of 1 2147483647 []) ≡ told_nothing 0 0)
    × (reply_to wrapped (asks_of 1 2147483647 []) ≡ told_nothing 0 0)
    × (reply_to wrapped (asks_of 1 4294967295 []) ≡ Reply.Refused Refusal.BadResponseId)

-- grants not yet told, of these container numbers
abbrev pub grants_from : ℕ → ℕ → List Grant
grants_from first count = map (λ n. record { container = n; key = key 0 0; node = 1; host = codes "n1"; resource = mb_and_vcores 1024 1 }) (range_with_len first count)

-- of 70 grants not yet told an allocate tells the oldest 64, and the next one the other 6
abbrev pub NewsInTwoReplies : Type 0
NewsInTwoReplies =
    let waiting = with_app 1 (λ app. record app { grants = grants_from 1 70 }) small in
    (reply_to waiting (asks_of 1 0 []) ≡ Reply.Allocate (record { response = 1; ignored = 0; grants = grants_from 1 64; ends = [] }))
    × (reply_to (after_request waiting (asks_of 1 0 [])) (asks_of 1 1 []) ≡ Reply.Allocate (record { response = 2; ignored = 0; grants = grants_from 65 6; ends = [] }))

-- an ask over the maximum allocation is refused, also where a later one takes it back; one that takes its key away may be of any size
abbrev pub LargeAsks : Type 0
LargeAsks =
    let large = ask_anywhere (key 1 0) 1 (mb_and_vcores 9000 1) in
    let none = ask_anywhere (key 1 0) 0 (mb_and_vcores 9000 1) in
    (reply_to small (asks_of 1 0 (large ∷ [])) ≡ Reply.Refused Refusal.AskTooLarge)
    × (reply_to small (asks_of 1 0 (large ∷ none ∷ [])) ≡ Reply.Refused Refusal.AskTooLarge)
    × (reply_to small (asks_of 1 0 (none ∷ [])) ≡ told_nothing 1 0)

-- the application's asks as the cluster keeps them, in order of key
abbrev pub asks_in : Flat 2 → ℕ → List Ask
asks_in cluster app = Rattle.std.specs.Option.option_map_or (λ a. a.asks) (app_at cluster app) []

abbrev pub KeptAsks : Type 0
KeptAsks =
    asks_in (after_request small (asks_of 1 0 (ask_anywhere (key 2 0) 1 (mb_and_vcores 1500 1) ∷ ask_anywhere (key 1 0) 3 (mb_and_vcores 1 1) ∷ []))) 1
    ≡ ask_anywhere (key 1 0) 3 (mb_and_vcores 1024 1) ∷ ask_anywhere (key 2 0) 1 (mb_and_vcores 2048 1) ∷ []

-- a second node would bring the sum of the totals over 2^40
abbrev pub TotalsStayBounded : Type 0
TotalsStayBounded =
    let one = after_calls (opened_cluster {K = 2} two_queues) (Request.RegisterNode (codes "n1") (codes "/r1") (mb_and_vcores 1099511627776 1) ∷ []) in
    reply_to one (Request.RegisterNode (codes "n2") (codes "/r1") (mb_and_vcores 1 1)) ≡ Reply.Refused Refusal.TotalTooLarge

-- a host is taken while its node is present; a node of nothing is refused
abbrev pub NodeRefusals : Type 0
NodeRefusals =
    (reply_to small (Request.RegisterNode (codes "n1") (codes "/r2") (mb_and_vcores 0 0)) ≡ Reply.Refused Refusal.HostTaken)
    × (reply_to small (Request.RegisterNode (codes "n2") (codes "/r2") (mb_and_vcores 0 0)) ≡ Reply.Refused Refusal.ZeroResource)
    × (reply_to small (Request.NodeGone 2) ≡ Reply.Refused Refusal.UnknownNode)
    × (reply_to small (Request.Heartbeat 1 1 []) ≡ Reply.Refused Refusal.BadResponseId)

-- what an operator sees
abbrev pub OperatorSees : Type 0
OperatorSees =
    (reply_to (opened_cluster {K = 2} two_queues) (Request.QueueInfo (codes "root.a"))
    ≡ Reply.QueueInfo (record { running = true; leaf = true; guaranteed = mb_and_vcores 4096 4; maximum = Some (mb_and_vcores 16384 16); used = mb_and_vcores 0 0; apps = 0 }))
    × (reply_to (after_request small (Request.SetQueueState (codes "root") false)) (Request.QueueInfo (codes "root.b"))
    ≡ Reply.QueueInfo (record { running = false; leaf = true; guaranteed = mb_and_vcores 2048 8; maximum = None; used = mb_and_vcores 0 0; apps = 1 }))
    × (reply_to small Request.ClusterInfo
    ≡ Reply.ClusterInfo (record { nodes = 1; apps = 2; containers = 0; totals = mb_and_vcores 8192 8; used = mb_and_vcores 0 0 }))

-- a granted container is told with the host that it was granted on, and once
abbrev pub GrantIsTold : Type 0
GrantIsTold =
    let asked = after_calls small (asks_of 1 0 (ask_anywhere (key 1 0) 1 (mb_and_vcores 1024 1) ∷ []) ∷ []) in
    let got = after_grants 1 1 (key 1 0) 1 (mb_and_vcores 1024 1) asked in
    let news : Grant = record { container = 1; key = key 1 0; node = 1; host = codes "n1"; resource = mb_and_vcores 1024 1 } in
    (reply_to got (asks_of 1 1 []) ≡ Reply.Allocate (record { response = 2; ignored = 0; grants = news ∷ []; ends = [] }))
    × (reply_to (after_request got (asks_of 1 1 [])) (asks_of 1 2 []) ≡ told_nothing 3 0)
    × (asks_in got 1 ≡ [])

-- a node reports a container that has ended, one that is none, and the first again; a repeat gets the same reply; the master is told
abbrev pub HeartbeatEnds : Type 0
HeartbeatEnds =
    let two = after_grants 2 1 (key 0 0) 1 (mb_and_vcores 1024 1) small in
    let quiet = with_app 1 (λ app. record app { grants = [] }) two in
    let beat = Request.Heartbeat 1 0 (2 ∷ 7 ∷ 2 ∷ []) in
    let answer = Reply.Heartbeat (record { response = 1; ignored = 2; live = 1 }) in
    (reply_to quiet beat ≡ answer)
    × (reply_to (after_request quiet beat) beat ≡ answer)
    × (reply_to (after_request quiet beat) (asks_of 1 0 [])
    ≡ Reply.Allocate (record { response = 1; ignored = 0; grants = []; ends = record { container = 2; cause = Cause.EndedOnNode } ∷ [] }))
