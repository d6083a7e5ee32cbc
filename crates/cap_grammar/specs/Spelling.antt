-- The one spelling of each request and each reply.
use Rattle.std.specs.Bool.{◌==◌}
use Rattle.std.specs.Prelude.{◌≡◌, ℕ, ◌<◌, ◌≤◌, ◌^◌, ◌⊎◌, List, [], ◌∷◌, ◌++◌, length, take, Bool, true, Option, IfSome, is_some, unwrap_or, if◌then◌else◌}
use Rattle.std.specs.List.{flat_map, AllByRecursion}
use Rattle.std.specs.Int.{Width, w16, w32, w64, to_be_bytes}
use Rattle.cap_vector.specs.Vector.{IsResource, IsSum, amount_max, zeros}
use Rattle.cap_model.specs.Refusals.{status_of}
use Rattle.cap_model.specs.Asks.{Ask}
use Rattle.cap_base.specs.Limits.{asks_max, numbers_max, news_max, text_max}
use Rattle.cap_model.specs.News.{Grant, AllocateReply, cause_number, Reply}
use Rattle.cap_model.specs.declared.news.End.{End}
use Rattle.cap_model.specs.declared.replies.HeartbeatReply.{HeartbeatReply}
use Rattle.cap_model.specs.declared.report.QueueReport.{QueueReport}
use Rattle.cap_model.specs.declared.report.ClusterReport.{ClusterReport}
use Rattle.cap_model.specs.declared.refusal.Refusal.{Refusal}
use Rattle.cap_model.specs.declared.request.Request.{Request}
use Rattle.cap_model.specs.declared.reply.ReplyWith.TheVariants as Reply
use Rattle.cap_grammar.specs.declared.head.Head.{Head}
use Rattle.cap_grammar.specs.Shown.{IsShownVector}
use Rattle.cap_grammar.specs.Texts.{is_host, is_rack, is_path, is_user, is_place}
use Rattle.cap_grammar.specs.Versions.{amounts_in, is_version}

-- a text: its length and its bytes
abbrev pub text : List ℕ → List ℕ
text bytes = length bytes ∷ bytes

-- the first n amounts of a vector, each of eight bytes
unfoldable pub resource : ℕ → List ℕ → List ℕ
resource n amounts = flat_map (to_be_bytes w64) (take n amounts)

-- a byte that is 1 or 0
abbrev pub flag : Bool → List ℕ
flag holds = (if holds then 1 else 0) ∷ []

-- whether there is a maximum, and the first n of its K amounts, zeros where there is none
abbrev pub limit : ℕ → ℕ → Option (List ℕ) → List ℕ
limit K n maximum = flag (is_some maximum) ++ resource n (unwrap_or maximum (zeros K))

-- ---- requests

-- a list with its length before it
unfoldable pub list_bytes : {A : Type 0} → Width → (A → List ℕ) → List A → List ℕ
list_bytes w spell xs = to_be_bytes w (length xs) ++ flat_map spell xs

-- a list that is short enough, each item within its bounds
pub record FitsListed {A : Type 0} (most : ℕ) (Fits : A → Type 0) (xs : List A) : Type 0 where
  pub few : length xs ≤ most
  pub each : AllByRecursion Fits xs

-- priority, request id, count, the first n amounts and place
unfoldable pub ask : ℕ → Ask → List ℕ
ask n a = to_be_bytes w32 a.key.priority ++ (to_be_bytes w64 a.key.request ++ (to_be_bytes w32 a.count ++ (resource n a.resource ++ text a.place)))

pub record FitsAsk (K n : ℕ) (a : Ask) : Type 0 where
  pub priority : a.key.priority < 2 ^ 32
  pub request : a.key.request < 2 ^ 64
  pub count : a.count < 2 ^ 32
  pub resource : IsShownVector K n amount_max a.resource
  pub place : is_place a.place ≡ true

abbrev pub FitsNumber : ℕ → Type 0
FitsNumber n = n < 2 ^ 64

-- one byte
abbrev pub byte : ℕ → List ℕ
byte b = b ∷ []

abbrev pub FitsByte : ℕ → Type 0
FitsByte b = b < 256

-- the number of a request's kind
abbrev pub kind_of : {K : ℕ} → Request K → ℕ
kind_of (Request.Submit path user) = 1
kind_of (Request.RegisterMaster app) = 2
kind_of (Request.Allocate app response asks releases) = 3
kind_of (Request.FinishMaster app) = 4
kind_of (Request.RegisterNode host rack total) = 5
kind_of (Request.Heartbeat node response ended) = 6
kind_of (Request.NodeGone node) = 7
kind_of (Request.QueueInfo path) = 8
kind_of (Request.SetQueueState path running) = 9
kind_of Request.ClusterInfo = 10
kind_of (Request.Refresh text) = 11

-- what follows the head of a request in this version
abbrev pub request_body : {K : ℕ} → ℕ → Request K → List ℕ
request_body version (Request.Submit path user) = text path ++ text user
request_body version (Request.RegisterMaster app) = to_be_bytes w64 app
request_body version (Request.Allocate app response asks releases) = to_be_bytes w64 app ++ (to_be_bytes w32 response ++ (list_bytes w16 (ask (amounts_in version)) asks ++ list_bytes w16 (to_be_bytes w64) releases))
request_body version (Request.FinishMaster app) = to_be_bytes w64 app
request_body version (Request.RegisterNode host rack total) = text host ++ (text rack ++ resource (amounts_in version) total)
request_body version (Request.Heartbeat node response ended) = to_be_bytes w64 node ++ (to_be_bytes w32 response ++ list_bytes w16 (to_be_bytes w64) ended)
request_body version (Request.NodeGone node) = to_be_bytes w64 node
request_body version (Request.QueueInfo path) = text path
request_body version (Request.SetQueueState path running) = text path ++ flag running
request_body version Request.ClusterInfo = []
request_body version (Request.Refresh text) = list_bytes w32 byte text

-- its texts and numbers are within their bounds, and amounts that the version does not spell are 0
abbrev pub FitsRequest : {K : ℕ} → ℕ → Request K → Type 0
FitsRequest version (Request.Submit path user) = (is_path path ≡ true) × (is_user user ≡ true)
FitsRequest version (Request.RegisterMaster app) = app < 2 ^ 64
FitsRequest {K} version (Request.Allocate app response asks releases) =
    (app < 2 ^ 64) × (response < 2 ^ 32) × FitsListed asks_max (FitsAsk K (amounts_in version)) asks × FitsListed numbers_max FitsNumber releases
FitsRequest version (Request.FinishMaster app) = app < 2 ^ 64
FitsRequest {K} version (Request.RegisterNode host rack total) = (is_host host ≡ true) × (is_rack rack ≡ true) × IsShownVector K (amounts_in version) amount_max total
FitsRequest version (Request.Heartbeat node response ended) = (node < 2 ^ 64) × (response < 2 ^ 32) × FitsListed numbers_max FitsNumber ended
FitsRequest version (Request.NodeGone node) = node < 2 ^ 64
FitsRequest version (Request.QueueInfo path) = is_path path ≡ true
FitsRequest version (Request.SetQueueState path running) = is_path path ≡ true
FitsRequest version Request.ClusterInfo = Unit {0}
FitsRequest version (Request.Refresh text) = FitsListed text_max FitsByte text

-- version, kind, call id and body
abbrev pub request_bytes : {K : ℕ} → Head → Request K → List ℕ
request_bytes head request = head.version ∷ kind_of request ∷ to_be_bytes w32 head.call_id ++ request_body head.version request

-- the bytes spell the request
pub record IsRequest {K : ℕ} (bytes : List ℕ) (head : Head) (request : Request K) : Type 0 where
  pub spelled : bytes ≡ request_bytes head request
  pub version_fits : is_version K head.version ≡ true
  pub id_fits : head.call_id < 2 ^ 32
  pub fits : FitsRequest head.version request

-- the bytes spell no request about K resources, in no version
abbrev pub IsNoRequest : ℕ → List ℕ → Type 0
IsNoRequest K bytes = (head : Head) (request : Request K) → IsRequest bytes head request → ⊥

-- ---- replies

-- whether it runs, whether it is a leaf, guarantee, maximum, use and active applications of a queue
unfoldable pub queue_report : {K : ℕ} → ℕ → QueueReport K → List ℕ
queue_report {K} n r = flag r.running ++ flag r.leaf ++ resource n r.guaranteed ++ limit K n r.maximum ++ resource n r.used ++ to_be_bytes w32 r.apps

pub record FitsQueueReport {K : ℕ} (r : QueueReport K) : Type 0 where
  pub guaranteed : IsResource K r.guaranteed
  pub maximum : IfSome r.maximum (IsResource K)
  pub used : IsSum K r.used
  pub apps : r.apps < 2 ^ 32

-- how many nodes, active applications and live containers, what the nodes have, and what is used
unfoldable pub cluster_report : {K : ℕ} → ℕ → ClusterReport K → List ℕ
cluster_report n r = to_be_bytes w32 r.nodes ++ to_be_bytes w32 r.apps ++ to_be_bytes w32 r.containers ++ resource n r.totals ++ resource n r.used

pub record FitsClusterReport {K : ℕ} (r : ClusterReport K) : Type 0 where
  pub nodes : r.nodes < 2 ^ 32
  pub apps : r.apps < 2 ^ 32
  pub containers : r.containers < 2 ^ 32
  pub totals : IsResource K r.totals
  pub used : IsSum K r.used

-- a list with its length before it in one byte
abbrev pub counted_list : {A : Type 0} → (A → List ℕ) → List A → List ℕ
counted_list spell xs = length xs ∷ flat_map spell xs

-- container, key, node, host and resource
unfoldable pub grant : ℕ → Grant → List ℕ
grant n g =
    to_be_bytes w64 g.container ++ (to_be_bytes w32 g.key.priority ++ (to_be_bytes w64 g.key.request ++ (to_be_bytes w64 g.node ++ (text g.host ++ resource n g.resource))))

pub record FitsGrant (K : ℕ) (g : Grant) : Type 0 where
  pub container : g.container < 2 ^ 64
  pub priority : g.key.priority < 2 ^ 32
  pub request : g.key.request < 2 ^ 64
  pub node : g.node < 2 ^ 64
  pub host : is_place g.host ≡ true
  pub resource : IsResource K g.resource

-- container and cause
unfoldable pub end : End → List ℕ
end e = to_be_bytes w64 e.container ++ cause_number e.cause ∷ []

abbrev pub FitsEnd : End → Type 0
FitsEnd e = e.container < 2 ^ 64

-- the new response id, how many were ignored, grants and ends
unfoldable pub allocate_bytes : ℕ → AllocateReply → List ℕ
allocate_bytes n r = to_be_bytes w32 r.response ++ (to_be_bytes w16 r.ignored ++ (counted_list (grant n) r.grants ++ counted_list end r.ends))

pub record FitsAllocated (K : ℕ) (r : AllocateReply) : Type 0 where
  pub response : r.response < 2 ^ 32
  pub ignored : r.ignored < 2 ^ 16
  pub grants : FitsListed news_max (FitsGrant K) r.grants
  pub ends : FitsListed news_max FitsEnd r.ends

-- the new response id, how many were ignored, and how many live
unfoldable pub beat : HeartbeatReply → List ℕ
beat r = to_be_bytes w32 r.response ++ (to_be_bytes w16 r.ignored ++ to_be_bytes w32 r.live)

pub record FitsBeat (r : HeartbeatReply) : Type 0 where
  pub response : r.response < 2 ^ 32
  pub ignored : r.ignored < 2 ^ 16
  pub live : r.live < 2 ^ 32

-- what follows the number of a refusal: the line and the number of a fault of property lines, and nothing of any other
abbrev pub refusal_body : Refusal → List ℕ
refusal_body (Refusal.BadSettings line number) = to_be_bytes w32 line ++ byte number
refusal_body _ = []

-- the number of a refusal, and what follows it
abbrev pub refusal_bytes : Refusal → List ℕ
refusal_bytes refusal = status_of refusal ∷ refusal_body refusal

abbrev pub FitsRefusal : Refusal → Type 0
FitsRefusal (Refusal.BadSettings line number) = (line < 2 ^ 32) × FitsByte number
FitsRefusal _ = Unit {0}

-- the status, which is 0 or a refusal's number, and what follows it in this version
abbrev pub reply_body : {K : ℕ} → ℕ → Reply K → List ℕ
reply_body version (Reply.Refused refusal) = refusal_bytes refusal
reply_body version (Reply.Submit app) = 0 ∷ to_be_bytes w64 app
reply_body version (Reply.RegisterMaster minimum maximum) = 0 ∷ resource (amounts_in version) minimum ++ resource (amounts_in version) maximum
reply_body version (Reply.Allocate reply) = 0 ∷ allocate_bytes (amounts_in version) reply
reply_body version (Reply.FinishMaster ended) = 0 ∷ to_be_bytes w32 ended
reply_body version (Reply.RegisterNode node) = 0 ∷ to_be_bytes w64 node
reply_body version (Reply.Heartbeat reply) = 0 ∷ beat reply
reply_body version (Reply.NodeGone ended) = 0 ∷ to_be_bytes w32 ended
reply_body version (Reply.QueueInfo report) = 0 ∷ queue_report (amounts_in version) report
reply_body version Reply.SetQueueState = 0 ∷ []
reply_body version (Reply.ClusterInfo report) = 0 ∷ cluster_report (amounts_in version) report
reply_body version Reply.Refresh = 0 ∷ []

-- a reply under the head and the kind of its request
abbrev pub reply_bytes : {K : ℕ} → Head → ℕ → Reply K → List ℕ
reply_bytes head kind reply = head.version ∷ kind ∷ to_be_bytes w32 head.call_id ++ reply_body head.version reply

-- a refusal that a request of this kind may get: a Refresh alone is told of a fault of its property lines
abbrev pub IsRefusalOf : ℕ → Refusal → Type 0
IsRefusalOf kind (Refusal.BadSettings line number) = kind ≡ 11
IsRefusalOf kind _ = Unit {0}

-- a reply to a request of this kind: what it gives, or a refusal that it may get
abbrev pub IsOfKind : {K : ℕ} → ℕ → Reply K → Type 0
IsOfKind kind (Reply.Refused refusal) = IsRefusalOf kind refusal
IsOfKind kind (Reply.Submit app) = kind ≡ 1
IsOfKind kind (Reply.RegisterMaster minimum maximum) = kind ≡ 2
IsOfKind kind (Reply.Allocate reply) = kind ≡ 3
IsOfKind kind (Reply.FinishMaster ended) = kind ≡ 4
IsOfKind kind (Reply.RegisterNode node) = kind ≡ 5
IsOfKind kind (Reply.Heartbeat reply) = kind ≡ 6
IsOfKind kind (Reply.NodeGone ended) = kind ≡ 7
IsOfKind kind (Reply.QueueInfo report) = kind ≡ 8
IsOfKind kind Reply.SetQueueState = kind ≡ 9
IsOfKind kind (Reply.ClusterInfo report) = kind ≡ 10
IsOfKind kind Reply.Refresh = kind ≡ 11

-- its numbers are within their bounds
abbrev pub FitsReply : {K : ℕ} → Reply K → Type 0
FitsReply (Reply.Refused refusal) = FitsRefusal refusal
FitsReply (Reply.Submit app) = app < 2 ^ 64
FitsReply {K} (Reply.RegisterMaster minimum maximum) = IsResource K minimum × IsResource K maximum
FitsReply {K} (Reply.Allocate reply) = FitsAllocated K reply
FitsReply (Reply.FinishMaster ended) = ended < 2 ^ 32
FitsReply (Reply.RegisterNode node) = node < 2 ^ 64
FitsReply (Reply.Heartbeat reply) = FitsBeat reply
FitsReply (Reply.NodeGone ended) = ended < 2 ^ 32
FitsReply (Reply.QueueInfo report) = FitsQueueReport report
FitsReply Reply.SetQueueState = Unit {0}
FitsReply (Reply.ClusterInfo report) = FitsClusterReport report
FitsReply Reply.Refresh = Unit {0}

-- the number of a kind
abbrev pub IsKind : ℕ → Type 0
IsKind kind = (1 ≤ kind) × (kind ≤ 11)

-- the room that the longest reply takes, and the longest that is none to an Allocate, with the four bytes of a frame's length
abbrev pub long_room : ℕ
long_room = 8083

abbrev pub short_room : ℕ
short_room = 90

-- the room that a reply to a request of this kind takes at most
abbrev pub room_of : ℕ → ℕ
room_of kind = if kind == 3 then long_room else short_room

-- the room that a reply takes at most, of which it is known whether it answers an Allocate
abbrev pub room_for : {K : ℕ} → Reply K → ℕ
room_for (Reply.Allocate reply) = long_room
room_for reply = short_room

-- the bytes spell the reply to a request of this head and kind
pub record IsReply {K : ℕ} (bytes : List ℕ) (head : Head) (kind : ℕ) (reply : Reply K) : Type 0 where
  pub spelled : bytes ≡ reply_bytes head kind reply
  pub version_fits : is_version K head.version ≡ true
  pub id_fits : head.call_id < 2 ^ 32
  pub is_kind : IsKind kind
  pub of_kind : IsOfKind kind reply
  pub fits : FitsReply reply

-- a length that no frame has, or a payload that is no request
abbrev pub IsFaultStatus : ℕ → Type 0
IsFaultStatus status = (status ≡ 40) ⊎ (status ≡ 41)

-- the reply to a payload that is no request: version 1, kind 0, call id 0 and the status
abbrev pub fault_reply : ℕ → List ℕ
fault_reply status = 1 ∷ 0 ∷ 0 ∷ 0 ∷ 0 ∷ 0 ∷ status ∷ []
