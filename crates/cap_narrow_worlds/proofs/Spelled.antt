-- Messages of version 1 spell nothing of the third resource: what they say, and its spelling, is the same of two resources.
use Rattle.cap_narrow_worlds.proofs.Prelude.{◌≡◌, ℕ, zero, suc, ◌≤◌, true, false, List, [], ◌∷◌, ◌++◌, take, Option, Some, None, refl, sym, ◌∙◌, ap, subst, arith, inl, inr, map, option_map, IfSome, ◌==◌, ◌||◌, AllByRecursion, flat_map, w16, w32, to_be_bytes, and_parts, cases_Bool, eqb-true, length-map, All-nil, All-cons, IsVector, IsResource, amount, amount_max, sum_max, resources, asks_max, news_max, Ask, Grant, AllocateReply, Reply, Request, Head, IsShownVector, is_version, resource, limit, list_bytes, ask, FitsAsk, kind_of, request_body, FitsRequest, IsRequest, IsNoRequest, queue_report, cluster_report, grant, FitsGrant, allocate_bytes, reply_body, IsOfKind, FitsReply, IsReply, EndsInNone, narrow_ask, narrow_grant, narrow_allocate_reply, WantNone, narrow_request, narrow_reply}
use Rattle.cap_model.specs.declared.reply.ReplyWith.TheVariants as Reply

-- ---- vectors

resource_narrow : (v : List ℕ) → resource 2 (take 2 v) ≡ resource 2 v
unfolding resource
resource_narrow [] = refl
resource_narrow (a ∷ []) = refl
resource_narrow (a ∷ b ∷ v) = refl

vector_narrow : (bound : ℕ) (v : List ℕ) → IsVector 3 bound v → IsVector 2 bound (take 2 v)
vector_narrow bound (a ∷ b ∷ c ∷ []) is = record { count = refl; within = within }
  where
    within : (k : ℕ) → amount (a ∷ b ∷ []) k ≤ bound
    within zero = is.within 0
    within (suc zero) = is.within 1
    within (suc (suc k)) = omega arith
vector_narrow bound [] is = absurd (omega (arith, is.count))
vector_narrow bound (a ∷ []) is = absurd (omega (arith, is.count))
vector_narrow bound (a ∷ b ∷ []) is = absurd (omega (arith, is.count))
vector_narrow bound (a ∷ b ∷ c ∷ d ∷ v) is = absurd (omega (arith, is.count))

spelled_narrow : (v : List ℕ) → IsShownVector 3 2 amount_max v → IsShownVector 2 2 amount_max (take 2 v) × EndsInNone 2 v
spelled_narrow (a ∷ b ∷ c ∷ []) is = (
  record { vector = vector_narrow amount_max (a ∷ b ∷ c ∷ []) is.vector; is_shown = refl },
  record { count = refl; none = sym (ap (λ (v : List ℕ). amount v 2) is.is_shown) },
)
spelled_narrow [] is = absurd (omega (arith, is.vector.count))
spelled_narrow (a ∷ []) is = absurd (omega (arith, is.vector.count))
spelled_narrow (a ∷ b ∷ []) is = absurd (omega (arith, is.vector.count))
spelled_narrow (a ∷ b ∷ c ∷ d ∷ v) is = absurd (omega (arith, is.vector.count))

-- ---- requests

-- no ask and no node of a request has any of the third resource
abbrev pub SpellsNone : Request resources → Type 0
SpellsNone (Request.Allocate app id asks releases) = WantNone 2 asks
SpellsNone (Request.RegisterNode host rack total) = EndsInNone 2 total
SpellsNone other = Unit {0}

asks_narrow : (asks : List Ask) → flat_map (ask 2) (map (narrow_ask 2) asks) ≡ flat_map (ask 2) asks
unfolding ask
asks_narrow [] = refl
asks_narrow (a ∷ asks) = rw (resource_narrow a.resource, asks_narrow asks) refl

listed_narrow : (asks : List Ask) → list_bytes w16 (ask 2) (map (narrow_ask 2) asks) ≡ list_bytes w16 (ask 2) asks
unfolding list_bytes
listed_narrow asks = rw (length-map asks (narrow_ask 2), asks_narrow asks) refl

body_narrow : (request : Request resources) → request_body 1 (narrow_request {K = 2} request) ≡ request_body 1 request
body_narrow (Request.Allocate app response asks releases) = rw (listed_narrow asks) refl
body_narrow (Request.RegisterNode host rack total) = rw (resource_narrow total) refl
body_narrow _ = refl

pub kind_narrow : (request : Request resources) → kind_of (narrow_request {K = 2} request) ≡ kind_of request
kind_narrow (Request.Submit path user) = refl
kind_narrow _ = refl

asks_fit : (asks : List Ask) → AllByRecursion (FitsAsk 3 2) asks → AllByRecursion (FitsAsk 2 2) (map (narrow_ask 2) asks) × WantNone 2 asks
asks_fit [] fits = (tt, All-nil (λ (ask : Ask). EndsInNone 2 ask.resource))
asks_fit (a ∷ asks) fits =
    let first = fits.0 in
    let v = spelled_narrow a.resource first.resource in
    let rest = asks_fit asks fits.1 in (
      (record { priority = first.priority; request = first.request; count = first.count; resource = v.0; place = first.place }, rest.0),
      All-cons (λ (ask : Ask). EndsInNone 2 ask.resource) a asks v.1 rest.1,
    )

fits_narrow : (request : Request resources) → FitsRequest 1 request → FitsRequest 1 (narrow_request {K = 2} request) × SpellsNone request
fits_narrow (Request.Allocate app response asks releases) (a, r, listed, released) =
    let each = asks_fit asks listed.each in
    ((a, r, record { few = subst (λ (n : ℕ). n ≤ asks_max) (sym (length-map asks (narrow_ask 2))) listed.few; each = each.0 }, released), each.1)
fits_narrow (Request.RegisterNode host rack total) (h, r, fits) =
    let v = spelled_narrow total fits in
    ((h, r, v.0), v.1)
fits_narrow (Request.Submit path user) fits = (fits, tt)
fits_narrow (Request.RegisterMaster app) fits = (fits, tt)
fits_narrow (Request.FinishMaster app) fits = (fits, tt)
fits_narrow (Request.Heartbeat node response ended) fits = (fits, tt)
fits_narrow (Request.NodeGone node) fits = (fits, tt)
fits_narrow (Request.QueueInfo path) fits = (fits, tt)
fits_narrow (Request.SetQueueState path running) fits = (fits, tt)
fits_narrow Request.ClusterInfo fits = (fits, tt)
fits_narrow (Request.Refresh text) fits = (fits, tt)

-- a head of version 1
abbrev of_version_1 : ℕ → Head
of_version_1 id = record { version = 1; call_id = id }

as_version_1 : (P : Head → Type 0) (head : Head) → head.version ≡ 1 → P (of_version_1 head.call_id) → P head
as_version_1 P head is p = subst (λ (v : ℕ). P (record { version = v; call_id = head.call_id })) (sym is) p

from_version_1 : (P : Head → Type 0) (head : Head) → head.version ≡ 1 → P head → P (of_version_1 head.call_id)
from_version_1 P head is p = subst (λ (v : ℕ). P (record { version = v; call_id = head.call_id })) is p

one_narrow : (payload : List ℕ) (id : ℕ) (request : Request resources) → IsRequest payload (of_version_1 id) request → IsRequest payload (of_version_1 id) (narrow_request {K = 2} request) × SpellsNone request
one_narrow payload id request is =
    let fits = fits_narrow request is.fits in (
      record {
        spelled = is.spelled ∙ sym (λ i. 1 ∷ kind_narrow request i ∷ to_be_bytes w32 id ++ body_narrow request i);
        version_fits = refl;
        id_fits = is.id_fits;
        fits = fits.0;
      },
      fits.1,
    )

-- a request of version 1 is one about two resources, and spells none of the third
pub request_narrow : (payload : List ℕ) (head : Head) (request : Request resources) → head.version ≡ 1 → IsRequest payload head request → IsRequest payload head (narrow_request {K = 2} request) × SpellsNone request
request_narrow payload head request is spells =
    as_version_1 (λ h. IsRequest payload h (narrow_request {K = 2} request) × SpellsNone request) head is
    (one_narrow payload head.call_id request (from_version_1 (λ h. IsRequest payload h request) head is spells))

-- ---- what is no request about three resources is none about two

abbrev widen : List ℕ → List ℕ
widen v = v ++ 0 ∷ []

abbrev widen_ask : Ask → Ask
widen_ask a = record a { resource = widen a.resource }

abbrev widen_request : Request 2 → Request resources
widen_request (Request.Submit path user) = Request.Submit path user
widen_request (Request.RegisterMaster app) = Request.RegisterMaster app
widen_request (Request.Allocate app response asks releases) = Request.Allocate app response (map widen_ask asks) releases
widen_request (Request.FinishMaster app) = Request.FinishMaster app
widen_request (Request.RegisterNode host rack total) = Request.RegisterNode host rack (widen total)
widen_request (Request.Heartbeat node response ended) = Request.Heartbeat node response ended
widen_request (Request.NodeGone node) = Request.NodeGone node
widen_request (Request.QueueInfo path) = Request.QueueInfo path
widen_request (Request.SetQueueState path running) = Request.SetQueueState path running
widen_request Request.ClusterInfo = Request.ClusterInfo
widen_request (Request.Refresh text) = Request.Refresh text

spelled_wide : (v : List ℕ) → IsShownVector 2 2 amount_max v → IsShownVector 3 2 amount_max (widen v) × (resource 2 (widen v) ≡ resource 2 v)
unfolding resource
spelled_wide (a ∷ b ∷ []) is = (record { vector = record { count = refl; within = within }; is_shown = refl }, refl)
  where
    within : (k : ℕ) → amount (a ∷ b ∷ 0 ∷ []) k ≤ amount_max
    within zero = is.vector.within 0
    within (suc zero) = is.vector.within 1
    within (suc (suc zero)) = omega arith
    within (suc (suc (suc k))) = omega arith
spelled_wide [] is = absurd (omega (arith, is.vector.count))
spelled_wide (a ∷ []) is = absurd (omega (arith, is.vector.count))
spelled_wide (a ∷ b ∷ c ∷ v) is = absurd (omega (arith, is.vector.count))

asks_wide : (asks : List Ask) → AllByRecursion (FitsAsk 2 2) asks → AllByRecursion (FitsAsk 3 2) (map widen_ask asks) × (flat_map (ask 2) (map widen_ask asks) ≡ flat_map (ask 2) asks)
unfolding ask
asks_wide [] fits = (tt, refl)
asks_wide (a ∷ asks) fits =
    let first = fits.0 in
    let v = spelled_wide a.resource first.resource in
    let rest = asks_wide asks fits.1 in (
      (record { priority = first.priority; request = first.request; count = first.count; resource = v.0; place = first.place }, rest.0),
      rw (v.1, rest.1) refl,
    )

listed_wide : (asks : List Ask) → flat_map (ask 2) (map widen_ask asks) ≡ flat_map (ask 2) asks → list_bytes w16 (ask 2) (map widen_ask asks) ≡ list_bytes w16 (ask 2) asks
unfolding list_bytes
listed_wide asks e = rw (length-map asks widen_ask, e) refl

fits_wide : (request : Request 2) → FitsRequest 1 request → FitsRequest 1 (widen_request request) × (request_body 1 (widen_request request) ≡ request_body 1 request) × (kind_of (widen_request request) ≡ kind_of request)
fits_wide (Request.Allocate app response asks releases) (a, r, listed, released) =
    let each = asks_wide asks listed.each in
    ((a, r, record { few = subst (λ (n : ℕ). n ≤ asks_max) (sym (length-map asks widen_ask)) listed.few; each = each.0 }, released), rw (listed_wide asks each.1) refl, refl)
fits_wide (Request.RegisterNode host rack total) (h, r, fits) =
    let v = spelled_wide total fits in
    ((h, r, v.0), rw v.1 refl, refl)
fits_wide (Request.Submit path user) fits = (fits, refl, refl)
fits_wide (Request.RegisterMaster app) fits = (fits, refl, refl)
fits_wide (Request.FinishMaster app) fits = (fits, refl, refl)
fits_wide (Request.Heartbeat node response ended) fits = (fits, refl, refl)
fits_wide (Request.NodeGone node) fits = (fits, refl, refl)
fits_wide (Request.QueueInfo path) fits = (fits, refl, refl)
fits_wide (Request.SetQueueState path running) fits = (fits, refl, refl)
fits_wide Request.ClusterInfo fits = (fits, refl, refl)
fits_wide (Request.Refresh text) fits = (fits, refl, refl)

one_wide : (payload : List ℕ) (id : ℕ) (request : Request 2) → IsRequest payload (of_version_1 id) request → IsRequest payload (of_version_1 id) (widen_request request)
one_wide payload id request is =
    let (fits, body, kind) = fits_wide request is.fits in
    record {
      spelled = is.spelled ∙ sym (λ i. 1 ∷ kind i ∷ to_be_bytes w32 id ++ body i);
      version_fits = refl;
      id_fits = is.id_fits;
      fits = fits;
    }

-- about two resources there is version 1 alone
only_version_1 : (version : ℕ) → is_version 2 version ≡ true → version ≡ 1
only_version_1 version is =
    elim (cases_Bool (version == 1)) [
      | inl one ↦ eqb-true version 1 one
      | inr other ↦ let no : false ≡ true = (and_parts (false || version == 2) false (rw other at is)).1 in absurd (cc no)
    ]

pub none_narrow : (payload : List ℕ) → IsNoRequest resources payload → IsNoRequest 2 payload
none_narrow payload none head request is =
    let one = only_version_1 head.version is.version_fits in
    none (of_version_1 head.call_id) (widen_request request) (one_wide payload head.call_id request (from_version_1 (λ h. IsRequest payload h request) head one is))

-- ---- replies

limit_narrow : (maximum : Option (List ℕ)) → limit 2 2 (option_map (take 2) maximum) ≡ limit 3 2 maximum
unfolding resource
limit_narrow None = refl
limit_narrow (Some v) = rw (resource_narrow v) refl

grants_narrow : (grants : List Grant) → flat_map (grant 2) (map (narrow_grant 2) grants) ≡ flat_map (grant 2) grants
unfolding grant
grants_narrow [] = refl
grants_narrow (g ∷ grants) = rw (resource_narrow g.resource, grants_narrow grants) refl

news_narrow : (r : AllocateReply) → allocate_bytes 2 (narrow_allocate_reply 2 r) ≡ allocate_bytes 2 r
unfolding allocate_bytes
news_narrow r = rw (grants_narrow r.grants, length-map r.grants (narrow_grant 2)) refl

answer_narrow : (reply : Reply resources) → reply_body 1 (narrow_reply {K = 2} reply) ≡ reply_body 1 reply
unfolding queue_report cluster_report
answer_narrow (Reply.RegisterMaster minimum maximum) = rw (resource_narrow minimum, resource_narrow maximum) refl
answer_narrow (Reply.Allocate reply) = ap (λ (bytes : List ℕ). 0 ∷ bytes) (news_narrow reply)
answer_narrow (Reply.QueueInfo r) = rw (resource_narrow r.guaranteed, limit_narrow r.maximum, resource_narrow r.used) refl
answer_narrow (Reply.ClusterInfo r) = rw (resource_narrow r.totals, resource_narrow r.used) refl
answer_narrow _ = refl

of_kind_narrow : (kind : ℕ) (reply : Reply resources) → IsOfKind kind reply → IsOfKind kind (narrow_reply {K = 2} reply)
of_kind_narrow kind (Reply.Refused refusal) of_kind = of_kind
of_kind_narrow kind _ of_kind = of_kind

grants_fit : (grants : List Grant) → AllByRecursion (FitsGrant 3) grants → AllByRecursion (FitsGrant 2) (map (narrow_grant 2) grants)
grants_fit [] fits = tt
grants_fit (g ∷ grants) fits =
    let first = fits.0 in (
      record { container = first.container; priority = first.priority; request = first.request; node = first.node; host = first.host; resource = vector_narrow amount_max g.resource first.resource },
      grants_fit grants fits.1,
    )

maximum_fits : (maximum : Option (List ℕ)) → IfSome maximum (IsResource 3) → IfSome (option_map (take 2) maximum) (IsResource 2)
maximum_fits None fits = fits
maximum_fits (Some v) fits = vector_narrow amount_max v fits

reply_fits : (reply : Reply resources) → FitsReply reply → FitsReply (narrow_reply {K = 2} reply)
reply_fits (Reply.RegisterMaster minimum maximum) (low, high) = (vector_narrow amount_max minimum low, vector_narrow amount_max maximum high)
reply_fits (Reply.Allocate reply) fits =
    record {
      response = fits.response;
      ignored = fits.ignored;
      grants = record { few = subst (λ (n : ℕ). n ≤ news_max) (sym (length-map reply.grants (narrow_grant 2))) fits.grants.few; each = grants_fit reply.grants fits.grants.each };
      ends = fits.ends;
    }
reply_fits (Reply.QueueInfo r) fits =
    record { guaranteed = vector_narrow amount_max r.guaranteed fits.guaranteed; maximum = maximum_fits r.maximum fits.maximum; used = vector_narrow sum_max r.used fits.used; apps = fits.apps }
reply_fits (Reply.ClusterInfo r) fits =
    record { nodes = fits.nodes; apps = fits.apps; containers = fits.containers; totals = vector_narrow amount_max r.totals fits.totals; used = vector_narrow sum_max r.used fits.used }
reply_fits (Reply.Refused refusal) fits = fits
reply_fits _ fits = fits

one_answer : (bytes : List ℕ) (id kind : ℕ) (reply : Reply resources) → IsReply bytes (of_version_1 id) kind reply → IsReply bytes (of_version_1 id) kind (narrow_reply {K = 2} reply)
one_answer bytes id kind reply is =
    record {
      spelled = is.spelled ∙ sym (λ i. 1 ∷ kind ∷ to_be_bytes w32 id ++ answer_narrow reply i);
      version_fits = refl;
      id_fits = is.id_fits;
      is_kind = is.is_kind;
      of_kind = of_kind_narrow kind reply is.of_kind;
      fits = reply_fits reply is.fits;
    }

-- a reply in version 1 is one about two resources
pub reply_narrow : (bytes : List ℕ) (head : Head) (kind : ℕ) (reply : Reply resources) → head.version ≡ 1 → IsReply bytes head kind reply → IsReply bytes head kind (narrow_reply {K = 2} reply)
reply_narrow bytes head kind reply is spells =
    as_version_1 (λ h. IsReply bytes h kind (narrow_reply {K = 2} reply)) head is
    (one_answer bytes head.call_id kind reply (from_version_1 (λ h. IsReply bytes h kind reply) head is spells))
