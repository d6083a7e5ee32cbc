-- The laws of each kind of reply: its body is read again as it was spelled, and is bytes. No function reads replies so: these fields serve the laws
-- alone.
use Rattle.cap_grammar.proofs.Prelude.{Bool, List, None, Option, Some, [], ap, arith, inl, inr, map, refl, subst, sym, true, ℕ, ◌++◌, ◌+◌, ◌-◌, ◌<◌, ◌∙◌, ◌∷◌, ◌≡◌, ◌≤◌, eqb-true, or_cases, append-nil, length-replicate, replicate-append-replicate, take-replicate, All-nil, to_be_bytes, w32, AllByRecursion, IfSome, if◌then◌else◌, is_some, option_map, unwrap_or, ◌==◌, ◌||◌, news_max, IsBytes, Field, bool, counted, made, nothing, number, pair, text_that, u16, u32, u64, u8, vector, byte_at, made_at, ◌>>=◌, IsShownVector, shown, shown_amounts, shown_grant, FitsEnd, FitsGrant, FitsListed, FitsRefusal, FitsReply, IsOfKind, byte, refusal_bytes, reply_body, allocate_bytes, beat, cluster_report, end, grant, queue_report, is_place, amounts_in, Grant, Reply, cause_number, status_of, Cause, End, Refusal, AlreadyRegistered, AskTooLarge, BadResponseId, BadSettings, HostTaken, NotLeaf, NotRegistered, NumbersSpent, OtherQueues, QueueStopped, TooManyApplications, TooManyAsks, TooManyNodes, TotalTooLarge, UnknownApplication, UnknownNode, UnknownQueue, ZeroResource, IsResource, IsSum, amount_max, sum_max, zeros}
use Rattle.cap_model.specs.declared.refusal.Refusal.TheVariants.{NoMemory}
use Rattle.cap_model.specs.declared.reply.ReplyWith.TheVariants as Reply
use Rattle.cap_grammar.proofs.ShownLaws.{how_many, body_shown}
use Rattle.cap_grammar.proofs.SpelledBytes.{Small, one, a_name}
use Rattle.cap_grammar.proofs.FieldLaws.{IsField, made_again, passing, is_passing, is_pair, is_nothing, is_u8, is_u16, is_u32, is_u64, is_bool, is_text_that, is_vector, is_made, is_counted, shown_is_vector, zeros_within}

-- ---- the fields of bodies

-- the line and the number of a fault of property lines
abbrev lines_fault : Field (ℕ × ℕ)
lines_fault = pair u32 u8

is_lines_fault : IsField lines_fault
is_lines_fault = is_pair is_u32 is_u8

-- the bounds of a container
abbrev bounds : (K n : ℕ) → Field (List ℕ × List ℕ)
bounds K n = pair (vector K n amount_max) (vector K n amount_max)

is_bounds : (K n : ℕ) → n ≤ K → IsField (bounds K n)
is_bounds K n le = is_pair (is_vector K n amount_max le (omega arith)) (is_vector K n amount_max le (omega arith))

-- the new response id, how many were ignored, and how many live
abbrev beats : Field (ℕ × (ℕ × ℕ))
beats = pair u32 (pair u16 u32)

is_beats : IsField beats
is_beats = is_pair is_u32 (is_pair is_u16 is_u32)

-- nodes, applications and containers, totals and use
abbrev cluster : (K n : ℕ) → Field ((((ℕ × ℕ) × ℕ) × List ℕ) × List ℕ)
cluster K n = pair (pair (pair (pair u32 u32) u32) (vector K n amount_max)) (vector K n sum_max)

is_cluster : (K n : ℕ) → n ≤ K → IsField (cluster K n)
is_cluster K n le = is_pair (is_pair (is_pair (is_pair is_u32 is_u32) is_u32) (is_vector K n amount_max le (omega arith))) (is_vector K n sum_max le (omega arith))

-- ---- what a QueueInfo gives

-- whether there is a maximum, and the amounts in its place
abbrev Limit : Type 0
Limit = Bool × List ℕ

-- running and leaf, guaranteed, maximum, use and applications
abbrev Queue : Type 0
Queue = ((((Bool × Bool) × List ℕ) × Limit) × List ℕ) × ℕ

abbrev queue : (K n : ℕ) → Field Queue
queue K n = pair (pair (pair (pair (pair bool bool) (vector K n amount_max)) (pair bool (vector K n amount_max))) (vector K n sum_max)) u32

is_queue : (K n : ℕ) → n ≤ K → IsField (queue K n)
is_queue K n le =
    let amounts = is_vector K n amount_max le (omega arith) in
    is_pair (is_pair (is_pair (is_pair (is_pair is_bool is_bool) amounts) (is_pair is_bool amounts)) (is_vector K n sum_max le (omega arith))) is_u32

abbrev maximum_of : Limit → Option (List ℕ)
maximum_of x = if x.0 then Some x.1 else None

abbrev limit_to : ℕ → Option (List ℕ) → Limit
limit_to K maximum = (is_some maximum, unwrap_or maximum (zeros K))

maximum_again : (K : ℕ) (maximum : Option (List ℕ)) → maximum_of (limit_to K maximum) ≡ maximum
maximum_again K None = refl
maximum_again K (Some amounts) = refl

shown_resource : (K n : ℕ) → n ≤ K → (v : List ℕ) → IsResource K v → IsShownVector K n amount_max (shown_amounts n v)
shown_resource K n le v is = shown_is_vector K n amount_max le (omega arith) v is

shown_sum : (K n : ℕ) → n ≤ K → (v : List ℕ) → IsSum K v → IsShownVector K n sum_max (shown_amounts n v)
shown_sum K n le v is = shown_is_vector K n sum_max le (omega arith) v is

zeros_shown : (K n : ℕ) → n ≤ K → shown_amounts n (zeros K) ≡ zeros K
zeros_shown K n le =
    let whole : n + (K - n) ≡ K = omega (arith, le) in
    rw (take-replicate {X = ℕ} n K 0 le, length-replicate {A = ℕ} K 0) (replicate-append-replicate {A = ℕ} n (K - n) 0 ∙ ap zeros whole)

limit_fits : (K n : ℕ) → n ≤ K → (maximum : Option (List ℕ)) → IfSome maximum (IsResource K) → IsShownVector K n amount_max (limit_to K (option_map (shown_amounts n) maximum)).1
limit_fits K n le None fits = record { vector = record { count = length-replicate {A = ℕ} K 0; within = zeros_within amount_max K }; is_shown = zeros_shown K n le }
limit_fits K n le (Some amounts) fits = shown_resource K n le amounts fits

-- ---- what an Allocate gives

abbrev Granted : Type 0
Granted = ℕ × (ℕ × (ℕ × (ℕ × (List ℕ × List ℕ))))

abbrev granted : (K n : ℕ) → Field Granted
granted K n = pair u64 (pair u32 (pair u64 (pair u64 (pair (text_that is_place) (vector K n amount_max)))))

abbrev grant_of : Granted → Grant
grant_of x = record { container = x.0; key = record { priority = x.1.0; request = x.1.1.0 }; node = x.1.1.1.0; host = x.1.1.1.1.0; resource = x.1.1.1.1.1 }

abbrev granted_of : Grant → Granted
granted_of g = (g.container, (g.key.priority, (g.key.request, (g.node, (g.host, g.resource)))))

-- a grant whose amounts are all spelled, or 0
abbrev FitsShownGrant : (K n : ℕ) → Grant → Type 0
FitsShownGrant K n g = (granted K n).Fits (granted_of g)

abbrev a_grant : (K n : ℕ) → Field Grant
a_grant K n = made grant_of granted_of (FitsShownGrant K n) (granted K n)

is_grant : (K n : ℕ) → n ≤ K → IsField (a_grant K n)
is_grant K n le =
    is_made grant_of granted_of (FitsShownGrant K n) (record { back = λ x fits. refl; forth = λ g fits. refl; to = λ x fits. fits; from = λ g fits. fits })
    (is_pair is_u64 (is_pair is_u32 (is_pair is_u64 (is_pair is_u64 (is_pair (is_text_that is_place a_name) (is_vector K n amount_max le (omega arith)))))))

-- the number of a cause, and the cause of a number
abbrev is_cause : ℕ → Bool
is_cause n = n == 1 || (n == 2 || n == 3)

abbrev cause_of : ℕ → Cause
cause_of n = if n == 1 then Cause.Released else if n == 2 then Cause.EndedOnNode else Cause.NodeLost

number_again : (n : ℕ) → is_cause n ≡ true → cause_number (cause_of n) ≡ n
number_again n is =
    elim (or_cases (n == 1) (n == 2 || n == 3) is) [
      | inl one ↦ rw (eqb-true n 1 one) refl
      | inr more ↦ elim (or_cases (n == 2) (n == 3) more) [
        | inl two ↦ rw (eqb-true n 2 two) refl
        | inr three ↦ rw (eqb-true n 3 three) refl
      ]
    ]

cause_fits : (c : Cause) → (cause_of (cause_number c) ≡ c) × (cause_number c < 256) × (is_cause (cause_number c) ≡ true)
cause_fits Cause.Released = (refl, omega arith, refl)
cause_fits Cause.EndedOnNode = (refl, omega arith, refl)
cause_fits Cause.NodeLost = (refl, omega arith, refl)

abbrev end_of : ℕ × ℕ → End
end_of x = record { container = x.0; cause = cause_of x.1 }

abbrev ended_of : End → ℕ × ℕ
ended_of e = (e.container, cause_number e.cause)

abbrev an_end : Field End
an_end = made end_of ended_of FitsEnd (pair u64 (passing is_cause u8))

is_end : IsField an_end
is_end =
    is_made end_of ended_of FitsEnd
    (record {
      back = λ x fits. ap (λ n. (x.0, n)) (number_again x.1 fits.1.1);
      forth = λ e fits. ap (λ (c : Cause). record { container = e.container; cause = c }) (cause_fits e.cause).0;
      to = λ x fits. fits.0;
      from = λ e fits. let c = cause_fits e.cause in (fits, (c.1, c.2));
    })
    (is_pair is_u64 (is_passing is_cause is_u8))

-- the new response id, how many were ignored, grants and ends
abbrev News : Type 0
News = ℕ × (ℕ × (List Grant × List End))

abbrev news : (K n : ℕ) → Field News
news K n = pair u32 (pair u16 (pair (counted u8 news_max (a_grant K n)) (counted u8 news_max an_end)))

is_news : (K n : ℕ) → n ≤ K → IsField (news K n)
is_news K n le =
    let few : (m : ℕ) → m ≤ news_max → m < 256 = λ m le. omega (arith, le) in
    is_pair is_u32 (is_pair is_u16 (is_pair (is_counted news_max few is_u8 (is_grant K n le)) (is_counted news_max few is_u8 is_end)))

grants_fit : (K n : ℕ) → n ≤ K → (gs : List Grant) → FitsListed news_max (FitsGrant K) gs → FitsListed news_max (FitsShownGrant K n) (map (shown_grant n) gs)
grants_fit K n le gs fits = record { few = subst (λ m. m ≤ news_max) (sym (how_many n gs)) fits.few; each = each gs fits.each }
  where
    each : (gs : List Grant) → AllByRecursion (FitsGrant K) gs → AllByRecursion (FitsShownGrant K n) (map (shown_grant n) gs)
    each [] fits = tt
    each (g ∷ gs) fits =
        let h = fits.0 in
        ((h.container, (h.priority, (h.request, (h.node, (h.host, shown_resource K n le g.resource h.resource))))), each gs fits.1)

-- ---- the body of a reply

-- the refusals of which the status says all
abbrev refusals : List Refusal
refusals =
    UnknownQueue ∷ NotLeaf ∷ QueueStopped ∷ TooManyApplications ∷ UnknownApplication ∷ AlreadyRegistered ∷ NotRegistered ∷ BadResponseId ∷ AskTooLarge ∷ TooManyAsks ∷ UnknownNode ∷ HostTaken ∷ TotalTooLarge ∷ TooManyNodes ∷ ZeroResource ∷ NumbersSpent ∷ OtherQueues ∷ NoMemory ∷ []

abbrev with_status : ℕ → List Refusal → Option Refusal
with_status status [] = None
with_status status (r ∷ rs) = if status_of r == status then Some r else with_status status rs

-- the refusal of a status, and what follows it
abbrev refusal_at : ℕ → List ℕ → Option (Refusal × List ℕ)
refusal_at status bytes = if status == 17 then made_at (λ x. BadSettings x.0 x.1) lines_fault.read bytes else (with_status status refusals >>= λ r. Some (r, bytes))

abbrev news_of : {K : ℕ} → News → Reply K
news_of x = Reply.Allocate (record { response = x.0; ignored = x.1.0; grants = x.1.1.0; ends = x.1.1.1 })

abbrev queue_of : {K : ℕ} → Queue → Reply K
queue_of x = Reply.QueueInfo (record { running = x.0.0.0.0.0; leaf = x.0.0.0.0.1; guaranteed = x.0.0.0.1; maximum = maximum_of x.0.0.1; used = x.0.1; apps = x.1 })

-- what follows the status of a reply to a request of this kind that is not refused
abbrev granted_at : (K version kind : ℕ) → List ℕ → Option (Reply K × List ℕ)
granted_at K version kind bytes =
    if kind == 1 then made_at Reply.Submit u64.read bytes else
    if kind == 2 then made_at (λ x. Reply.RegisterMaster x.0 x.1) (bounds K (amounts_in version)).read bytes else
    if kind == 3 then made_at news_of (news K (amounts_in version)).read bytes else
    if kind == 4 then made_at Reply.FinishMaster u32.read bytes else
    if kind == 5 then made_at Reply.RegisterNode u64.read bytes else
    if kind == 6 then made_at (λ x. Reply.Heartbeat (record { response = x.0; ignored = x.1.0; live = x.1.1 })) beats.read bytes else
    if kind == 7 then made_at Reply.NodeGone u32.read bytes else
    if kind == 8 then made_at queue_of (queue K (amounts_in version)).read bytes else
    if kind == 9 then made_at (λ x. Reply.SetQueueState) nothing.read bytes else
    if kind == 10 then made_at (λ x. Reply.ClusterInfo (record { nodes = x.0.0.0.0; apps = x.0.0.0.1; containers = x.0.0.1; totals = x.0.1; used = x.1 })) (cluster K (amounts_in version)).read bytes else
    if kind == 11 then made_at (λ x. Reply.Refresh) nothing.read bytes else
    None

abbrev pub reply_body_at : (K version kind : ℕ) → List ℕ → Option (Reply K × List ℕ)
reply_body_at K version kind bytes = do
  status ← byte_at bytes
  if status.0 == 0 then granted_at K version kind status.1 else made_at Reply.Refused (refusal_at status.0) status.1

-- what was written of a reply is read again, all of it, and is bytes
abbrev Answers : {K : ℕ} → ℕ → ℕ → List ℕ → Reply K → Type 0
Answers {K} version kind bytes reply = (reply_body_at K version kind bytes ≡ Some (reply, [])) × IsBytes bytes

status_small : (refusal : Refusal) → status_of refusal < 256
status_small Refusal.NoMemory = omega arith
status_small _ = omega arith

refused_again : (K version kind : ℕ) (refusal : Refusal) → FitsRefusal refusal → Answers {K = K} version kind (refusal_bytes refusal) (Reply.Refused refusal)
refused_again K version kind (Refusal.BadSettings line number) fits =
    let make : ℕ × ℕ → Reply K = λ x. Reply.Refused (BadSettings x.0 x.1) in
    let a = made_again make is_lines_fault (line, number) fits in
    (a.0 [], one 17 (to_be_bytes w32 line ++ byte number) (omega arith) a.1)
refused_again K version kind Refusal.NoMemory fits = (refl, one 20 [] (omega arith) (All-nil Small))
refused_again K version kind refusal fits = (refl, one (status_of refusal) [] (status_small refusal) (All-nil Small))

given : {K : ℕ} {A : Type 0} {f : Field A} (make : A → Reply K) → IsField f → (x : A) → f.Fits x → (made_at make f.read (f.spell x) ≡ Some (make x, [])) × IsBytes (0 ∷ f.spell x)
given {K} {A} {f} make is x fits = let a = made_again make is x fits in (ap (made_at make f.read) (sym (append-nil (f.spell x))) ∙ a.0 [], one 0 (f.spell x) (omega arith) a.1)

shown_again : (K version : ℕ) → amounts_in version ≤ K → (kind : ℕ) (reply : Reply K) → IsOfKind kind reply → FitsReply reply → Answers version kind (reply_body version (shown (amounts_in version) reply)) (shown (amounts_in version) reply)
unfolding allocate_bytes grant end beat queue_report cluster_report
shown_again K version le kind (Reply.Refused refusal) of_kind fits = refused_again K version kind refusal fits
shown_again K version le kind (Reply.Submit app) of_kind fits = rw of_kind (given Reply.Submit is_u64 app fits)
shown_again K version le kind (Reply.RegisterMaster minimum maximum) of_kind fits =
    let n = amounts_in version in
    rw of_kind (given (λ x. Reply.RegisterMaster x.0 x.1) (is_bounds K n le) (shown_amounts n minimum, shown_amounts n maximum) (shown_resource K n le minimum fits.0, shown_resource K n le maximum fits.1))
shown_again K version le kind (Reply.Allocate r) of_kind fits =
    let n = amounts_in version in
    rw of_kind (given news_of (is_news K n le) (r.response, (r.ignored, (map (shown_grant n) r.grants, r.ends))) (fits.response, (fits.ignored, (grants_fit K n le r.grants fits.grants, fits.ends))))
shown_again K version le kind (Reply.FinishMaster ended) of_kind fits = rw of_kind (given Reply.FinishMaster is_u32 ended fits)
shown_again K version le kind (Reply.RegisterNode node) of_kind fits = rw of_kind (given Reply.RegisterNode is_u64 node fits)
shown_again K version le kind (Reply.Heartbeat r) of_kind fits =
    rw of_kind (given (λ x. Reply.Heartbeat (record { response = x.0; ignored = x.1.0; live = x.1.1 })) is_beats (r.response, (r.ignored, r.live)) (fits.response, (fits.ignored, fits.live)))
shown_again K version le kind (Reply.NodeGone ended) of_kind fits = rw of_kind (given Reply.NodeGone is_u32 ended fits)
shown_again K version le kind (Reply.QueueInfo r) of_kind fits =
    let n = amounts_in version in
    let guaranteed = shown_amounts n r.guaranteed in
    let maximum = option_map (shown_amounts n) r.maximum in
    let used = shown_amounts n r.used in
    let x : Queue = (((((r.running, r.leaf), guaranteed), limit_to K maximum), used), r.apps) in
    let read = given queue_of (is_queue K n le) x (((((tt, tt), shown_resource K n le r.guaranteed fits.guaranteed), (tt, limit_fits K n le r.maximum fits.maximum)), shown_sum K n le r.used fits.used), fits.apps) in
    rw of_kind (read.0 ∙ ap (λ (m : Option (List ℕ)). Some (Reply.QueueInfo (record r { guaranteed = guaranteed; maximum = m; used = used }), [])) (maximum_again K maximum), read.1)
shown_again K version le kind Reply.SetQueueState of_kind fits = rw of_kind (given (λ x. Reply.SetQueueState) is_nothing tt tt)
shown_again K version le kind (Reply.ClusterInfo r) of_kind fits =
    let n = amounts_in version in
    rw of_kind
    (given (λ x. Reply.ClusterInfo (record { nodes = x.0.0.0.0; apps = x.0.0.0.1; containers = x.0.0.1; totals = x.0.1; used = x.1 })) (is_cluster K n le)
    ((((r.nodes, r.apps), r.containers), shown_amounts n r.totals), shown_amounts n r.used)
    ((((fits.nodes, fits.apps), fits.containers), shown_resource K n le r.totals fits.totals), shown_sum K n le r.used fits.used))
shown_again K version le kind Reply.Refresh of_kind fits = rw of_kind (given (λ x. Reply.Refresh) is_nothing tt tt)

-- what is read of a reply's bytes is what they show
pub reply_body_again : (K version : ℕ) → amounts_in version ≤ K → (kind : ℕ) (reply : Reply K) → IsOfKind kind reply → FitsReply reply → (reply_body_at K version kind (reply_body version reply) ≡ Some (shown (amounts_in version) reply, [])) × IsBytes (reply_body version reply)
reply_body_again K version le kind reply of_kind fits = subst (λ (bytes : List ℕ). Answers version kind bytes (shown (amounts_in version) reply)) (body_shown version reply) (shown_again K version le kind reply of_kind fits)
