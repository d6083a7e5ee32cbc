-- What a step does, case by case: nothing, one of the effects of calls, a grant or a reservation.
use Rattle.cap_laws.proofs.Prelude.{◌≡◌, ℕ, Bool, true, false, List, [], ◌∷◌, ◌++◌, refl, sym, subst, inl, inr, Option, Some, None, IsSome, is_none, cond, not, ◌&&◌, ◌==◌, if◌then◌else◌, Ask, after_ask, after_asks, rounded_ask, Cause, Container, Reservation, Flat, Request, AllocateReply, Reply, Refusal, app_at, containers_on, submit_refusal, after_submit, after_register_master, is_repeated_allocate, released_by, kept_reply, after_processed_allocate, after_finish_master, register_node_refusal, after_register_node, is_repeated_heartbeat, ended_by, after_processed_heartbeat, after_node_gone, after_set_queue_state, after_refresh, refused_or, refusal_of, granted_reply, granted_cluster, Replies, Event, Step, Run, after_grant, after_reserve, grant_proposal, reserve_proposal, sight_of, IsAdmissible, and_false}
use Rattle.cap_model.specs.declared.reply.ReplyWith.TheVariants as Reply

there_if : {A R : Type 0} (o : Option A) (x : R) (rest : Option R) → cond (is_none o) (Some x) rest ≡ None → IsSome o
there_if None x rest e = absurd (cc e)
there_if (Some a) x rest e = refl

module _ {K : ℕ} where
  -- the reply in which an event tells an application its news: that to an allocate that repeats nothing
  abbrev pub told_reply : Flat K → ℕ → Event K → Option AllocateReply
  told_reply old n (Event.Call by (Request.Allocate app id asks releases) (Reply.Allocate reply)) = if app == n && not (is_repeated_allocate old app id) then Some reply else None
  told_reply old n _ = None

  -- the containers of whose ends their applications are to be told, and why they ended
  abbrev pub gone_at : Flat K → Event K → Option (Cause × List Container)
  gone_at old (Event.Call by (Request.Allocate app id asks releases) (Reply.Allocate reply)) = if is_repeated_allocate old app id then None else Some (Cause.Released, released_by old app releases)
  gone_at old (Event.Call by (Request.Heartbeat node id ended) (Reply.Heartbeat reply)) = if is_repeated_heartbeat old node id then None else Some (Cause.EndedOnNode, ended_by old node ended)
  gone_at old (Event.Call by (Request.NodeGone node) (Reply.NodeGone count)) = Some (Cause.NodeLost, containers_on old.nodes node)
  gone_at old _ = None

module _ {K : ℕ} (old : Flat K) where
  -- a call that tells no news and adds none
  abbrev pub IsQuiet : Request K → Reply K → Type 0
  IsQuiet request reply = (by n : ℕ) → (told_reply old n (Event.Call by request reply) ≡ None) × (gone_at old (Event.Call by request reply) ≡ None)

  -- The effect of a call with its reply: nothing where it is refused, finds no memory, repeats the last one or only asks; and else that of
  -- one of nine calls, with what its tests say.
  pub data Effect : Request K → Reply K → Flat K → Type 0 where
    nothing : {request : Request K} {reply : Reply K} → IsQuiet request reply → Effect request reply old
    submit : (path user : List ℕ) → submit_refusal old path ≡ None → Effect (Request.Submit path user) (Reply.Submit old.apps.next) (after_submit old path user)
    register_master : (app : ℕ) → Effect (Request.RegisterMaster app) (granted_reply old (Request.RegisterMaster app)) (after_register_master old app)
    allocate : (app id : ℕ) (asks : List Ask) (releases : List ℕ) → IsSome (app_at old app) → is_repeated_allocate old app id ≡ false →
        Effect (Request.Allocate app id asks releases) (Reply.Allocate (kept_reply (after_processed_allocate old app id asks releases) app)) (after_processed_allocate old app id asks releases)
    finish_master : (app : ℕ) → Effect (Request.FinishMaster app) (granted_reply old (Request.FinishMaster app)) (after_finish_master old app)
    register_node : (host rack total : List ℕ) → register_node_refusal old host total ≡ None → Effect (Request.RegisterNode host rack total) (Reply.RegisterNode old.nodes.next_node) (after_register_node old host rack total)
    heartbeat : (node id : ℕ) (ended : List ℕ) → is_repeated_heartbeat old node id ≡ false →
        Effect (Request.Heartbeat node id ended) (granted_reply old (Request.Heartbeat node id ended)) (after_processed_heartbeat old node id ended)
    node_gone : (node : ℕ) → Effect (Request.NodeGone node) (granted_reply old (Request.NodeGone node)) (after_node_gone old node)
    set_queue_state : (path : List ℕ) (running : Bool) → Effect (Request.SetQueueState path running) Reply.SetQueueState (after_set_queue_state old path running)
    refresh : (text : List ℕ) → Effect (Request.Refresh text) Reply.Refresh (after_refresh old text)

  refused : (request : Request K) (refusal : Refusal) → IsQuiet request (Reply.Refused refusal)
  refused Request.ClusterInfo refusal by n = (refl, refl)
  refused _ refusal by n = (refl, refl)

  granted : (request : Request K) → refusal_of old request ≡ None → Effect request (granted_reply old request) (granted_cluster old request)
  granted (Request.Submit path user) e = Effect.submit path user e
  granted (Request.RegisterMaster app) e = Effect.register_master app
  granted (Request.Allocate app id asks releases) e = by (is_repeated_allocate old app id) refl
    where
      after : Bool → Flat K
      after b = cond b old (after_processed_allocate old app id asks releases)

      by : (b : Bool) → is_repeated_allocate old app id ≡ b → Effect (Request.Allocate app id asks releases) (Reply.Allocate (kept_reply (after b) app)) (after b)
      by true r = Effect.nothing (λ by n. rw (r, and_false (app == n)) (refl, refl))
      by false r = Effect.allocate app id asks releases (there_if (app_at old app) Refusal.UnknownApplication _ e) r
  granted (Request.FinishMaster app) e = Effect.finish_master app
  granted (Request.RegisterNode host rack total) e = Effect.register_node host rack total e
  granted (Request.Heartbeat node id ended) e = by (is_repeated_heartbeat old node id) refl
    where
      by : (b : Bool) → is_repeated_heartbeat old node id ≡ b →
          Effect (Request.Heartbeat node id ended) (granted_reply old (Request.Heartbeat node id ended)) (cond b old (after_processed_heartbeat old node id ended))
      by true r = Effect.nothing (λ by n. rw r (refl, refl))
      by false r = Effect.heartbeat node id ended r
  granted (Request.NodeGone node) e = Effect.node_gone node
  granted (Request.SetQueueState path running) e = Effect.set_queue_state path running
  granted (Request.Refresh text) e = Effect.refresh text
  granted _ e = Effect.nothing (λ by n. (refl, refl))

  -- What holds of each refusal, which changes nothing, and of a call that is not refused, holds of each reply.
  pub by_reply : (request : Request K) (P : Reply K → Flat K → Type 0) → ((refusal : Refusal) → P (Reply.Refused refusal) old) →
      (refusal_of old request ≡ None → P (granted_reply old request) (granted_cluster old request)) → (reply : Reply K) (new : Flat K) → Replies old request reply new → P reply new
  by_reply request P refused unrefused reply new (inl r) = rw (r.0, r.1) (by (refusal_of old request) refl)
    where
      by : (o : Option Refusal) → refusal_of old request ≡ o → P (refused_or o (λ refusal. Reply.Refused refusal) (granted_reply old request)) (refused_or o (λ refusal. old) (granted_cluster old request))
      by None e = unrefused e
      by (Some refusal) e = refused refusal
  by_reply request P refused unrefused reply new (inr r) = rw (r.0.reply_is, r.1) (refused Refusal.NoMemory)

  pub effect : (request : Request K) (reply : Reply K) (new : Flat K) → Replies old request reply new → Effect request reply new
  effect request = by_reply request (Effect request) (λ refusal. Effect.nothing (refused request refusal)) (granted request)

  -- What holds of the effect of each call, of each grant and of each reservation holds of each step.
  pub by_step : (P : Event K → Flat K → Type 0) →
      ((by : ℕ) (request : Request K) (reply : Reply K) (new : Flat K) → Effect request reply new → P (Event.Call by request reply) new) →
      ((c : Container) → IsAdmissible (sight_of old) (grant_proposal c) → c.number ≡ old.nodes.next_container → P (Event.Grant c) (after_grant old c)) →
      ((r : Reservation) → IsAdmissible (sight_of old) (reserve_proposal r) → P (Event.Reserve r) (after_reserve old r)) →
      (event : Event K) (new : Flat K) → Step old event new → P event new
  by_step P call grant reserve (Event.Call by request reply) new s = call by request reply new (effect request reply new s)
  by_step P call grant reserve (Event.Grant c) new (admissible, number, after) = subst (P (Event.Grant c)) (sym after) (grant c admissible number)
  by_step P call grant reserve (Event.Reserve r) new (admissible, after) = subst (P (Event.Reserve r)) (sym after) (reserve r admissible)

module _ {K : ℕ} (P : Flat K → Type 0) (stays : (old new : Flat K) (event : Event K) → P old → Step old event new → P new) where
  -- what each step keeps holds over a run, and at each of its states
  pub over_run : (events : List (Event K)) (old new : Flat K) → P old → Run old events new → P new
  over_run [] old new h run = subst P run h
  over_run (event ∷ events) old new h (mid, step, run) = over_run events mid new (stays old mid event h step) run

  pub at_each : (first rest : List (Event K)) (old new : Flat K) → P old → Run old (first ++ rest) new → (mid : Flat K) × Run old first mid × Run mid rest new × P mid × P new
  at_each [] rest old new h run = (old, refl, run, h, over_run rest old new h run)
  at_each (event ∷ first) rest old new h (next, step, run) =
      let r = at_each first rest next new (stays old next event h step) run in
      (r.0, (next, step, r.1), r.2, r.3, r.4)

-- what each ask keeps holds after the asks of an allocate
pub over_asks : {K : ℕ} (P : Flat K → Type 0) (n : ℕ) → ((c : Flat K) (ask : Ask) → P c → P (after_ask n c ask)) → (asks : List Ask) (old : Flat K) → P old → P (after_asks n asks old)
over_asks P n keeps [] old h = h
over_asks {K} P n keeps (ask ∷ asks) old h = let kept = rounded_ask K old.settings ask in over_asks P n keeps asks (after_ask n old kept) (keeps old kept h)
