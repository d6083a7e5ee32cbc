-- What is allowed or taken of a resource is allowed or taken of a lesser one.
use Rattle.cap_live.proofs.Prelude.{◌≡◌, ℕ, Bool, true, false, List, [], ◌∷◌, Option, Some, None, not, refl, inl, inr, arith, and_from, and_parts, amounts_fit, fits_amounts, fits, times, holds_of, list_all, fits_maximum, fits_user_limit, Fits, amounts_exchanged, amount-exchanged, zeros, Ask, AppSight, ClusterNode, Flat, QueueSight, Sight, node_sight, queues_to, seen_queue, sight_of, could_take, in_limits, of_map, each_of, IsUnfit, IsShut, WantAtLeast, subst, IsIn, AreImpossible, IsImpossible, AreOutOfReach, Want, WantAmong, want_of}
use Rattle.cap_live.proofs.Nodes.{unfit_of}

-- a lesser use fits where a greater one does
fits_lesser : (a b most : List ℕ) → Fits a b → fits b most ≡ true → fits a most ≡ true
fits_lesser a b most less fit = amounts_fit a most (λ k. let x = less k in let y = fits_amounts b most fit k in omega (arith, x, y))

exchanged_lesser : (old a b used : List ℕ) → Fits a b → Fits (amounts_exchanged old a used) (amounts_exchanged old b used)
exchanged_lesser old a b used less k = let x = less k in let p = amount-exchanged old a used k in let q = amount-exchanged old b used k in omega (arith, x, p, q)

module _ {A : Type 0} (f g : A → Bool) (then_g : (x : A) → f x ≡ true → g x ≡ true) where
  all_then : (xs : List A) → list_all f xs ≡ true → list_all g xs ≡ true
  all_then [] h = refl
  all_then (x ∷ xs) h = let both = and_parts (f x) (list_all f xs) h in and_from (g x) (list_all g xs) (then_g x both.0) (all_then xs both.1)

  it_then : (o : Option A) → holds_of f o ≡ true → holds_of g o ≡ true
  it_then None h = h
  it_then (Some x) h = then_g x h

maximum_lesser : (maximum : Option (List ℕ)) (a b : List ℕ) → Fits a b → fits_maximum maximum b ≡ true → fits_maximum maximum a ≡ true
maximum_lesser None a b less h = refl
maximum_lesser (Some most) a b less h = fits_lesser a b most less h

not_true : (b : Bool) → (b ≡ true → ⊥) → b ≡ false
not_true true h = absurd (h refl)
not_true false h = refl

pub not_off : (b : Bool) → not b ≡ true → b ≡ false
not_off true h = absurd (cc h)
not_off false h = refl

module _ {K : ℕ} (sight : Sight K) (app : AppSight) (old a b : List ℕ) (less : Fits a b) where
  limits_lesser : in_limits sight app old b ≡ true → in_limits sight app old a ≡ true
  limits_lesser h =
      let stays : List ℕ → QueueSight → Bool = λ new q. fits_maximum q.row.maximum (amounts_exchanged old new q.used) in
      let limit : List ℕ → QueueSight → Bool = λ new q. fits_user_limit q.row.factor q.row.guaranteed (amounts_exchanged old new (q.used_by app.user)) in
      let both = and_parts (list_all (stays b) (queues_to sight app.leaf)) (holds_of (limit b) (seen_queue sight app.leaf)) h in
      and_from (list_all (stays a) (queues_to sight app.leaf)) (holds_of (limit a) (seen_queue sight app.leaf))
      (all_then (stays b) (stays a) (λ q s. maximum_lesser q.row.maximum (amounts_exchanged old a q.used) (amounts_exchanged old b q.used) (exchanged_lesser old a b q.used less) s) (queues_to sight app.leaf) both.0)
      (it_then (limit b) (limit a) (λ q s. fits_lesser (amounts_exchanged old a (q.used_by app.user)) (amounts_exchanged old b (q.used_by app.user)) (times q.row.factor q.row.guaranteed) (exchanged_lesser old a b (q.used_by app.user) less) s) (seen_queue sight app.leaf) both.1)

  -- what is over a limit with a lesser one is with this one
  over_with_more : in_limits sight app old a ≡ false → in_limits sight app old b ≡ false
  over_with_more over = not_true (in_limits sight app old b) (λ h. let t = limits_lesser h in absurd (cc (over, t)))

-- an application whose limits do not allow what its asks want at least
pub over_limits_shut : {K : ℕ} (sight : Sight K) (app : AppSight) (least : List ℕ) → WantAtLeast least app.asks → in_limits sight app (zeros K) least ≡ false → IsShut sight app
over_limits_shut {K} sight app least wants over ask m = inr (over_with_more sight app (zeros K) least ask.resource (wants ask m) over)

-- an ask that wants what no node could take, even an empty one, and so each of those that an application passes over, and all of them
module _ {K : ℕ} (flat : Flat K) (wants : List Want) (reach : AreOutOfReach flat.nodes.present wants) where
  no_node_takes : (ask : Ask) → IsIn (want_of ask) wants → IsImpossible (sight_of flat) ask
  no_node_takes ask m node there =
      let x = of_map (node_sight flat) flat.nodes.present node there in
      subst (IsUnfit ask) (x.2) (unfit_of flat ask (x.0) (each_of (λ (n : ClusterNode). could_take ask.place ask.resource n ≡ false) flat.nodes.present (reach (want_of ask) m) (x.0) (x.1)))

  pub passed_over : (asks : List Ask) (from to : ℕ) → WantAmong wants asks from to → AreImpossible (sight_of flat) asks from to
  passed_over asks from to h = record { later = h.later; within = h.within; passed = λ index ask late early at. no_node_takes ask (h.among index ask late early at) }

  pub all_impossible_shut : (app : AppSight) → ((ask : Ask) → IsIn ask app.asks → IsIn (want_of ask) wants) → IsShut (sight_of flat) app
  all_impossible_shut app each ask m = inl (no_node_takes ask (each ask m))
