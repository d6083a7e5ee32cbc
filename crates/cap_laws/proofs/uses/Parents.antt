-- A parent queue uses what its children use together.
use Rattle.cap_laws.proofs.Prelude.{◌≡◌, ℕ, ◌+◌, ◌<◌, Bool, true, false, List, [], ◌∷◌, length, refl, sym, ◌∙◌, ap, arith, Option, Some, None, cond, ◌&&◌, if◌then◌else◌, sum_by, ext_get_or, sum_by-cons, get_or-map-range_with_len, length-map-range_with_len, amount, by_amount, QueueRow, holds_of, part, sum_where, Flat, App, app_at, is_under, is_child_of, Holding, holdings, queue_use, IsInOneChild, ParentUsesChildren, sum_by_same}
use Rattle.std.specs.List.{count_by}

abbrev one_if : Bool → ℕ
one_if b = cond b 1 0

abbrev nothing_if : Bool → ℕ
nothing_if b = if b then 0 else 0

nothing_in : (b : Bool) → nothing_if b ≡ 0
nothing_in true = refl
nothing_in false = refl

both_parts : (b : Bool) (m n : ℕ) → (if b then m + n else 0) ≡ (if b then m else 0) + (if b then n else 0)
both_parts true m n = refl
both_parts false m n = refl

when_none : (b u : Bool) (a : ℕ) → one_if (b && u) ≡ 0 → (if b then (if u then a else 0) else 0) ≡ 0
when_none true true a e = absurd (omega (arith, e))
when_none true false a e = refl
when_none false u a e = refl

when_one : (b u : Bool) (a n s : ℕ) → one_if (b && u) + n ≡ 1 → (n ≡ 0 → s ≡ 0) → (n ≡ 1 → s ≡ a) → (if b then (if u then a else 0) else 0) + s ≡ a
when_one true true a n s e f g = let z : s ≡ 0 = f (omega (arith, e)) in omega (arith, z)
when_one true false a n s e f g = let z : s ≡ a = g (omega (arith, e)) in omega (arith, z)
when_one false u a n s e f g = let z : s ≡ a = g (omega (arith, e)) in omega (arith, z)

module _ {X : Type 0} where
  sum_of_nothing : (b : X → Bool) (xs : List X) → sum_by (λ x. if b x then 0 else 0) xs ≡ 0
  sum_of_nothing b [] = refl
  sum_of_nothing b (x ∷ xs) = sum_by-cons (λ y. if b y then 0 else 0) x xs ∙ omega (arith, nothing_in (b x), sum_of_nothing b xs)

  -- a filtered sum of sums is the sum of the filtered sums
  sum_of_both : (b : X → Bool) (f g : X → ℕ) (xs : List X) → sum_by (λ x. if b x then f x + g x else 0) xs ≡ sum_by (λ x. if b x then f x else 0) xs + sum_by (λ x. if b x then g x else 0) xs
  sum_of_both b f g [] = refl
  sum_of_both b f g (x ∷ xs) =
      let p = sum_by-cons (λ y. if b y then f y + g y else 0) x xs in
      let q = sum_by-cons (λ y. if b y then f y else 0) x xs in
      let r = sum_by-cons (λ y. if b y then g y else 0) x xs in
      omega (arith, p, q, r, both_parts (b x) (f x) (g x), sum_of_both b f g xs)

  -- an amount that counts at no item, and one that counts at one
  counted_at_none : (b u : X → Bool) (a : ℕ) (xs : List X) → count_by (λ x. b x && u x) xs ≡ 0 → sum_by (λ x. if b x then (if u x then a else 0) else 0) xs ≡ 0
  counted_at_none b u a [] e = refl
  counted_at_none b u a (x ∷ xs) e =
      let p = sum_by-cons (λ y. if b y then (if u y then a else 0) else 0) x xs in
      let c = sum_by-cons (λ y. cond (b y && u y) 1 0) x xs in
      let here : one_if (b x && u x) ≡ 0 = omega (arith, c, e) in
      let rest : count_by (λ y. b y && u y) xs ≡ 0 = omega (arith, c, e) in
      omega (arith, p, when_none (b x) (u x) a here, counted_at_none b u a xs rest)

  counted_at_one : (b u : X → Bool) (a : ℕ) (xs : List X) → count_by (λ x. b x && u x) xs ≡ 1 → sum_by (λ x. if b x then (if u x then a else 0) else 0) xs ≡ a
  counted_at_one b u a [] e = absurd (omega (arith, e))
  counted_at_one b u a (x ∷ xs) e =
      let c = sum_by-cons (λ y. cond (b y && u y) 1 0) x xs in
      sum_by-cons (λ y. if b y then (if u y then a else 0) else 0) x xs
      ∙ when_one (b x) (u x) a (count_by (λ y. b y && u y) xs) (sum_by (λ y. if b y then (if u y then a else 0) else 0) xs) (sym c ∙ e)
      (counted_at_none b u a xs) (counted_at_one b u a xs)

module _ {K : ℕ} (cluster : Flat K) (path : List ℕ) (each : (n : ℕ) (app : App) → app_at cluster n ≡ Some app → IsInOneChild cluster path app) where
  -- whether the application of a holding is in or under a queue
  abbrev is_held : List ℕ → Holding → Bool
  is_held at h = holds_of (λ app. is_under at app.leaf) (app_at cluster h.app)

  of_app : (o : Option App) (a : ℕ) → ((app : App) → o ≡ Some app → IsInOneChild cluster path app) →
      sum_by (λ c. if is_child_of path c.path then (if holds_of (λ app. is_under c.path app.leaf) o then a else 0) else 0) cluster.settings.queues
      ≡ (if holds_of (λ app. is_under path app.leaf) o then a else 0)
  of_app None a one = sum_of_nothing (λ (c : QueueRow). is_child_of path c.path) cluster.settings.queues
  of_app (Some app) a one = by (is_under path app.leaf) (one app refl)
    where
      by : (b : Bool) → count_by (λ (c : QueueRow). is_child_of path c.path && is_under c.path app.leaf) cluster.settings.queues ≡ (if b then 1 else 0) →
          sum_by (λ c. if is_child_of path c.path then (if is_under c.path app.leaf then a else 0) else 0) cluster.settings.queues ≡ (if b then a else 0)
      by true e = counted_at_one (λ (c : QueueRow). is_child_of path c.path) (λ (c : QueueRow). is_under c.path app.leaf) a cluster.settings.queues e
      by false e = counted_at_none (λ (c : QueueRow). is_child_of path c.path) (λ (c : QueueRow). is_under c.path app.leaf) a cluster.settings.queues e

  -- the children's parts together are the parent's
  parts : (hs : List Holding) (k : ℕ) →
      sum_by (λ c. if is_child_of path c.path then part (is_held c.path) (λ h. h.resource) hs k else 0) cluster.settings.queues ≡ part (is_held path) (λ h. h.resource) hs k
  parts [] k = sum_of_nothing (λ (c : QueueRow). is_child_of path c.path) cluster.settings.queues
  parts (h ∷ hs) k =
      sum_by_same (λ (c : QueueRow). if is_child_of path c.path then part (is_held c.path) (λ h. h.resource) (h ∷ hs) k else 0)
      (λ c. if is_child_of path c.path then (if is_held c.path h then amount h.resource k else 0) + part (is_held c.path) (λ h. h.resource) hs k else 0)
      cluster.settings.queues
      (λ c. ap (λ n. if is_child_of path c.path then n else 0) (sum_by-cons (λ (x : Holding). if is_held c.path x then amount x.resource k else 0) h hs))
      ∙ sum_of_both (λ (c : QueueRow). is_child_of path c.path) (λ c. if is_held c.path h then amount h.resource k else 0) (λ c. part (is_held c.path) (λ h. h.resource) hs k) cluster.settings.queues
      ∙ (λ i. of_app (app_at cluster h.app) (amount h.resource k) (each h.app) i + parts hs k i)
      ∙ sym (sum_by-cons (λ (x : Holding). if is_held path x then amount x.resource k else 0) h hs)

  amount_of_use : (at : List ℕ) (k : ℕ) → k < K → amount (queue_use cluster at) k ≡ part (is_held at) (λ h. h.resource) (holdings cluster) k
  amount_of_use at k below = get_or-map-range_with_len (part (is_held at) (λ h. h.resource) (holdings cluster)) 0 K k k 0 below (omega arith)

  length_by_amount : (f : ℕ → ℕ) → length (by_amount K f) ≡ K
  length_by_amount f = length-map-range_with_len f 0 K

  pub parent_use : queue_use cluster path ≡ sum_where K (λ (child : QueueRow). is_child_of path child.path) (λ child. queue_use cluster child.path) cluster.settings.queues
  parent_use =
      ext_get_or 0 (queue_use cluster path) (sum_where K (λ (child : QueueRow). is_child_of path child.path) (λ child. queue_use cluster child.path) cluster.settings.queues)
      (length_by_amount (part (is_held path) (λ h. h.resource) (holdings cluster)) ∙ sym (length_by_amount (part (λ (child : QueueRow). is_child_of path child.path) (λ child. queue_use cluster child.path) cluster.settings.queues)))
      (λ k h.
      let below : k < K = omega (arith, h, length_by_amount (part (is_held path) (λ h. h.resource) (holdings cluster))) in
      amount_of_use path k below
      ∙ sym (parts (holdings cluster) k)
      ∙ sym (sum_by_same (λ (c : QueueRow). if is_child_of path c.path then amount (queue_use cluster c.path) k else 0)
      (λ c. if is_child_of path c.path then part (is_held c.path) (λ h. h.resource) (holdings cluster) k else 0) cluster.settings.queues
      (λ c. ap (λ n. if is_child_of path c.path then n else 0) (amount_of_use c.path k below)))
      ∙ sym (get_or-map-range_with_len (part (λ (child : QueueRow). is_child_of path child.path) (λ child. queue_use cluster child.path) cluster.settings.queues) 0 K k k 0 below (omega arith)))

pub parent_uses_children : ParentUsesChildren
parent_uses_children K cluster q each children = parent_use cluster q.path each
