-- An allocate that is processed, and its answer.
use Rattle.cap_masters.proofs.Prelude.{◌≡◌, ℕ, ◌+◌, ◌-◌, ◌<◌, ◌≤◌, Bool, true, false, List, [], ◌∷◌, ◌++◌, get_or, length, take, refl, sym, ◌∙◌, ap, subst, inl, arith, inr, Option, Some, None, IsSome, IfSome, not, ◌==◌, ◌&&◌, is_none, filter, option_map, option_and_then, if◌then◌else◌, fold, list_any, take_more, fold-append, nat_tests, Ask, Cause, Request, Reply, Refusal, earliest, holds_of, Flat, App, Container, app_at, with_app, is_current, is_repeated, is_bad_id, after_asks, after_ask, rounded_ask, put_ask, after_ends, with_ends, named_among, allocate_refusal, is_repeated_allocate, is_too_large, has_too_many_keys, released_by, after_wishes, after_telling, after_allocate, kept_reply, after_processed_allocate, refused_or, find_changed, asks_keep, first_holds, kept_if, Reported, repeated_numbers, reported_of, HasResponse}
use Rattle.cap_model.specs.declared.reply.ReplyWith.TheVariants as Reply
use Rattle.cap_model.specs.Replies as flat_replies
use Rattle.cap_masters.proofs.Refused.{repeats_it, repeats_none}

kept_by : (f : App → App) → ((a : App) → (f a).response ≡ a.response) → (o : Option App) → option_map (λ (a : App). a.response) (option_map f o) ≡ option_map (λ a. a.response) o
kept_by f r None = refl
kept_by f r (Some a) = ap (λ n. Some n) (r a)

none_of_five : {A : Type 0} (a b c d e : Bool) (p q r s t : A) → earliest ((a, p) ∷ (b, q) ∷ (c, r) ∷ (d, s) ∷ (e, t) ∷ []) ≡ None → (a ≡ false) × (c ≡ false)
none_of_five true b c d e p q r s t h = absurd (cc h)
none_of_five false true c d e p q r s t h = absurd (cc h)
none_of_five false false true d e p q r s t h = absurd (cc h)
none_of_five false false false d e p q r s t h = (refl, refl)

app_is : (x y : App) → Some y ≡ Some x → y ≡ x
app_is x y e = cc e

-- one room less, and one ask less to come
pub room_left : (asks n i room room' : ℕ) → asks ≤ room + i → room ≤ room' + (if n == n then 1 else 0) → asks ≤ room' + (i + 1)
room_left asks n i room room' a b = let t : n == n ≡ true = grind (arith, nat_tests) in let weight : Bool → ℕ = λ x. if x then 1 else 0 in let one : weight (n == n) ≡ 1 = ap weight t in omega (arith, a, b, one)

module _ {K : ℕ} where
  -- one more ask is put
  pub asks_step : (n i : ℕ) (asks : List Ask) (ask : Ask) (old before new : Flat K) → before ≡ after_asks n (take i asks) old → i < length asks → ask ≡ get_or asks i ask → new ≡ after_ask n before (rounded_ask K before.settings ask) → new ≡ after_asks n (take (i + 1) asks) old
  asks_step n i asks ask old before new so_far more item is =
      let step : Flat K → Ask → Flat K = λ c a. after_ask n c (rounded_ask K c.settings a) in
      let one : take (i + 1) asks ≡ take i asks ++ ask ∷ [] = take_more asks i ask more ∙ ap (λ a. take i asks ++ a ∷ []) (sym item) in
      is ∙ ap (λ c. step c ask) so_far ∙ sym (ap (λ xs. fold step old xs) one ∙ fold-append step old (take i asks) (ask ∷ []))

  -- asks and ends leave it
  asks_leave : (n : ℕ) (asks : List Ask) (old : Flat K) (m : ℕ) → option_map (λ (a : App). a.response) (app_at (after_asks n asks old) m) ≡ option_map (λ a. a.response) (app_at old m)
  asks_leave n [] old m = refl
  asks_leave n (ask ∷ asks) old m =
      let kept = rounded_ask K old.settings ask in
      let f : App → App = λ app. if app.number == n then record app { asks = put_ask kept app.asks } else app in
      asks_leave n asks (after_ask n old kept) m
      ∙ ap (option_map (λ (a : App). a.response)) (find_changed (λ (a : App). a.number) f (λ a. kept_if (a.number == n) (λ (x : App). x.number) (record a { asks = put_ask kept a.asks }) a refl) m old.apps.active)
      ∙ kept_by f (λ a. kept_if (a.number == n) (λ (x : App). x.response) (record a { asks = put_ask kept a.asks }) a refl) (app_at old m)

  ends_leave : (cause : Cause) (gone : List Container) (old : Flat K) (m : ℕ) → option_map (λ (a : App). a.response) (app_at (after_ends cause gone old) m) ≡ option_map (λ a. a.response) (app_at old m)
  ends_leave cause gone old m =
      ap (option_map (λ (a : App). a.response)) (find_changed (λ (a : App). a.number) (with_ends cause gone) (λ a. refl) m old.apps.active)
      ∙ kept_by (with_ends cause gone) (λ a. refl) (app_at old m)

  -- the application is there, with the same response id, before it is told
  still_at : (old new : Flat K) (n id : ℕ) → option_map (λ (a : App). a.response) (app_at new n) ≡ option_map (λ a. a.response) (app_at old n) → HasResponse old n id → HasResponse new n id
  still_at old new n id e (a, f, r) = by (app_at new n) refl
    where
      by : (o : Option App) → app_at new n ≡ o → HasResponse new n id
      by (Some b) g = (b, g, (let same : Some b.response ≡ Some a.response = sym (ap (option_map (λ (x : App). x.response)) g) ∙ e ∙ ap (option_map (λ (x : App). x.response)) f in cc (same, r)))
      by None g = let none : None ≡ Some a.response = sym (ap (option_map (λ (x : App). x.response)) g) ∙ e ∙ ap (option_map (λ (x : App). x.response)) f in absurd (cc none)

  pub ended_at : (old asked ended : Flat K) (n id : ℕ) (asks : List Ask) (releases : List ℕ) → HasResponse old n id → asked ≡ after_asks n asks old → ended ≡ after_ends Cause.Released (released_by asked n releases) asked → HasResponse ended n id
  ended_at old asked ended n id asks releases at a e =
      still_at old ended n id
      (ap (λ (c : Flat K). option_map (λ (x : App). x.response) (app_at c n)) e ∙ ends_leave Cause.Released (released_by asked n releases) asked n
      ∙ ap (λ (c : Flat K). option_map (λ (x : App). x.response) (app_at c n)) a ∙ asks_leave n asks old n) at

  pub is_there : (cluster : Flat K) (n id : ℕ) → HasResponse cluster n id → IsSome (app_at cluster n)
  is_there cluster n id (a, f, r) = subst IsSome (sym f) refl

  -- after asks, releases and the telling
  pub processed : (old asked ended told : Flat K) (n id ignored : ℕ) (asks : List Ask) (releases : List ℕ) → HasResponse old n id → asked ≡ after_asks n asks old → ended ≡ after_ends Cause.Released (released_by asked n releases) asked →
      ignored + length (released_by asked n releases) ≡ length releases → IfSome (app_at ended n) (λ app. told ≡ with_app n (after_telling app.response ignored) ended) → told ≡ after_processed_allocate old n id asks releases
  processed old asked ended told n id ignored asks releases at a e i t =
      let live : asked.nodes.live ≡ old.nodes.live = ap (λ (c : Flat K). c.nodes.live) a ∙ (asks_keep n asks old).live in
      let named : released_by asked n releases ≡ released_by old n releases = ap (λ cs. named_among releases (filter (λ (c : Container). c.app == n) cs)) live in
      let wishes : ended ≡ after_wishes old n asks releases = e ∙ (λ j. after_ends Cause.Released (named j) (a j)) in
      let count : ignored ≡ length releases - length (released_by old n releases) = (let len = ap length named in omega (arith, i, len)) in
      let there = ended_at old asked ended n id asks releases at a e in
      at_some (app_at ended n) (there.0) (there.1) t
      ∙ (λ j. with_app n (after_telling (there.2 j) (count j)) (wishes j))
    where
      at_some : (o : Option App) (x : App) → o ≡ Some x → IfSome o (λ app. told ≡ with_app n (after_telling app.response ignored) ended) → told ≡ with_app n (after_telling x.response ignored) ended
      at_some None x f h = absurd (cc f)
      at_some (Some y) x f h = h ∙ ap (λ (z : App). with_app n (after_telling z.response ignored) ended) (app_is x y f)

  -- what is known of an allocate that is not refused
  unrefused : (cluster : Flat K) (n id : ℕ) (asks : List Ask) → allocate_refusal cluster n id asks ≡ None → (is_none (app_at cluster n) ≡ false) × (holds_of (λ a. is_bad_id a.response a.kept id) (app_at cluster n) ≡ false)
  unrefused cluster n id asks e =
      let fresh = not (is_repeated_allocate cluster n id) in
      none_of_five (is_none (app_at cluster n)) (not (holds_of (λ a. a.registered) (app_at cluster n))) (holds_of (λ a. is_bad_id a.response a.kept id) (app_at cluster n))
      (fresh && list_any (is_too_large cluster) asks) (fresh && holds_of (λ a. has_too_many_keys a asks) (app_at cluster n))
      Refusal.UnknownApplication Refusal.NotRegistered Refusal.BadResponseId Refusal.AskTooLarge Refusal.TooManyAsks e

  -- one that repeats nothing has the id that was given last
  pub fresh_at : (cluster : Flat K) (n id : ℕ) (asks : List Ask) → allocate_refusal cluster n id asks ≡ None → is_repeated_allocate cluster n id ≡ false → HasResponse cluster n id
  fresh_at cluster n id asks e f = by (app_at cluster n) refl ((unrefused cluster n id asks e).0) ((unrefused cluster n id asks e).1) f
    where
      by : (o : Option App) → app_at cluster n ≡ o → is_none o ≡ false → holds_of (λ (a : App). is_bad_id a.response a.kept id) o ≡ false → holds_of (λ (a : App). is_repeated a.response a.kept id) o ≡ false → HasResponse cluster n id
      by None g a b c = absurd (cc a)
      by (Some x) g a b c = (x, g, (let same = first_holds (is_current x.response id) (is_repeated x.response x.kept id) b c in grind (arith, nat_tests, same)))

  -- the answer is the kept reply of the new cluster
  pub answered : (old new : Flat K) (n id : ℕ) (asks : List Ask) (releases : List ℕ) (reply : Reply K) → allocate_refusal old n id asks ≡ None → new ≡ after_allocate old n id asks releases → reply ≡ Reply.Allocate (kept_reply new n) →
      flat_replies.Replies old (Request.Allocate n id asks releases) reply new
  answered old new n id asks releases reply none is told =
      inl (
        told ∙ ap (λ (c : Flat K). Reply.Allocate (kept_reply c n)) is ∙ sym (ap (λ o. refused_or o (λ r. Reply.Refused r) (Reply.Allocate (kept_reply (after_allocate old n id asks releases) n))) none),
        is ∙ sym (ap (λ o. refused_or o (λ r. old) (after_allocate old n id asks releases)) none),
      )

  -- where it repeats the last one nothing changes, else it is processed
  pub repeated_same : (old : Flat K) (n id : ℕ) (asks : List Ask) (releases : List ℕ) → is_repeated_allocate old n id ≡ true → old ≡ after_allocate old n id asks releases
  repeated_same old n id asks releases e = sym (ap (λ b. if b then old else after_processed_allocate old n id asks releases) e)

  pub fresh_processed : (old new : Flat K) (n id : ℕ) (asks : List Ask) (releases : List ℕ) → is_repeated_allocate old n id ≡ false → new ≡ after_processed_allocate old n id asks releases → new ≡ after_allocate old n id asks releases
  fresh_processed old new n id asks releases e is = is ∙ sym (ap (λ b. if b then old else after_processed_allocate old n id asks releases) e)

  -- the numbers of the kept reply are given where the request repeats the last one, and only there
  pub repeated_is : (cluster : Flat K) (n id : ℕ) (reported : Reported) → Some reported ≡ option_and_then (λ app. repeated_numbers app id) (app_at cluster n) →
      (is_repeated_allocate cluster n id ≡ true) × (option_map reported_of (option_and_then (λ app. app.kept) (app_at cluster n)) ≡ Some reported)
  repeated_is cluster n id reported e = by (app_at cluster n) e
    where
      by : (o : Option App) → Some reported ≡ option_and_then (λ app. repeated_numbers app id) o →
          (holds_of (λ (a : App). is_repeated a.response a.kept id) o ≡ true) × (option_map reported_of (option_and_then (λ (a : App). a.kept) o) ≡ Some reported)
      by None h = absurd (cc h)
      by (Some a) h = repeats_it a id reported h

  pub fresh_is : (cluster : Flat K) (n id : ℕ) → None ≡ option_and_then (λ app. repeated_numbers app id) (app_at cluster n) → is_repeated_allocate cluster n id ≡ false
  fresh_is cluster n id e = by (app_at cluster n) e
    where
      by : (o : Option App) → None ≡ option_and_then (λ app. repeated_numbers app id) o → holds_of (λ (a : App). is_repeated a.response a.kept id) o ≡ false
      by None h = refl
      by (Some a) h = repeats_none a id h

  -- where no memory was found
  pub no_memory : (old new : Flat K) (n id : ℕ) (asks : List Ask) (releases : List ℕ) → allocate_refusal old n id asks ≡ None → is_repeated_allocate old n id ≡ false → new ≡ old →
      flat_replies.Replies old (Request.Allocate n id asks releases) (Reply.Refused Refusal.NoMemory) new
  no_memory old new n id asks releases none fresh same = inr (record { grows = ap not fresh; unrefused = none; reply_is = refl }, same)
