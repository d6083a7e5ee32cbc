-- A reply in full is what it was, and its grants and ends have room.
use Rattle.cap_laws.proofs.Prelude.{◌≡◌, ℕ, ◌≤◌, ◌+◌, Bool, true, false, List, [], ◌∷◌, ◌++◌, refl, sym, ◌∙◌, ap, subst, arith, Option, Some, None, IsSome, cond, not, ◌-◌, min, length, find, map, filter, ◌==◌, unwrap_or, option_map, option_and_then, if◌then◌else◌, option_map_or, length-take, length-append, length-map, length-filter, count_by-le-length, nat_tests, cons_option, Ask, AllocateReply, Reply, End, Cause, Request, news_max, Flat, App, Container, app_at, containers_of, nothing_told, after_telling, after_processed_allocate, after_wishes, kept_reply, is_repeated_allocate, released_by, Replies, granted_reply, NewsRoom, news_most, HasRoomFor, IsNoAllocate, named_among, holds_of, is_repeated, ends_of, find_changed, kept_if}
use Rattle.cap_laws.proofs.calls.Steps.{by_reply}
use Rattle.cap_laws.proofs.telling.News.{News, untold, grants, ends, grants_are, ends_are}
use Rattle.cap_laws.proofs.telling.Telling.{its_number, its_test, allocate_tells}

itself : (n : ℕ) → (n == n) ≡ true
itself n = grind (arith, nat_tests)

-- no more than 64 are reported
few_kept : {N : Type 0} (from : AllocateReply → List N) (n : ℕ) (tell : App → App) → from nothing_told ≡ [] → ((a : App) → length (from (unwrap_or (tell a).kept nothing_told)) ≤ news_max) →
    ((a : App) → (tell a).number ≡ a.number) → (xs : List App) →
    length (from (unwrap_or (option_and_then (λ (a : App). a.kept) (find (λ (a : App). a.number == n) (map (λ a. if a.number == n then tell a else a) xs))) nothing_told)) ≤ news_max
few_kept from n tell none few same xs =
    subst (λ o. length (from (unwrap_or (option_and_then (λ (a : App). a.kept) o) nothing_told)) ≤ news_max)
    (sym (find_changed (λ (a : App). a.number) (λ a. if a.number == n then tell a else a) (λ a. kept_if (a.number == n) (λ (x : App). x.number) (tell a) a (same a)) n xs))
    (by (find (λ (a : App). a.number == n) xs) (its_number n xs))
  where
    by : (o : Option App) → ((a : App) → o ≡ Some a → a.number ≡ n) → length (from (unwrap_or (option_and_then (λ (a : App). a.kept) (option_map (λ a. if a.number == n then tell a else a) o)) nothing_told)) ≤ news_max
    by None at = let z = ap (λ xs. length xs) none in omega (arith, z)
    by (Some a) at =
        let is : (a.number == n) ≡ true = its_test n n a (at a refl) ∙ itself n in
        subst (λ b. length (from (unwrap_or (cond b (tell a) a).kept nothing_told)) ≤ news_max) (sym is) (few a)

-- what is reported is of what was there
of_them : {N : Type 0} (said left there more : List N) → said ++ left ≡ there ++ more → length said ≤ length there + length more
of_them said left there more e =
    let a = length-append said left in
    let b = length-append there more in
    let c = ap (λ xs. length xs) e in
    omega (arith, a, b, c)

named_few : (ns : List ℕ) (xs : List Container) → length (named_among ns xs) ≤ length ns
named_few [] xs = omega (arith)
named_few (n ∷ ns) xs =
    let others = filter (λ (c : Container). not (c.number == n)) xs in
    let first = find (λ (c : Container). c.number == n) xs in
    let few = by (named_among ns others) first (named_few ns others) in
    let same : length (named_among (n ∷ ns) xs) ≡ length (cons_option first (named_among ns others)) = refl in
    omega (arith, few, same)
  where
    by : (rest : List Container) (o : Option Container) → length rest ≤ length ns → length (cons_option o rest) ≤ length ns + 1
    by rest None h = omega (arith, h)
    by rest (Some c) h = omega (arith, h)

ends_few : (n : ℕ) (gone : List Container) → length (ends_of Cause.Released n gone) ≤ length gone
ends_few n gone =
    let a = length-map {B = End} (filter (λ (c : Container). c.app == n) gone) (λ (c : Container). record { container = c.number; cause = Cause.Released }) in
    let b = length-filter (λ (c : Container). c.app == n) gone in
    let c = count_by-le-length (λ (c : Container). c.app == n) gone in
    omega (arith, a, b, c)

is_there : {K : ℕ} (c : Flat K) (n : ℕ) (x : App) → app_at c n ≡ Some x → IsSome (app_at c n)
is_there c n x e = cc e

module _ {K : ℕ} (old : Flat K) (n id : ℕ) (asks : List Ask) (releases : List ℕ) where
  abbrev processed : Flat K
  processed = after_processed_allocate old n id asks releases

  abbrev told : AllocateReply
  told = kept_reply processed n

  -- what is said to the application itself
  said : {N : Type 0} (k : News N) {b : Bool} → true ≡ b → k.from told ++ untold k processed n ≡ option_map_or k.from (if b then Some told else None) [] ++ untold k processed n
  said k e = ap (λ b. option_map_or k.from (if b then Some told else None) [] ++ untold k processed n) e

  -- the news of an allocate that is no repeat: of what waited and of the releases
  fresh_room : (app : App) → app_at old n ≡ Some app → (length told.grants ≤ min news_max (length app.grants)) × (length told.ends ≤ min news_max (length app.ends + length releases))
  fresh_room app there = by (app_at processed n) refl
    where
      wished : List App
      wished = (after_wishes old n asks releases).apps.active

      tell : App → App
      tell = after_telling id (length releases - length (released_by old n releases))

      few : {N : Type 0} (from : AllocateReply → List N) → from nothing_told ≡ [] → ((a : App) → length (from (unwrap_or (tell a).kept nothing_told)) ≤ news_max) → length (from told) ≤ news_max
      few from none most = few_kept from n tell none most (λ a. refl) wished

      both : length told.grants ≤ length app.grants → length told.ends ≤ length app.ends + length releases →
          (length told.grants ≤ min news_max (length app.grants)) × (length told.ends ≤ min news_max (length app.ends + length releases))
      both h k =
          let a = few (λ r. r.grants) refl (λ (x : App). let l = length-take news_max x.grants in omega (arith, l)) in
          let b = few (λ r. r.ends) refl (λ (x : App). let l = length-take news_max x.ends in omega (arith, l)) in
          (omega (arith, a, h), omega (arith, b, k))

      by : (o : Option App) → app_at processed n ≡ o → (length told.grants ≤ min news_max (length app.grants)) × (length told.ends ≤ min news_max (length app.ends + length releases))
      by None e =
          let nothing = ap (λ o. unwrap_or (option_and_then (λ (a : App). a.kept) o) nothing_told) e in
          let g = ap (λ (r : AllocateReply). length r.grants) nothing in
          let d = ap (λ (r : AllocateReply). length r.ends) nothing in
          both (omega (arith, g)) (omega (arith, d))
      by (Some x) e =
          let some = is_there processed n x e in
          let of_grants = of_them told.grants (untold grants processed n) (untold grants old n) [] (said grants (sym (itself n)) ∙ allocate_tells grants grants_are n n id asks releases old some) in
          let of_ends = of_them told.ends (untold ends processed n) (untold ends old n) (ends_of Cause.Released n (released_by old n releases)) (said ends (sym (itself n)) ∙ allocate_tells ends ends_are n n id asks releases old some) in
          let g = ap (λ (o : Option App). length (option_map_or (λ (a : App). a.grants) o [])) there in
          let d = ap (λ (o : Option App). length (option_map_or (λ (a : App). a.ends) o [])) there in
          let f = ends_few n (released_by old n releases) in
          let m = named_few releases (containers_of old.nodes n) in
          both (omega (arith, of_grants, g)) (omega (arith, of_ends, d, f, m))

  -- the news of an allocate that may be one
  allocate_room : (app : App) → app_at old n ≡ Some app → (b : Bool) → is_repeated app.response app.kept id ≡ b →
      let r = kept_reply (cond b old processed) n in (length r.grants ≤ (news_most app id (length releases)).grants) × (length r.ends ≤ (news_most app id (length releases)).ends)
  allocate_room app there true e =
      let most : NewsRoom = option_map_or (λ (k : AllocateReply). record { grants = length k.grants; ends = length k.ends }) app.kept (record { grants = 0; ends = 0 }) in
      let is : news_most app id (length releases) ≡ most = ap (λ b. if b then most else record { grants = min news_max (length app.grants); ends = min news_max (length app.ends + length releases) }) e in
      let kept : kept_reply old n ≡ unwrap_or app.kept nothing_told = ap (λ (o : Option App). unwrap_or (option_and_then (λ (a : App). a.kept) o) nothing_told) there in
      subst (λ (m : NewsRoom). (length (kept_reply old n).grants ≤ m.grants) × (length (kept_reply old n).ends ≤ m.ends)) (sym is)
      (subst (λ (r : AllocateReply). (length r.grants ≤ most.grants) × (length r.ends ≤ most.ends)) (sym kept) (by app.kept))
    where
      by : (o : Option AllocateReply) →
          let m : NewsRoom = option_map_or (λ (k : AllocateReply). record { grants = length k.grants; ends = length k.ends }) o (record { grants = 0; ends = 0 }) in
          (length (unwrap_or o nothing_told).grants ≤ m.grants) × (length (unwrap_or o nothing_told).ends ≤ m.ends)
      by None = (omega (arith), omega (arith))
      by (Some k) = (omega (arith), omega (arith))
  allocate_room app there false e =
      let fresh : NewsRoom = record { grants = min news_max (length app.grants); ends = min news_max (length app.ends + length releases) } in
      let is : news_most app id (length releases) ≡ fresh =
      ap (λ b. if b then option_map_or (λ (k : AllocateReply). record { grants = length k.grants; ends = length k.ends }) app.kept (record { grants = 0; ends = 0 }) else fresh) e in
      subst (λ (m : NewsRoom). (length told.grants ≤ m.grants) × (length told.ends ≤ m.ends)) (sym is) (fresh_room app there)

  pub some_room : (app : App) → app_at old n ≡ Some app → (reply : Reply K) (new : Flat K) → Replies old (Request.Allocate n id asks releases) reply new → HasRoomFor reply (news_most app id (length releases))
  some_room app there =
      by_reply old (Request.Allocate n id asks releases) (λ reply new. HasRoomFor reply (news_most app id (length releases))) (λ refusal. tt)
      (λ unrefused. allocate_room app there (is_repeated_allocate old n id) (sym (ap (λ (o : Option App). holds_of (λ (a : App). is_repeated a.response a.kept id) o) there)))

-- the other calls report no grants and no ends
pub other_room : {K : ℕ} (old : Flat K) (request : Request K) (room : NewsRoom) → IsNoAllocate request → (reply : Reply K) (new : Flat K) → Replies old request reply new → HasRoomFor reply room
other_room {K} old request room other = by_reply old request (λ reply new. HasRoomFor reply room) (λ refusal. tt) (λ unrefused. by request other)
  where
    by : (request : Request K) → IsNoAllocate request → HasRoomFor (granted_reply old request) room
    by (Request.Allocate app id asks releases) other = absurd other
    by request other = tt
