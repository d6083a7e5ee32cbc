-- What lives and what has ended is what lived and what was granted.
use Rattle.cap_laws.proofs.Prelude.{◌≡◌, ℕ, ◌+◌, ◌≤◌, ◌<◌, Bool, true, false, List, [], ◌∷◌, ◌++◌, refl, sym, ◌∙◌, ap, subst, inl, inr, arith, Option, Some, None, cond, not, ◌||◌, ◌==◌, filter, count_by, nat_tests, append_assoc, append-nil, filter-append, list_any-append, Request, Refusal, Flat, Container, is_among, refused_or, refusal_of, granted_reply, granted_cluster, after_request, Event, Step, Run, after_event, after_grant, after_reserve, granted_by, ever_granted, ended_between, ever_ended, is_no_memory, IsRising, container_numbers, HasDistinctNumbers, StepIsDetermined, RunLeadsToOneState, ContainersBalance, EndedOnce, LiveIsWhatWasNotEnded, IsIn, in_left, count_append, count_cons, rising_ends, rising_from_low, filter_none, filter_same, filter_twice, filter_whole, twice_not}
use Rattle.cap_model.specs.declared.reply.ReplyWith.TheVariants as Reply
use Rattle.cap_laws.proofs.lists.Tables.{count_numbered}
use Rattle.cap_laws.proofs.calls.Steps.{by_step}
use Rattle.cap_laws.proofs.numbers.ContainerNumbers.{IsThinned, call_thins, numbers_stay_distinct, granted_once}

-- the cluster after a step is determined by the event

same_or : {A : Type 0} (b : Bool) (x : A) → x ≡ cond b x x
same_or true x = refl
same_or false x = refl

not_lacking : {K : ℕ} (old : Flat K) (request : Request K) → is_no_memory (granted_reply old request) ≡ false
not_lacking old Request.ClusterInfo = refl
not_lacking old _ = refl

module _ {K : ℕ} (old : Flat K) where
  answered : (request : Request K) (o : Option Refusal) →
      refused_or o (λ refusal. old) (granted_cluster old request)
      ≡ cond (is_no_memory (refused_or o (λ refusal. Reply.Refused refusal) (granted_reply old request))) old (refused_or o (λ refusal. old) (granted_cluster old request))
  answered request None = sym (ap (λ b. cond b old (granted_cluster old request)) (not_lacking old request))
  answered request (Some refusal) = same_or (is_no_memory {K = K} (Reply.Refused refusal)) old

pub step_is_determined : StepIsDetermined
step_is_determined K old new (Event.Call by request reply) (inl r) =
    r.1 ∙ answered old request (refusal_of old request) ∙ sym (ap (λ x. cond (is_no_memory x) old (after_request old request)) (r.0))
step_is_determined K old new (Event.Call by request reply) (inr r) = r.1 ∙ sym (ap (λ x. cond (is_no_memory x) old (after_request old request)) (r.0.reply_is))
step_is_determined K old new (Event.Grant c) (admissible, number, after) = after
step_is_determined K old new (Event.Reserve r) (admissible, after) = after

-- members of lists in order

-- a container whose number is below all is not among some of them
among_later : (t : Container → Bool) (low : ℕ) (cs : List Container) (high : ℕ) (c : Container) → IsRising low (container_numbers cs) high → c.number < low → is_among (filter t cs) c ≡ false
among_later t low [] high c r h = refl
among_later t low (d ∷ cs) high c r h = by (t d) (among_later t (d.number + 1) cs high c r.1 (omega (arith, h, r.0)))
  where
    by : (b : Bool) → is_among (filter t cs) c ≡ false → is_among (cond b (d ∷ filter t cs) (filter t cs)) c ≡ false
    by true e = let other : d.number == c.number ≡ false = grind (arith, nat_tests, h, r.0) in ap (λ x. x || is_among (filter t cs) c) other ∙ e
    by false e = e

-- of a list in order, a container is among those that pass a test exactly where it passes
pub among_some : (t : Container → Bool) (low : ℕ) (cs : List Container) (high : ℕ) (c : Container) → IsRising low (container_numbers cs) high → IsIn c cs → is_among (filter t cs) c ≡ t c
among_some t low [] high c r m = absurd m
among_some t low (d ∷ cs) high c r (inl e) = subst (λ x. is_among (filter t (d ∷ cs)) x ≡ t x) e (by (t d) refl)
  where
    by : (b : Bool) → t d ≡ b → is_among (cond b (d ∷ filter t cs) (filter t cs)) d ≡ t d
    by true h = let same : d.number == d.number ≡ true = grind (arith, nat_tests) in ap (λ x. x || is_among (filter t cs) d) same ∙ sym h
    by false h = among_later t (d.number + 1) cs high d r.1 (omega arith) ∙ sym h
among_some t low (d ∷ cs) high c r (inr m) = by (t d) (among_some t (d.number + 1) cs high c r.1 m)
  where
    above : d.number + 1 ≤ c.number
    above = rising_from_low (λ (z : Container). z.number) (d.number + 1) cs high c r.1 m

    by : (b : Bool) → is_among (filter t cs) c ≡ t c → is_among (cond b (d ∷ filter t cs) (filter t cs)) c ≡ t c
    by true e = let other : d.number == c.number ≡ false = grind (arith, nat_tests, above) in ap (λ x. x || is_among (filter t cs) c) other ∙ e
    by false e = e

pub among_itself : (cs : List Container) (c : Container) → IsIn c cs → is_among cs c ≡ true
among_itself [] c m = absurd m
among_itself (d ∷ cs) c (inl e) = let same : d.number == c.number ≡ true = grind (arith, nat_tests, ap (λ (x : Container). x.number) e) in ap (λ x. x || is_among cs c) same
among_itself (d ∷ cs) c (inr m) = by (d.number == c.number) (among_itself cs c m)
  where
    by : (b : Bool) → is_among cs c ≡ true → b || is_among cs c ≡ true
    by true e = refl
    by false e = e

-- counting

-- those that pass and those that don't are all
count_parts : {A : Type 0} (f t : A → Bool) (xs : List A) → count_by f (filter t xs) + count_by f (filter (λ x. not (t x)) xs) ≡ count_by f xs
count_parts f t [] = refl
count_parts f t (x ∷ xs) = by (t x) (count_parts f t xs)
  where
    by : (b : Bool) → count_by f (filter t xs) + count_by f (filter (λ y. not (t y)) xs) ≡ count_by f xs →
        count_by f (cond b (x ∷ filter t xs) (filter t xs)) + count_by f (cond (not b) (x ∷ filter (λ y. not (t y)) xs) (filter (λ y. not (t y)) xs)) ≡ count_by f (x ∷ xs)
    by true e = omega (arith, e, count_cons f x (filter t xs), count_cons f x xs)
    by false e = omega (arith, e, count_cons f x (filter (λ y. not (t y)) xs), count_cons f x xs)

abbrev is_numbered : ℕ → Container → Bool
is_numbered n c = c.number == n

-- two lists of numbers in order, the second from where the first ends
rising_append : (low mid : ℕ) (cs ds : List Container) (high : ℕ) → IsRising low (container_numbers cs) mid → IsRising mid (container_numbers ds) high → IsRising low (container_numbers (cs ++ ds)) high
rising_append low mid [] [] high r s = omega (arith, r, s)
rising_append low mid [] (d ∷ ds) high r s = (omega (arith, r, s.0), s.1)
rising_append low mid (c ∷ cs) ds high r s = (r.0, rising_append (c.number + 1) mid cs ds high r.1 s)

-- one step

module _ {K : ℕ} where
  pub ended_by_thinning : (old new : Flat K) → HasDistinctNumbers old → (t : IsThinned old new) → ended_between old new ≡ filter (λ c. not (t.test c)) old.nodes.live
  ended_by_thinning old new r t =
      ap (λ cs. filter (λ c. not (is_among cs c)) old.nodes.live) t.live
      ∙ filter_same (λ c. not (is_among (filter t.test old.nodes.live) c)) (λ c. not (t.test c)) old.nodes.live
      (λ c m. ap not (among_some t.test 1 old.nodes.live old.nodes.next_container c r m))

  -- where no live container goes, none ends
  pub none_ended : (old new : Flat K) (more : List Container) → new.nodes.live ≡ old.nodes.live ++ more → ended_between old new ≡ []
  none_ended old new more e =
      ap (λ cs. filter (λ c. not (is_among cs c)) old.nodes.live) e
      ∙ filter_none (λ c. not (is_among (old.nodes.live ++ more) c)) old.nodes.live
      (λ c m. ap not (among_itself (old.nodes.live ++ more) c (in_left c old.nodes.live more m)))

  -- a call ends what it takes away, and a grant and a reservation end nothing
  step_balance : (old new : Flat K) (event : Event K) → HasDistinctNumbers old → Step old event new → (test : Container → Bool) →
      count_by test new.nodes.live + count_by test (ended_between old new) ≡ count_by test old.nodes.live + count_by test (granted_by event)
  step_balance old new event r s test =
      by_step old (λ e x. count_by test x.nodes.live + count_by test (ended_between old x) ≡ count_by test old.nodes.live + count_by test (granted_by e))
      (λ by request reply x call.
      let t = call_thins old x call in
      let live : count_by test x.nodes.live ≡ count_by test (filter t.test old.nodes.live) = ap (count_by test) t.live in
      let ended : count_by test (ended_between old x) ≡ count_by test (filter (λ c. not (t.test c)) old.nodes.live) = ap (count_by test) (ended_by_thinning old x r t) in
      omega (arith, live, ended, count_parts test t.test old.nodes.live))
      (λ c admissible number. grown (after_grant old c) (c ∷ []) refl) (λ reservation admissible. grown (after_reserve old reservation) [] (sym (append-nil old.nodes.live))) event new s
    where
      grown : (x : Flat K) (more : List Container) → x.nodes.live ≡ old.nodes.live ++ more → count_by test x.nodes.live + count_by test (ended_between old x) ≡ count_by test old.nodes.live + count_by test more
      grown x more e =
          let live : count_by test x.nodes.live ≡ count_by test (old.nodes.live ++ more) = ap (count_by test) e in
          let ended : count_by test (ended_between old x) ≡ 0 = ap (count_by test) (none_ended old x more e) in
          omega (arith, live, ended, count_append test old.nodes.live more)

pub run_leads_to_one_state : RunLeadsToOneState
run_leads_to_one_state K [] old a b p q = sym p ∙ q
run_leads_to_one_state K (event ∷ events) old a b (m, s, r) (n, t, u) =
    let same : m ≡ n = step_is_determined K old m event s ∙ sym (step_is_determined K old n event t) in
    run_leads_to_one_state K events n a b (subst (λ (x : Flat K). Run x events a) same r) u

pub containers_balance : ContainersBalance
containers_balance K [] old new r e test = let same : count_by test new.nodes.live ≡ count_by test old.nodes.live = ap (λ (x : Flat K). count_by test x.nodes.live) (sym e) in omega (arith, same)
containers_balance K (event ∷ events) old new r (mid, step, run) test =
    let at : mid ≡ after_event old event = step_is_determined K old mid event step in
    let first = step_balance old mid event r step test in
    let rest = containers_balance K events mid new (numbers_stay_distinct K old mid event r step) run test in
    let ended : count_by test (ever_ended old (event ∷ events)) ≡ count_by test (ended_between old mid) + count_by test (ever_ended mid events) =
    count_append test (ended_between old (after_event old event)) (ever_ended (after_event old event) events)
    ∙ (λ i. count_by test (ended_between old (sym at i)) + count_by test (ever_ended (sym at i) events)) in
    omega (arith, first, rest, ended, count_append test (granted_by event) (ever_granted events))

pub ended_once : EndedOnce
ended_once K events old new r run n =
    let balance = containers_balance K events old new r run (is_numbered n) in
    let all : IsRising 1 (container_numbers (old.nodes.live ++ ever_granted events)) new.nodes.next_container =
    rising_append 1 old.nodes.next_container old.nodes.live (ever_granted events) new.nodes.next_container r (granted_once K events old new run) in
    let few = (count_numbered (λ (c : Container). c.number) n 1 (old.nodes.live ++ ever_granted events) new.nodes.next_container all).0 in
    omega (arith, balance, few, count_append (is_numbered n) old.nodes.live (ever_granted events))

-- the closing live containers themselves

neither : (a b c : Bool) → c ≡ a || b → not c ≡ cond (not a) (not b) false
neither true b c e = ap not e
neither false b c e = ap not e

-- a container whose number is above all is not among some of them
among_earlier : (t : Container → Bool) (low : ℕ) (cs : List Container) (high : ℕ) (c : Container) → IsRising low (container_numbers cs) high → high ≤ c.number → is_among (filter t cs) c ≡ false
among_earlier t low [] high c r h = refl
among_earlier t low (d ∷ cs) high c r h = by (t d) (among_earlier t (d.number + 1) cs high c r.1 h)
  where
    below : d.number < high
    below = omega (arith, rising_ends (λ (z : Container). z.number) (d.number + 1) cs high r.1)

    by : (b : Bool) → is_among (filter t cs) c ≡ false → is_among (cond b (d ∷ filter t cs) (filter t cs)) c ≡ false
    by true e = let other : d.number == c.number ≡ false = grind (arith, nat_tests, h, below) in ap (λ x. x || is_among (filter t cs) c) other ∙ e
    by false e = e

module _ {K : ℕ} where
  -- after a step what lives is what lived and was granted, without what ended
  step_live : (old new : Flat K) (event : Event K) → HasDistinctNumbers old → Step old event new →
      new.nodes.live ≡ filter (λ c. not (is_among (ended_between old new) c)) (old.nodes.live ++ granted_by event)
  step_live old new event r s =
      by_step old (λ e x. x.nodes.live ≡ filter (λ c. not (is_among (ended_between old x) c)) (old.nodes.live ++ granted_by e))
      (λ by request reply x call.
      let t = call_thins old x call in
      let ended = ended_by_thinning old x r t in
      t.live
      ∙ sym (filter_same (λ c. not (is_among (filter (λ d. not (t.test d)) old.nodes.live) c)) t.test old.nodes.live
      (λ c m. ap not (among_some (λ d. not (t.test d)) 1 old.nodes.live old.nodes.next_container c r m) ∙ twice_not (t.test c)))
      ∙ (λ i. filter (λ c. not (is_among (sym ended i) c)) (sym (append-nil old.nodes.live) i)))
      (λ c admissible number. grown (after_grant old c) (c ∷ []) refl) (λ reservation admissible. grown (after_reserve old reservation) [] (sym (append-nil old.nodes.live))) event new s
    where
      grown : (x : Flat K) (more : List Container) → x.nodes.live ≡ old.nodes.live ++ more → x.nodes.live ≡ filter (λ c. not (is_among (ended_between old x) c)) (old.nodes.live ++ more)
      grown x more e =
          e ∙ sym (filter_whole (λ d. not (is_among [] d)) (old.nodes.live ++ more) (λ d m. refl))
          ∙ ap (λ es. filter (λ d. not (is_among es d)) (old.nodes.live ++ more)) (sym (none_ended old x more e))

pub live_is_what_was_not_ended : LiveIsWhatWasNotEnded
live_is_what_was_not_ended K [] old new r e =
    ap (λ (x : Flat K). x.nodes.live) (sym e) ∙ sym (append-nil old.nodes.live) ∙ sym (filter_whole (λ c. not (is_among [] c)) (old.nodes.live ++ []) (λ c m. refl))
live_is_what_was_not_ended K (event ∷ events) old new r (mid, step, run) =
    let at : mid ≡ after_event old event = step_is_determined K old mid event step in
    let distinct = numbers_stay_distinct K old mid event r step in
    let granted = ever_granted events in
    let first_ended : Container → Bool = λ c. not (is_among (ended_between old mid) c) in
    let then_ended : Container → Bool = λ c. not (is_among (ever_ended mid events) c) in
    let ever : Container → Bool = λ c. not (is_among (ended_between old mid ++ ever_ended mid events) c) in
    let forward : old.nodes.next_container ≤ mid.nodes.next_container =
    rising_ends (λ (z : Container). z.number) old.nodes.next_container (ever_granted (event ∷ [])) mid.nodes.next_container (granted_once K (event ∷ []) old mid (mid, step, refl)) in
    let later : filter first_ended granted ≡ granted =
    filter_whole first_ended granted
    (λ c m. ap not (among_earlier (λ d. not (is_among mid.nodes.live d)) 1 old.nodes.live old.nodes.next_container c r
    (omega (arith, forward, rising_from_low (λ (z : Container). z.number) mid.nodes.next_container granted new.nodes.next_container c (granted_once K events mid new run) m)))) in
    live_is_what_was_not_ended K events mid new distinct run
    ∙ ap (λ cs. filter then_ended (cs ++ granted)) (step_live old mid event r step)
    ∙ ap (λ cs. filter then_ended (filter first_ended (old.nodes.live ++ granted_by event) ++ cs)) (sym later)
    ∙ ap (λ cs. filter then_ended cs) (sym (filter-append first_ended (old.nodes.live ++ granted_by event) granted))
    ∙ filter_twice then_ended first_ended ever ((old.nodes.live ++ granted_by event) ++ granted)
    (λ c. neither (is_among (ended_between old mid) c) (is_among (ever_ended mid events) c) (is_among (ended_between old mid ++ ever_ended mid events) c)
    (list_any-append (λ d. d.number == c.number) (ended_between old mid) (ever_ended mid events)))
    ∙ (λ i. filter (λ c. not (is_among (ended_between old (at i) ++ ever_ended (at i) events) c)) (append_assoc old.nodes.live (granted_by event) granted i))
