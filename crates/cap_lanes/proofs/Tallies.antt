-- With all eight lanes in one pass, what was put is what was taken and then what is held.
use Rattle.cap_lanes.proofs.Prelude.{◌≡◌, ℕ, zero, suc, ◌+◌, ◌<◌, ◌≤◌, ◌==◌, nat_lt, Bool, true, false, List, [], ◌∷◌, ◌++◌, length, refl, ap, sym, ◌∙◌, arith, length-append, if◌then◌else◌, nat_tests, append-nil, NodeProposal, Item, Lane, messages_of, proposals, is_over, puts_in, tagged, View, view_of, AllFit, times, WorkersBelow, Tally, puts_by, WorkerSide, Alike, put_by, ends_of, AllOver, Flags}
use Rattle.cap_lanes.proofs.Lists.{one, same_of, proposals-append, puts_in-append, tagged-append, tagged_puts}

-- a sum over the eight
abbrev pub sum8 : (ℕ → ℕ) → ℕ
sum8 f = f 0 + (f 1 + (f 2 + (f 3 + (f 4 + (f 5 + (f 6 + f 7))))))

eight_ones : (n : ℕ) → n < 8 → sum8 (one n) ≡ 1
eight_ones zero h = refl
eight_ones (suc zero) h = refl
eight_ones (suc (suc zero)) h = refl
eight_ones (suc (suc (suc zero))) h = refl
eight_ones (suc (suc (suc (suc zero)))) h = refl
eight_ones (suc (suc (suc (suc (suc zero))))) h = refl
eight_ones (suc (suc (suc (suc (suc (suc zero)))))) h = refl
eight_ones (suc (suc (suc (suc (suc (suc (suc zero))))))) h = refl
eight_ones (suc (suc (suc (suc (suc (suc (suc (suc n)))))))) h = absurd (omega arith)

add8 : (f g h : ℕ → ℕ) → ((k : ℕ) → f k ≡ g k + h k) → sum8 f ≡ sum8 g + sum8 h
add8 f g h e = let a = e 0 in let b = e 1 in let c = e 2 in let d = e 3 in let i = e 4 in let j = e 5 in let k = e 6 in let l = e 7 in omega arith

sum_times : (got items : List Item) (ls : List Lane) → AllFit got items ls → sum8 (λ n. times n ls) ≡ length ls
sum_times got items [] h = refl
sum_times got items (l ∷ ls) h =
    let a = add8 (λ n. times n (l ∷ ls)) (one l.worker) (λ n. times n ls) (λ k. refl) in
    let o = eight_ones l.worker h.0.below in
    let i = sum_times got items ls h.1 in
    omega arith

-- eight numbers of at most 1 which make 8 are 1
all_one : (f : ℕ → ℕ) → ((n : ℕ) → f n ≤ 1) → sum8 f ≡ 8 → (w : ℕ) → w < 8 → f w ≡ 1
all_one f o s zero h = let a = o 0 in let b = o 1 in let c = o 2 in let d = o 3 in let i = o 4 in let j = o 5 in let k = o 6 in let l = o 7 in omega arith
all_one f o s (suc zero) h = let a = o 0 in let b = o 1 in let c = o 2 in let d = o 3 in let i = o 4 in let j = o 5 in let k = o 6 in let l = o 7 in omega arith
all_one f o s (suc (suc zero)) h = let a = o 0 in let b = o 1 in let c = o 2 in let d = o 3 in let i = o 4 in let j = o 5 in let k = o 6 in let l = o 7 in omega arith
all_one f o s (suc (suc (suc zero))) h = let a = o 0 in let b = o 1 in let c = o 2 in let d = o 3 in let i = o 4 in let j = o 5 in let k = o 6 in let l = o 7 in omega arith
all_one f o s (suc (suc (suc (suc zero)))) h = let a = o 0 in let b = o 1 in let c = o 2 in let d = o 3 in let i = o 4 in let j = o 5 in let k = o 6 in let l = o 7 in omega arith
all_one f o s (suc (suc (suc (suc (suc zero))))) h = let a = o 0 in let b = o 1 in let c = o 2 in let d = o 3 in let i = o 4 in let j = o 5 in let k = o 6 in let l = o 7 in omega arith
all_one f o s (suc (suc (suc (suc (suc (suc zero)))))) h = let a = o 0 in let b = o 1 in let c = o 2 in let d = o 3 in let i = o 4 in let j = o 5 in let k = o 6 in let l = o 7 in omega arith
all_one f o s (suc (suc (suc (suc (suc (suc (suc zero))))))) h = let a = o 0 in let b = o 1 in let c = o 2 in let d = o 3 in let i = o 4 in let j = o 5 in let k = o 6 in let l = o 7 in omega arith
all_one f o s (suc (suc (suc (suc (suc (suc (suc (suc n)))))))) h = absurd (omega arith)

-- what a worker put, where its lane is there once, or not
times_cons : (w : ℕ) (l : Lane) (ls : List Lane) (b : Bool) → (l.worker == w) ≡ b → times w (l ∷ ls) ≡ (if b then 1 else 0) + times w ls
times_cons w l ls b e = rw e refl

puts_none : (w : ℕ) (ls : List Lane) → times w ls ≡ 0 → puts_by w ls ≡ []
puts_none w [] h = refl
puts_none w (l ∷ ls) h = step (puts_none w ls) (l.worker == w) refl
  where
    step : (times w ls ≡ 0 → puts_by w ls ≡ []) → (b : Bool) → (l.worker == w) ≡ b → (if b then l.put else []) ++ puts_by w ls ≡ []
    step i true e = let t = times_cons w l ls true e in absurd (omega arith)
    step i false e = let t = times_cons w l ls false e in i (omega arith)

puts_here : (got items : List Item) (w : ℕ) (ls : List Lane) → AllFit got items ls → times w ls ≡ 1 → puts_by w ls ≡ messages_of w got ++ messages_of w items
puts_here got items w [] h t = absurd (omega arith)
puts_here got items w (l ∷ ls) h t = step (puts_here got items w ls h.1) (l.worker == w) refl
  where
    step : (times w ls ≡ 1 → puts_by w ls ≡ messages_of w got ++ messages_of w items) → (b : Bool) → (l.worker == w) ≡ b → (if b then l.put else []) ++ puts_by w ls ≡ messages_of w got ++ messages_of w items
    step i true e =
        let c = times_cons w l ls true e in
        ap (λ zs. l.put ++ zs) (puts_none w ls (omega arith)) ∙ append-nil l.put ∙ h.0.put ∙ ap (λ (k : ℕ). messages_of k got ++ messages_of k items) (same_of l.worker w e)
    step i false e = let c = times_cons w l ls false e in i (omega arith)

-- nobody else put anything
times_above : (got items : List Item) (w : ℕ) (ls : List Lane) → 8 ≤ w → AllFit got items ls → times w ls ≡ 0
times_above got items w [] u h = refl
times_above got items w (l ∷ ls) u h = let b = h.0.below in let i = times_above got items w ls u h.1 in let o : one l.worker w ≡ 0 = grind (arith, nat_tests) in omega arith

of_above : (w : ℕ) (xs : List Item) → 8 ≤ w → WorkersBelow xs → messages_of w xs ≡ []
of_above w [] u h = refl
of_above w (x ∷ xs) u h = let t : (x.worker == w) ≡ false = (let b = h.0 in grind (arith, nat_tests)) in rw t (of_above w xs u h.1)

module _ (got items : List Item) (ls : List Lane) (t : Tally got items ls) (all : length ls ≡ 8) where
  pub each_once : (w : ℕ) → w < 8 → times w ls ≡ 1
  each_once w h = all_one (λ n. times n ls) t.once (sum_times got items ls t.fits ∙ all) w h

  here : (w : ℕ) → w < 8 → puts_by w ls ≡ messages_of w got ++ messages_of w items
  here w h = puts_here got items w ls t.fits (each_once w h)

  above : (w : ℕ) → 8 ≤ w → puts_by w ls ≡ messages_of w got ++ messages_of w items
  above w h = puts_none w ls (times_above got items w ls h t.fits) ∙ sym (ap (λ zs. zs ++ messages_of w items) (of_above w got h t.sound.taken) ∙ of_above w items h t.sound.held)

  either : (w : ℕ) (b : Bool) → nat_lt w 8 ≡ b → puts_by w ls ≡ messages_of w got ++ messages_of w items
  either w true e = here w (grind (arith, nat_tests))
  either w false e = above w (grind (arith, nat_tests))

  pub whole : (w : ℕ) → puts_by w ls ≡ messages_of w got ++ messages_of w items
  whole w = either w (nat_lt w 8) refl

-- how many items were put
abbrev pub weight : List Lane → ℕ
weight ls = sum8 (λ w. length (puts_by w ls))

length_of_cons : (w : ℕ) (x : Item) (xs : List Item) → length (messages_of w (x ∷ xs)) ≡ one x.worker w + length (messages_of w xs)
length_of_cons w x xs = step (x.worker == w)
  where
    step : (b : Bool) → length (if b then (x.message ∷ messages_of w xs) else (messages_of w xs)) ≡ (if b then 1 else 0) + length (messages_of w xs)
    step true = omega arith
    step false = omega arith

length_by_worker : (xs : List Item) → WorkersBelow xs → sum8 (λ w. length (messages_of w xs)) ≡ length xs
length_by_worker [] h = refl
length_by_worker (x ∷ xs) h =
    let a = add8 (λ w. length (messages_of w (x ∷ xs))) (one x.worker) (λ w. length (messages_of w xs)) (λ w. length_of_cons w x xs) in
    let o = eight_ones x.worker h.0 in
    let i = length_by_worker xs h.1 in
    omega arith

pub weight_is : (got items : List Item) (ls : List Lane) → Tally got items ls → length ls ≡ 8 → weight ls ≡ length got + length items
weight_is got items ls t all =
    let a = add8 (λ w. length (puts_by w ls)) (λ w. length (messages_of w got)) (λ w. length (messages_of w items)) (λ w. ap length (whole got items ls t all w) ∙ length-append (messages_of w got) (messages_of w items)) in
    let b = length_by_worker got t.sound.taken in
    let c = length_by_worker items t.sound.held in
    omega arith

-- once the channel is empty, each worker's proposals are those of what was taken before and since
pub settled : (took more items : List Item) (ls : List Lane) (left : List (ℕ × NodeProposal)) → Tally (took ++ more) items ls → length ls ≡ 8 → length items ≡ 0 → left ≡ puts_in more
    → (w : ℕ) → tagged w (puts_in took) ++ tagged w left ≡ proposals (puts_by w ls)
settled took more [] ls left t all none is w =
    ap (λ zs. tagged w (puts_in took) ++ tagged w zs) is
    ∙ sym (tagged-append w (puts_in took) (puts_in more))
    ∙ ap (tagged w) (sym (puts_in-append took more))
    ∙ tagged_puts w (took ++ more)
    ∙ ap proposals (sym (append-nil (messages_of w (took ++ more))) ∙ sym (whole (took ++ more) [] ls t all w))
settled took more (x ∷ items) ls left t all none is w = absurd (omega arith)

-- what lanes hold is what their workers put
pub alike_by : (w : ℕ) (ls : List Lane) (es : List WorkerSide) → Alike ls es → proposals (puts_by w ls) ≡ put_by w es
alike_by w [] [] h = refl
alike_by w [] (e ∷ es) h = absurd h
alike_by w (l ∷ ls) [] h = absurd h
alike_by w (l ∷ ls) (e ∷ es) h =
    proposals-append (if l.worker == w then l.put else []) (puts_by w ls)
    ∙ ap (λ zs. proposals (if l.worker == w then l.put else []) ++ zs) (alike_by w ls es h.2)
    ∙ ap (λ (k : ℕ). proposals (if k == w then l.put else []) ++ put_by w es) h.0
    ∙ step (e.worker == w)
  where
    step : (b : Bool) → proposals (if b then l.put else []) ++ put_by w es ≡ (if b then e.put else []) ++ put_by w es
    step true = ap (λ zs. zs ++ put_by w es) h.1
    step false = refl

pub alike_times : (w : ℕ) (ls : List Lane) (es : List WorkerSide) → Alike ls es → times w ls ≡ ends_of w es
alike_times w [] [] h = refl
alike_times w [] (e ∷ es) h = absurd h
alike_times w (l ∷ ls) [] h = absurd h
alike_times w (l ∷ ls) (e ∷ es) h = ap (λ (k : ℕ). one k w + times w ls) h.0 ∙ ap (λ (k : ℕ). one e.worker w + k) (alike_times w ls es h.2)

pub length_alike : (ls : List Lane) (es : List WorkerSide) → Alike ls es → length ls ≡ length es
length_alike [] [] h = refl
length_alike [] (e ∷ es) h = absurd h
length_alike (l ∷ ls) [] h = absurd h
length_alike (l ∷ ls) (e ∷ es) h = ap suc (length_alike ls es h.2)

pub Alike-push : (ls : List Lane) (es : List WorkerSide) (l : Lane) (e : WorkerSide) → Alike ls es → l.worker ≡ e.worker → proposals l.put ≡ e.put → Alike (ls ++ l ∷ []) (es ++ e ∷ [])
Alike-push [] [] l e h n p = (n, p, tt)
Alike-push [] (f ∷ es) l e h n p = absurd h
Alike-push (k ∷ ls) [] l e h n p = absurd h
Alike-push (k ∷ ls) (f ∷ es) l e h n p = (h.0, h.1, Alike-push ls es l e h.2 n p)

-- the flags say that each end was taken
pub over_by_flags : (over : List Bool) (took : List Item) → Flags over took → AllOver over → (w : ℕ) → w < 8 → is_over (messages_of w took) ≡ true
over_by_flags over took f a w h = let p = f w h in let q = a w h in cc

-- whether each end was taken
abbrev pub AllEnded : List Item → Type 0
AllEnded took = (w : ℕ) → w < 8 → is_over (messages_of w took) ≡ true

-- what the committer's pass took since it knew v, and what is left of it
pub record IsSoFar (v w : View) (rest : List (ℕ × NodeProposal)) : Type 0 where
  pub more : List Item
  pub now : w ≡ view_of true (v.took ++ more) v.lanes
  pub left : rest ≡ puts_in more
  pub none : AllEnded v.took → more ≡ []
