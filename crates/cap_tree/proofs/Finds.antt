-- What a search for a path finds, as the code tells it.
use Rattle.cap_tree.proofs.Prelude.{◌≡◌, ℕ, ◌+◌, ◌-◌, ◌≤◌, ◌<◌, Bool, true, false, List, [], ◌∷◌, ◌++◌, zero, suc, map, length, get_or, Option, Some, None, sym, ◌∙◌, ap, arith, ◌≢◌, subst, take, drop, inl, inr, nat_eq, bytes_eq, cond, pointwise, SmallVec, HasRoomFor, Spot, position_of_path, has_below, spots, under, below, IsStart, IsFoundAt, IsMissing, is_parent, Kind, ◌⊎◌, All, AllByRecursion, recursion_from_All, IsIn, bytes_eq-Decides, HasPathsOnce, dot, if◌then◌else◌, nat_tests, ◌==◌, refl, in_left, in_right, each_of, of_each, in_map, get_or_default, length-append, length-map}
use Rattle.cap_tree.proofs.Looking.{NoneBefore, IsInside, missing_by_name, found_here, missing_by_dot, inside, missing_inside, found_inside, below_inside}

-- the path begins with the name, and this is the rest
pub record IsSplit (name path rest : List ℕ) : Type 0 where
  pub begins : pointwise nat_eq (take (length name) path) name ≡ true
  pub rest_is : rest ≡ drop (length name) path

pub split : (name word path rest : List ℕ) → word ≡ name → pointwise nat_eq (take (length word) path) word ≡ true → rest ≡ drop (length word) path → IsSplit name path rest
split name word path rest e b r = subst (λ n. IsSplit n path rest) e (record { begins = b; rest_is = r })

pub inside_of : (name path rest : List ℕ) → IsSplit name path rest → 1 ≤ length rest → get_or rest 0 0 ≡ 46 → IsInside name path (take (length rest - 1) (drop 1 rest))
inside_of name path rest s l d =
    subst (λ r. 1 ≤ length r → get_or r 0 0 ≡ 46 → IsInside name path (take (length r - 1) (drop 1 r))) (sym s.rest_is) (inside name path s.begins) l d

module _ {T : Type 0} (name : T → List ℕ) (item : T) (kids : List (List (Spot T))) (value : List (Spot T)) (e : spots name item kids ≡ value) (path : List ℕ) where
  pub other_name : (word : List ℕ) (position : SmallVec ℕ) → word ≡ name item → pointwise nat_eq (take (length word) path) word ≡ false → IsStart position → IsMissing path value position
  other_name word position w h s = record { is = missing_by_name name item kids value path e (subst (λ n. pointwise nat_eq (take (length n) path) n ≡ false) w h); start = s }

  pub at_name : (rest : List ℕ) (position : SmallVec ℕ) (kind : Kind) → IsSplit (name item) path rest → length rest < 1 → IsStart position → is_parent kind ≡ has_below [] value → IsFoundAt path value position kind
  at_name rest position kind p l s k = record {
    is = found_here name item kids value path e p.begins (subst (λ r. length r < 1) p.rest_is l) ∙ ap (λ x. Some x) (sym s.empty);
    room = s.room;
    below = k ∙ ap (λ x. has_below x value) (sym s.empty);
  }

  pub other_byte : (rest : List ℕ) (position : SmallVec ℕ) → IsSplit (name item) path rest → 1 ≤ length rest → get_or rest 0 0 ≢ 46 → IsStart position → IsMissing path value position
  other_byte rest position p l n s = record {
    is = subst (λ r. 1 ≤ length r → get_or r 0 0 ≢ 46 → position_of_path path value ≡ None) (sym p.rest_is) (missing_by_dot name item kids value path e p.begins) l n;
    start = s;
  }

  pub in_no_child : (q : List ℕ) (position : SmallVec ℕ) → IsInside (name item) path q → NoneBefore q kids (length kids) → IsStart position → IsMissing path value position
  in_no_child q position i n s = record { is = missing_inside name item kids value path q e i n; start = s }

  pub in_this_child : (q : List ℕ) (n : ℕ) (child : List (Spot T)) (found position : SmallVec ℕ) (kind : Kind) → IsInside (name item) path q → NoneBefore q kids n → n < length kids → child ≡ get_or kids n child →
      IsFoundAt q child found kind → position.items ≡ n ∷ found.items → position.capacity ≡ found.capacity → IsFoundAt path value position kind
  in_this_child q n child found position kind i none w c f items capacity = record {
    is = found_inside name item kids value path q n child found.items e i none w (ap (position_of_path q) (sym c) ∙ f.is) ∙ ap (λ x. Some x) (sym items);
    room = capacity ∙ f.room;
    below = f.below ∙ ap (has_below found.items) c ∙ below_inside name item kids value n child found.items e w ∙ ap (λ p. has_below p value) (sym items);
  }

none_more_cases : {T : Type 0} (q : List ℕ) (kids : List (List (Spot T))) (n : ℕ) (child : List (Spot T)) → NoneBefore q kids n → child ≡ get_or kids n child → position_of_path q child ≡ None →
    (m : ℕ) (d : List (Spot T)) → m < length kids → (m < n) ⊎ (m ≡ n) → position_of_path q (get_or kids m d) ≡ None
none_more_cases q kids n child none c e m d w (inl l) = none m d l w
none_more_cases q kids n child none c e m d w (inr l) = ap (position_of_path q) (get_or_default kids m d child w ∙ ap (λ k. get_or kids k child) l ∙ sym c) ∙ e

pub none_more : {T : Type 0} (q : List ℕ) (kids : List (List (Spot T))) (n k : ℕ) (child : List (Spot T)) → NoneBefore q kids n → child ≡ get_or kids n child → position_of_path q child ≡ None → k ≡ n + 1 → NoneBefore q kids k
none_more q kids n k child none c e s m d l w = none_more_cases q kids n child none c e m d w (grind arith)

in_below : {T : Type 0} (name : List ℕ) (i j n : ℕ) (kids : List (List (Spot T))) (d : List (Spot T)) (s : Spot T) → i ≡ j + n → n < length kids → IsIn s (get_or kids n d) → IsIn (under name i s) (below name j kids)
in_below name i j n [] d s h w m = absurd (omega arith)
in_below name i j zero (k ∷ ks) d s h w m =
    let e : j ≡ i = omega arith in
    subst (λ x. IsIn (under name i s) (map (under name x) k ++ below name (suc x) ks)) (sym e) (in_left (under name i s) (map (under name i) k) (below name (suc i) ks) (in_map (under name i) k s m))
in_below name i j (suc n) (k ∷ ks) d s h w m = in_right (under name i s) (map (under name j) k) (below name (suc j) ks) (in_below name i (suc j) n ks d s (omega arith) (omega arith) m)

-- the positions of a child are shorter
pub short_child : {T : Type 0} (name : T → List ℕ) (item : T) (kids : List (List (Spot T))) (value : List (Spot T)) (n bound : ℕ) (child : List (Spot T)) → spots name item kids ≡ value → n < length kids → child ≡ get_or kids n child →
    All (λ s. length s.position ≤ bound) value → All (λ s. length s.position + 1 ≤ bound) child
short_child name item kids value n bound child e w c a =
    of_each (λ s. length s.position + 1 ≤ bound) child (λ s m.
    let here = each_of (λ s. length s.position ≤ bound) value a (under (name item) n s) (subst (IsIn (under (name item) n s)) e (inr (in_below (name item) n 0 n kids child s (omega arith) w (subst (IsIn s) c m)))) in
    omega (arith, here))

pub shorter : {T : Type 0} (bound : ℕ) (ss : List (Spot T)) → All (λ s. length s.position + 1 ≤ bound) ss → All (λ s. length s.position ≤ bound) ss
shorter bound ss a = of_each (λ s. length s.position ≤ bound) ss (λ s m. let h = each_of (λ s. length s.position + 1 ≤ bound) ss a s m in omega (arith, h))

position_cases : {T : Type 0} (b : Bool) (s : Spot T) (o : Option (List ℕ)) (p : List ℕ) (bound : ℕ) → cond b (Some s.position) o ≡ Some p → length s.position + 1 ≤ bound → (o ≡ Some p → length p + 1 ≤ bound) → length p + 1 ≤ bound
position_cases true s o p bound e h f = let q : s.position ≡ p = cc in let l = ap length q in omega (arith, l)
position_cases false s o p bound e h f = f e

short_position : {T : Type 0} (q : List ℕ) (ss : List (Spot T)) (p : List ℕ) (bound : ℕ) → AllByRecursion (λ s. length s.position + 1 ≤ bound) ss → position_of_path q ss ≡ Some p → length p + 1 ≤ bound
short_position q [] p bound a e = absurd (cc)
short_position q (s ∷ ss) p bound a e = position_cases (bytes_eq s.path q) s (position_of_path q ss) p bound e a.0 (short_position q ss p bound a.1)

-- so a found position has room for one more step
pub room_for_step : {T : Type 0} (q : List ℕ) (child : List (Spot T)) (found : SmallVec ℕ) (kind : Kind) → All (λ s. length s.position + 1 ≤ 15) child → IsFoundAt q child found kind → HasRoomFor found 1
room_for_step q child found kind a f = let l = short_position q child found.items 15 (recursion_from_All (λ s. length s.position + 1 ≤ 15) child a) f.is in omega (arith, f.room)

length-in_below : {T : Type 0} (name : List ℕ) (j n : ℕ) (kids : List (List (Spot T))) (d : List (Spot T)) → n < length kids → length (get_or kids n d) ≤ length (below name j kids)
length-in_below name j n [] d w = absurd (omega arith)
length-in_below name j zero (k ∷ ks) d w = let l = length-append (map (under name j) k) (below name (suc j) ks) in let m = length-map k (under name j) in omega arith
length-in_below name j (suc n) (k ∷ ks) d w = let l = length-append (map (under name j) k) (below name (suc j) ks) in let r = length-in_below name (suc j) n ks d (omega arith) in omega arith

pub child-lt : {T : Type 0} (name : T → List ℕ) (item : T) (kids : List (List (Spot T))) (value : List (Spot T)) (n : ℕ) (child : List (Spot T)) → spots name item kids ≡ value → n < length kids → child ≡ get_or kids n child → length child < length value
child-lt name item kids value n child e w c =
    let v = ap length e in
    let k = ap length c in
    let b = length-in_below (name item) 0 n kids child w in
    omega (arith, v, k, b)

-- the spot of a path

pub record OfPath {T : Type 0} (path position : List ℕ) (ss : List (Spot T)) : Type 0 where
  pub spot : Spot T
  pub member : IsIn spot ss
  pub position_is : spot.position ≡ position
  pub path_is : spot.path ≡ path

of_cases : {T : Type 0} (c : Bool) (path position : List ℕ) (s : Spot T) (ss : List (Spot T)) → bytes_eq s.path path ≡ c → cond c (Some s.position) (position_of_path path ss) ≡ Some position →
    (position_of_path path ss ≡ Some position → OfPath path position ss) → OfPath path position (s ∷ ss)
of_cases true path position s ss e h r = record { spot = s; member = inl refl; position_is = cc; path_is = (bytes_eq-Decides s.path path).0 e }
of_cases false path position s ss e h r = let a = r h in record { spot = a.spot; member = inr a.member; position_is = a.position_is; path_is = a.path_is }

pub of_path : {T : Type 0} (path position : List ℕ) (ss : List (Spot T)) → position_of_path path ss ≡ Some position → OfPath path position ss
of_path path position [] h = absurd (cc)
of_path path position (s ∷ ss) h = of_cases (bytes_eq s.path path) path position s ss refl h (of_path path position ss)

-- where each path is there once, no child before the one in which a path is found has it
module _ {T : Type 0} (name : T → List ℕ) (item : T) (kids : List (List (Spot T))) (value : List (Spot T)) (e : spots name item kids ≡ value) (once : HasPathsOnce value) (q : List ℕ) where
  spot_in : (i : ℕ) (kid : List (Spot T)) (d : List (Spot T)) → i < length kids → kid ≡ get_or kids i d → (s : Spot T) → IsIn s kid → IsIn (under (name item) i s) value
  spot_in i kid d w at s m = subst (IsIn (under (name item) i s)) e (inr (in_below (name item) i 0 i kids d s (omega arith) w (subst (IsIn s) at m)))

  pub none_before : (n : ℕ) (child : List (Spot T)) (p : List ℕ) → n < length kids → child ≡ get_or kids n child → position_of_path q child ≡ Some p → NoneBefore q kids n
  none_before n child p w at found m d l v = by (position_of_path q (get_or kids m d)) refl
    where
      by : (o : Option (List ℕ)) → position_of_path q (get_or kids m d) ≡ o → o ≡ None
      by None h = refl
      by (Some r) h =
          let a = of_path q p child found in
          let b = of_path q r (get_or kids m d) h in
          let here = spot_in n child child w at a.spot a.member in
          let there = spot_in m (get_or kids m d) d v refl b.spot b.member in
          let same = once (under (name item) n a.spot) (under (name item) m b.spot) here there (ap (λ x. name item ++ dot ∷ x) (a.path_is ∙ sym b.path_is)) in
          let first : n ≡ m = ap (λ z. get_or z 0 0) same in
          absurd (omega (arith, first, l))

-- the turns of a search: a guess, and then each child
pub none_at_first : {T : Type 0} (q : List ℕ) (kids : List (List (Spot T))) → NoneBefore q kids (0 - 1)
none_at_first q kids m d l w = absurd (omega (arith, l))

pub none_after : {T : Type 0} (q : List ℕ) (kids : List (List (Spot T))) (turn guess i : ℕ) (child : List (Spot T)) → i ≡ (if turn == 0 then guess else turn - 1) → NoneBefore q kids (turn - 1) → child ≡ get_or kids i child →
    position_of_path q child ≡ None → NoneBefore q kids ((turn + 1) - 1)
none_after q kids zero guess i child is none c e = λ m d l w. absurd (omega (arith, l))
none_after q kids (suc turn) guess i child is none c e =
    let at : i ≡ suc turn - 1 = is ∙ (let some : (suc turn == 0) ≡ false = grind (arith, nat_tests) in ap (λ (b : Bool). if b then guess else suc turn - 1) some) in
    none_more q kids i ((suc turn + 1) - 1) child (subst (NoneBefore q kids) (sym at) none) c e (omega (arith, at))

pub child_within : (turn guess i count : ℕ) → i ≡ (if turn == 0 then guess else turn - 1) → guess < count → turn < count + 1 → i < count
child_within zero guess i count is some few = omega (arith, is, some)
child_within (suc turn) guess i count is some few = let later : (suc turn == 0) ≡ false = grind (arith, nat_tests) in let at = is ∙ ap (λ (b : Bool). if b then guess else suc turn - 1) later in omega (arith, at, few)
