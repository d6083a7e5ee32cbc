-- How long the spelling of news is.
use Rattle.cap_grammar.proofs.Prelude.{◌≡◌, ℕ, ◌*◌, ◌≤◌, true, List, [], ◌∷◌, ◌++◌, length, take, length-append, arith, nat_le, nat_lt, ◌&&◌, flat_map, list_all, AllByRecursion, w32, w64, to_be_bytes, and_parts, nat_tests, length-take, is_graphic, Grant, End, is_place, text, resource, grant, FitsGrant, end}

pub length_amounts : (v : List ℕ) → length (flat_map (to_be_bytes w64) v) ≡ 8 * length v
length_amounts [] = omega arith
length_amounts (n ∷ v) = omega (arith, length-append (to_be_bytes w64 n) (flat_map (to_be_bytes w64) v), length_amounts v)

pub length_resource : (n : ℕ) (v : List ℕ) → n ≤ length v → length (resource n v) ≡ 8 * n
unfolding resource
length_resource n v all = omega (arith, length_amounts (take n v), length-take n v, all)

short_place : (t : List ℕ) → is_place t ≡ true → length t ≤ 64
short_place t h =
    let p = and_parts (nat_lt 0 (length t) && nat_le (length t) 64) (list_all is_graphic t) h in
    let q = and_parts (nat_lt 0 (length t)) (nat_le (length t) 64) p.0 in
    let few = q.1 in grind (arith, nat_tests, few)

pub length_grant : (n : ℕ) (g : Grant) → n ≤ 3 → FitsGrant 3 g → length (grant n g) ≤ 117
unfolding grant
length_grant n g le fits =
    let e : List ℕ = text g.host ++ resource n g.resource in
    let d : List ℕ = to_be_bytes w64 g.node ++ e in
    let c : List ℕ = to_be_bytes w64 g.key.request ++ d in
    let b : List ℕ = to_be_bytes w32 g.key.priority ++ c in
    let count = fits.resource.count in
    let last = length-append (text g.host) (resource n g.resource) in
    let amounts = length_resource n g.resource (omega (arith, le, count)) in
    let host = short_place g.host fits.host in
    omega (arith, last, amounts, host, le)

pub length_end : (e : End) → length (end e) ≡ 9
unfolding end
length_end e = omega arith

pub length_grants : (n : ℕ) (gs : List Grant) → n ≤ 3 → AllByRecursion (FitsGrant 3) gs → length (flat_map (grant n) gs) ≤ 117 * length gs
length_grants n [] le fits = omega arith
length_grants n (g ∷ gs) le fits = omega (arith, length-append (grant n g) (flat_map (grant n) gs), length_grant n g le fits.0, length_grants n gs le fits.1)

pub length_ends : (es : List End) → length (flat_map end es) ≤ 9 * length es
length_ends [] = omega arith
length_ends (e ∷ es) = omega (arith, length-append (end e) (flat_map end es), length_end e, length_ends es)
