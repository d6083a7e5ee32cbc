-- What is spelled of numbers, texts, flags and amounts is bytes.
use Rattle.cap_grammar.proofs.Prelude.{Bool, List, [], arith, false, length, take, true, ℕ, ◌%◌, ◌++◌, ◌<◌, ◌∷◌, ◌≡◌, and_parts, nat_tests, All-append, All-cons, All-from_recursion, All-nil, to_be_bytes, w16, w32, w64, flat_map, list_all, nat_le, nat_lt, ◌&&◌, is_graphic, is_text, IsBytes, flag, text, resource, is_host, is_path, is_rack}

abbrev pub Small : ℕ → Type 0
Small b = b < 256

small : (n : ℕ) → n % 256 < 256
small n = omega arith

pub one : (b : ℕ) (bytes : List ℕ) → b < 256 → IsBytes bytes → IsBytes (b ∷ bytes)
one b bytes lt is = All-cons Small b bytes lt is

pub both : (a b : List ℕ) → IsBytes a → IsBytes b → IsBytes (a ++ b)
both a b is is' = All-append Small a b is is'

pub two : (n : ℕ) → IsBytes (to_be_bytes w16 n)
two n = All-from_recursion Small (to_be_bytes w16 n) (small _, (small _, tt))

pub word : (n : ℕ) → IsBytes (to_be_bytes w32 n)
word n = All-from_recursion Small (to_be_bytes w32 n) (small _, (small _, (small _, (small _, tt))))

pub long : (n : ℕ) → IsBytes (to_be_bytes w64 n)
long n = All-from_recursion Small (to_be_bytes w64 n) (small _, (small _, (small _, (small _, (small _, (small _, (small _, (small _, tt))))))))

each_graphic : (t : List ℕ) → list_all is_graphic t ≡ true → IsBytes t
each_graphic [] h = All-nil Small
each_graphic (b ∷ t) h =
    let p = and_parts (is_graphic b) (list_all is_graphic t) h in
    let q = and_parts (nat_le 33 b) (nat_le b 126) p.0 in
    one b t (grind (arith, nat_tests)) (each_graphic t p.1)

a_text : (most : ℕ) (t : List ℕ) → most < 256 → is_text most t ≡ true → IsBytes (text t)
a_text most t small h =
    let p = and_parts (nat_lt 0 (length t) && nat_le (length t) most) (list_all is_graphic t) h in
    let q = and_parts (nat_lt 0 (length t)) (nat_le (length t) most) p.0 in
    one (length t) t (grind (arith, nat_tests)) (each_graphic t p.1)

pub a_host : (t : List ℕ) → is_host t ≡ true → IsBytes (text t)
a_host t h = a_text 64 t (omega arith) (and_parts (is_text 64 t) _ (and_parts _ _ h).0).0

pub a_rack : (t : List ℕ) → is_rack t ≡ true → IsBytes (text t)
a_rack t h = a_text 64 t (omega arith) (and_parts (is_text 64 t) _ h).0

-- a user, or a place
pub a_name : (t : List ℕ) → is_text 64 t ≡ true → IsBytes (text t)
a_name t h = a_text 64 t (omega arith) h

pub a_path : (t : List ℕ) → is_path t ≡ true → IsBytes (text t)
a_path t h = a_text 255 t (omega arith) h

each_amount : (v : List ℕ) → IsBytes (flat_map (to_be_bytes w64) v)
each_amount [] = All-nil Small
each_amount (n ∷ v) = both (to_be_bytes w64 n) (flat_map (to_be_bytes w64) v) (long n) (each_amount v)

pub amounts : (n : ℕ) (v : List ℕ) → IsBytes (resource n v)
unfolding resource
amounts n v = each_amount (take n v)

pub a_flag : (holds : Bool) → IsBytes (flag holds)
a_flag false = one 0 [] (omega arith) (All-nil Small)
a_flag true = one 1 [] (omega arith) (All-nil Small)
