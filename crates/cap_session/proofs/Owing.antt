-- The room that the replies to some requests take.
use Rattle.std.proofs.lemmas.List.Sums.{sum_by-append, sum_by-cons, sum_by_more, sum_by_more_le}
use Rattle.std.specs.Bool.{◌==◌}
use Rattle.std.specs.Prelude.{◌<◌, get_or, if◌then◌else◌}
use Rattle.cap_session.proofs.Prelude.{◌≡◌, ℕ, ◌+◌, ◌*◌, ◌≤◌, Bool, true, false, List, [], ◌∷◌, ◌++◌, Ok, Err, ap, sym, ◌∙◌, arith, length, take, resources, Request, Head, ReadResult, OpenRequest, kind_of, kind_room, open_room, read_room, rooms}

either_room : (b : Bool) → (if b then 8083 else 90) ≤ 8083
either_room true = omega arith
either_room false = omega arith

open_room_few : (o : OpenRequest) → open_room o ≤ 8087
open_room_few o = omega (arith, either_room (kind_of o.request == 3))

pub rooms_few : (xs : List OpenRequest) → rooms xs ≤ 8087 * length xs
rooms_few [] = omega arith
rooms_few (o ∷ xs) = omega (arith, open_room_few o, rooms_few xs, sum_by-cons open_room o xs)

pub read_room_few : (r : ReadResult) → read_room r ≤ 8087
read_room_few (Ok x) = omega (arith, either_room (kind_of x.1 == 3))
read_room_few (Err e) = omega arith

-- of the first one and the others
pub rooms_first : (o : OpenRequest) (xs : List OpenRequest) → rooms (o ∷ xs) ≡ open_room o + rooms xs
rooms_first o xs = sum_by-cons open_room o xs

-- with the next one
pub rooms_next : (xs : List OpenRequest) (i : ℕ) (d : OpenRequest) → i < length xs → rooms (take (i + 1) xs) ≡ rooms (take i xs) + open_room (get_or xs i d)
rooms_next xs i d within = sum_by_more open_room xs i d within

pub rooms_fit : (xs : List OpenRequest) (i : ℕ) (d : OpenRequest) → i < length xs → rooms (take i xs) + open_room (get_or xs i d) ≤ 8087 * length xs
rooms_fit xs i d within = omega (arith, sum_by_more_le open_room xs i d within, rooms_few xs)

-- with the one that was read
pub rooms_read : (was now : List OpenRequest) (o : OpenRequest) (read : ReadResult) (head : Head) (request : Request resources) (n m : ℕ) → n ≡ rooms was → m ≡ read_room read → read ≡ Ok (head, request) → o.request ≡ request → now ≡ was ++ o ∷ [] → n + m ≡ rooms now
rooms_read was now o read head request n m owed more is same added =
    let each : open_room o ≡ m = ap (λ (x : Request resources). kind_room (kind_of x)) same ∙ sym (more ∙ ap read_room is) in
    omega (arith, ap rooms added, sum_by-append open_room was (o ∷ []), owed, each)
