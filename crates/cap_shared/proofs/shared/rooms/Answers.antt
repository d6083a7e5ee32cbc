use Rattle.cap_shared.proofs.Prelude.{◌≡◌, suc, [], ◌∷◌, ◌++◌, length, true, ap, sym, ◌∙◌, arith, zero-add, add-one, ℕ, Me, View, Mark, view_of, sitting, sitting_of, fresh, only_first, without_first}
use Rattle.cap_shared.proofs.Lists.{fresh-push, length-fresh, fresh-step}
use Rattle.cap_shared.proofs.Moves.{splits}
use Rattle.cap_shared.proofs.Pasts.{seat_fresh}
use Rattle.cap_shared.proofs.shared.rooms.Goals as goal

pub split_seat-own-requires : goal.split_seat-own-requires
split_seat-own-requires g c = (c.loop-number.invariant.same ∙ sym c.requires.word.0, c.requires.word.1, splits 0 _ _)

pub invariant_of-push_reserved : goal.invariant_of-push_reserved
invariant_of-push_reserved g c =
    let i = c.loop-number.invariant in
    let n = c.loop-number.number in
    let e = c.split_seat-own.ensures in
    let me = e.4 ∙ ap (λ (t : Me Mark View). (only_first t.0, [])) (i.me ∙ ap (λ ss. (view_of true [] ss, [])) (fresh-step n c.args.count c.loop-number-test.true)) in
    seat_fresh _ _ _ _ n _ _ _ (e.3 ∙ i.same) me (omega (arith, c.requires.count)) c.in-Ok-with_capacity-3.ensures.items

pub push_reserved-requires : goal.push_reserved-requires
push_reserved-requires g c =
    let i = c.loop-number.invariant in
    let l : length c.loop-number.seats.items ≡ c.loop-number.number = ap length i.seats ∙ length-fresh 0 c.loop-number.number in
    let v = c.loop-number.seats.ok.0 in
    omega arith

pub loop-number-preserved : goal.loop-number-preserved
loop-number-preserved g c =
    let i = c.loop-number.invariant in
    let n = c.loop-number.number in
    let e = c.split_seat-own.ensures in
    let step = i.me ∙ ap (λ ss. (view_of true [] ss, [])) (fresh-step n c.args.count c.loop-number-test.true) in
    let me = e.4 ∙ ap (λ (t : Me Mark View). (only_first t.0, [])) step in
    let push : fresh 0 (suc n) ≡ fresh 0 n ++ sitting n [] ∷ [] = fresh-push 0 n ∙ ap (λ (i : ℕ). fresh 0 n ++ sitting i [] ∷ []) (zero-add n) in
    record {
      same = e.0 ∙ i.same;
      me = rw add-one (e.2 ∙ ap (λ (t : Me Mark View). (without_first t.0, t.1)) step);
      seats = rw add-one (c.push_reserved.ensures.items ∙ ap (λ ss. ss ++ sitting_of c.split_seat-own.result.me.0 ∷ []) i.seats ∙ ap (λ (t : Me Mark View). fresh 0 n ++ sitting_of t.0 ∷ []) me ∙ sym push);
      room = omega (arith, c.push_reserved.ensures.capacity);
    }
