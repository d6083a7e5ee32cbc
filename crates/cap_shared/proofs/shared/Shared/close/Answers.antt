use Rattle.cap_shared.proofs.Prelude.{◌≡◌, ◌≤◌, [], ◌∷◌, ◌++◌, length, map, true, refl, ap, sym, ◌∙◌, subst, arith, append_assoc, length-append, List, suc, ◌+◌, length-map, map-append, append-nil, Me, View, Mark, Sitting, ℕ, Receipt, view_of, sitter, sitting_of, with_guest, AllFit, times, report_of, Rises, NotesHold, AllHonest}
use Rattle.cap_shared.proofs.Pasts.{honest-push}
use Rattle.cap_shared.proofs.Moves.{joins, compares}
use Rattle.cap_shared.proofs.shared.Shared.close.Goals as goal

pub join_seat-requires : goal.join_seat-requires
join_seat-requires g c =
    let i = c.loop-seat.invariant in
    (i.same ∙ sym c.args.self.named, c.into_parts-number.ensures.seat.same ∙ sym c.args.self.named, ap (λ (m : Me Mark View). m.1) c.into_parts-number.ensures.seat.sits, c.args.self.word, joins 0 _ _ _ _)

pub push_reserved-requires : goal.push_reserved-requires
push_reserved-requires g c =
    let i = c.loop-seat.invariant in
    let rest = c.loop-seat.seat-iterator.rest.items in
    let n : length c.loop-seat.yielded + length rest ≡ length c.args.seats.items = sym (length-append c.loop-seat.yielded rest) ∙ ap length i.all in
    let r : length rest ≡ suc (length c.next.new.self.rest.items) = ap length c.in-Some.ensures.steps.0 in
    let m : length c.loop-seat.room.items ≡ length c.loop-seat.yielded = ap length i.reports ∙ length-map c.loop-seat.yielded report_of in
    let v = c.loop-seat.room.ok.0 in
    omega arith

pub loop-seat-preserved : goal.loop-seat-preserved
loop-seat-preserved g c =
    let i = c.loop-seat.invariant in
    let ys = c.loop-seat.yielded in
    let log = c.cluster.inside.journal.items in
    let s = c.in-Some.seat in
    let own = c.into_parts-number.ensures.seat.sits ∙ ap (λ (t : Sitting). (sitter t, [])) c.into_parts-number.ensures.view in
    let made : c.new.result ≡ report_of s = c.new.ensures ∙ ap (λ (n : ℕ). record { number = n; receipts = c.into_parts-number.result.1.items }) c.into_parts-number.ensures.seat.number_is ∙ ap (λ (rs : List Receipt). record { number = (sitting_of c.into_parts-number.result.2.me.0).seat; receipts = rs }) c.into_parts-number.ensures.seat.receipts_are ∙ ap report_of c.into_parts-number.ensures.view in
    record {
      same = c.join_seat.ensures.0 ∙ i.same;
      me = c.join_seat.ensures.2 ∙ ap (λ (m : Me Mark View). (with_guest m.0 c.into_parts-number.result.2.me.0, m.1)) i.me ∙ ap (λ (m : Me Mark View). (with_guest (view_of true log ys) m.0, [])) own;
      all = append_assoc ys (s ∷ []) c.next.new.self.rest.items ∙ ap (λ r. ys ++ r) (sym c.in-Some.ensures.steps.0) ∙ i.all;
      reports = c.push_reserved.ensures.items ∙ ap (λ rs. rs ++ c.new.result ∷ []) i.reports ∙ ap (λ r. map report_of ys ++ r ∷ []) made ∙ sym (map-append report_of ys (s ∷ []));
      honest = honest-push g.J.Naming.opening g.J.Naming.limit ys s i.honest
          (subst (λ (t : Sitting). Rises 0 t.past) c.into_parts-number.ensures.view c.into_parts-number.ensures.seat.rises)
          (subst (λ (t : Sitting). NotesHold g.J.Naming.opening g.J.Naming.limit t.past) c.into_parts-number.ensures.view c.into_parts-number.ensures.seat.notes);
      room = omega (arith, c.push_reserved.ensures.capacity);
    }

pub load-requires : goal.load-requires
load-requires g c =
    let i = c.loop-seat.invariant in
    (i.same ∙ sym c.args.self.named, c.args.self.word, compares 0 _ _ _ _ (ap (λ (m : Me Mark View). m.0.keeps) i.me))

empty : (xs : List Sitting) → length xs ≡ 0 → xs ≡ []
empty [] e = refl
empty (x ∷ xs) e = absurd (omega arith)

-- all seats came
whole : (ys rest all : List Sitting) → length rest ≡ 0 → ys ++ rest ≡ all → ys ≡ all
whole ys rest all e a = sym (append-nil ys) ∙ ap (λ r. ys ++ r) (sym (empty rest e)) ∙ a

pub returns-clause-apart : goal.returns-clause-apart
returns-clause-apart g c =
    let i = c.loop-seat.invariant in
    let rest = c.loop-seat.seat-iterator.rest in
    let all = whole c.loop-seat.yielded rest.items c.args.seats.items (omega (arith, rest.ok.0, c.in-None.ensures.steps.0)) i.all in
    λ x. subst (λ (ss : List Sitting). times x ss ≤ 1) all (subst (λ (m : Me Mark View). times x m.0.sits ≤ 1) i.me (c.load.ensures.2.2 x))

pub returns-clause-fit : goal.returns-clause-fit
returns-clause-fit g c =
    let i = c.loop-seat.invariant in
    let rest = c.loop-seat.seat-iterator.rest in
    let all = whole c.loop-seat.yielded rest.items c.args.seats.items (omega (arith, rest.ok.0, c.in-None.ensures.steps.0)) i.all in
    subst (λ (ss : List Sitting). AllFit c.cluster.inside.journal.items ss) all (subst (λ (m : Me Mark View). AllFit m.0.log m.0.sits) i.me c.load.ensures.2.1)

pub returns-clause-honest : goal.returns-clause-honest
returns-clause-honest g c =
    let i = c.loop-seat.invariant in
    let rest = c.loop-seat.seat-iterator.rest in
    let all = whole c.loop-seat.yielded rest.items c.args.seats.items (omega (arith, rest.ok.0, c.in-None.ensures.steps.0)) i.all in
    subst (λ (ss : List Sitting). AllHonest g.J.Naming.opening g.J.Naming.limit ss) all i.honest

pub returns-clause-reports : goal.returns-clause-reports
returns-clause-reports g c =
    let i = c.loop-seat.invariant in
    let rest = c.loop-seat.seat-iterator.rest in
    let all = whole c.loop-seat.yielded rest.items c.args.seats.items (omega (arith, rest.ok.0, c.in-None.ensures.steps.0)) i.all in
    i.reports ∙ ap (λ ss. map report_of ss) all
