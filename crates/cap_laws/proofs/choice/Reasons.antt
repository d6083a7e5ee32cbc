-- A proposal has no reason to be rejected exactly where it is admissible.
use Rattle.cap_laws.proofs.Prelude.{◌≡◌, ℕ, Bool, true, false, List, [], ◌∷◌, refl, inl, inr, arith, ◌⊎◌, not, ◌&&◌, ◌||◌, Option, Some, None, is_some, is_none, cond, not-false, not_from_true, nat_tests, earliest, grant_proposal, reserve_proposal, Sight, sight_of, seen_app, seen_node, NodeProposal, is_grant, IsAdmissible, NeedsOf, reasons, proposed_ask, asks_resource, suits_place, fits_free, fits_total, is_wanted, is_reserved_for, node_reservation, stays_in_maxima, stays_in_user_limit, ProposalKind, RejectedExactly, PassedIsStep, or_left, true_of_none}

-- no test of a list holds
abbrev pub NoneHolds : {A : Type 0} → List (Bool × A) → Type 0
NoneHolds [] = Unit {0}
NoneHolds (t ∷ ts) = (t.0 ≡ false) × NoneHolds ts

first_none : {A : Type 0} (b : Bool) (a : A) (rest : Option A) → cond b (Some a) rest ≡ None → (b ≡ false) × (rest ≡ None)
first_none true a rest h = absurd (cc h)
first_none false a rest h = (refl, h)

pub none_holds : {A : Type 0} (ts : List (Bool × A)) → earliest ts ≡ None → NoneHolds ts
none_holds [] h = tt
none_holds (t ∷ ts) h = let r = first_none t.0 t.1 (earliest ts) h in (r.0, none_holds ts r.1)

none_first : {A : Type 0} (b : Bool) (a : A) (rest : Option A) → b ≡ false → rest ≡ None → cond b (Some a) rest ≡ None
none_first true a rest h r = absurd (cc h)
none_first false a rest h r = r

pub holds_none : {A : Type 0} (ts : List (Bool × A)) → NoneHolds ts → earliest ts ≡ None
holds_none [] h = refl
holds_none (t ∷ ts) h = none_first t.0 t.1 (earliest ts) h.0 (holds_none ts h.1)

-- what the tests on reservations and room come to for a grant
grant_needs : {A : Type 0} (none want own free total : Bool) (reservation : Option A) →
    none || not (want || true && own) ≡ false → is_some reservation && not (true && own) ≡ false → true && not free ≡ false →
    (free ≡ true) × (((reservation ≡ None) × (want ≡ true)) ⊎ (own ≡ true))
grant_needs true want own free total reservation a b c = absurd (cc a)
grant_needs false want true free total reservation a b c = (not-false free c, inr refl)
grant_needs false true false free total None a b c = (not-false free c, inl (refl, refl))
grant_needs false true false free total (Some x) a b c = absurd (cc b)
grant_needs false false false free total reservation a b c = absurd (cc a)

-- and for a reservation
reserve_needs : {A : Type 0} (none want own free total : Bool) (reservation : Option A) →
    none || not (want || false && own) ≡ false → is_some reservation && not (false && own) ≡ false → not false && free ≡ false → not false && not total ≡ false →
    (want ≡ true) × (reservation ≡ None) × (free ≡ false) × (total ≡ true)
reserve_needs true want own free total reservation a b c d = absurd (cc a)
reserve_needs false true own free total None a b c d = (refl, refl, c, not-false total d)
reserve_needs false true own free total (Some x) a b c d = absurd (cc b)
reserve_needs false false own free total reservation a b c d = absurd (cc a)

-- the tests that depend on the kind
pub record AreKindTests {A : Type 0} (grants none want own free total : Bool) (reservation : Option A) : Type 0 where
  pub ask : none || not (want || grants && own) ≡ false
  pub reserved : is_some reservation && not (grants && own) ≡ false
  pub room : grants && not free ≡ false
  pub fits_now : not grants && free ≡ false
  pub never_fits : not grants && not total ≡ false

grant_tests : {A : Type 0} (none want own free total : Bool) (reservation : Option A) → none ≡ false →
    (free ≡ true) × (((reservation ≡ None) × (want ≡ true)) ⊎ (own ≡ true)) → AreKindTests true none want own free total reservation
grant_tests true want own free total reservation n e = absurd (cc n)
grant_tests false want own false total reservation n e = absurd (cc (e.0))
grant_tests false true own true total None n e = record { ask = refl; reserved = refl; room = refl; fits_now = refl; never_fits = refl }
grant_tests false true true true total (Some x) n e = record { ask = refl; reserved = refl; room = refl; fits_now = refl; never_fits = refl }
grant_tests false true false true total (Some x) n (f, inl e) = absurd (cc (e.0))
grant_tests false true false true total (Some x) n (f, inr e) = absurd (cc e)
grant_tests false false true true total None n e = record { ask = refl; reserved = refl; room = refl; fits_now = refl; never_fits = refl }
grant_tests false false true true total (Some x) n e = record { ask = refl; reserved = refl; room = refl; fits_now = refl; never_fits = refl }
grant_tests false false false true total reservation n (f, inl e) = absurd (cc (e.1))
grant_tests false false false true total reservation n (f, inr e) = absurd (cc e)

reserve_tests : {A : Type 0} (none want own free total : Bool) (reservation : Option A) → none ≡ false →
    (want ≡ true) × (reservation ≡ None) × (free ≡ false) × (total ≡ true) → AreKindTests false none want own free total reservation
reserve_tests true want own free total reservation n e = absurd (cc n)
reserve_tests false false own free total reservation n e = absurd (cc (e.0))
reserve_tests false true own true total reservation n e = absurd (cc (e.2))
reserve_tests false true own false false reservation n e = absurd (cc (e.3))
reserve_tests false true own false true (Some x) n e = absurd (cc (e.1))
reserve_tests false true own false true None n e = record { ask = refl; reserved = refl; room = refl; fits_now = refl; never_fits = refl }

module _ {K : ℕ} (sight : Sight K) (p : NodeProposal) where
  -- the tests that depend on the kind, at a proposal
  abbrev KindTests : ProposalKind → Type 0
  KindTests k = AreKindTests (is_grant k) (is_none (proposed_ask sight p)) (is_wanted sight p) (is_reserved_for sight p) (fits_free sight p) (fits_total sight p) (node_reservation sight p)

  needs : (k : ProposalKind) → KindTests k → NeedsOf sight p k
  needs ProposalKind.Grant t = grant_needs (is_none (proposed_ask sight p)) (is_wanted sight p) (is_reserved_for sight p) (fits_free sight p) (fits_total sight p) (node_reservation sight p) t.ask t.reserved t.room
  needs ProposalKind.Reserve t = reserve_needs (is_none (proposed_ask sight p)) (is_wanted sight p) (is_reserved_for sight p) (fits_free sight p) (fits_total sight p) (node_reservation sight p) t.ask t.reserved t.fits_now t.never_fits

  tests : (k : ProposalKind) → is_none (proposed_ask sight p) ≡ false → NeedsOf sight p k → KindTests k
  tests ProposalKind.Grant n e = grant_tests (is_none (proposed_ask sight p)) (is_wanted sight p) (is_reserved_for sight p) (fits_free sight p) (fits_total sight p) (node_reservation sight p) n e
  tests ProposalKind.Reserve n e = reserve_tests (is_none (proposed_ask sight p)) (is_wanted sight p) (is_reserved_for sight p) (fits_free sight p) (fits_total sight p) (node_reservation sight p) n e

  admitted : NoneHolds (reasons sight p) → IsAdmissible sight p
  admitted (app, (ask, (other, (node, (place, (reserved, (room, (maximum, (user, (live, (now, (never, (numbers, _))))))))))))) = (
    record {
      registered = true_of_none (seen_app sight p.app) app;
      asked = true_of_none (proposed_ask sight p) (or_left (is_none (proposed_ask sight p)) (not (is_wanted sight p || is_grant p.kind && is_reserved_for sight p)) ask);
      resource = not-false (asks_resource sight p) other;
      present = true_of_none (seen_node sight p.node) node;
      place = not-false (suits_place sight p) place;
      maxima = not-false (stays_in_maxima sight p) maximum;
      user = not-false (stays_in_user_limit sight p) user;
      few_live = grind (arith, nat_tests, live);
      numbers_left = grind (arith, nat_tests, numbers);
    },
    needs p.kind (record { ask = ask; reserved = reserved; room = room; fits_now = now; never_fits = never }),
  )

  untested : IsAdmissible sight p → NoneHolds (reasons sight p)
  untested (l, e) =
      let t : KindTests p.kind = tests p.kind (not_from_true (is_some (proposed_ask sight p)) l.asked) e in (
        not_from_true (is_some (seen_app sight p.app)) l.registered,
        (
          t.ask,
          (
            not_from_true (asks_resource sight p) l.resource,
            (
              not_from_true (is_some (seen_node sight p.node)) l.present,
              (
                not_from_true (suits_place sight p) l.place,
                (
                  t.reserved,
                  (
                    t.room,
                    (
                      not_from_true (stays_in_maxima sight p) l.maxima,
                      (
                        not_from_true (stays_in_user_limit sight p) l.user,
                        (
                          grind (arith, nat_tests, l.few_live),
                          (
                            t.fits_now,
                            (
                              t.never_fits,
                              (grind (arith, nat_tests, l.numbers_left), tt),
                            ),
                          ),
                        ),
                      ),
                    ),
                  ),
                ),
              ),
            ),
          ),
        ),
      )

pub rejected_exactly : RejectedExactly
rejected_exactly K sight p = ((λ h. admitted sight p (none_holds (reasons sight p) h)), (λ a. holds_none (reasons sight p) (untested sight p a)))

pub passed_is_step : PassedIsStep
passed_is_step K old = (
  λ c number none. ((rejected_exactly K (sight_of old) (grant_proposal c)).0 none, number, refl),
  λ r none. ((rejected_exactly K (sight_of old) (reserve_proposal r)).0 none, refl),
)
