-- The choice on a node that holds a reservation.
use Rattle.cap_choice.proofs.Prelude.{◌≡◌, ℕ, Bool, true, false, cond, Some, None, refl, sym, ◌∙◌, ap, subst, inl, inr, arith, ◌&&◌, ◌⊎◌, ◌==◌, unwrap_or, and_parts, cases_Bool, is_gt, nat_tests, Grant, fits, takes_place, Ask, IsIn, found, same_key, Reservation, ask_at, is_for, AppSight, NodeSight, Sight, seen_app, choice_on, same_key_is, still_wanted, kind_beside, IsOffer, IsWhole, Offer, proposal_of, has_numbers, in_limits, may_convert, may_hold, room_back, IsAdmittedAs, IsSeenNode, option_map_or, zeros}
use Rattle.cap_model.proofs.calls.KeptAsks.{same_key_itself}
use Rattle.cap_choice.proofs.Admitting.{admitted, asked_is, elsewhere, over_limits, without_numbers, without_room}
use Rattle.cap_choice.proofs.Choosing.{least_chosen, none_chosen, not_after_same, served_cmp}

module _ {K : ℕ} (sight : Sight K) (whole : IsWhole sight) (node : NodeSight) (at : IsSeenNode sight node) (r : Reservation) (holds : node.reservation ≡ Some r) where
  abbrev own : Offer → Bool
  own o = is_for o.app.number o.ask.key r

  own_app : (o : Offer) → own o ≡ true → r.app ≡ o.app.number
  own_app o h = let a = (and_parts (r.app == o.app.number) (same_key r.key o.ask.key) h).0 in grind (arith, nat_tests, a)

  own_key : (o : Offer) → own o ≡ true → r.key ≡ o.ask.key
  own_key o h = same_key_is r.key o.ask.key (and_parts (r.app == o.app.number) (same_key r.key o.ask.key) h).1

  seen_there : (o : Offer) → IsOffer sight o → own o ≡ true → seen_app sight r.app ≡ Some o.app
  seen_there o is h = ap (seen_app sight) (own_app o h) ∙ is.found

  asked_there : (o : Offer) → IsOffer sight o → own o ≡ true → ask_at r.key o.app.asks ≡ Some o.ask
  asked_there o is h = ap (λ k. ask_at k o.app.asks) (own_key o h) ∙ asked_is sight whole o is

  other_refused : (o : Offer) → IsOffer sight o → own o ≡ false → IsAdmittedAs sight node.number o None
  other_refused o is other =
      without_room sight node o at whole is
      (ap (λ x. kind_beside x (still_wanted sight o.app.number o.ask) node o) holds ∙ ap (λ b. cond (b && fits o.ask.resource node.free) (Some Grant) None) other)

  -- no ask is left for it
  pub none_for : ((app : AppSight) → seen_app sight r.app ≡ Some app → ask_at r.key app.asks ≡ None) → None ≡ choice_on sight node.number
  none_for never = none_chosen sight node.number (λ o is. elim (cases_Bool (own o)) [
    | inl h ↦ absurd (let a = asked_there o is h in let n = never o.app (seen_there o is h) in cc (a, n))
    | inr h ↦ other_refused o is h
  ])

  -- the ask that it is for
  module _ (app : AppSight) (ask : Ask) (seen : seen_app sight r.app ≡ Some app) (asked : ask_at r.key app.asks ≡ Some ask) where
    abbrev offer : Offer
    offer = record { app = app; ask = ask }

    number_is : app.number ≡ r.app
    number_is = let t = (found (λ (a : AppSight). a.number == r.app) sight.apps app seen).1 in grind (arith, nat_tests, t)

    in_asks : IsIn ask app.asks × (same_key ask.key r.key ≡ true)
    in_asks = found (λ (a : Ask). same_key a.key r.key) app.asks ask asked

    pub is_offer : IsOffer sight offer
    is_offer = record { found = ap (seen_app sight) number_is ∙ seen; member = in_asks.0 }

    own_is : own offer ≡ true
    own_is =
        let same : (r.app == r.app) ≡ true = grind (arith, nat_tests) in
        (λ i. r.app == number_is i && same_key r.key (same_key_is ask.key r.key in_asks.1 i)) ∙ (λ i. same i && same_key_itself r.key i)

    room_is : room_back K node ≡ r.resource
    room_is = ap (λ x. option_map_or (λ (y : Reservation). y.resource) x (zeros K)) holds

    others_or_same : (p : Offer) → IsOffer sight p → IsAdmittedAs sight node.number p None ⊎ (offer ≡ p)
    others_or_same p is = elim (cases_Bool (own p)) [
      | inl h ↦
          let a : app ≡ p.app = ap (λ x. unwrap_or x app) (sym seen ∙ seen_there p is h) in
          let x : ask ≡ p.ask = ap (λ y. unwrap_or y ask) (sym asked ∙ ap (λ (b : AppSight). ask_at r.key b.asks) a ∙ asked_there p is h) in
          inr (λ i. record { app = a i; ask = x i })
      | inr h ↦ inl (other_refused p is h)
    ]

    kind_is : (b : Bool) → fits ask.resource node.free ≡ b → kind_beside node.reservation (still_wanted sight app.number ask) node offer ≡ cond b (Some Grant) None
    kind_is b free = ap (λ x. kind_beside x (still_wanted sight app.number ask) node offer) holds ∙ (λ i. cond (own_is i && free i) (Some Grant) None)

    own_refused : may_convert sight node r.resource offer ≡ false → IsAdmittedAs sight node.number offer None
    own_refused n = by (fits ask.resource node.free) refl (takes_place ask.place node) refl (has_numbers sight) refl (in_limits sight app r.resource ask.resource) refl
      where
        by : (a : Bool) → fits ask.resource node.free ≡ a → (b : Bool) → takes_place ask.place node ≡ b → (c : Bool) → has_numbers sight ≡ c → (d : Bool) → in_limits sight app r.resource ask.resource ≡ d → IsAdmittedAs sight node.number offer None
        by false e b f c g d h = without_room sight node offer at whole is_offer (kind_is false e)
        by true e false f c g d h = elsewhere sight node offer at whole is_offer f
        by true e true f false g d h = without_numbers sight node offer at whole is_offer g
        by true e true f true g false h = over_limits sight node offer at whole is_offer (ap (λ room. in_limits sight app room ask.resource) room_is ∙ h)
        by true e true f true g true h = absurd (cc (n, e, f, g, h))

    pub refused_there : may_convert sight node r.resource offer ≡ false → None ≡ choice_on sight node.number
    refused_there n =
        none_chosen sight node.number (λ p is. elim (others_or_same p is) [
          | inl refused ↦ refused
          | inr same ↦ subst (λ o. IsAdmittedAs sight node.number o None) same (own_refused n)
        ])

    three : (a b c : Bool) → (a && b && c) ≡ true → (a ≡ true) × (b ≡ true) × (c ≡ true)
    three true true true h = (refl, refl, refl)
    three true true false h = absurd (cc h)
    three true false c h = absurd (cc h)
    three false b c h = absurd (cc h)

    pub granted_there : may_convert sight node r.resource offer ≡ true → Some (proposal_of Grant node.number offer) ≡ choice_on sight node.number
    granted_there fine =
        let parts = three (fits ask.resource node.free) (takes_place ask.place node) (may_hold sight app r.resource ask.resource) fine in
        let held = and_parts (has_numbers sight) (in_limits sight app r.resource ask.resource) (parts.2) in
        let a = admitted sight node offer at whole is_offer Grant (kind_is true (parts.0)) (parts.1) (held.0) (ap (λ room. in_limits sight app room ask.resource) room_is ∙ held.1) in
        least_chosen sight node.number offer Grant a (λ p l is b. elim (others_or_same p is) [
          | inl refused ↦ absurd (refused l b)
          | inr same ↦ subst (λ o. is_gt (served_cmp sight offer o) ≡ false) same (not_after_same sight offer)
        ])
