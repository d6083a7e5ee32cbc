use Rattle.cap_masters.proofs.Prelude.{apps_fit, app_fits, true, false, refl, sym, ◌∙◌, ap, not, option_and_then, App, repeated_numbers}
use Rattle.cap_masters.proofs.Refused.{allocate_tests, app_shown, app_missing, repeats_it, repeats_none}
use Rattle.cap_masters.proofs.allocation.admit.Goals as goal

pub returns-in_default-clause-err : goal.returns-in_default-clause-err
returns-in_default-clause-err g c = rw (app_missing c.args.cluster.now.flat c.apps.result.now.table c.args.app c.apps.ensures.table c.in_default.ensures.found) refl

pub returns-then-not-is_registered-clause-err : goal.returns-then-not-is_registered-clause-err
returns-then-not-is_registered-clause-err g c =
    let app = c.in-Some.app.now.app in
    let there = app_shown c.args.cluster.now.flat c.apps.result.now.table c.args.app app c.apps.ensures.table c.in-Some.ensures.found in
    allocate_tests c.args.cluster.now.flat c.args.app c.args.response c.args.asks.now app true _ _ _ _ there (ap not (sym c.is_registered.ensures ∙ c.if-not-is_registered.true)) refl refl refl refl

pub returns-then-is_bad_id-clause-err : goal.returns-then-is_bad_id-clause-err
returns-then-is_bad_id-clause-err g c =
    let app = c.in-Some.app.now.app in
    let there = app_shown c.args.cluster.now.flat c.apps.result.now.table c.args.app app c.apps.ensures.table c.in-Some.ensures.found in
    allocate_tests c.args.cluster.now.flat c.args.app c.args.response c.args.asks.now app false true _ _ _ there (ap not (sym c.is_registered.ensures ∙ c.if-not-is_registered.false)) (sym c.is_bad_id.ensures ∙ c.if-is_bad_id.true) refl refl refl

pub returns-in-Some-repeated-clause-ok : goal.returns-in-Some-repeated-clause-ok
returns-in-Some-repeated-clause-ok g c =
    let app = c.in-Some.app.now.app in
    let there = app_shown c.args.cluster.now.flat c.apps.result.now.table c.args.app app c.apps.ensures.table c.in-Some.ensures.found in
    allocate_tests c.args.cluster.now.flat c.args.app c.args.response c.args.asks.now app false false true _ _ there (ap not (sym c.is_registered.ensures ∙ c.if-not-is_registered.false))
    (sym c.is_bad_id.ensures ∙ c.if-is_bad_id.false) (repeats_it app c.args.response c.in-Some-repeated.reported c.in-Some-repeated.ensures).0 refl refl

pub returns-in-Some-repeated-clause-repeated : goal.returns-in-Some-repeated-clause-repeated
returns-in-Some-repeated-clause-repeated g c =
    let app = c.in-Some.app.now.app in
    let there = app_shown c.args.cluster.now.flat c.apps.result.now.table c.args.app app c.apps.ensures.table c.in-Some.ensures.found in
    c.in-Some-repeated.ensures ∙ sym (ap (option_and_then (λ (a : App). repeated_numbers a c.args.response)) there)

pub returns-then-has_too_large-clause-err : goal.returns-then-has_too_large-clause-err
returns-then-has_too_large-clause-err g c =
    let app = c.in-Some.app.now.app in
    let there = app_shown c.args.cluster.now.flat c.apps.result.now.table c.args.app app c.apps.ensures.table c.in-Some.ensures.found in
    allocate_tests c.args.cluster.now.flat c.args.app c.args.response c.args.asks.now app false false false true _ there (ap not (sym c.is_registered.ensures ∙ c.if-not-is_registered.false))
    (sym c.is_bad_id.ensures ∙ c.if-is_bad_id.false) (repeats_none app c.args.response c.in_default-repeated.ensures) (sym c.has_too_large.ensures ∙ c.if-has_too_large.true) refl

pub returns-then-has_too_many_keys-clause-err : goal.returns-then-has_too_many_keys-clause-err
returns-then-has_too_many_keys-clause-err g c =
    let app = c.in-Some.app.now.app in
    let there = app_shown c.args.cluster.now.flat c.apps.result.now.table c.args.app app c.apps.ensures.table c.in-Some.ensures.found in
    allocate_tests c.args.cluster.now.flat c.args.app c.args.response c.args.asks.now app false false false false true there (ap not (sym c.is_registered.ensures ∙ c.if-not-is_registered.false))
    (sym c.is_bad_id.ensures ∙ c.if-is_bad_id.false) (repeats_none app c.args.response c.in_default-repeated.ensures) (sym c.has_too_large.ensures ∙ c.if-has_too_large.false) (sym c.has_too_many_keys.ensures ∙ c.if-has_too_many_keys.true)

pub returns-clause-ok : goal.returns-clause-ok
returns-clause-ok g c =
    let app = c.in-Some.app.now.app in
    let there = app_shown c.args.cluster.now.flat c.apps.result.now.table c.args.app app c.apps.ensures.table c.in-Some.ensures.found in
    allocate_tests c.args.cluster.now.flat c.args.app c.args.response c.args.asks.now app false false false false false there (ap not (sym c.is_registered.ensures ∙ c.if-not-is_registered.false))
    (sym c.is_bad_id.ensures ∙ c.if-is_bad_id.false) (repeats_none app c.args.response c.in_default-repeated.ensures) (sym c.has_too_large.ensures ∙ c.if-has_too_large.false) (sym c.has_too_many_keys.ensures ∙ c.if-has_too_many_keys.false)

pub returns-clause-repeated : goal.returns-clause-repeated
returns-clause-repeated g c =
    let app = c.in-Some.app.now.app in
    let there = app_shown c.args.cluster.now.flat c.apps.result.now.table c.args.app app c.apps.ensures.table c.in-Some.ensures.found in
    c.in_default-repeated.ensures ∙ sym (ap (option_and_then (λ (a : App). repeated_numbers a c.args.response)) there)

pub apps-requires : goal.apps-requires
apps-requires g c = search apps_fit

pub has_too_large-requires : goal.has_too_large-requires
has_too_large-requires g c = search

pub has_too_many_keys-requires : goal.has_too_many_keys-requires
has_too_many_keys-requires g c = search app_fits
