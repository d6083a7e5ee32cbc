use Rattle.cap_config.proofs.Prelude.{◌≡◌, ◌++◌, ◌∷◌, [], true, not, sym, ap, ◌∙◌, refl, ℕ, List, ◌||◌, bytes_eq, contains_bytes}
use Rattle.cap_config.proofs.Among.{among_push}
use Rattle.cap_config.proofs.NameLists.{name_under_some, name_under_none}
use Rattle.cap_config.proofs.names.add_name.Goals as goal

pub returns-in_default-clause-taken : goal.returns-in_default-clause-taken
returns-in_default-clause-taken c =
    let no = name_under_none c.args.path.now c.args.bytes.now (sym c.name_under.ensures ∙ c.in_default.is) in
    rw no refl

pub returns-clause-taken : goal.returns-clause-taken
returns-clause-taken c =
    let yes = name_under_some c.args.path.now c.args.bytes.now c.in-Some.name (sym c.name_under.ensures ∙ c.in-Some.is) in
    let new : not (contains_bytes c.args.names.now.items c.args.bytes.now) ≡ true =
    ap not (sym (c.requires c.args.bytes.now)) ∙ sym c.in_ok-add_new.ensures.new ∙ c.if-not-branch.false in
    rw (yes.0, new) refl

pub returns-clause-names : goal.returns-clause-names
returns-clause-names c = λ _.
    let yes = name_under_some c.args.path.now c.args.bytes.now c.in-Some.name (sym c.name_under.ensures ∙ c.in-Some.is) in
    c.in_ok-push.ensures.items ∙ ap (λ (n : List ℕ). c.args.names.now.items ++ n ∷ []) yes.1

pub returns-clause-seen : goal.returns-clause-seen
returns-clause-seen c = λ h q.
    c.in_ok-add_new.ensures.after q
    ∙ ap (λ b. b || bytes_eq c.args.bytes.now q) (c.requires q)
    ∙ sym (among_push c.args.names.now.items c.args.bytes.now q)
    ∙ ap (λ (ns : List (List ℕ)). contains_bytes ns q) (sym (returns-clause-names c h))
