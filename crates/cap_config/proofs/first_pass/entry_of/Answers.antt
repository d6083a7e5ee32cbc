use Rattle.cap_config.proofs.Prelude.{sym, ◌∙◌, not-true, not-false}
use Rattle.cap_config.proofs.NextLine.{entry_no_parts, entry_no_key, entry_repeated, entry_no_value, entry_good}
use Rattle.cap_config.proofs.first_pass.entry_of.Goals as goal

pub returns-in_default-clause-entry : goal.returns-in_default-clause-entry
returns-in_default-clause-entry c = λ before h. rw c.detailed.ensures (entry_no_parts before c.args.line c.args.bytes.now (sym c.in_default.ensures))

pub returns-in_default-key_of-clause-entry : goal.returns-in_default-key_of-clause-entry
returns-in_default-key_of-clause-entry c = λ before h.
    rw c.detailed-in_default-key_of.ensures
    (entry_no_key before c.args.line c.args.bytes.now c.in-Some.key_bytes.now c.in-Some.value_bytes.now (sym c.in-Some.ensures) (sym c.key_of.ensures ∙ c.in_default-key_of.is))

pub returns-then-not-branch-clause-entry : goal.returns-then-not-branch-clause-entry
returns-then-not-branch-clause-entry c = λ before h.
    rw c.detailed-then-not-branch.ensures
    (entry_repeated before c.args.line c.args.bytes.now c.in-Some.key_bytes.now c.in-Some.value_bytes.now c.in-Some-key_of.key (sym c.in-Some.ensures) (sym c.key_of.ensures ∙ c.in-Some-key_of.is)
    (sym (h c.in-Some.key_bytes.now) ∙ not-false _ (sym c.in_ok-add_new.ensures.new ∙ c.if-not-branch.true)))

pub returns-in_default-2-clause-entry : goal.returns-in_default-2-clause-entry
returns-in_default-2-clause-entry c = λ before h.
    rw c.detailed-in_default-2.ensures
    (entry_no_value before c.args.line c.args.bytes.now c.in-Some.key_bytes.now c.in-Some.value_bytes.now c.in-Some-key_of.key (sym c.in-Some.ensures) (sym c.key_of.ensures ∙ c.in-Some-key_of.is)
    (sym (h c.in-Some.key_bytes.now) ∙ not-true _ (sym c.in_ok-add_new.ensures.new ∙ c.if-not-branch.false))
    (sym c.in_ok-value.ensures ∙ c.in_default-2.is))

pub returns-clause-entry : goal.returns-clause-entry
returns-clause-entry c = λ before h.
    entry_good before c.args.line c.args.bytes.now c.in-Some.key_bytes.now c.in-Some.value_bytes.now c.in-Some-key_of.key c.in-Some-2.value (sym c.in-Some.ensures) (sym c.key_of.ensures ∙ c.in-Some-key_of.is)
    (sym (h c.in-Some.key_bytes.now) ∙ not-true _ (sym c.in_ok-add_new.ensures.new ∙ c.if-not-branch.false))
    (sym c.in_ok-value.ensures ∙ c.in-Some-2.is)
