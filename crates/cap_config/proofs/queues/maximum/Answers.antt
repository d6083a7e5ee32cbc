use Rattle.cap_config.proofs.Prelude.{◌≡◌, sym, ◌∙◌, ap, None, Some, Option, Entry, MaximumCapacity, amounts_at, entry_for}
use Rattle.cap_config.proofs.Above.{parent_is, no_parent}
use Rattle.cap_config.proofs.Trees.{entry_found, maximum_own, maximum_inherited, maximum_at_top}
use Rattle.cap_config.proofs.queues.maximum.Goals as goal

pub loop-parent-smaller : goal.loop-parent-smaller
loop-parent-smaller c = (parent_is c.loop-parent.rest.now c.in-Some.parent.now _ (sym c.in-Some.ensures)).shorter

pub loop-parent-preserved : goal.loop-parent-preserved
loop-parent-preserved c =
    let entries = c.args.index.now.entries.now in
    let rest = c.loop-parent.rest.now in
    let here = c.entry_at.ensures ∙ entry_found entries MaximumCapacity c.args.index.now.maximum_capacity rest c.requires.maximum_capacity in
    let none : amounts_at None (entry_for entries MaximumCapacity rest) ≡ None =
    sym (ap (λ (e : Option Entry). amounts_at None e) here) ∙ sym c.amounts_at.ensures ∙ c.in_default-amounts_at.is in
    c.loop-parent.invariant ∙ maximum_inherited entries rest c.in-Some.parent.now (parent_is rest c.in-Some.parent.now _ (sym c.in-Some.ensures)) none

pub returns-in-Some-amounts_at : goal.returns-in-Some-amounts_at
returns-in-Some-amounts_at c =
    let entries = c.args.index.now.entries.now in
    let rest = c.loop-parent.rest.now in
    let here = c.entry_at.ensures ∙ entry_found entries MaximumCapacity c.args.index.now.maximum_capacity rest c.requires.maximum_capacity in
    let own : amounts_at None (entry_for entries MaximumCapacity rest) ≡ Some c.in-Some-amounts_at.amounts =
    sym (ap (λ (e : Option Entry). amounts_at None e) here) ∙ sym c.amounts_at.ensures ∙ c.in-Some-amounts_at.is in
    sym (c.loop-parent.invariant ∙ maximum_own entries rest c.in-Some.parent.now c.in-Some-amounts_at.amounts (parent_is rest c.in-Some.parent.now _ (sym c.in-Some.ensures)) own)

pub returns : goal.returns
returns c =
    let entries = c.args.index.now.entries.now in
    let rest = c.loop-parent.rest.now in
    let here = c.entry_at-2.ensures ∙ entry_found entries MaximumCapacity c.args.index.now.maximum_capacity rest c.requires.maximum_capacity in
    c.amounts_at-2.ensures
    ∙ ap (λ (e : Option Entry). amounts_at None e) here
    ∙ sym (c.loop-parent.invariant ∙ maximum_at_top entries rest (no_parent rest (sym c.in_default.ensures)))
