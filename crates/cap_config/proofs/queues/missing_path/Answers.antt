use Rattle.std.proofs.Common.{sym, ◌∙◌, true, false}
use Rattle.cap_config.proofs.Above.{parent_is}
use Rattle.cap_config.proofs.Missing.{missing_more, missing_top}
use Rattle.cap_config.proofs.queues.missing_path.Goals as goal

pub loop-parent-smaller-then-not-lists : goal.loop-parent-smaller-then-not-lists
loop-parent-smaller-then-not-lists c = (parent_is c.loop-parent.rest.now c.in-Some.parent.now _ (sym c.in-Some.ensures)).shorter

pub loop-parent-smaller : goal.loop-parent-smaller
loop-parent-smaller c = (parent_is c.loop-parent.rest.now c.in-Some.parent.now _ (sym c.in-Some.ensures)).shorter

pub loop-parent-preserved-then-not-lists : goal.loop-parent-preserved-then-not-lists
loop-parent-preserved-then-not-lists c =
    c.loop-parent.invariant
    ∙ missing_more c.args.index.now.entries.now c.loop-parent.rest.now c.in-Some.parent.now c.in-Some.name.now _ false (sym c.in-Some.ensures) (sym c.lists.ensures ∙ c.if-not-lists.true)

pub loop-parent-preserved : goal.loop-parent-preserved
loop-parent-preserved c =
    c.loop-parent.invariant
    ∙ missing_more c.args.index.now.entries.now c.loop-parent.rest.now c.in-Some.parent.now c.in-Some.name.now _ true (sym c.in-Some.ensures) (sym c.lists.ensures ∙ c.if-not-lists.false)

pub returns-then-is_root : goal.returns-then-is_root
returns-then-is_root c = sym (c.loop-parent.invariant ∙ missing_top c.args.index.now.entries.now c.loop-parent.rest.now _ true (sym c.in_default.ensures) (sym c.is_root.ensures ∙ c.if-is_root.true))

pub returns-else-is_root : goal.returns-else-is_root
returns-else-is_root c = sym (c.loop-parent.invariant ∙ missing_top c.args.index.now.entries.now c.loop-parent.rest.now _ false (sym c.in_default.ensures) (sym c.is_root.ensures ∙ c.if-is_root.false))
