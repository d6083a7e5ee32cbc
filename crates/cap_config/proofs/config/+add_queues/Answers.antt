use Rattle.cap_config.proofs.Prelude.{sym, ◌≡◌, ◌-◌, ◌∙◌, ap, arith, names_below}
use Rattle.cap_config.proofs.Found.{path_below}
use Rattle.cap_config.proofs.RowLists.{rows_none, rows_all}
use Rattle.cap_config.proofs.config.+add_queues.Goals as goal

pub returns-then-levels-eq0 : goal.returns-then-levels-eq0
returns-then-levels-eq0 t c = rows_none c.args.queues.now.items c.args.levels c.args.index.now.entries.now c.args.path c.if-levels-eq0.true

pub returns : goal.returns
returns t c =
    rows_all c.args.levels (c.args.levels - 1) c.loop-name.name-index c.args.index.now.entries.now c.args.path c.names_below-name-items.result.now c.args.queues.now.items c.loop-name.queues.items
    (omega arith)
    (omega arith)
    (c.names_below-name-items.ensures ∙ ap (names_below c.args.index.now.entries.now) c.as_bytes.ensures.value)
    c.loop-name.invariant

pub child_path-child-requires : goal.child_path-child-requires
child_path-child-requires t c =
    let entries = c.args.index.now.entries.now in
    let names = c.names_below-name-items.result.now in
    let here : names_below entries c.args.path ≡ names = sym (c.names_below-name-items.ensures ∙ ap (names_below entries) c.as_bytes.ensures.value) in
    path_below entries c.args.path names c.name-item.result c.loop-name.name-index c.requires.bounded c.as_bytes.ensures.text here c.loop-name-test.true c.name-item.is
