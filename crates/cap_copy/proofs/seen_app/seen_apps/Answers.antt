use Rattle.cap_copy.proofs.Prelude.{◌≡◌, ◌<◌, ◌+◌, ◌++◌, ◌∷◌, [], List, refl, sym, subst, ◌∙◌, ap, length, arith, map, take, Some, option_map, slice_get, slice_get-map, slice_get_read, length-map, IsPosition, each_of, HeldApp, take_all, ask_entries, asks_of, indexes, AreSeen, user_used}
use Rattle.cap_copy.proofs.Fitting.{seen_app_of_few, seen_ask_of_few}
use Rattle.cap_copy.proofs.LoopSteps.{asks_more, slice_get_in}
use Rattle.cap_copy.proofs.Seeing.{count_seen, seen_more}
use Rattle.cap_copy.proofs.seen_app.seen_apps.Goals as goal

pub loop-index-preserved : goal.loop-index-preserved
loop-index-preserved g c =
    let K = g.row.K in
    let waiting = c.args.waiting.now in
    let rows = c.args.tree.now in
    let i = c.loop-index.index in
    let held = c.index-waiting-index.result in
    let app = c.in-Ok-seen_app.ensures in
    let seen = c.loop-index.seen.items in
    let asks = c.loop-index.asks.items in
    let before = c.loop-index.invariant in
    let few = c.requires.few in
    let test = c.loop-index-test.true in
    let within : i < length waiting = omega (arith, few, test) in
    let at : slice_get waiting i ≡ Some held = slice_get_read waiting (length waiting) i held refl within c.index-waiting-index.is in
    let more = asks_of [] i held.app in
    let asks_is = app.asks ∙ ap (λ (h : HeldApp). asks ++ asks_of [] i h.app) c.app.ensures in
    let count = count_seen K rows waiting i asks seen (omega (arith, within)) before.are in
    record {
      are =
          subst (AreSeen K rows (take (i + 1) waiting) c.seen_app.new.asks.items) (sym c.push_reserved.ensures.items)
          (subst (λ es. AreSeen K rows (take (i + 1) waiting) es (seen ++ c.in-Ok-seen_app.app ∷ [])) (sym asks_is)
          (seen_more K rows waiting i held asks more seen c.in-Ok-seen_app.app at count before.are (app.held ∙ c.app.ensures) app.start (app.end ∙ ap length asks_is) refl (app.used ∙ ap (user_used K rows) c.app.ensures)));
      asks =
          asks_is ∙ ap (λ es. es ++ more) before.asks
          ∙ sym (asks_more [] (map (λ (r : HeldApp). r.app) waiting) i held.app (slice_get-map (λ (r : HeldApp). r.app) waiting i ∙ ap (option_map (λ (r : HeldApp). r.app)) at));
      count = omega (arith, before.count, c.push_reserved.ensures.len);
      room = omega (arith, before.room, c.push_reserved.ensures.capacity);
    }

pub drop-seen-requires-room-T-Destruct : goal.drop-seen-requires-room-T-Destruct
drop-seen-requires-room-T-Destruct g c κs within = seen_app_of_few _ c.requires.resources

pub seen_app-requires : goal.seen_app-requires
seen_app-requires g c =
    let few = c.requires.resources in
    let waiting = c.args.waiting.now in
    let i = c.loop-index.index in
    let held = c.index-waiting-index.result in
    let most = c.requires.few in
    let test = c.loop-index-test.true in
    let within : i < length waiting = omega (arith, most, test) in
    let member = slice_get_in waiting i held (slice_get_read waiting (length waiting) i held refl within c.index-waiting-index.is) in
    let there = each_of (λ (r : HeldApp). IsPosition c.args.tree.now r.account.position) waiting c.requires.placed held member in
    (c.requires.source.tree, (omega arith, (seen_ask_of_few _ few, (seen_app_of_few _ few, (c.requires.source, (few, subst (λ (h : HeldApp). IsPosition c.args.tree.now h.account.position) (sym c.app.ensures) there))))))

pub count_asks-requires : goal.count_asks-requires
count_asks-requires g c = ((search), c.requires.resources)

pub push_reserved-requires : goal.push_reserved-requires
push_reserved-requires g c =
    let few = c.requires.few in
    let test = c.loop-index-test.true in
    let count = c.loop-index.invariant.count in
    let room = c.loop-index.invariant.room in
    omega (arith, few, test, count, room)

pub returns-clause-seen : goal.returns-clause-seen
returns-clause-seen g c =
    let few = c.requires.few in
    let test = c.loop-index-test.false in
    subst (λ (rs : List HeldApp). AreSeen g.row.K c.args.tree.now rs c.loop-index.asks.items c.loop-index.seen.items) (take_all c.loop-index.index c.args.waiting.now (omega (arith, few, test))) c.loop-index.invariant.are

pub returns-clause-asks : goal.returns-clause-asks
returns-clause-asks g c =
    let few = c.requires.few in
    let test = c.loop-index-test.false in
    let end = c.loop-index.auto.index-end in
    let apps = map (λ (r : HeldApp). r.app) c.args.waiting.now in
    let n = length-map c.args.waiting.now (λ (r : HeldApp). r.app) in
    let all : c.loop-index.index ≡ length apps = omega (arith, few, test, end, n) in
    c.loop-index.invariant.asks ∙ ap (λ n. ask_entries [] apps (indexes n)) all
