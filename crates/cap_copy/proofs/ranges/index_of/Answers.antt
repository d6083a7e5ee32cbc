use Rattle.cap_copy.proofs.Prelude.{◌≡◌, ℕ, ◌+◌, ◌-◌, ◌/◌, ◌<◌, ◌≤◌, arith, length, map, refl, sym, ◌∙◌, Some, slice_get, slice_get_read, AskRange, SeenApp, range_in}
use Rattle.cap_copy.proofs.Ranging.{above_middle, below_middle, none_at, none_past, range_at}
use Rattle.cap_copy.proofs.ranges.index_of.Goals.{else-low-apps-via-then-low-apps+else-number-app-2, else-low-apps-via-else-low-apps}
use Rattle.cap_copy.proofs.ranges.index_of.Goals as goal

pub loop-low-preserved-then-number-app : goal.loop-low-preserved-then-number-app
loop-low-preserved-then-number-app g c =
    let apps = c.args.apps.now in
    let middle = c.loop-low.low + (c.loop-low.high - c.loop-low.low) / 2 in
    let a : SeenApp = c.index-apps-middle.result in
    let before = c.loop-low.invariant in
    let test = c.loop-low-test.true in
    let in_list = before.within in
    let within : middle < length apps = omega (arith, test, in_list) in
    let at : slice_get apps middle ≡ Some a = slice_get_read apps (length apps) middle a refl within c.index-apps-middle.is in
    let less : a.held.app.number < c.args.app = (let n = c.number.ensures in let t = c.if-number-app.true in omega (arith, n, t)) in
    record {
      within = before.within;
      ordered = omega (arith, test);
      below = below_middle apps c.args.app c.requires middle a at less;
      above = before.above;
    }

pub loop-low-preserved : goal.loop-low-preserved
loop-low-preserved g c =
    let apps = c.args.apps.now in
    let middle = c.loop-low.low + (c.loop-low.high - c.loop-low.low) / 2 in
    let a : SeenApp = c.index-apps-middle.result in
    let before = c.loop-low.invariant in
    let test = c.loop-low-test.true in
    let in_list = before.within in
    let within : middle < length apps = omega (arith, test, in_list) in
    let at : slice_get apps middle ≡ Some a = slice_get_read apps (length apps) middle a refl within c.index-apps-middle.is in
    let most : c.args.app ≤ a.held.app.number = (let n = c.number.ensures in let t = c.if-number-app.false in omega (arith, n, t)) in
    record {
      within = omega (arith, within);
      ordered = omega arith;
      below = before.below;
      above = above_middle apps c.args.app c.requires middle a at most;
    }

pub returns-then-number-app-2 : goal.returns-then-number-app-2
returns-then-number-app-2 g c =
    let apps = c.args.apps.now in
    let low = c.loop-low.low in
    let a : SeenApp = c.index-apps-low.result in
    let at : slice_get apps low ≡ Some a = slice_get_read apps (length apps) low a refl c.if-low-apps.true c.index-apps-low.is in
    (range_in a, range_at apps c.args.app c.requires low a at, sym c.number-then-low-apps.ensures ∙ c.if-number-app-2.true)

pub returns-else-low-apps : goal.returns-else-low-apps
returns-else-low-apps g c =
    let apps = c.args.apps.now in
    let low = c.loop-low.low in
    let before = c.loop-low.invariant in
    let ends : c.loop-low.high ≤ low = (let f = c.loop-low-test.false in omega (arith, f)) in
    let above : (i : ℕ) (b : AskRange) → low ≤ i → slice_get (map range_in apps) i ≡ Some b → c.args.app ≤ b.app = (λ i b le. before.above i b (omega (arith, ends, le))) in
    elim c.else-low-apps.branch [
      | else-low-apps-via-then-low-apps+else-number-app-2 w ↦
          let a : SeenApp = w.index-apps-low.result in
          let at : slice_get apps low ≡ Some a = slice_get_read apps (length apps) low a refl w.if-low-apps.true w.index-apps-low.is in
          none_at apps c.args.app c.requires low a at before.below above (λ e. w.if-number-app-2.false (w.number-then-low-apps.ensures ∙ e))
      | else-low-apps-via-else-low-apps w ↦ none_past apps c.args.app c.requires low w.if-low-apps.false before.below
    ]
