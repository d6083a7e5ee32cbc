use Rattle.cap_tree.proofs.Prelude.{rules, arith, nat_tests, ◌≡◌, ◌-◌, ◌<◌, ◌≤◌, length, take, drop, subst}
use Rattle.cap_tree.proofs.Finds.{split, other_name, at_name, other_byte, in_no_child, in_this_child, child_within, none_after, none_at_first, none_before, inside_of, child-lt, short_child, shorter, room_for_step}
use Rattle.cap_tree.proofs.Service.{once_in_child}
use Rattle.cap_tree.proofs.Looking.{NoneBefore}
use Rattle.cap_tree.proofs.branch.Branch.+find.Goals as goal

pub returns-in_default : goal.returns-in_default
returns-in_default g t c = other_name g.T.TreeItem.name c.self.inside.item c.self.inside.children.items c.args.self.now c.self.view_is c.args.path.now c.name.result.now c.args.position.now c.name.ensures c.in_default.ensures.cases c.requires.start

pub returns-in-empty : goal.returns-in-empty
returns-in-empty g t c =
    let s = split (g.T.TreeItem.name c.self.inside.item) c.name.result.now c.args.path.now c.in-Some.rest.now c.name.ensures c.in-Some.ensures.cases.0 c.in-Some.ensures.cases.1 in
    at_name g.T.TreeItem.name c.self.inside.item c.self.inside.children.items c.args.self.now c.self.view_is c.args.path.now c.in-Some.rest.now c.args.position.now c.kind.result s c.in-empty.len_below c.requires.start c.kind.ensures

pub returns-then-first-ne46 : goal.returns-then-first-ne46
returns-then-first-ne46 g t c =
    let s = split (g.T.TreeItem.name c.self.inside.item) c.name.result.now c.args.path.now c.in-Some.rest.now c.name.ensures c.in-Some.ensures.cases.0 c.in-Some.ensures.cases.1 in
    other_byte g.T.TreeItem.name c.self.inside.item c.self.inside.children.items c.args.self.now c.self.view_is c.args.path.now c.in-Some.rest.now c.args.position.now s c.in-len1-up.len_at_least c.if-first-ne46.true c.requires.start

pub returns-then-is_empty : goal.returns-then-is_empty
returns-then-is_empty g t c =
    let kids = c.self.inside.children.items in
    let q = take (length c.in-Some.rest.now - 1) (drop 1 c.in-Some.rest.now) in
    let s = split (g.T.TreeItem.name c.self.inside.item) c.name.result.now c.args.path.now c.in-Some.rest.now c.name.ensures c.in-Some.ensures.cases.0 c.in-Some.ensures.cases.1 in
    let i = inside_of (g.T.TreeItem.name c.self.inside.item) c.args.path.now c.in-Some.rest.now s c.in-len1-up.len_at_least c.if-first-ne46.false in
    let none : length kids ≡ 0 = grind (arith, nat_tests, c.is_empty.ensures, c.if-is_empty.true) in
    in_no_child g.T.TreeItem.name c.self.inside.item kids c.args.self.now c.self.view_is c.args.path.now q c.args.position.now i (λ m d l w. absurd (omega (arith, none, w))) c.requires.start

pub guess-guess-requires : goal.guess-guess-requires
guess-guess-requires g t c = let some : 1 ≤ length c.self.inside.children.items = grind (arith, nat_tests, c.is_empty.ensures, c.if-is_empty.false) in rw c.deref.ensures.value some

pub find-requires : goal.find-requires
find-requires g t c =
    let kids = c.self.inside.children.items in
    let i = c.looked_at-i.result in
    let kid = c.index-child.result.now in
    let within : i < length kids = child_within c.loop-turn.turn c.guess-guess.result i (length kids) c.looked_at-i.ensures (rw c.deref.ensures.value at c.guess-guess.ensures) (omega arith) in
    let lt = child-lt g.T.TreeItem.name c.self.inside.item kids c.args.self.now i kid c.self.view_is within c.index-child.ensures in
    let once = once_in_child g.T.TreeItem.name c.self.inside.item kids c.args.self.now c.self.view_is i kid within c.index-child.ensures c.requires.once in
    let short = shorter 15 kid (short_child g.T.TreeItem.name c.self.inside.item kids c.args.self.now i 15 kid c.self.view_is within c.index-child.ensures c.requires.short) in
    λ κs l. (search (rules, lt), (search rules, (search rules, (search rules, (once, (short, c.loop-turn.invariant.start))))))

pub unreachable-requires : goal.unreachable-requires
unreachable-requires g t c =
    let kids = c.self.inside.children.items in
    let i = c.looked_at-i.result in
    let within : i < length kids = child_within c.loop-turn.turn c.guess-guess.result i (length kids) c.looked_at-i.ensures (rw c.deref.ensures.value at c.guess-guess.ensures) (omega arith) in
    let short = short_child g.T.TreeItem.name c.self.inside.item kids c.args.self.now i 15 c.index-child.result.now c.self.view_is within c.index-child.ensures c.requires.short in
    let room = room_for_step (take (length c.in-Some.rest.now - 1) (drop 1 c.in-Some.rest.now)) c.index-child.result.now c.find.new.position c.in-Some-find.kind short c.in-Some-find.ensures in
    let ok = c.in_default-insert.ensures.succeeds room in
    cc

pub returns-in-Some-find : goal.returns-in-Some-find
returns-in-Some-find g t c =
    let kids = c.self.inside.children.items in
    let n = c.looked_at-i.result in
    let kid = c.index-child.result.now in
    let within : n < length kids = child_within c.loop-turn.turn c.guess-guess.result n (length kids) c.looked_at-i.ensures (rw c.deref.ensures.value at c.guess-guess.ensures) (omega arith) in
    let q = take (length c.in-Some.rest.now - 1) (drop 1 c.in-Some.rest.now) in
    let short = short_child g.T.TreeItem.name c.self.inside.item kids c.args.self.now n 15 kid c.self.view_is within c.index-child.ensures c.requires.short in
    let room = room_for_step q kid c.find.new.position c.in-Some-find.kind short c.in-Some-find.ensures in
    let s = split (g.T.TreeItem.name c.self.inside.item) c.name.result.now c.args.path.now c.in-Some.rest.now c.name.ensures c.in-Some.ensures.cases.0 c.in-Some.ensures.cases.1 in
    let i = inside_of (g.T.TreeItem.name c.self.inside.item) c.args.path.now c.in-Some.rest.now s c.in-len1-up.len_at_least c.if-first-ne46.false in
    let none = none_before g.T.TreeItem.name c.self.inside.item kids c.args.self.now c.self.view_is c.requires.once q n kid c.find.new.position.items within c.index-child.ensures c.in-Some-find.ensures.is in
    in_this_child g.T.TreeItem.name c.self.inside.item kids c.args.self.now c.self.view_is c.args.path.now q n kid c.find.new.position c.insert.new.self c.in-Some-find.kind i none within
    c.index-child.ensures c.in-Some-find.ensures c.in-Ok.ensures.ok (c.insert.ensures.had_room room)

pub loop-turn-preserved : goal.loop-turn-preserved
loop-turn-preserved g t c =
    let kids = c.self.inside.children.items in
    let q = take (length c.in-Some.rest.now - 1) (drop 1 c.in-Some.rest.now) in
    record {
      start = c.in_default-find.ensures.start;
      none = none_after q kids c.loop-turn.turn c.guess-guess.result c.looked_at-i.result c.index-child.result.now c.looked_at-i.ensures c.loop-turn.invariant.none c.index-child.ensures c.in_default-find.ensures.is;
    }

pub loop-turn-init : goal.loop-turn-init
loop-turn-init g t c = record { start = c.requires.start; none = none_at_first (take (length c.in-Some.rest.now - 1) (drop 1 c.in-Some.rest.now)) c.self.inside.children.items }

pub returns : goal.returns
returns g t c =
    let kids = c.self.inside.children.items in
    let q = take (length c.in-Some.rest.now - 1) (drop 1 c.in-Some.rest.now) in
    let s = split (g.T.TreeItem.name c.self.inside.item) c.name.result.now c.args.path.now c.in-Some.rest.now c.name.ensures c.in-Some.ensures.cases.0 c.in-Some.ensures.cases.1 in
    let i = inside_of (g.T.TreeItem.name c.self.inside.item) c.args.path.now c.in-Some.rest.now s c.in-len1-up.len_at_least c.if-first-ne46.false in
    let all : c.loop-turn.turn - 1 ≡ length kids = omega arith in
    in_no_child g.T.TreeItem.name c.self.inside.item kids c.args.self.now c.self.view_is c.args.path.now q c.loop-turn.position i (subst (NoneBefore q kids) all c.loop-turn.invariant.none) c.loop-turn.invariant.start
