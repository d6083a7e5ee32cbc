use Rattle.cap_copy.proofs.Prelude.{◌≡◌, ◌∙◌, ◌++◌, ◌∷◌, [], ap, sym, subst, map, take, refl, arith, length, Some, slice_get, length-map, length-take-le, take_all, slice_get_read, each_of, IsPosition, SeenApp}
use Rattle.cap_copy.proofs.LoopSteps.{map_more, slice_get_in}
use Rattle.cap_copy.proofs.waiting.note_waiting.Goals as goal

pub loop-app-init : goal.loop-app-init
loop-app-init g c = record { rows = refl; waiting = c.requires.none; room = refl }

pub wait-requires : goal.wait-requires
wait-requires g c =
    let apps = c.args.apps.now in
    let i = c.loop-app.app-index in
    let app = c.app-item.result in
    let test = c.loop-app-test.true in
    let few = c.requires.few in
    let enough = c.requires.room in
    let before = c.loop-app.invariant in
    let at : slice_get apps i ≡ Some app = slice_get_read apps (length apps) i app refl test c.app-item.is in
    let there = each_of (λ (a : SeenApp). IsPosition c.args.tree.now.rows a.held.account.position) apps c.requires.placed app (slice_get_in apps i app at) in
    let noted : length c.loop-app.tree.waiting ≡ i = ap length before.waiting ∙ (let a = length-map (take i apps) (λ (x : SeenApp). x.held.account.position) in let b = length-take-le i apps (omega (arith, test)) in omega (arith, a, b)) in (
      search,
      (
        subst (λ rows. IsPosition rows c.position.result.now.items) (sym before.rows) (subst (IsPosition c.args.tree.now.rows) (sym c.position.ensures) there),
        (let r = before.room in omega (arith, noted, test, enough, r), omega (arith, noted, test, few)),
      ),
    )

pub loop-app-preserved : goal.loop-app-preserved
loop-app-preserved g c =
    let apps = c.args.apps.now in
    let i = c.loop-app.app-index in
    let app = c.app-item.result in
    let at : slice_get apps i ≡ Some app = slice_get_read apps (length apps) i app refl c.loop-app-test.true c.app-item.is in
    record {
      rows = c.wait.ensures.rows ∙ c.loop-app.invariant.rows;
      waiting =
          c.wait.ensures.waiting ∙ (λ k. c.loop-app.invariant.waiting k ++ c.position.ensures k ∷ [])
          ∙ sym (map_more (λ (a : SeenApp). a.held.account.position) apps i app at);
      room = c.wait.ensures.room ∙ c.loop-app.invariant.room;
    }

pub returns-clause-waiting : goal.returns-clause-waiting
returns-clause-waiting g c =
    let f = c.loop-app-test.false in
    c.loop-app.invariant.waiting ∙ ap (map (λ (a : SeenApp). a.held.account.position)) (take_all c.loop-app.app-index c.args.apps.now f)
