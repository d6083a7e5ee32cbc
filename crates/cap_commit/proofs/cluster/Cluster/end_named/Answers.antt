use Rattle.cap_commit.proofs.Fitting.{container_in_cluster, in_cluster, nodes_in_cluster}
use Rattle.cap_commit.proofs.Prelude.{◌==◌, find, IfSome, Some, ◌≡◌, ap, arith, get_or, subst, sym, ◌∙◌, HasDistinctNumbers, ClusterState, owns, none_yet, one_named, none_there, other_there, all_named}
use Rattle.cap_commit.proofs.EndRooms.{more_ends, no_end, one_end}
use Rattle.cap_commit.proofs.cluster.Cluster.end_named.Goals.{in-Some, in_default, in_default-via-in-Some+else-has, in_default-via-in_default}
use Rattle.cap_commit.proofs.cluster.Cluster.end_named.Goals as goal

pub loop-number-init : goal.loop-number-init
loop-number-init g c = (none_yet c.args.cause (owns c.args.owner) c.args.self.now.flat c.args.numbers.now, no_end c.args.self.now.accounts)

pub loop-number-preserved : goal.loop-number-preserved
loop-number-preserved g c =
    let why = c.args.cause in
    let own = owns c.args.owner in
    let old = c.args.self.now.flat in
    let ns = c.args.numbers.now in
    let i = c.loop-number.number-index in
    let before = c.loop-number.self.flat in
    let ignored = c.loop-number.ignored in
    let is = c.loop-number.invariant.0 in
    let room = c.loop-number.invariant.1 in
    let rising = subst HasDistinctNumbers (ap (λ (h : ClusterState g.row.K). h.flat) c.self.view_is) c.self.invariant.consistent.numbers in
    let looked = sym (c.container.ensures.found ∙ ap (λ (h : ClusterState g.row.K). find (λ d. d.number == get_or ns i 0) h.flat.nodes.live) c.self.view_is) in
    elim c.match-container.branch [
      | in-Some w ↦
          rw (w.self-is, w.ignored-is)
          (one_named why own old ns before ignored i 0 is rising c.loop-number-test.true w.in-Some.container (looked ∙ w.in-Some.is) (sym w.has.ensures ∙ w.if-has.true) w.end.new.self.flat w.end.ensures.ended, more_ends c.args.self.now.accounts c.loop-number.self.accounts w.end.new.self.accounts room (one_end _ c.loop-number.self.accounts w.end.new.self.accounts w.end.ensures.room))
      | in_default w ↦ rw (w.self-is, w.ignored-is) (elim w.in_default.branch [
        | in_default-via-in-Some+else-has v ↦
            (other_there why own old ns before ignored i 0 is rising c.loop-number-test.true v.in-Some.container (looked ∙ v.in-Some.is) (sym v.has.ensures ∙ v.if-has.false), room)
        | in_default-via-in_default v ↦ (none_there why own old ns before ignored i 0 is rising c.loop-number-test.true (looked ∙ v.in_default.is), room)
      ])
    ]

pub end-requires : goal.end-requires
end-requires g c =
    let k = c.self.invariant.consistent.resources in
    let one = c.in-Some.container in
    let here = ap (λ (h : ClusterState g.row.K). h.flat.nodes.live) c.self.view_is in
    let own = subst (λ o. IfSome o (λ d. find (λ x. x.number == d.number) c.self.inside.nodes.live ≡ Some d)) c.in-Some.is c.container.ensures.own in
    ((search), (omega (arith, k), sym (ap (find (λ d. d.number == one.number)) here) ∙ own))

pub overflow_add-ignored : goal.overflow_add-ignored
overflow_add-ignored g c =
    let few = c.loop-number.invariant.0.few in
    let more = c.loop-number-test.true in
    omega (arith, few, more, c.requires)

pub returns-clause-ended : goal.returns-clause-ended
returns-clause-ended g c =
    let now = c.loop-number in
    (all_named c.args.cause (owns c.args.owner) c.args.self.now.flat c.args.numbers.now now.self.flat now.ignored now.number-index now.invariant.0 (omega arith)).0

pub returns-clause-ignored : goal.returns-clause-ignored
returns-clause-ignored g c =
    let now = c.loop-number in
    let all = (all_named c.args.cause (owns c.args.owner) c.args.self.now.flat c.args.numbers.now now.self.flat now.ignored now.number-index now.invariant.0 (omega arith)).1 in
    omega (arith, all)

pub container-requires : goal.container-requires
container-requires g c = search (nodes_in_cluster, container_in_cluster)

pub has-requires : goal.has-requires
has-requires g c = search in_cluster

pub returns-clause-room : goal.returns-clause-room
returns-clause-room g c = c.loop-number.invariant.1
