use Rattle.cap_commit.proofs.Fitting.{apps_fit}
use Rattle.cap_trackers.proofs.Prelude.{tree_fits, IsAt}
use Rattle.cap_trackers.proofs.Answering.{state_is}
use Rattle.cap_trackers.proofs.queue_calls.set_queue_state.Goals.{in-Leaf, in-Parent}
use Rattle.cap_trackers.proofs.queue_calls.set_queue_state.Goals as goal

pub set_state-requires : goal.set_state-requires
set_state-requires g c =
    let at : IsAt c.tree.result.now c.as_bytes.result.now c.match-find.position.items = elim c.match-find.branch [
      | in-Leaf w ↦ rw w.position-is w.in-Leaf.ensures.found.0
      | in-Parent w ↦ rw w.position-is w.in-Parent.ensures.found.0
    ] in
    ((search), (rw c.tree.ensures.rows at at).present)

pub returns-clause-replies : goal.returns-clause-replies
returns-clause-replies g c =
    let at : IsAt c.tree.result.now c.as_bytes.result.now c.match-find.position.items = elim c.match-find.branch [
      | in-Leaf w ↦ rw w.position-is w.in-Leaf.ensures.found.0
      | in-Parent w ↦ rw w.position-is w.in-Parent.ensures.found.0
    ] in
    let here = rw (c.tree.ensures.rows, c.as_bytes.ensures.value) at at in
    state_is c.args.cluster.now.flat c.args.cluster.now.rows c.args.path.now c.match-find.position.items c.args.running c.set_state.new.self.flat c.tree.ensures.queues here c.set_state.ensures.flat

pub find-requires : goal.find-requires
find-requires g c = tree_fits _ c.tree.ensures.resources

pub apps-requires : goal.apps-requires
apps-requires g c = search apps_fit

pub tree-requires : goal.tree-requires
tree-requires g c = (search, tree_fits _ c.apps.ensures.resources)
